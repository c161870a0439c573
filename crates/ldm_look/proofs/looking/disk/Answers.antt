use Rattle.std.proofs.Common.{sym, ◌∙◌, ap}
use Rattle.ldm_look.specs.Looks.{said_label, disk_answer}
use Rattle.ldm_look.proofs.EndLaws.{says_first}
use Rattle.ldm_look.proofs.looking.disk.Goals as goal

pub returns-in-Err-Fault : goal.returns-in-Err-Fault
returns-in-Err-Fault g c =
    says_first c.refuse.ensures c.read_label.ensures.looks g.met.H.Host.tells_both
    (λ tells answer e. let is = rw c.in-Err-Fault.field-0-is at (c.in-Err-Fault.ensures.is tells) in e ∙ ap (disk_answer c.args.format.now) (sym is))

pub returns-in-Ok : goal.returns-in-Ok
returns-in-Ok g c =
    says_first (c.say_made.ensures.says (said_label c.args.format.now c.in-Ok.label) c.said_label.ensures) c.read_label.ensures.looks g.met.H.Host.tells_both
    (λ tells answer e. e ∙ ap (disk_answer c.args.format.now) (sym (c.in-Ok.ensures.is tells)))
