use Rattle.std.proofs.Common.{sym, subst, List, ℕ, Result}
use Rattle.ldm_host.specs.Seen.{image}
use Rattle.ldm_label.specs.declared.Label.{Label}
use Rattle.ldm_label.specs.declared.LabelFault.{LabelFault}
use Rattle.ldm_look.specs.Looks.{IsCopyAnswer, IsRecordsAnswer}
use Rattle.ldm_look.proofs.EndLaws.{says_first}
use Rattle.ldm_look.proofs.looking.records.Goals as goal

pub returns-in-Err-Fault : goal.returns-in-Err-Fault
returns-in-Err-Fault g c =
    let first = image (g.H.Host.seen c.args.host.now).content 0 in
    says_first c.refuse.ensures c.read_label.ensures.looks g.met.H.Host.tells_both
    (λ tells answer e. let is = rw c.in-Err-Fault.field-0-is at (c.in-Err-Fault.ensures.is tells) in
    subst (λ (label : Result Label LabelFault). IsRecordsAnswer c.args.format.now label first answer) (sym is) e)

pub returns-in-Ok : goal.returns-in-Ok
returns-in-Ok g c =
    let first = image (g.H.Host.seen c.args.host.now).content 0 in
    says_first c.copy_of_label.ensures c.read_label.ensures.looks (λ tells. tells)
    (λ tells answer e.
    let here = subst (λ (images : List (List ℕ)). IsCopyAnswer c.args.format.now c.in-Ok.label (image images 0) answer) c.read_label.ensures.looks.still.content e in
    subst (λ (label : Result Label LabelFault). IsRecordsAnswer c.args.format.now label first answer) (sym (c.in-Ok.ensures.is tells)) here)
