use Rattle.std.proofs.Common.{Ok, Err}
use Rattle.ldm_look.specs.Looks.{said_copy}
use Rattle.ldm_look.proofs.EndLaws.{says_first}
use Rattle.ldm_look.proofs.looking.copy_of_label.Goals as goal

pub returns-in-Err-Fault : goal.returns-in-Err-Fault
returns-in-Err-Fault g c =
    says_first c.refuse.ensures c.read_copy.ensures.looks g.met.H.Host.tells_both
    (λ tells answer e. (Err c.in-Err-Fault.fault, rw c.in-Err-Fault.field-0-is at (c.in-Err-Fault.ensures.found tells), e))

pub returns-in-Ok : goal.returns-in-Ok
returns-in-Ok g c =
    says_first (c.say_made.ensures.says (said_copy c.args.format.now c.in-Ok.state) c.said_copy.ensures) c.read_copy.ensures.looks g.met.H.Host.tells_both
    (λ tells answer e. (Ok c.in-Ok.state, c.in-Ok.ensures.found tells, e))
