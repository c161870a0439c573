use Rattle.std.proofs.Common.{Err}
use Rattle.ldm_host.proofs.Relations.{looks_as}
use Rattle.ldm_look.proofs.EndLaws.{says_first}
use Rattle.ldm_look.proofs.looking.open_for.Goals as goal

pub returns-in-Err-Fault-clause-fault : goal.returns-in-Err-Fault-clause-fault
returns-in-Err-Fault-clause-fault g c answer_of =
    says_first c.refuse.ensures c.find_group.ensures.looks g.met.H.Host.tells_both
    (λ tells answer e. (Err c.in-Err-Fault.fault, rw c.in-Err-Fault.field-0-is at (c.in-Err-Fault.ensures.found tells), e))

pub returns-in-Ok-clause-looks : goal.returns-in-Ok-clause-looks
returns-in-Ok-clause-looks g c = looks_as c.find_group.ensures.looks (λ never. absurd never)
