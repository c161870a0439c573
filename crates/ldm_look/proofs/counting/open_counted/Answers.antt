use Rattle.ldm_host.proofs.Relations.{looks_then}
use Rattle.ldm_look.proofs.EndLaws.{says_nothing}
use Rattle.ldm_look.proofs.counting.open_counted.Goals as goal

pub returns-in-Err-Disk-clause-fault : goal.returns-in-Err-Disk-clause-fault
returns-in-Err-Disk-clause-fault g c answer_of =
    let looks = looks_then c.in-Ok.ensures.looks c.in-Err-Disk.ensures.looks (λ is. is) in
    says_nothing (record { none = λ has. has; no_usage = λ is. cc; causes = record { disk = λ is. looks.cause (let e = c.in-Err-Disk.field-0-is in cc); talk = λ is. absurd cc } }) looks

pub returns-in-Err-NoMemory-clause-fault : goal.returns-in-Err-NoMemory-clause-fault
returns-in-Err-NoMemory-clause-fault g c answer_of =
    let looks = looks_then c.in-Ok.ensures.looks c.in-Err-NoMemory.ensures.looks (λ is. is) in
    says_nothing (record { none = λ has. has; no_usage = λ is. cc; causes = record { disk = λ is. absurd cc; talk = λ is. absurd cc } }) looks

pub returns-clause-looks : goal.returns-clause-looks
returns-clause-looks g c = looks_then c.in-Ok.ensures.looks c.in-Ok-goods_for.ensures.looks (λ is. absurd is)
