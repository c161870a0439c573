use Rattle.ldm_host.proofs.Relations.{looks_then}
use Rattle.ldm_explain.proofs.sight.group_sight.Goals as goal

pub returns-in_err-faulty-in-Err-Fault-clause-looks :
    goal.returns-in_err-faulty-in-Err-Fault-clause-looks
returns-in_err-faulty-in-Err-Fault-clause-looks g c = looks_then c.find_group.ensures.looks c.faulty.ensures (λ is. absurd is)

pub returns-in_ok-faulty-in-Err-Fault-clause-looks :
    goal.returns-in_ok-faulty-in-Err-Fault-clause-looks
returns-in_ok-faulty-in-Err-Fault-clause-looks g c = looks_then c.find_group.ensures.looks c.faulty.ensures (λ is. absurd is)
