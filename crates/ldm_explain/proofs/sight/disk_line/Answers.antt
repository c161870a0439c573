use Rattle.ldm_host.proofs.Relations.{looks_then}
use Rattle.ldm_explain.proofs.sight.disk_line.Goals as goal

pub returns-in-Err-Fault : goal.returns-in-Err-Fault
returns-in-Err-Fault g c = looks_then c.read_label.ensures.looks c.no_label.ensures (λ is. absurd is)

pub returns : goal.returns
returns g c = looks_then c.read_label.ensures.looks c.read_copy.ensures.looks (λ is. absurd is)
