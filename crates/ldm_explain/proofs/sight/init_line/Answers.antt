use Rattle.ldm_host.proofs.Relations.{looks_then}
use Rattle.ldm_explain.proofs.sight.init_line.Goals as goal

pub returns : goal.returns
returns g c = looks_then c.init_fault.ensures c.fault_of_disks.ensures (λ is. absurd is)
