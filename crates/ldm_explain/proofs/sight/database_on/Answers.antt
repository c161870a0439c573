use Rattle.ldm_host.proofs.Relations.{looks_then}
use Rattle.ldm_explain.proofs.sight.database_on.Goals as goal

pub returns-in-Ok-Valid : goal.returns-in-Ok-Valid
returns-in-Ok-Valid g c = looks_then c.read_label.ensures.looks c.read_copy.ensures.looks (λ is. absurd is)

pub returns-in_default-read_copy : goal.returns-in_default-read_copy
returns-in_default-read_copy g c = looks_then c.read_label.ensures.looks c.read_copy.ensures.looks (λ is. absurd is)
