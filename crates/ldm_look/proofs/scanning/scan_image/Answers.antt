use Rattle.ldm_host.proofs.Relations.{looks_then}
use Rattle.ldm_look.proofs.scanning.scan_image.Goals as goal

pub returns-in-Err-Fault-clause-looks : goal.returns-in-Err-Fault-clause-looks
returns-in-Err-Fault-clause-looks g c = looks_then c.read_label.ensures.looks c.scan_foreign.ensures.looks (λ failed. failed)

pub returns-in-Ok-clause-looks : goal.returns-in-Ok-clause-looks
returns-in-Ok-clause-looks g c = looks_then c.read_label.ensures.looks c.scan_copy.ensures.looks (λ failed. failed)
