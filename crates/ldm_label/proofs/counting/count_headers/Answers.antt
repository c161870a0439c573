use Rattle.ldm_host.proofs.Relations.{looks_then}
use Rattle.std.proofs.Common.{refl}
use Rattle.ldm_label.proofs.counting.count_headers.Goals as goal

pub returns-in_err-first-in-Mbr-clause-looks : goal.returns-in_err-first-in-Mbr-clause-looks
returns-in_err-first-in-Mbr-clause-looks g c = looks_then c.in_ok-copies.ensures.looks c.in_err-first-in-Mbr.ensures.looks (λ is. refl)

pub returns-in_ok-first-in-Mbr-clause-looks : goal.returns-in_ok-first-in-Mbr-clause-looks
returns-in_ok-first-in-Mbr-clause-looks g c = looks_then c.in_ok-copies.ensures.looks c.in_ok-first-in-Mbr.ensures.looks (λ is. is)
