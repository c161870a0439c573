use Rattle.ldm_host.proofs.Relations.{looks_then}
use Rattle.std.proofs.Common.{refl}
use Rattle.ldm_label.proofs.counting.count_copies.Goals as goal

pub returns-in_err-third-clause-looks : goal.returns-in_err-third-clause-looks
returns-in_err-third-clause-looks g c = looks_then c.in_ok-second.ensures.looks c.in_err-third.ensures.looks (λ is. refl)

pub returns-clause-looks : goal.returns-clause-looks
returns-clause-looks g c = looks_then c.in_ok-second.ensures.looks c.in_ok-third.ensures.looks (λ is. is)
