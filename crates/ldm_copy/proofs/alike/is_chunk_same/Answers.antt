use Rattle.std.proofs.Common.{refl}
use Rattle.ldm_host.proofs.Relations.{looks_then}
use Rattle.ldm_copy.proofs.alike.is_chunk_same.Goals as goal

pub returns-in_err-read_at-2-clause-looks : goal.returns-in_err-read_at-2-clause-looks
returns-in_err-read_at-2-clause-looks g c = looks_then c.read_at.ensures.looks c.in_err-read_at-2.ensures.looks (λ failed. refl)

pub returns-clause-looks : goal.returns-clause-looks
returns-clause-looks g c = looks_then c.read_at.ensures.looks c.read_at-2.ensures.looks (λ is. absurd (cc is))
