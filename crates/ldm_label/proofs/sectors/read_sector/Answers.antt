use Rattle.std.proofs.Common.{refl}
use Rattle.ldm_host.proofs.Relations.{looks_as}
use Rattle.ldm_label.proofs.sectors.read_sector.Goals as goal

pub returns-in_err-read_at-clause-looks : goal.returns-in_err-read_at-clause-looks
returns-in_err-read_at-clause-looks g c = looks_as c.in_err-read_at.ensures.looks (λ failed. refl)

pub returns-clause-looks : goal.returns-clause-looks
returns-clause-looks g c = looks_as c.read_at.ensures.looks (λ failed. absurd (cc failed))
