use Rattle.ldm_host.proofs.Relations.{looks_then}
use Rattle.ldm_explain.proofs.sight.glimpse_at.Goals as goal

pub returns : goal.returns
returns g c = looks_then c.sector_at-mbr.ensures c.sector_at-head.ensures (λ is. absurd is)
