use Rattle.std.proofs.Common.{arith}
use Rattle.ldm_places.proofs.SpotLaws.{chunked_along}
use Rattle.ldm_places.proofs.stretches.plex_stretch.Goals as goal

pub returns-else-is_tiled-clause-spots : goal.returns-else-is_tiled-clause-spots
returns-else-is_tiled-clause-spots c = grind (arith, chunked_along)
