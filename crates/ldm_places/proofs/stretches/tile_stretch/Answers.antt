use Rattle.std.proofs.Common.{arith}
use Rattle.ldm_places.proofs.SpotLaws.{tile_along}
use Rattle.ldm_places.proofs.stretches.tile_stretch.Goals as goal

pub returns : goal.returns
returns c = grind (arith, tile_along)
