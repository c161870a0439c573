use Rattle.ldm_places.proofs.SpotLaws.{Walked}
use Rattle.ldm_places.proofs.tiles.tiles.Given as goal

abbrev pub invariant-loop-e : goal.invariant-loop-e
invariant-loop-e l = Walked l.extents l.e-index l.end
