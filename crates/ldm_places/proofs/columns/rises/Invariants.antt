use Rattle.std.proofs.Common.{◌≡◌, drop}
use Rattle.ldm_places.specs.Extents.{rises_from}
use Rattle.ldm_places.proofs.columns.rises.Given as goal

abbrev pub invariant-loop-e : goal.invariant-loop-e
invariant-loop-e l = rises_from 0 l.extents ≡ rises_from l.next (drop l.e-index l.extents)
