use Rattle.std.proofs.Common.{◌≡◌, ◌+◌, take}
use Rattle.std.specs.Prelude.{sum_by}
use Rattle.ldm_made.proofs.volumes.sectors_with.Given as goal

abbrev pub invariant-loop-spot : goal.invariant-loop-spot
invariant-loop-spot l = l.sectors ≡ l.from + sum_by (λ t. t.size) (take l.spot-index l.spots)
