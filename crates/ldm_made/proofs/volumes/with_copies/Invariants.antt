use Rattle.std.proofs.Common.{◌≡◌, ◌++◌, take}
use Rattle.ldm_made.specs.Volumes.{mirror_parts, there}
use Rattle.ldm_made.proofs.volumes.with_copies.Given as goal

abbrev pub invariant-loop-at : goal.invariant-loop-at
invariant-loop-at l = l.records.items ≡ l.fn.records.items ++ there (mirror_parts l.id l.volume (take l.at l.spots))
