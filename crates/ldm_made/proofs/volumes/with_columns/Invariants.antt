use Rattle.std.proofs.Common.{◌≡◌, ◌++◌, take}
use Rattle.ldm_made.specs.Volumes.{column_parts, there}
use Rattle.ldm_made.proofs.volumes.with_columns.Given as goal

abbrev pub invariant-loop-at : goal.invariant-loop-at
invariant-loop-at l = l.records.items ≡ l.fn.records.items ++ there (column_parts l.id l.component 0 (take l.at l.spots))
