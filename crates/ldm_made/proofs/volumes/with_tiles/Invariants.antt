use Rattle.std.proofs.Common.{◌≡◌, ◌+◌, ◌++◌, take}
use Rattle.std.specs.Prelude.{sum_by}
use Rattle.ldm_made.specs.Volumes.{span_parts, there}
use Rattle.ldm_made.proofs.volumes.with_tiles.Given as goal

abbrev pub invariant-loop-at : goal.invariant-loop-at
invariant-loop-at l = record {
  items : l.records.items ≡ l.fn.records.items ++ there (span_parts l.id l.component l.from (take l.at l.spots));
  sums : l.offset ≡ l.from + sum_by (λ t. t.size) (take l.at l.spots);
}
