use Rattle.std.proofs.Common.{ℕ, ◌<◌, slice_index_or}
use Rattle.ldm_records.specs.declared.types.Record.{Record}
use Rattle.ldm_group.specs.Partitions.{EndsInRange}
use Rattle.ldm_group_tests.proofs.layout_columns.all_end.Given as goal

abbrev pub invariant-loop-r : goal.invariant-loop-r
invariant-loop-r l = (k : ℕ) (d : Record) → k < l.r-index → EndsInRange (slice_index_or l.records k d)
