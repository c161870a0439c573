use Rattle.std.proofs.Common.{◌≡◌, map}
use Rattle.std.specs.List.{range_with_len}
use Rattle.ldm_table.specs.Tables.{column_begin}
use Rattle.ldm_table.proofs.lines.column_spots.Given as goal

abbrev pub invariant-columns : goal.invariant-columns
invariant-columns g l = l.spots.items ≡ map (column_begin l.found l.plan) (range_with_len 0 l.column)
