use Rattle.std.proofs.Common.{arith}
use Rattle.ldm_table.proofs.VolumeLaws.{rows_in_one}
use Rattle.ldm_table.proofs.rows.rows_in_column.Goals as goal

pub prove-unreachable-requires : goal.prove-unreachable-requires
prove-unreachable-requires c = grind (arith, rows_in_one)
