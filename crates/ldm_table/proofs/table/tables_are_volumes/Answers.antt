use Rattle.ldm_table.proofs.VolumeLaws.{tables_are_volumes}
use Rattle.ldm_table.proofs.table.tables_are_volumes.Goals as goal

pub returns : goal.returns
returns c = tables_are_volumes
