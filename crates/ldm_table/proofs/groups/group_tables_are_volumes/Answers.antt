use Rattle.ldm_table.proofs.GroupLaws.{group_tables_are_volumes, each_is_tabled_or_faulty}
use Rattle.ldm_table.proofs.groups.group_tables_are_volumes.Goals as goal

pub returns-clause-devices : goal.returns-clause-devices
returns-clause-devices c = group_tables_are_volumes

pub returns-clause-each : goal.returns-clause-each
returns-clause-each c = each_is_tabled_or_faulty
