use Rattle.ldm_look.specs.RecordsJson.{partition_members}
use Rattle.ldm_look.proofs.records_json.push_partition.Goals as goal

pub returns : goal.returns
unfolding partition_members
returns c = c.object_of_both.ensures
