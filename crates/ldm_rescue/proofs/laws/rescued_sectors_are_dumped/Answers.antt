use Rattle.ldm_rescue.proofs.DumpLaws.{rescues_as_dump}
use Rattle.ldm_rescue.proofs.laws.rescued_sectors_are_dumped.Goals as goal

pub returns : goal.returns
returns c = rescues_as_dump
