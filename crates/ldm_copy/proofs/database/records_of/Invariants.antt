use Rattle.std.proofs.Common.{take}
use Rattle.ldm_copy.specs.Records.{SpellRecords}
use Rattle.ldm_copy.proofs.database.records_of.Given as goal

abbrev pub invariant-loop-joined : goal.invariant-loop-joined
invariant-loop-joined l = SpellRecords (take l.joined-index l.list) l.records.items
