use Rattle.std.proofs.Common.{◌≡◌}
use Rattle.ldm_init.specs.NewGroup.{first_records}
use Rattle.ldm_init.proofs.database.records_of.Given as goal

abbrev pub invariant-loop-place : goal.invariant-loop-place
invariant-loop-place l = l.records.items ≡ first_records l.name l.guid l.disks l.place
