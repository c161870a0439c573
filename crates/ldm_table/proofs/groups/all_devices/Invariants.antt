use Rattle.std.proofs.Common.{drop}
use Rattle.std.specs.List.{filter_map}
use Rattle.ldm_table.specs.Groups.{laid_in, laid_volumes}
use Rattle.ldm_table.proofs.GroupLaws.{IsSoFar}
use Rattle.ldm_table.proofs.groups.all_devices.Given as goal

abbrev pub invariant-loop-record : goal.invariant-loop-record
invariant-loop-record g l =
    IsSoFar l.words l.found (laid_volumes l.found.db.records) (filter_map (laid_in l.found.db.records) (drop l.record-index l.found.db.records)) l.devices l.first
