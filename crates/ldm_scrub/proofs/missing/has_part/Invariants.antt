use Rattle.std.proofs.Common.{◌≡◌, ◌&&◌, false, take}
use Rattle.std.specs.List.{list_any}
use Rattle.ldm_layout.specs.Parts.{is_partition_of}
use Rattle.ldm_scrub.specs.Missing.{lies_on}
use Rattle.ldm_scrub.proofs.missing.has_part.Given as goal

abbrev pub invariant-records : goal.invariant-records
invariant-records l = list_any (λ r. lies_on l.disk r && is_partition_of l.volume l.db.records r) (take l.r-index l.db.records) ≡ false
