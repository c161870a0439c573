-- The rules that are tested on each record alone.
use Rattle.std.specs.Prelude.{Bool, List, count_by}
use Rattle.ldm_records.specs.declared.types.Record.{Record}
use Rattle.ldm_group.specs.Looks.{is_at, is_disk_with, is_volume_named, children_of}
use Rattle.ldm_rules.specs.Rules.{has_twin_guid, has_namesake, lacks_volume, lacks_component, lacks_disk, miscounts_components, miscounts_partitions, has_no_sectors}
use Rattle.ldm_rules.specs.declared.broken.RecordRule.{RecordRule}
use Rattle.ldm_rules.specs.declared.broken.RecordRule.TheVariants as rules

-- whether a record of the group breaks it
abbrev pub breaks : RecordRule → List Record → Record → Bool
breaks rules.OneGuid records = has_twin_guid (λ guid. count_by (is_disk_with guid) records)
breaks rules.OneName records = has_namesake (λ name. count_by (is_volume_named name) records)
breaks rules.HasVolume records = lacks_volume (λ id. count_by (is_at 3 id) records)
breaks rules.HasComponent records = lacks_component (λ id. count_by (is_at 4 id) records)
breaks rules.HasDisk records = lacks_disk (λ id. count_by (is_at 2 id) records)
breaks rules.CountsComponents records = miscounts_components (λ id. children_of 3 id records)
breaks rules.CountsPartitions records = miscounts_partitions (λ id. children_of 4 id records)
breaks rules.HasSectors records = has_no_sectors
