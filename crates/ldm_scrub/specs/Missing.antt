-- Which disk of a volume isn't present.
use Rattle.std.specs.Prelude.{◌≡◌, ℕ, ◌==◌, ◌&&◌, Bool, false, List, Option, Some, None, find}
use Rattle.std.specs.List.{list_any}
use Rattle.std.specs.Option.{option_map}
use Rattle.ldm_records.specs.declared.types.Record.{Record}
use Rattle.ldm_records.specs.declared.types.Record.TheVariants as kinds
use Rattle.ldm_records.specs.declared.types.Volume.{Volume}
use Rattle.ldm_group.specs.Order.{id_of}
use Rattle.ldm_group.specs.Looks.{by_id}
use Rattle.ldm_places.specs.Layouts.{Layout}
use Rattle.ldm_layout.specs.Parts.{is_partition_of}
use Rattle.ldm_rules.specs.Disjoint.{HasLayout}
use Rattle.ldm_rules.specs.Present.{is_absent}
use Rattle.ldm_copy.specs.declared.found.Found.{Found}
use Rattle.ldm_found.specs.Facts.{IsSoundGroup}
use Rattle.ldm_dump.specs.Redundant.{IsComplete}

-- the volume of the component of this id
abbrev pub parent_in : Option Record → Option ℕ
parent_in (Some (kinds.Component c)) = Some c.parent
parent_in _ = None

abbrev pub owner_of : List Record → ℕ → Option ℕ
owner_of records component = parent_in (by_id 4 component records)

-- a partition on this disk
abbrev pub lies_on : ℕ → Record → Bool
lies_on disk (kinds.Partition p) = p.disk == disk
lies_on disk _ = false

-- the disk of this id has a partition of the volume
abbrev pub has_part : List Record → ℕ → ℕ → Bool
has_part records volume disk = list_any (λ r. lies_on disk r && is_partition_of volume records r) records

-- a disk record without an image that has a partition of the volume
abbrev pub is_missing : Found → ℕ → Record → Bool
is_missing found volume r = is_absent found.labels r && has_part found.db.records volume (id_of r)

-- the least such: the records stand in rising order of kind and id
abbrev pub missing_of : Found → ℕ → Option ℕ
missing_of found volume = option_map id_of (find (is_missing found volume) found.db.records)

-- where no disk of a volume of a sound group is missing, all of them are there
abbrev pub NoneMissingIsComplete : Type 0
NoneMissingIsComplete = (found : Found) (v : Volume) (l : Layout) → IsSoundGroup found → HasLayout found.db.records v l
    → missing_of found v.head.id ≡ None → IsComplete found l
