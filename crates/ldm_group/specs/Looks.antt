-- Looking through the records of a database. They stand in rising order of kind and id, so the first that
-- is found of a kind has the least id.
use Rattle.std.specs.Prelude.{◌≡◌, ℕ, ◌==◌, ◌&&◌, ◌||◌, max, Bool, false, List, Option, Some, None, bytes_eq, count_by, filter, find, fold}
use Rattle.ldm_records.specs.declared.types.Record.{Record}
use Rattle.ldm_records.specs.declared.types.Record.TheVariants as kinds
use Rattle.ldm_records.specs.declared.types.Volume.{Volume}
use Rattle.ldm_records.specs.declared.types.Disk.{Disk}
use Rattle.ldm_group.specs.Order.{kind_of, id_of}

-- it has this kind and id
abbrev pub is_at : ℕ → ℕ → Record → Bool
is_at kind id r = (kind_of r == kind) && (id_of r == id)

abbrev pub by_id : ℕ → ℕ → List Record → Option Record
by_id kind id records = find (is_at kind id) records

-- a volume of this name
abbrev pub is_volume_named : List ℕ → Record → Bool
is_volume_named name (kinds.Volume v) = bytes_eq v.head.name name
is_volume_named name _ = false

abbrev pub volume_in : Option Record → Option Volume
volume_in (Some (kinds.Volume v)) = Some v
volume_in _ = None

abbrev pub volume_named : List ℕ → List Record → Option Volume
volume_named name records = volume_in (find (is_volume_named name) records)

-- a disk of this name, or of this GUID
abbrev pub is_disk_named : List ℕ → Record → Bool
is_disk_named name (kinds.Disk d) = bytes_eq d.head.name name
is_disk_named name _ = false

abbrev pub is_disk_with : ℕ → Record → Bool
is_disk_with guid (kinds.Disk d) = d.guid == guid
is_disk_with guid _ = false

abbrev pub disk_in : Option Record → Option Disk
disk_in (Some (kinds.Disk d)) = Some d
disk_in _ = None

abbrev pub disk_named : List ℕ → List Record → Option Disk
disk_named name records = disk_in (find (is_disk_named name) records)

abbrev pub disk_with : ℕ → List Record → Option Disk
disk_with guid records = disk_in (find (is_disk_with guid) records)

-- a component of the volume of this id (kind 3), a partition of the component (kind 4) or of the disk (kind 2)
abbrev pub is_child : ℕ → ℕ → Record → Bool
is_child kind id (kinds.Component c) = (kind == 3) && (c.parent == id)
is_child kind id (kinds.Partition p) = ((kind == 4) && (p.parent == id)) || ((kind == 2) && (p.disk == id))
is_child kind id _ = false

abbrev pub children_of : ℕ → ℕ → List Record → ℕ
children_of kind id records = count_by (is_child kind id) records

-- the greatest id of all records, 0 where there are none
abbrev pub max_id : List Record → ℕ
max_id records = fold (λ top r. max top (id_of r)) 0 records

-- the records of one kind, in rising id
abbrev pub of_kind : ℕ → List Record → List Record
of_kind kind records = filter (λ r. kind_of r == kind) records

-- both have the same disk records
abbrev pub HasSameDisks : List Record → List Record → Type 0
HasSameDisks a b = of_kind 2 a ≡ of_kind 2 b
