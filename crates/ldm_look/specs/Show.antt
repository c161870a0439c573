-- The text that shows a group.
use Rattle.std.specs.Prelude.{ℕ, ◌-◌, List, [], ◌++◌, flat_map, slice_get, codes, decimal, Option, Some, None}
use Rattle.ldm_bytes.specs.Guid.{own_guid}
use Rattle.ldm_records.specs.declared.types.Record.{Record}
use Rattle.ldm_records.specs.declared.types.Record.TheVariants as kinds
use Rattle.ldm_records.specs.declared.types.Disk.{Disk}
use Rattle.ldm_group.specs.Database.{Database}
use Rattle.ldm_group.specs.Partitions.{used_on}
use Rattle.ldm_group.specs.Room.{need_of, room_of}
use Rattle.ldm_label.specs.declared.Label.{Label}
use Rattle.ldm_label.specs.Present.{sectors_by, image_with}
use Rattle.ldm_copy.specs.declared.found.Found.{Found}
use Rattle.ldm_words.specs.Names.{esc}
use Rattle.ldm_look.specs.Volumes.{text_of_all_volumes}

-- group GROUPNAME GUID sequence S blocks NEED of ROOM
unfoldable pub text_of_group : Database → List ℕ
text_of_group db =
    ((codes "group " ++ esc db.header.name) ++ (codes " " ++ own_guid db.header.guid))
    ++ (codes " sequence " ++ decimal db.header.seq)
    ++ (codes " blocks " ++ decimal (need_of db.records))
    ++ (codes " of " ++ decimal (room_of db.header.last))
    ++ codes "\n"

-- image I free F, where F is what the partitions leave of the image's data; or missing
abbrev pub text_of_place : ℕ → List Label → Option ℕ → List ℕ
text_of_place used labels None = codes " missing"
text_of_place used labels (Some image) =
    (codes " image " ++ decimal image) ++ (codes " free " ++ decimal (sectors_by (slice_get labels image) - used))

-- disk ID NAME GUID, and the first image of that disk
unfoldable pub text_of_disk_at : (ℕ → ℕ) → List Label → Disk → List ℕ
text_of_disk_at used labels d =
    (codes "disk " ++ decimal d.head.id)
    ++ ((codes " " ++ esc d.head.name) ++ (codes " " ++ own_guid d.guid))
    ++ text_of_place (used d.head.id) labels (image_with d.guid labels)
    ++ codes "\n"

-- the line of a disk record, where the partitions of a disk have so many sectors
abbrev pub line_of_disk : (ℕ → ℕ) → List Label → Record → List ℕ
line_of_disk used labels (kinds.Disk d) = text_of_disk_at used labels d
line_of_disk used labels _ = []

-- a line for each disk record in rising id
abbrev pub text_of_disks : (ℕ → ℕ) → List Label → List Record → List ℕ
text_of_disks used labels records = flat_map (line_of_disk used labels) records

-- the line of the group, those of its disks, and those of its volumes
abbrev pub text_of_show : Found → List ℕ
text_of_show found =
    text_of_group found.db
    ++ text_of_disks (used_on found.db.records) found.labels found.db.records
    ++ text_of_all_volumes found.db.records
