-- The JSON that shows a group: the group with its disks and volumes, each volume with its components, and each of these with
-- its partitions. Sizes and places are in sectors.
use Rattle.std.specs.Prelude.{ℕ, ◌+◌, ◌-◌, ◌*◌, ◌^◌, ◌==◌, nat_lt, List, [], ◌∷◌, flat_map, map, codes, Option, Some, None, if◌then◌else◌}
use Rattle.std.specs.Option.{option_map, option_and_then}
use Rattle.json.specs.Json.{Json, string}
use Rattle.ldm_json.specs.Values.{number_json, maybe_json, maybe_text_json, name_json, maybe_name_json, guid_json, json_object, json_array}
use Rattle.ldm_records.specs.declared.types.Record.{Record}
use Rattle.ldm_records.specs.declared.types.Record.TheVariants as kinds
use Rattle.ldm_records.specs.declared.types.Volume.{Volume}
use Rattle.ldm_records.specs.declared.types.Component.{Component}
use Rattle.ldm_records.specs.declared.types.Partition.{Partition}
use Rattle.ldm_records.specs.declared.types.Disk.{Disk}
use Rattle.ldm_group.specs.Partitions.{used_on}
use Rattle.ldm_group.specs.Room.{need_of, room_of}
use Rattle.ldm_space.specs.Free.{Taken, taken_in}
use Rattle.ldm_space.specs.Gaps.{largest_free}
use Rattle.ldm_label.specs.declared.Label.{Label}
use Rattle.ldm_label.specs.Present.{image_with, label_with}
use Rattle.ldm_layout.specs.Parts.{plexes_of}
use Rattle.ldm_layout.specs.Volumes.{shape_of}
use Rattle.ldm_places.specs.declared.shape.Shape.{Shape}
use Rattle.ldm_copy.specs.declared.found.Found.{Found}
use Rattle.ldm_text.specs.Texts.{guid_of_volume}
use Rattle.ldm_look.specs.declared.mapped.MappedDisk.{MappedDisk}
use Rattle.ldm_look.specs.Map.{mapped_at}
use Rattle.ldm_look.specs.Paths.{path_of}
use Rattle.ldm_look.specs.States.{state_of, state_word, lost_count}
use Rattle.ldm_look.specs.declared.states.VolumeState.{VolumeState}
use Rattle.ldm_look.specs.Volumes.{text_of_shape}

-- a number, where 64 bits have room for it
abbrev pub in_64_bits : ℕ → Option ℕ
in_64_bits n = if nat_lt n (2 ^ 64) then Some n else None

-- ---- partitions

-- the sector of the image that is this sector of the disk's data, where there is an image
abbrev pub image_sector : Option MappedDisk → ℕ → Option ℕ
image_sector disk sector = option_and_then (λ start. in_64_bits (start + sector)) (option_and_then (λ d. d.data_start) disk)

-- a partition that lies on this disk
abbrev pub partition_json : Option MappedDisk → Partition → Json
partition_json disk p =
    json_object (
    (codes "id", number_json p.head.id)
    ∷ (codes "name", name_json p.head.name)
    ∷ (codes "disk", maybe_name_json (option_map (λ d. d.name) disk))
    ∷ (codes "disk_id", number_json p.disk)
    ∷ (codes "start", number_json p.start)
    ∷ (codes "image_start", maybe_json (image_sector disk p.start))
    ∷ (codes "size", number_json p.size)
    ∷ (codes "offset", number_json p.offset)
    ∷ (codes "index", maybe_json p.index)
    ∷ [])

-- the record, where it is a partition of the component
abbrev pub own_partition : ℕ → Record → List Partition
own_partition component (kinds.Partition p) = if p.parent == component then p ∷ [] else []
own_partition component _ = []

-- the partitions of a component, in rising id
abbrev pub own_partitions : List Record → ℕ → List Partition
own_partitions records component = flat_map (own_partition component) records

-- those partitions, where `disks` tells the disk of each id
abbrev pub partition_jsons : (ℕ → Option MappedDisk) → List Partition → List Json
partition_jsons disks partitions = map (λ p. partition_json (disks p.disk) p) partitions

-- ---- components

abbrev pub layout_word : ℕ → List ℕ
layout_word layout = if layout == 1 then codes "stripe" else if layout == 3 then codes "raid" else codes "basic"

-- a component with these partitions
abbrev pub component_json : (ℕ → Option MappedDisk) → List Partition → Component → Json
component_json disks partitions c =
    json_object (
    (codes "id", number_json c.head.id)
    ∷ (codes "name", name_json c.head.name)
    ∷ (codes "layout", string (layout_word c.layout))
    ∷ (codes "chunk", maybe_json (option_map (λ s. s.chunk) c.striping))
    ∷ (codes "columns", maybe_json (option_map (λ s. s.columns) c.striping))
    ∷ (codes "partitions", json_array (partition_jsons disks partitions))
    ∷ [])

abbrev pub own_component : ℕ → Record → List Component
own_component volume (kinds.Component c) = if c.parent == volume then c ∷ [] else []
own_component volume _ = []

-- the components of a volume, in rising id
abbrev pub own_components : List Record → ℕ → List Component
own_components records volume = flat_map (own_component volume) records

-- those components, where `partitions` tells the partitions of each
abbrev pub component_jsons : (ℕ → Option MappedDisk) → (ℕ → List Partition) → List Component → List Json
component_jsons disks partitions components = map (λ c. component_json disks (partitions c.head.id) c) components

-- ---- volumes

-- a volume of this state and shape, with its components
abbrev pub volume_json : List Json → Volume → VolumeState → Shape → Json
volume_json components v state shape =
    json_object (
    (codes "id", number_json v.head.id)
    ∷ (codes "name", name_json v.head.name)
    ∷ (codes "guid", guid_json (guid_of_volume v))
    ∷ (codes "type", string (text_of_shape shape))
    ∷ (codes "size", number_json v.size)
    ∷ (codes "bytes", maybe_json (in_64_bits (v.size * 512)))
    ∷ (codes "state", string (state_word state))
    ∷ (codes "lost_sectors", maybe_json (lost_count state))
    ∷ (codes "hint", maybe_name_json v.hint)
    ∷ (codes "components", json_array components)
    ∷ [])

-- nothing where the components make no shape: a group that is found has no such volume
abbrev pub shaped_volume : List Json → Volume → VolumeState → Option Shape → List Json
shaped_volume components v state None = []
shaped_volume components v state (Some shape) = volume_json components v state shape ∷ []

-- the record, where it is a volume, by the state, the shape and the components of each volume
abbrev pub volume_jsons_at : (Volume → VolumeState) → (ℕ → Option Shape) → (ℕ → List Json) → Record → List Json
volume_jsons_at states shapes components (kinds.Volume v) = shaped_volume (components v.head.id) v (states v) (shapes v.head.id)
volume_jsons_at states shapes components _ = []

abbrev pub volume_jsons : (Volume → VolumeState) → (ℕ → Option Shape) → (ℕ → List Json) → List Record → List Json
volume_jsons states shapes components records = flat_map (volume_jsons_at states shapes components) records

-- ---- disks

-- a disk, of which this many sectors are used, where these are taken of all disks
abbrev pub disk_json : List (List ℕ) → ℕ → List Taken → List Label → Disk → Json
disk_json paths used taken labels d =
    json_object (
    (codes "id", number_json d.head.id)
    ∷ (codes "name", name_json d.head.name)
    ∷ (codes "guid", guid_json d.guid)
    ∷ (codes "image", maybe_json (image_with d.guid labels))
    ∷ (codes "path", maybe_text_json (path_of paths (image_with d.guid labels)))
    ∷ (codes "data_start", maybe_json (option_map (λ label. label.data_start) (label_with d.guid labels)))
    ∷ (codes "data_size", maybe_json (option_map (λ label. label.data_size) (label_with d.guid labels)))
    ∷ (codes "free", maybe_json (option_map (λ label. label.data_size - used) (label_with d.guid labels)))
    ∷ (codes "largest_free", maybe_json (option_map (λ label. largest_free taken d.head.id label.data_size) (label_with d.guid labels)))
    ∷ [])

abbrev pub disk_jsons_at : List (List ℕ) → (ℕ → ℕ) → List Taken → List Label → Record → List Json
disk_jsons_at paths used taken labels (kinds.Disk d) = disk_json paths (used d.head.id) taken labels d ∷ []
disk_jsons_at paths used taken labels _ = []

-- each disk record, where `used` tells how many sectors the partitions of each have
abbrev pub disk_jsons : List (List ℕ) → (ℕ → ℕ) → List Taken → List Label → List Record → List Json
disk_jsons paths used taken labels records = flat_map (disk_jsons_at paths used taken labels) records

-- ---- the group

abbrev pub group_json : List Json → List Json → Found → Json
group_json disks volumes found =
    json_object (
    (codes "sector_size", number_json 512)
    ∷ (codes "name", name_json found.db.header.name)
    ∷ (codes "guid", guid_json found.db.header.guid)
    ∷ (codes "sequence", number_json found.db.header.seq)
    ∷ (codes "blocks", number_json (need_of found.db.records))
    ∷ (codes "blocks_room", number_json (room_of found.db.header.last))
    ∷ (codes "disks", json_array disks)
    ∷ (codes "volumes", json_array volumes)
    ∷ [])

-- the group with all its disks, and its volumes in rising id
unfoldable pub all_volume_jsons : Found → List Json
all_volume_jsons found =
    let records = found.db.records in
    volume_jsons (state_of found) (λ volume. shape_of (plexes_of volume records))
    (λ volume. component_jsons (mapped_at found.labels records) (own_partitions records) (own_components records volume)) records

-- the group, whose images have these words
abbrev pub show_json : List (List ℕ) → Found → Json
show_json paths found = group_json (disk_jsons paths (used_on found.db.records) (taken_in found.db.records) found.labels found.db.records) (all_volume_jsons found) found
