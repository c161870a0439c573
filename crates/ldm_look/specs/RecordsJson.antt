-- The JSON of one copy of the database: what its header says, and its records with their fields. Bytes that are carried
-- without a name aren't said. Texts are written as names are.
use Rattle.std.specs.Prelude.{ℕ, List, [], ◌∷◌, ◌++◌, map, codes, Option, Some, None}
use Rattle.std.specs.Option.{option_map}
use Rattle.json.specs.Json.{Json, null, string}
use Rattle.ldm_json.specs.Values.{Member, number_json, maybe_json, name_json, maybe_name_json, guid_json, json_object, json_array}
use Rattle.ldm_records.specs.declared.pieces.Head.{Head}
use Rattle.ldm_records.specs.declared.pieces.DiskForm.{DiskForm}
use Rattle.ldm_records.specs.declared.pieces.DiskForm.TheVariants as disk_forms
use Rattle.ldm_records.specs.declared.pieces.GroupForm.{GroupForm}
use Rattle.ldm_records.specs.declared.pieces.GroupForm.TheVariants as group_forms
use Rattle.ldm_records.specs.declared.types.Record.{Record}
use Rattle.ldm_records.specs.declared.types.Record.TheVariants as kinds
use Rattle.ldm_records.specs.declared.types.Volume.{Volume}
use Rattle.ldm_records.specs.declared.types.Component.{Component}
use Rattle.ldm_records.specs.declared.types.Partition.{Partition}
use Rattle.ldm_records.specs.declared.types.Disk.{Disk}
use Rattle.ldm_records.specs.declared.types.GroupRec.{GroupRec}
use Rattle.ldm_group.specs.Room.{own_len}
use Rattle.ldm_copy.specs.declared.answer.CopyState.{CopyState}
use Rattle.ldm_copy.specs.declared.answer.CopyState.TheVariants.{Closed, Valid}
use Rattle.ldm_text.specs.Texts.{guid_of_volume}
use Rattle.ldm_text.specs.Records.{type_of}

-- ---- what each record has

abbrev pub kind_text : Record → List ℕ
kind_text (kinds.Group g) = codes "group"
kind_text (kinds.Disk d) = codes "disk"
kind_text (kinds.Volume v) = codes "volume"
kind_text (kinds.Component c) = codes "component"
kind_text (kinds.Partition p) = codes "partition"

abbrev pub record_head : Record → Head
record_head (kinds.Group g) = g.head
record_head (kinds.Disk d) = d.head
record_head (kinds.Volume v) = v.head
record_head (kinds.Component c) = c.head
record_head (kinds.Partition p) = p.head

-- its kind, its type as lines have it, and what all records begin with; the length is that of the own spelling in bytes
unfoldable pub common_members : Record → List Member
common_members r =
    (codes "kind", string (kind_text r))
    ∷ (codes "type", string (type_of r))
    ∷ (codes "id", number_json (record_head r).id)
    ∷ (codes "name", name_json (record_head r).name)
    ∷ (codes "length", number_json (own_len r))
    ∷ (codes "mark", number_json (record_head r).mark)
    ∷ (codes "flags", number_json (record_head r).flags)
    ∷ []

-- ---- what those of one kind have

-- in the GUID of version 3 any text may stand
abbrev pub carried_guid : GroupForm → Option (List ℕ)
carried_guid (group_forms.V3 guid fixed) = Some guid
carried_guid (group_forms.V4 fixed) = None

unfoldable pub group_members : GroupRec → List Member
group_members g =
    (codes "guid", maybe_name_json (carried_guid g.form))
    ∷ (codes "id1", maybe_name_json (option_map (λ ids. ids.first) g.ids))
    ∷ (codes "id2", maybe_name_json (option_map (λ ids. ids.second) g.ids))
    ∷ []

-- version 4 has none
abbrev pub alternative_name : DiskForm → Option (List ℕ)
alternative_name (disk_forms.V3 alt fixed) = Some alt
alternative_name (disk_forms.V4 fixed) = None

unfoldable pub disk_members : Disk → List Member
disk_members d = (codes "guid", guid_json d.guid) ∷ (codes "alternative_name", maybe_name_json (alternative_name d.form)) ∷ []

unfoldable pub volume_members : Volume → List Member
volume_members v =
    (codes "volume_kind", name_json v.kind)
    ∷ (codes "second", name_json v.second)
    ∷ (codes "children", number_json v.children)
    ∷ (codes "size", number_json v.size)
    ∷ (codes "partition_type", number_json v.part_type)
    ∷ (codes "guid", guid_json (guid_of_volume v))
    ∷ (codes "id1", maybe_name_json v.id1)
    ∷ (codes "id2", maybe_name_json v.id2)
    ∷ (codes "size2", maybe_json v.size2)
    ∷ (codes "drive_hint", maybe_name_json v.hint)
    ∷ []

unfoldable pub component_members : Component → List Member
component_members c =
    (codes "state", name_json c.state)
    ∷ (codes "layout_type", number_json c.layout)
    ∷ (codes "children", number_json c.children)
    ∷ (codes "parent", number_json c.parent)
    ∷ (codes "stripe_size", maybe_json (option_map (λ s. s.chunk) c.striping))
    ∷ (codes "columns", maybe_json (option_map (λ s. s.columns) c.striping))
    ∷ []

unfoldable pub partition_members : Partition → List Member
partition_members p =
    (codes "start", number_json p.start)
    ∷ (codes "volume_offset", number_json p.offset)
    ∷ (codes "size", number_json p.size)
    ∷ (codes "parent", number_json p.parent)
    ∷ (codes "disk", number_json p.disk)
    ∷ (codes "index", maybe_json p.index)
    ∷ []

abbrev pub own_members : Record → List Member
own_members (kinds.Group g) = group_members g
own_members (kinds.Disk d) = disk_members d
own_members (kinds.Volume v) = volume_members v
own_members (kinds.Component c) = component_members c
own_members (kinds.Partition p) = partition_members p

unfoldable pub record_json : Record → Json
record_json r = json_object (common_members r ++ own_members r)

-- ---- the copy

-- a copy in this state: what its header says, and its records in rising order of kind and id
abbrev pub copy_json : List ℕ → Json → Json → Json → Json → List Record → Json
copy_json state name guid seq last records =
    json_object (
    (codes "state", string state)
    ∷ (codes "name", name)
    ∷ (codes "guid", guid)
    ∷ (codes "sequence", seq)
    ∷ (codes "last", last)
    ∷ (codes "records", json_array (map record_json records))
    ∷ [])

abbrev pub records_json : CopyState → Json
records_json Closed = copy_json (codes "closed") null null null null []
records_json (Valid db) =
    copy_json (codes "open") (name_json db.header.name) (guid_json db.header.guid) (number_json db.header.seq) (number_json db.header.last) db.records
