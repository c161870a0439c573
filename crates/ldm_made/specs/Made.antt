-- The records that are made or changed, each a record of these values where there is one: texts of at most 255 bytes, and
-- a spelling whose length has four bytes. Fields of a new record that aren't named are zero or empty, and optional fields
-- that aren't named are absent.
use Rattle.std.specs.Prelude.{◌≡◌, ℕ, ◌+◌, ◌<◌, ◌≤◌, ◌^◌, Bool, true, false, List, [], ◌∷◌, ◌++◌, length, decimal, replicate, is_some, Option, Some, None, nat_lt, nat_le, option_and_then}
use Rattle.std.proofs.Common.{refl, sym, subst}
use Rattle.std.proofs.lemmas.Bool.{ltb-true, leb-true}
use Rattle.byteorder.specs.Endian.{big_bytes}
use Rattle.ldm_bytes.specs.Guid.{own_guid}
use Rattle.ldm_bytes.proofs.GuidLaws.{own_guid-len}
use Rattle.ldm_records.specs.declared.pieces.DiskForm.TheVariants as disks
use Rattle.ldm_records.specs.declared.pieces.GroupForm.TheVariants as groups
use Rattle.ldm_records.specs.declared.pieces.Striping.{Striping}
use Rattle.ldm_records.specs.declared.types.Volume.{Volume}
use Rattle.ldm_records.specs.declared.types.Component.{Component}
use Rattle.ldm_records.specs.declared.types.Partition.{Partition}
use Rattle.ldm_records.specs.declared.types.Disk.{Disk}
use Rattle.ldm_records.specs.declared.types.GroupRec.{GroupRec}
use Rattle.ldm_records.specs.declared.types.Record.{Record}
use Rattle.ldm_records.specs.declared.types.Record.TheVariants as kinds
use Rattle.ldm_records.specs.Values.{Value, Absent, values_len}
use Rattle.ldm_records.specs.Table.{has_flag}
use Rattle.ldm_records.specs.Fields.{partition_values, component_values, volume_values}
use Rattle.ldm_records.specs.Forms.{chunk_value, columns_value, disk_values, group_values}

-- what is made of a test that passes
abbrev pub given : {A : Type 0} (test : Bool) → (test ≡ true → A) → Option A
given true make = Some (make refl)
given false make = None

-- what is made of values and a name: the name is short, and the values' spelling has a length of four bytes
abbrev pub given_short : {A : Type 0} (name : List ℕ) (values : List Value) → (length name ≤ 255 → values_len values + 0 < 2 ^ 32 → A) → Option A
given_short name values make =
    option_and_then (λ (named : length name ≤ 255). given (nat_lt (values_len values + 0) (2 ^ 32)) (λ short. make named (ltb-true _ _ short)))
    (given (nat_le (length name) 255) (λ short. leb-true _ _ short))

-- ---- partitions

-- a column of a stripe or RAID-5 has flag 0x08 and its index
abbrev pub index_flags : Option ℕ → ℕ
index_flags (Some index) = 0x08
index_flags None = 0

pub index_flagged : (index : Option ℕ) → is_some index ≡ has_flag (index_flags index) 0x08
index_flagged (Some index) = refl
index_flagged None = refl

-- p and the id
abbrev pub part_name : ℕ → List ℕ
part_name id = 112 ∷ decimal id

abbrev pub new_partition_values : (id start offset size parent disk : ℕ) → Option ℕ → List Value
new_partition_values id start offset size parent disk index = partition_values id (part_name id) (replicate 12 0) start offset size parent disk index

abbrev pub partition_with : (id start offset size parent disk : ℕ) (index : Option ℕ) → length (part_name id) ≤ 255 → values_len (new_partition_values id start offset size parent disk index) + 0 < 2 ^ 32 → Partition
partition_with id start offset size parent disk index named short = record {
  head = record { mark = 0; flags = index_flags index; id = id; name = part_name id; name_short = named };
  fixed12 = replicate 12 0;
  start = start;
  offset = offset;
  size = size;
  parent = parent;
  disk = disk;
  index = index;
  tail = [];
  flagged = index_flagged index;
  short = short;
}

abbrev pub new_partition : (id start offset size parent disk : ℕ) → Option ℕ → Option Record
new_partition id start offset size parent disk index =
    given_short (part_name id) (new_partition_values id start offset size parent disk index) (λ named short. kinds.Partition (partition_with id start offset size parent disk index named short))

-- ---- components

-- the component of a stripe or RAID-5 has flag 0x10 and its chunk and columns
abbrev pub striping_flags : Option Striping → ℕ
striping_flags (Some striping) = 0x10
striping_flags None = 0

pub striping_flagged : (striping : Option Striping) → is_some striping ≡ has_flag (striping_flags striping) 0x10
striping_flagged (Some striping) = refl
striping_flagged None = refl

-- the chunk and the columns are numbers of the format
abbrev pub IsStriping : Option Striping → Type 0
IsStriping None = Unit {0}
IsStriping (Some s) = (s.chunk < 2 ^ 64) × (s.columns < 2 ^ 64)

-- c and the id
abbrev pub component_name : ℕ → List ℕ
component_name id = 99 ∷ decimal id

-- ACTIVE
abbrev pub active : List ℕ
active = 65 ∷ 67 ∷ 84 ∷ 73 ∷ 86 ∷ 69 ∷ []

pub active_short : length active ≤ 255
active_short = leb-true 6 255 refl

abbrev pub new_component_values : (id parent layout children : ℕ) → Option Striping → List Value
new_component_values id parent layout children striping =
    component_values id (component_name id) active layout (replicate 4 0) children (replicate 16 0) parent 0 (chunk_value striping) (columns_value striping)

abbrev pub component_with : (id parent layout children : ℕ) (striping : Option Striping) → length (component_name id) ≤ 255 → values_len (new_component_values id parent layout children striping) + 0 < 2 ^ 32 → Component
component_with id parent layout children striping named short = record {
  head = record { mark = 0; flags = striping_flags striping; id = id; name = component_name id; name_short = named };
  state = active;
  layout = layout;
  fixed4 = replicate 4 0;
  children = children;
  fixed16 = replicate 16 0;
  parent = parent;
  fixed1 = 0;
  striping = striping;
  tail = [];
  state_short = active_short;
  flagged = striping_flagged striping;
  short = short;
}

abbrev pub new_component : (id parent layout children : ℕ) → Option Striping → Option Record
new_component id parent layout children striping =
    given_short (component_name id) (new_component_values id parent layout children striping) (λ named short. kinds.Component (component_with id parent layout children striping named short))

-- a component of another number of partitions
abbrev pub with_children : Component → ℕ → Option Component
with_children c children =
    given (nat_lt (values_len (component_values c.head.id c.head.name c.state c.layout c.fixed4 children c.fixed16 c.parent c.fixed1 (chunk_value c.striping) (columns_value c.striping)) + length c.tail) (2 ^ 32))
    (λ short. record c { children = children; short = ltb-true _ _ short })

-- ---- volumes

-- `raid5` for RAID-5, and `gen` for all others
abbrev pub volume_kind : Bool → List ℕ
volume_kind true = 114 ∷ 97 ∷ 105 ∷ 100 ∷ 53 ∷ []
volume_kind false = 103 ∷ 101 ∷ 110 ∷ []

-- ACTIVE, eight zeros, 4 for RAID-5 and 3 for all others, six zeros
abbrev pub volume_fixed21 : Bool → List ℕ
volume_fixed21 true = active ++ replicate 8 0 ++ 4 ∷ replicate 6 0
volume_fixed21 false = active ++ replicate 8 0 ++ 3 ∷ replicate 6 0

pub volume_kind_short : (raid : Bool) → length (volume_kind raid) ≤ 255
volume_kind_short true = leb-true 5 255 refl
volume_kind_short false = leb-true 3 255 refl

abbrev pub new_volume_values : (id : ℕ) → List ℕ → (guid : ℕ) → Bool → (children size : ℕ) → List Value
new_volume_values id name guid raid children size =
    volume_values id name (volume_kind raid) [] (volume_fixed21 raid) children (replicate 16 0) size (replicate 4 0) 0x07 (big_bytes 16 guid) None None None None

abbrev pub made_volume : (id : ℕ) (name : List ℕ) (guid : ℕ) (raid : Bool) (children size : ℕ) → length name ≤ 255 → values_len (new_volume_values id name guid raid children size) + 0 < 2 ^ 32 → Volume
made_volume id name guid raid children size named short = record {
  head = record { mark = 0; flags = 0; id = id; name = name; name_short = named };
  kind = volume_kind raid;
  second = [];
  fixed21 = volume_fixed21 raid;
  children = children;
  fixed16 = replicate 16 0;
  size = size;
  fixed4 = replicate 4 0;
  part_type = 0x07;
  guid = big_bytes 16 guid;
  id1 = None;
  id2 = None;
  size2 = None;
  hint = None;
  tail = [];
  kind_short = volume_kind_short raid;
  second_short = leb-true 0 255 refl;
  id1_short = leb-true 0 255 refl;
  id2_short = leb-true 0 255 refl;
  hint_short = leb-true 0 255 refl;
  id1_flagged = refl;
  id2_flagged = refl;
  size2_flagged = refl;
  hint_flagged = refl;
  short = short;
}

abbrev pub new_volume : (id : ℕ) → List ℕ → (guid : ℕ) → Bool → (children size : ℕ) → Option Record
new_volume id name guid raid children size =
    given_short name (new_volume_values id name guid raid children size) (λ named short. kinds.Volume (made_volume id name guid raid children size named short))

-- a volume of another size
abbrev pub resized : Volume → ℕ → Option Volume
resized v size =
    given (nat_lt (values_len (volume_values v.head.id v.head.name v.kind v.second v.fixed21 v.children v.fixed16 size v.fixed4 v.part_type v.guid v.id1 v.id2 v.size2 v.hint) + length v.tail) (2 ^ 32))
    (λ short. record v { size = size; short = ltb-true _ _ short })

-- ---- disks

-- a disk of version 3, without an alternative name
abbrev pub new_disk_values : (id : ℕ) → List ℕ → (guid : ℕ) → List Value
new_disk_values id name guid = disk_values id name guid (disks.V3 [] (replicate 12 0))

abbrev pub made_disk : (id : ℕ) (name : List ℕ) (guid : ℕ) → length name ≤ 255 → values_len (new_disk_values id name guid) + 0 < 2 ^ 32 → Disk
made_disk id name guid named short = record {
  head = record { mark = 0; flags = 0; id = id; name = name; name_short = named };
  guid = guid;
  form = disks.V3 [] (replicate 12 0);
  tail = [];
  alt_short = leb-true 0 255 refl;
  short = short;
}

abbrev pub new_disk : (id : ℕ) → List ℕ → (guid : ℕ) → Option Record
new_disk id name guid =
    given_short name (new_disk_values id name guid) (λ named short. kinds.Disk (made_disk id name guid named short))

-- ---- the group

-- a group record of version 3, which carries the GUID as its text in lower case
abbrev pub new_group_values : (id : ℕ) → List ℕ → (guid : ℕ) → List Value
new_group_values id name guid = group_values id name (groups.V3 (own_guid guid) (replicate 12 0)) Absent Absent

pub guid_text_short : (guid : ℕ) → length (own_guid guid) ≤ 255
guid_text_short guid = let P : ℕ → Type 0 = λ n. n ≤ 255 in subst P (sym (own_guid-len guid)) (leb-true 36 255 refl)

abbrev pub group_with : (id : ℕ) (name : List ℕ) (guid : ℕ) → length name ≤ 255 → values_len (new_group_values id name guid) + 0 < 2 ^ 32 → GroupRec
group_with id name guid named short = record {
  head = record { mark = 0; flags = 0; id = id; name = name; name_short = named };
  form = groups.V3 (own_guid guid) (replicate 12 0);
  ids = None;
  tail = [];
  guid_short = guid_text_short guid;
  flagged = refl;
  short = short;
}

abbrev pub new_group : (id : ℕ) → List ℕ → (guid : ℕ) → Option Record
new_group id name guid =
    given_short name (new_group_values id name guid) (λ named short. kinds.Group (group_with id name guid named short))
