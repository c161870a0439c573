-- New records are there where their numbers are those of the format and their names are short, and fit the 448 bytes of
-- four blocks. Changed records are there where the old ones did, and are longer or shorter by the number that changed.
use Rattle.std.proofs.Common.{◌≡◌, ◌∙◌, ap, sym, refl, ℕ, ◌+◌, ◌≤◌, ◌<◌, ◌^◌, [], length, arith, Some, None, List, Bool, true, false, Option}
use Rattle.std.specs.Prelude.{option_and_then, nat_lt, nat_le, unwrap_or, is_some}
use mathlib.Core.Bool.{Bool-set}
use Rattle.std.proofs.lemmas.Bool.{lt-ltb, le-leb, ltb-true, leb-true}
use Rattle.std.proofs.lemmas.Fmt.{length-decimal-le}
use Rattle.byteorder.specs.Numbers.{length-bytes_high_first}
use Rattle.ldm_bytes.specs.Numbers.{own_number}
use Rattle.ldm_bytes.proofs.NumberLaws.{own_len, width_fits}
use Rattle.ldm_bytes.proofs.GuidLaws.{own_guid-len}
use Rattle.ldm_records.specs.declared.pieces.Striping.{Striping}
use Rattle.ldm_records.specs.declared.types.Volume.{Volume}
use Rattle.ldm_records.specs.declared.types.Component.{Component}
use Rattle.ldm_records.specs.declared.types.Partition.{Partition}
use Rattle.ldm_records.specs.declared.types.Disk.{Disk}
use Rattle.ldm_records.specs.declared.types.GroupRec.{GroupRec}
use Rattle.ldm_records.specs.declared.types.Record.{Record}
use Rattle.ldm_records.specs.declared.types.Record.TheVariants as kinds
use Rattle.ldm_records.specs.Values.{Value, values_len, value_len}
use Rattle.ldm_records.specs.Fields.{component_values, volume_values, number_option}
use Rattle.ldm_records.specs.Forms.{chunk_value, columns_value}
use Rattle.ldm_records.specs.Plain.{Plain, own_spelling}
use Rattle.ldm_records.specs.Views.{plain_volume, plain_component, plain_of}
use Rattle.ldm_made.specs.Made.{given, given_short, partition_with, component_with, made_volume, new_partition, new_partition_values, part_name, index_flags, IsStriping, new_component, new_component_values, component_name, striping_flags, with_children, new_volume, new_volume_values, volume_kind, volume_fixed21, resized, made_disk, new_disk, new_disk_values, group_with, new_group, new_group_values}
use Rattle.ldm_records.proofs.PlainLaws.{own-len}
use Rattle.ldm_records.proofs.OneRecord.{one_volume, one_component, one_record}

-- a test that passes makes it
pub given_true : {A : Type 0} (test : Bool) (make : test ≡ true → A) (e : test ≡ true) → given test make ≡ Some (make e)
given_true true make e = ap (λ (p : true ≡ true). Some (make p)) (Bool-set true true refl e)
given_true false make e = absurd cc

-- what is there passed its test
pub given_there : {A : Type 0} (test : Bool) (make : test ≡ true → A) → is_some (given test make) ≡ true → test ≡ true
given_there true make e = refl
given_there false make e = absurd cc

and_then_some : {A B : Type 0} (f : A → Option B) (o : Option A) (a : A) (b : B) → o ≡ Some a → f a ≡ Some b → option_and_then f o ≡ Some b
and_then_some {A = A} f o a b e g = ap (λ (x : Option A). option_and_then f x) e ∙ g

-- the tests of a name and of a length
is_named : (name : List ℕ) → length name ≤ 255 → nat_le (length name) 255 ≡ true
is_named name few = le-leb _ _ few

is_short : (values : List Value) → values_len values + 0 < 2 ^ 32 → nat_lt (values_len values + 0) (2 ^ 32) ≡ true
is_short values few = lt-ltb _ _ few

short_given : {A : Type 0} (name : List ℕ) (values : List Value) (make : length name ≤ 255 → values_len values + 0 < 2 ^ 32 → A)
    → (named : nat_le (length name) 255 ≡ true) (short : nat_lt (values_len values + 0) (2 ^ 32) ≡ true)
    → given_short name values make ≡ Some (make (leb-true _ _ named) (ltb-true _ _ short))
short_given name values make named short =
    and_then_some _ _ _ _ (given_true (nat_le (length name) 255) _ named) (given_true (nat_lt (values_len values + 0) (2 ^ 32)) _ short)

-- ---- lengths

pub name_len : (id : ℕ) → id < 2 ^ 64 → length (part_name id) ≤ 21
name_len id fits = let l = length-decimal-le 20 id (omega arith) (omega arith) fits in omega arith

pub component_name_len : (id : ℕ) → id < 2 ^ 64 → length (component_name id) ≤ 21
component_name_len id fits = let l = length-decimal-le 20 id (omega arith) (omega arith) fits in omega arith

pub number_len : (v : ℕ) → v < 2 ^ 64 → length (own_number v) ≤ 9
number_len v fits = let w = width_fits v fits in let few = w.1 in omega (arith, own_len v, few)

pub index_len : (index : Option ℕ) → unwrap_or index 0 < 2 ^ 64 → value_len (number_option index) ≤ 9
index_len None fits = omega arith
index_len (Some index) fits = number_len index fits

pub chunk_len : (striping : Option Striping) → IsStriping striping → value_len (chunk_value striping) + value_len (columns_value striping) ≤ 18
chunk_len None fits = omega arith
chunk_len (Some s) fits = omega (arith, number_len s.chunk fits.0, number_len s.columns fits.1)

pub kind_len : (raid : Bool) → length (volume_kind raid) ≤ 5
kind_len true = omega arith
kind_len false = omega arith

pub fixed_len : (raid : Bool) → length (volume_fixed21 raid) ≡ 21
fixed_len true = refl
fixed_len false = refl

-- ---- partitions

-- a new partition of these values
pub record MakesPartition (id start offset size parent disk : ℕ) (index : Option ℕ) : Type 0 where
  pub partition : Partition
  pub made : new_partition id start offset size parent disk index ≡ Some (kinds.Partition partition)
  pub plain_is : plain_of (kinds.Partition partition) ≡ record { mark = 0; flags = index_flags index; type = 0x33; fields = new_partition_values id start offset size parent disk index; tail = [] }
  pub id_is : partition.head.id ≡ id
  pub start_is : partition.start ≡ start
  pub offset_is : partition.offset ≡ offset
  pub size_is : partition.size ≡ size
  pub parent_is : partition.parent ≡ parent
  pub disk_is : partition.disk ≡ disk
  pub index_is : partition.index ≡ index
  pub fitting : length (own_spelling (plain_of (kinds.Partition partition))) ≤ 448

pub makes_partition : (id start offset size parent disk : ℕ) (index : Option ℕ) → id < 2 ^ 64 → size < 2 ^ 64 → parent < 2 ^ 64 → disk < 2 ^ 64 → unwrap_or index 0 < 2 ^ 64
    → MakesPartition id start offset size parent disk index
makes_partition id start offset size parent disk index a b c d e =
    let len : values_len (new_partition_values id start offset size parent disk index) + 0 ≤ 200 =
    omega (arith, name_len id a, number_len id a, number_len size b, number_len parent c, number_len disk d, index_len index e) in
    let named = is_named (part_name id) (omega (arith, name_len id a)) in
    let short = is_short (new_partition_values id start offset size parent disk index) (omega arith) in
    let p : Partition = partition_with id start offset size parent disk index (leb-true _ _ named) (ltb-true _ _ short) in
    record {
      partition = p;
      made = short_given (part_name id) (new_partition_values id start offset size parent disk index) (λ a b. kinds.Partition (partition_with id start offset size parent disk index a b)) named short;
      plain_is = refl;
      id_is = refl;
      start_is = refl;
      offset_is = refl;
      size_is = refl;
      parent_is = refl;
      disk_is = refl;
      index_is = refl;
      fitting = (let l = own-len (plain_of (kinds.Partition p)) in omega arith);
    }

-- a record of these plain values is the one that is made
pub partition_is : (id start offset size parent disk : ℕ) (index : Option ℕ) → id < 2 ^ 64 → size < 2 ^ 64 → parent < 2 ^ 64 → disk < 2 ^ 64 → unwrap_or index 0 < 2 ^ 64 → (r : Record)
    → plain_of r ≡ record { mark = 0; flags = index_flags index; type = 0x33; fields = new_partition_values id start offset size parent disk index; tail = [] }
    → new_partition id start offset size parent disk index ≡ Some r
partition_is id start offset size parent disk index a b c d e r is =
    let m = makes_partition id start offset size parent disk index a b c d e in
    m.made ∙ ap (λ (x : Record). Some x) (one_record (kinds.Partition m.partition) r (m.plain_is ∙ sym is))

-- ---- components

-- a new component of these values
pub record MakesComponent (id parent layout children : ℕ) (striping : Option Striping) : Type 0 where
  pub component : Component
  pub made : new_component id parent layout children striping ≡ Some (kinds.Component component)
  pub plain_is : plain_of (kinds.Component component) ≡ record { mark = 0; flags = striping_flags striping; type = 0x32; fields = new_component_values id parent layout children striping; tail = [] }
  pub id_is : component.head.id ≡ id
  pub parent_is : component.parent ≡ parent
  pub layout_is : component.layout ≡ layout
  pub striping_is : component.striping ≡ striping
  pub children_is : component.children ≡ children
  pub fitting : length (own_spelling (plain_of (kinds.Component component))) ≤ 448

pub makes_component : (id parent layout children : ℕ) (striping : Option Striping) → id < 2 ^ 64 → parent < 2 ^ 64 → children < 2 ^ 64 → IsStriping striping → MakesComponent id parent layout children striping
makes_component id parent layout children striping a b c d =
    let len : values_len (new_component_values id parent layout children striping) + 0 ≤ 200 =
    omega (arith, component_name_len id a, number_len id a, number_len parent b, number_len children c, chunk_len striping d) in
    let named = is_named (component_name id) (omega (arith, component_name_len id a)) in
    let short = is_short (new_component_values id parent layout children striping) (omega arith) in
    let c : Component = component_with id parent layout children striping (leb-true _ _ named) (ltb-true _ _ short) in
    record {
      component = c;
      made = short_given (component_name id) (new_component_values id parent layout children striping) (λ a b. kinds.Component (component_with id parent layout children striping a b)) named short;
      plain_is = refl;
      id_is = refl;
      parent_is = refl;
      layout_is = refl;
      striping_is = refl;
      children_is = refl;
      fitting = (let l = own-len (plain_of (kinds.Component c)) in omega arith);
    }

-- a record of these plain values is the one that is made
pub component_is : (id parent layout children : ℕ) (striping : Option Striping) → id < 2 ^ 64 → parent < 2 ^ 64 → children < 2 ^ 64 → IsStriping striping → (r : Record)
    → plain_of r ≡ record { mark = 0; flags = striping_flags striping; type = 0x32; fields = new_component_values id parent layout children striping; tail = [] } → new_component id parent layout children striping ≡ Some r
component_is id parent layout children striping a b c d r is =
    let m = makes_component id parent layout children striping a b c d in
    m.made ∙ ap (λ (x : Record). Some x) (one_record (kinds.Component m.component) r (m.plain_is ∙ sym is))

-- a component is made again with another number of partitions
pub record MakesChildren (c : Component) (children : ℕ) : Type 0 where
  pub component : Component
  pub made : with_children c children ≡ Some component
  pub head_is : component.head ≡ c.head
  pub parent_is : component.parent ≡ c.parent
  pub layout_is : component.layout ≡ c.layout
  pub striping_is : component.striping ≡ c.striping
  pub children_is : component.children ≡ children
  pub len_is : length (own_spelling (plain_of (kinds.Component component))) + length (own_number c.children) ≡ length (own_spelling (plain_of (kinds.Component c))) + length (own_number children)

pub makes_children : (c : Component) (children : ℕ) → children < 2 ^ 64 → length (own_spelling (plain_of (kinds.Component c))) ≤ 448 → MakesChildren c children
makes_children c children fits fitting =
    let old = own-len (plain_of (kinds.Component c)) in
    let short : nat_lt (values_len (component_values c.head.id c.head.name c.state c.layout c.fixed4 children c.fixed16 c.parent c.fixed1 (chunk_value c.striping) (columns_value c.striping)) + length c.tail) (2 ^ 32) ≡ true =
    lt-ltb _ _ (omega (arith, number_len children fits)) in
    let d : Component = record c { children = children; short = ltb-true _ _ short } in
    record {
      component = d;
      made = given_true _ _ short;
      head_is = refl;
      parent_is = refl;
      layout_is = refl;
      striping_is = refl;
      children_is = refl;
      len_is = (let new = own-len (plain_of (kinds.Component d)) in omega arith);
    }

-- a component of these plain values is the one of another number of partitions
abbrev plain_children : Component → ℕ → Plain
plain_children c children = record { mark = c.head.mark; flags = c.head.flags; type = 0x32; fields = component_values c.head.id c.head.name c.state c.layout c.fixed4 children c.fixed16 c.parent c.fixed1 (chunk_value c.striping) (columns_value c.striping); tail = c.tail }

pub children_is : (c copy d : Component) (children : ℕ) → is_some (with_children c children) ≡ true → copy ≡ c → plain_component d ≡ plain_children copy children → with_children c children ≡ Some d
children_is c copy d children there same is =
    given_true _ _ (given_there _ _ there) ∙ ap (λ (x : Component). Some x) (one_component _ d (ap (λ (x : Component). plain_children x children) (sym same) ∙ sym is))

-- ---- volumes

-- a new volume of these values
pub record MakesVolume (id : ℕ) (name : List ℕ) (guid : ℕ) (raid : Bool) (children size : ℕ) : Type 0 where
  pub volume : Volume
  pub made : new_volume id name guid raid children size ≡ Some (kinds.Volume volume)
  pub plain_is : plain_of (kinds.Volume volume) ≡ record { mark = 0; flags = 0; type = 0x51; fields = new_volume_values id name guid raid children size; tail = [] }
  pub id_is : volume.head.id ≡ id
  pub name_is : volume.head.name ≡ name
  pub children_is : volume.children ≡ children
  pub size_is : volume.size ≡ size
  pub fitting : length (own_spelling (plain_of (kinds.Volume volume))) ≤ 448

pub makes_volume : (id : ℕ) (name : List ℕ) (guid : ℕ) (raid : Bool) (children size : ℕ) → id < 2 ^ 64 → length name ≤ 255 → children < 2 ^ 64 → size < 2 ^ 64 → MakesVolume id name guid raid children size
makes_volume id name guid raid children size a b c d =
    let len : values_len (new_volume_values id name guid raid children size) + 0 ≤ 400 =
    omega (arith, number_len id a, number_len children c, number_len size d, kind_len raid, fixed_len raid, length-bytes_high_first 16 guid) in
    let named = is_named name b in
    let short = is_short (new_volume_values id name guid raid children size) (omega arith) in
    let v : Volume = made_volume id name guid raid children size (leb-true _ _ named) (ltb-true _ _ short) in
    record {
      volume = v;
      made = short_given name (new_volume_values id name guid raid children size) (λ a b. kinds.Volume (made_volume id name guid raid children size a b)) named short;
      plain_is = refl;
      id_is = refl;
      name_is = refl;
      children_is = refl;
      size_is = refl;
      fitting = (let l = own-len (plain_of (kinds.Volume v)) in omega arith);
    }

-- a record of these plain values is the one that is made
pub volume_is : (id : ℕ) (name : List ℕ) (guid : ℕ) (raid : Bool) (children size : ℕ) → id < 2 ^ 64 → length name ≤ 255 → children < 2 ^ 64 → size < 2 ^ 64 → (r : Record)
    → plain_of r ≡ record { mark = 0; flags = 0; type = 0x51; fields = new_volume_values id name guid raid children size; tail = [] } → new_volume id name guid raid children size ≡ Some r
volume_is id name guid raid children size a b c d r is =
    let m = makes_volume id name guid raid children size a b c d in
    m.made ∙ ap (λ (x : Record). Some x) (one_record (kinds.Volume m.volume) r (m.plain_is ∙ sym is))

-- a volume is made again with another size
pub record MakesSize (v : Volume) (size : ℕ) : Type 0 where
  pub volume : Volume
  pub made : resized v size ≡ Some volume
  pub head_is : volume.head ≡ v.head
  pub children_is : volume.children ≡ v.children
  pub size_is : volume.size ≡ size
  pub len_is : length (own_spelling (plain_of (kinds.Volume volume))) + length (own_number v.size) ≡ length (own_spelling (plain_of (kinds.Volume v))) + length (own_number size)

pub makes_size : (v : Volume) (size : ℕ) → size < 2 ^ 64 → length (own_spelling (plain_of (kinds.Volume v))) ≤ 448 → MakesSize v size
makes_size v size fits fitting =
    let old = own-len (plain_of (kinds.Volume v)) in
    let short : nat_lt (values_len (volume_values v.head.id v.head.name v.kind v.second v.fixed21 v.children v.fixed16 size v.fixed4 v.part_type v.guid v.id1 v.id2 v.size2 v.hint) + length v.tail) (2 ^ 32) ≡ true =
    lt-ltb _ _ (omega (arith, number_len size fits)) in
    let w : Volume = record v { size = size; short = ltb-true _ _ short } in
    record {
      volume = w;
      made = given_true _ _ short;
      head_is = refl;
      children_is = refl;
      size_is = refl;
      len_is = (let new = own-len (plain_of (kinds.Volume w)) in omega arith);
    }

-- a volume of these plain values is the one of another size
abbrev plain_sized : Volume → ℕ → Plain
plain_sized v size = record { mark = v.head.mark; flags = v.head.flags; type = 0x51; fields = volume_values v.head.id v.head.name v.kind v.second v.fixed21 v.children v.fixed16 size v.fixed4 v.part_type v.guid v.id1 v.id2 v.size2 v.hint; tail = v.tail }

pub resized_is : (v copy w : Volume) (size : ℕ) → is_some (resized v size) ≡ true → copy ≡ v → plain_volume w ≡ plain_sized copy size → resized v size ≡ Some w
resized_is v copy w size there same is =
    given_true _ _ (given_there _ _ there) ∙ ap (λ (x : Volume). Some x) (one_volume _ w (ap (λ (x : Volume). plain_sized x size) (sym same) ∙ sym is))

-- ---- disks

-- a new disk of these values
pub record MakesDisk (id : ℕ) (name : List ℕ) (guid : ℕ) : Type 0 where
  pub disk : Disk
  pub made : new_disk id name guid ≡ Some (kinds.Disk disk)
  pub plain_is : plain_of (kinds.Disk disk) ≡ record { mark = 0; flags = 0; type = 0x34; fields = new_disk_values id name guid; tail = [] }
  pub id_is : disk.head.id ≡ id
  pub name_is : disk.head.name ≡ name
  pub guid_is : disk.guid ≡ guid
  pub len_is : length (own_spelling (plain_of (kinds.Disk disk))) ≡ 59 + length (own_number id) + length name

pub makes_disk : (id : ℕ) (name : List ℕ) (guid : ℕ) → id < 2 ^ 64 → length name ≤ 255 → MakesDisk id name guid
makes_disk id name guid a b =
    let named = is_named name b in
    let short = is_short (new_disk_values id name guid) (omega (arith, number_len id a)) in
    let d : Disk = made_disk id name guid (leb-true _ _ named) (ltb-true _ _ short) in
    record {
      disk = d;
      made = short_given name (new_disk_values id name guid) (λ a b. kinds.Disk (made_disk id name guid a b)) named short;
      plain_is = refl;
      id_is = refl;
      name_is = refl;
      guid_is = refl;
      len_is = (let l = own-len (plain_of (kinds.Disk d)) in omega arith);
    }

-- a record of these plain values is the one that is made
pub disk_is : (id : ℕ) (name : List ℕ) (guid : ℕ) → id < 2 ^ 64 → length name ≤ 255 → (r : Record)
    → plain_of r ≡ record { mark = 0; flags = 0; type = 0x34; fields = new_disk_values id name guid; tail = [] } → new_disk id name guid ≡ Some r
disk_is id name guid a b r is =
    let m = makes_disk id name guid a b in
    m.made ∙ ap (λ (x : Record). Some x) (one_record (kinds.Disk m.disk) r (m.plain_is ∙ sym is))

-- ---- the group

-- a new group record of these values
pub record MakesGroup (id : ℕ) (name : List ℕ) (guid : ℕ) : Type 0 where
  pub group : GroupRec
  pub made : new_group id name guid ≡ Some (kinds.Group group)
  pub plain_is : plain_of (kinds.Group group) ≡ record { mark = 0; flags = 0; type = 0x35; fields = new_group_values id name guid; tail = [] }
  pub id_is : group.head.id ≡ id
  pub name_is : group.head.name ≡ name
  pub len_is : length (own_spelling (plain_of (kinds.Group group))) ≡ 58 + length (own_number id) + length name

pub makes_group : (id : ℕ) (name : List ℕ) (guid : ℕ) → id < 2 ^ 64 → length name ≤ 255 → MakesGroup id name guid
makes_group id name guid a b =
    let named = is_named name b in
    let short = is_short (new_group_values id name guid) (omega (arith, number_len id a, own_guid-len guid)) in
    let g : GroupRec = group_with id name guid (leb-true _ _ named) (ltb-true _ _ short) in
    record {
      group = g;
      made = short_given name (new_group_values id name guid) (λ a b. kinds.Group (group_with id name guid a b)) named short;
      plain_is = refl;
      id_is = refl;
      name_is = refl;
      len_is = (let l = own-len (plain_of (kinds.Group g)) in omega (arith, own_guid-len guid));
    }

-- a record of these plain values is the one that is made
pub group_is : (id : ℕ) (name : List ℕ) (guid : ℕ) → id < 2 ^ 64 → length name ≤ 255 → (r : Record)
    → plain_of r ≡ record { mark = 0; flags = 0; type = 0x35; fields = new_group_values id name guid; tail = [] } → new_group id name guid ≡ Some r
group_is id name guid a b r is =
    let m = makes_group id name guid a b in
    m.made ∙ ap (λ (x : Record). Some x) (one_record (kinds.Group m.group) r (m.plain_is ∙ sym is))
