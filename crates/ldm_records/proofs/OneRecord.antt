-- Records that are the same plain values are one record.
use Rattle.std.proofs.Common.{◌≡◌, ℕ, List, [], Option, Some, None, refl, sym, ap, ◌∙◌, ◌≤◌, ◌<◌, ◌+◌, ◌^◌, length, arith}
use Rattle.std.specs.Prelude.{is_some, unwrap_or, ◌==◌, ◌||◌, if◌then◌else◌}
use Rattle.std.specs.Coded.{le_prop}
use mathlib.Core.Bool.{Bool-set}
use mathlib.Core.HLevel.{is_prop→PathP}
use Rattle.ldm_records.specs.declared.pieces.Head.{Head}
use Rattle.ldm_records.specs.declared.pieces.Striping.{Striping}
use Rattle.ldm_records.specs.declared.pieces.TwoIds.{TwoIds}
use Rattle.ldm_records.specs.declared.pieces.DiskForm.{DiskForm}
use Rattle.ldm_records.specs.declared.pieces.DiskForm.TheVariants as disks
use Rattle.ldm_records.specs.declared.pieces.GroupForm.{GroupForm}
use Rattle.ldm_records.specs.declared.pieces.GroupForm.TheVariants as groups
use Rattle.ldm_records.specs.declared.types.Volume.{Volume}
use Rattle.ldm_records.specs.declared.types.Component.{Component}
use Rattle.ldm_records.specs.declared.types.Partition.{Partition}
use Rattle.ldm_records.specs.declared.types.Disk.{Disk}
use Rattle.ldm_records.specs.declared.types.GroupRec.{GroupRec}
use Rattle.ldm_records.specs.declared.types.Record.{Record}
use Rattle.ldm_records.specs.declared.types.Record.TheVariants as kinds
use Rattle.ldm_records.specs.Values.{Value, values_len}
use Rattle.ldm_records.specs.Table.{has_flag}
use Rattle.ldm_records.specs.Fields.{number_option, text_option, volume_values, component_values, partition_values}
use Rattle.ldm_records.specs.Forms.{chunk_value, columns_value, first_value, second_value, disk_type, alt_of, disk_values, group_type, guid_text_of, group_values}
use Rattle.ldm_records.specs.Plain.{Plain}
use Rattle.ldm_records.specs.Views.{plain_volume, plain_component, plain_partition, plain_disk, plain_group, plain_of}

-- ---- optional fields

one_number : (a b : Option ℕ) → number_option a ≡ number_option b → a ≡ b
one_number None None e = refl
one_number None (Some v) e = absurd cc
one_number (Some v) None e = absurd cc
one_number (Some v) (Some w) e = cc

one_text : (a b : Option (List ℕ)) → text_option a ≡ text_option b → a ≡ b
one_text None None e = refl
one_text None (Some t) e = absurd cc
one_text (Some t) None e = absurd cc
one_text (Some t) (Some u) e = cc

one_striping : (a b : Option Striping) → chunk_value a ≡ chunk_value b → columns_value a ≡ columns_value b → a ≡ b
one_striping None None e f = refl
one_striping None (Some t) e f = absurd cc
one_striping (Some s) None e f = absurd cc
one_striping (Some s) (Some t) e f =
    let chunk : s.chunk ≡ t.chunk = cc in
    let columns : s.columns ≡ t.columns = cc in
    λ i. Some record { chunk = chunk i; columns = columns i }

one_pair : (a b : Option TwoIds) → first_value a ≡ first_value b → second_value a ≡ second_value b → a ≡ b
one_pair None None e f = refl
one_pair None (Some t) e f = absurd cc
one_pair (Some s) None e f = absurd cc
one_pair (Some s) (Some t) e f =
    let first : s.first ≡ t.first = cc in
    let second : s.second ≡ t.second = cc in
    λ i. Some record {
      first = first i;
      second = second i;
      first_short = is_prop→PathP (λ j. length (first j) ≤ 255) (λ j. le_prop) s.first_short t.first_short i;
      second_short = is_prop→PathP (λ j. length (second j) ≤ 255) (λ j. le_prop) s.second_short t.second_short i;
    }

-- ---- from equal fields to equal records

same_head : (p q : Head) → p.mark ≡ q.mark → p.flags ≡ q.flags → p.id ≡ q.id → p.name ≡ q.name → p ≡ q
same_head p q a b c d = λ i. record {
  mark = a i;
  flags = b i;
  id = c i;
  name = d i;
  name_short = is_prop→PathP (λ j. length (d j) ≤ 255) (λ j. le_prop) p.name_short q.name_short i;
}

same_volume : (p q : Volume) → p.head ≡ q.head → p.kind ≡ q.kind → p.second ≡ q.second → p.fixed21 ≡ q.fixed21 → p.children ≡ q.children
    → p.fixed16 ≡ q.fixed16 → p.size ≡ q.size → p.fixed4 ≡ q.fixed4 → p.part_type ≡ q.part_type → p.guid ≡ q.guid → p.id1 ≡ q.id1
    → p.id2 ≡ q.id2 → p.size2 ≡ q.size2 → p.hint ≡ q.hint → p.tail ≡ q.tail → p ≡ q
same_volume p q head kind second fixed21 children fixed16 size fixed4 part_type guid id1 id2 size2 hint tail = λ i. record {
  head = head i;
  kind = kind i;
  second = second i;
  fixed21 = fixed21 i;
  children = children i;
  fixed16 = fixed16 i;
  size = size i;
  fixed4 = fixed4 i;
  part_type = part_type i;
  guid = guid i;
  id1 = id1 i;
  id2 = id2 i;
  size2 = size2 i;
  hint = hint i;
  tail = tail i;
  kind_short = is_prop→PathP (λ j. length (kind j) ≤ 255) (λ j. le_prop) p.kind_short q.kind_short i;
  second_short = is_prop→PathP (λ j. length (second j) ≤ 255) (λ j. le_prop) p.second_short q.second_short i;
  id1_short = is_prop→PathP (λ j. length (unwrap_or (id1 j) []) ≤ 255) (λ j. le_prop) p.id1_short q.id1_short i;
  id2_short = is_prop→PathP (λ j. length (unwrap_or (id2 j) []) ≤ 255) (λ j. le_prop) p.id2_short q.id2_short i;
  hint_short = is_prop→PathP (λ j. length (unwrap_or (hint j) []) ≤ 255) (λ j. le_prop) p.hint_short q.hint_short i;
  id1_flagged = is_prop→PathP (λ j. is_some (id1 j) ≡ has_flag (head j).flags 0x08) (λ j. Bool-set _ _) p.id1_flagged q.id1_flagged i;
  id2_flagged = is_prop→PathP (λ j. is_some (id2 j) ≡ has_flag (head j).flags 0x20) (λ j. Bool-set _ _) p.id2_flagged q.id2_flagged i;
  size2_flagged = is_prop→PathP (λ j. is_some (size2 j) ≡ has_flag (head j).flags 0x80) (λ j. Bool-set _ _) p.size2_flagged q.size2_flagged i;
  hint_flagged = is_prop→PathP (λ j. is_some (hint j) ≡ has_flag (head j).flags 0x02) (λ j. Bool-set _ _) p.hint_flagged q.hint_flagged i;
  short = is_prop→PathP (λ j. values_len (volume_values (head j).id (head j).name (kind j) (second j) (fixed21 j) (children j) (fixed16 j) (size j) (fixed4 j) (part_type j) (guid j) (id1 j) (id2 j) (size2 j) (hint j)) + length (tail j) < 2 ^ 32) (λ j. le_prop) p.short q.short i;
}

same_component : (p q : Component) → p.head ≡ q.head → p.state ≡ q.state → p.layout ≡ q.layout → p.fixed4 ≡ q.fixed4 → p.children ≡ q.children
    → p.fixed16 ≡ q.fixed16 → p.parent ≡ q.parent → p.fixed1 ≡ q.fixed1 → p.striping ≡ q.striping → p.tail ≡ q.tail → p ≡ q
same_component p q head state layout fixed4 children fixed16 parent fixed1 striping tail = λ i. record {
  head = head i;
  state = state i;
  layout = layout i;
  fixed4 = fixed4 i;
  children = children i;
  fixed16 = fixed16 i;
  parent = parent i;
  fixed1 = fixed1 i;
  striping = striping i;
  tail = tail i;
  state_short = is_prop→PathP (λ j. length (state j) ≤ 255) (λ j. le_prop) p.state_short q.state_short i;
  flagged = is_prop→PathP (λ j. is_some (striping j) ≡ has_flag (head j).flags 0x10) (λ j. Bool-set _ _) p.flagged q.flagged i;
  short = is_prop→PathP (λ j. values_len (component_values (head j).id (head j).name (state j) (layout j) (fixed4 j) (children j) (fixed16 j) (parent j) (fixed1 j) (chunk_value (striping j)) (columns_value (striping j))) + length (tail j) < 2 ^ 32) (λ j. le_prop) p.short q.short i;
}

same_partition : (p q : Partition) → p.head ≡ q.head → p.fixed12 ≡ q.fixed12 → p.start ≡ q.start → p.offset ≡ q.offset → p.size ≡ q.size
    → p.parent ≡ q.parent → p.disk ≡ q.disk → p.index ≡ q.index → p.tail ≡ q.tail → p ≡ q
same_partition p q head fixed12 start offset size parent disk index tail = λ i. record {
  head = head i;
  fixed12 = fixed12 i;
  start = start i;
  offset = offset i;
  size = size i;
  parent = parent i;
  disk = disk i;
  index = index i;
  tail = tail i;
  flagged = is_prop→PathP (λ j. is_some (index j) ≡ has_flag (head j).flags 0x08) (λ j. Bool-set _ _) p.flagged q.flagged i;
  short = is_prop→PathP (λ j. values_len (partition_values (head j).id (head j).name (fixed12 j) (start j) (offset j) (size j) (parent j) (disk j) (index j)) + length (tail j) < 2 ^ 32) (λ j. le_prop) p.short q.short i;
}

same_disk : (p q : Disk) → p.head ≡ q.head → p.guid ≡ q.guid → p.form ≡ q.form → p.tail ≡ q.tail → p ≡ q
same_disk p q head guid form tail = λ i. record {
  head = head i;
  guid = guid i;
  form = form i;
  tail = tail i;
  alt_short = is_prop→PathP (λ j. length (alt_of (form j)) ≤ 255) (λ j. le_prop) p.alt_short q.alt_short i;
  short = is_prop→PathP (λ j. values_len (disk_values (head j).id (head j).name (guid j) (form j)) + length (tail j) < 2 ^ 32) (λ j. le_prop) p.short q.short i;
}

same_group : (p q : GroupRec) → p.head ≡ q.head → p.form ≡ q.form → p.ids ≡ q.ids → p.tail ≡ q.tail → p ≡ q
same_group p q head form ids tail = λ i. record {
  head = head i;
  form = form i;
  ids = ids i;
  tail = tail i;
  guid_short = is_prop→PathP (λ j. length (guid_text_of (form j)) ≤ 255) (λ j. le_prop) p.guid_short q.guid_short i;
  flagged = is_prop→PathP (λ j. is_some (ids j) ≡ has_flag (head j).flags 0x08) (λ j. Bool-set _ _) p.flagged q.flagged i;
  short = is_prop→PathP (λ j. values_len (group_values (head j).id (head j).name (form j) (first_value (ids j)) (second_value (ids j))) + length (tail j) < 2 ^ 32) (λ j. le_prop) p.short q.short i;
}

-- ---- from equal values to equal fields

pub one_volume : (p q : Volume) → plain_volume p ≡ plain_volume q → p ≡ q
one_volume p q e =
    let fields = ap (λ (x : Plain). x.fields) e in
    let id : p.head.id ≡ q.head.id = cc in
    let name : p.head.name ≡ q.head.name = cc in
    let kind : p.kind ≡ q.kind = cc in
    let second : p.second ≡ q.second = cc in
    let fixed21 : p.fixed21 ≡ q.fixed21 = cc in
    let children : p.children ≡ q.children = cc in
    let fixed16 : p.fixed16 ≡ q.fixed16 = cc in
    let size : p.size ≡ q.size = cc in
    let fixed4 : p.fixed4 ≡ q.fixed4 = cc in
    let part_type : p.part_type ≡ q.part_type = cc in
    let guid : p.guid ≡ q.guid = cc in
    let id1 : text_option p.id1 ≡ text_option q.id1 = cc in
    let id2 : text_option p.id2 ≡ text_option q.id2 = cc in
    let size2 : number_option p.size2 ≡ number_option q.size2 = cc in
    let hint : text_option p.hint ≡ text_option q.hint = cc in
    let head = same_head p.head q.head (ap (λ (x : Plain). x.mark) e) (ap (λ (x : Plain). x.flags) e) id name in
    same_volume p q head kind second fixed21 children fixed16 size fixed4 part_type guid
    (one_text p.id1 q.id1 id1) (one_text p.id2 q.id2 id2) (one_number p.size2 q.size2 size2) (one_text p.hint q.hint hint) (ap (λ (x : Plain). x.tail) e)

pub one_component : (p q : Component) → plain_component p ≡ plain_component q → p ≡ q
one_component p q e =
    let fields = ap (λ (x : Plain). x.fields) e in
    let id : p.head.id ≡ q.head.id = cc in
    let name : p.head.name ≡ q.head.name = cc in
    let state : p.state ≡ q.state = cc in
    let layout : p.layout ≡ q.layout = cc in
    let fixed4 : p.fixed4 ≡ q.fixed4 = cc in
    let children : p.children ≡ q.children = cc in
    let fixed16 : p.fixed16 ≡ q.fixed16 = cc in
    let parent : p.parent ≡ q.parent = cc in
    let fixed1 : p.fixed1 ≡ q.fixed1 = cc in
    let chunk : chunk_value p.striping ≡ chunk_value q.striping = cc in
    let columns : columns_value p.striping ≡ columns_value q.striping = cc in
    let head = same_head p.head q.head (ap (λ (x : Plain). x.mark) e) (ap (λ (x : Plain). x.flags) e) id name in
    same_component p q head state layout fixed4 children fixed16 parent fixed1 (one_striping p.striping q.striping chunk columns) (ap (λ (x : Plain). x.tail) e)

one_partition : (p q : Partition) → plain_partition p ≡ plain_partition q → p ≡ q
one_partition p q e =
    let fields = ap (λ (x : Plain). x.fields) e in
    let id : p.head.id ≡ q.head.id = cc in
    let name : p.head.name ≡ q.head.name = cc in
    let fixed12 : p.fixed12 ≡ q.fixed12 = cc in
    let start : p.start ≡ q.start = cc in
    let offset : p.offset ≡ q.offset = cc in
    let size : p.size ≡ q.size = cc in
    let parent : p.parent ≡ q.parent = cc in
    let disk : p.disk ≡ q.disk = cc in
    let index : number_option p.index ≡ number_option q.index = cc in
    let head = same_head p.head q.head (ap (λ (x : Plain). x.mark) e) (ap (λ (x : Plain). x.flags) e) id name in
    same_partition p q head fixed12 start offset size parent disk (one_number p.index q.index index) (ap (λ (x : Plain). x.tail) e)

disk_fields : (i j : ℕ) (m n : List ℕ) (g h : ℕ) (e f : DiskForm) → disk_values i m g e ≡ disk_values j n h f → (i ≡ j) × (m ≡ n) × (g ≡ h) × (e ≡ f)
disk_fields i j m n g h (disks.V3 a b) (disks.V3 c d) same = (cc, cc, cc, cc)
disk_fields i j m n g h (disks.V3 a b) (disks.V4 d) same = absurd cc
disk_fields i j m n g h (disks.V4 b) (disks.V3 c d) same = absurd cc
disk_fields i j m n g h (disks.V4 b) (disks.V4 d) same = (cc, cc, cc, cc)

one_disk : (p q : Disk) → plain_disk p ≡ plain_disk q → p ≡ q
one_disk p q e =
    let f = disk_fields p.head.id q.head.id p.head.name q.head.name p.guid q.guid p.form q.form (ap (λ (x : Plain). x.fields) e) in
    let head = same_head p.head q.head (ap (λ (x : Plain). x.mark) e) (ap (λ (x : Plain). x.flags) e) f.0 f.1 in
    same_disk p q head f.2 f.3 (ap (λ (x : Plain). x.tail) e)

group_fields : (i j : ℕ) (m n : List ℕ) (e f : GroupForm) (s t u v : Value) → group_values i m e s u ≡ group_values j n f t v → (i ≡ j) × (m ≡ n) × (e ≡ f) × (s ≡ t) × (u ≡ v)
group_fields i j m n (groups.V3 a b) (groups.V3 c d) s t u v same = (cc, cc, cc, cc, cc)
group_fields i j m n (groups.V3 a b) (groups.V4 d) s t u v same = absurd cc
group_fields i j m n (groups.V4 b) (groups.V3 c d) s t u v same = absurd cc
group_fields i j m n (groups.V4 b) (groups.V4 d) s t u v same = (cc, cc, cc, cc, cc)

one_group : (p q : GroupRec) → plain_group p ≡ plain_group q → p ≡ q
one_group p q e =
    let f = group_fields p.head.id q.head.id p.head.name q.head.name p.form q.form (first_value p.ids) (first_value q.ids) (second_value p.ids) (second_value q.ids) (ap (λ (x : Plain). x.fields) e) in
    let head = same_head p.head q.head (ap (λ (x : Plain). x.mark) e) (ap (λ (x : Plain). x.flags) e) f.0 f.1 in
    same_group p q head f.2 (one_pair p.ids q.ids f.3 f.4) (ap (λ (x : Plain). x.tail) e)

-- ---- the type bytes of the variants are apart

abbrev variant : Record → ℕ
variant (kinds.Volume v) = 0
variant (kinds.Component c) = 1
variant (kinds.Partition p) = 2
variant (kinds.Disk d) = 3
variant (kinds.Group g) = 4

-- the variant of a type byte
abbrev variant_of : ℕ → ℕ
variant_of type =
    if type == 0x51 then 0
    else if type == 0x32 then 1
    else if type == 0x33 then 2
    else if (type == 0x34) || (type == 0x44) then 3
    else 4

disk_variant : (f : DiskForm) → variant_of (disk_type f) ≡ 3
disk_variant (disks.V3 a b) = refl
disk_variant (disks.V4 b) = refl

group_variant : (f : GroupForm) → variant_of (group_type f) ≡ 4
group_variant (groups.V3 a b) = refl
group_variant (groups.V4 b) = refl

same_variant : (r : Record) → variant_of (plain_of r).type ≡ variant r
same_variant (kinds.Volume v) = refl
same_variant (kinds.Component c) = refl
same_variant (kinds.Partition p) = refl
same_variant (kinds.Disk d) = disk_variant d.form
same_variant (kinds.Group g) = group_variant g.form

pub one_record : (r s : Record) → plain_of r ≡ plain_of s → r ≡ s
one_record (kinds.Volume p) (kinds.Volume q) e = let same = one_volume p q e in λ i. kinds.Volume (same i)
one_record (kinds.Component p) (kinds.Component q) e = let same = one_component p q e in λ i. kinds.Component (same i)
one_record (kinds.Partition p) (kinds.Partition q) e = let same = one_partition p q e in λ i. kinds.Partition (same i)
one_record (kinds.Disk p) (kinds.Disk q) e = let same = one_disk p q e in λ i. kinds.Disk (same i)
one_record (kinds.Group p) (kinds.Group q) e = let same = one_group p q e in λ i. kinds.Group (same i)
one_record r s e =
    let same : variant r ≡ variant s = sym (same_variant r) ∙ ap (λ (p : Plain). variant_of p.type) e ∙ same_variant s in
    absurd (omega arith)
