-- The records of the code are records.
use Rattle.std.proofs.Common.{◌≡◌, ℕ, List, [], ◌≤◌, ◌^◌, ◌<◌, Bool, true, false, length, Option, Some, None, refl, arith}
use Rattle.std.specs.Prelude.{IfSome, is_some, unwrap_or}
use Rattle.ldm_records.specs.declared.pieces.Striping.{Striping}
use Rattle.ldm_records.specs.declared.pieces.TwoIds.{TwoIds}
use Rattle.ldm_records.specs.declared.pieces.DiskForm.{DiskForm}
use Rattle.ldm_records.specs.declared.pieces.DiskForm.TheVariants as disks
use Rattle.ldm_records.specs.declared.pieces.GroupForm.{GroupForm}
use Rattle.ldm_records.specs.declared.pieces.GroupForm.TheVariants as groups
use Rattle.ldm_records.specs.declared.types.Volume.{Volume}
use Rattle.ldm_records.specs.declared.types.Component.{Component}
use Rattle.ldm_records.specs.declared.types.Partition.{Partition}
use Rattle.ldm_records.specs.declared.types.Disk.{Disk}
use Rattle.ldm_records.specs.declared.types.GroupRec.{GroupRec}
use Rattle.ldm_records.specs.Values.{Value, FieldKind, NumberKind, TextKind, When, HasKind, HasKinds}
use Rattle.ldm_records.specs.Table.{kinds_of, volume_kinds, component_kinds, partition_kinds, disk3_kinds, disk4_kinds, group3_kinds, group4_kinds, has_flag}
use Rattle.ldm_records.specs.Fields.{number_option, text_option}
use Rattle.ldm_records.specs.Forms.{chunk_value, columns_value, first_value, second_value, disk_type, alt_of, disk_values, group_type, guid_text_of, group_values}
use Rattle.ldm_records.specs.Plain.{IsRecord}
use Rattle.ldm_records.specs.Views.{plain_volume, plain_component, plain_partition, plain_disk, plain_group}
use Rattle.ldm_records.proofs.PlainLaws.{own_body_len}

number_when : (b : Bool) (o : Option ℕ) → is_some o ≡ b → IfSome o (λ v. v < 2 ^ 64) → HasKind (When b NumberKind) (number_option o)
number_when true (Some v) e h = h
number_when true None e h = absurd cc
number_when false (Some v) e h = absurd cc
number_when false None e h = tt

text_when : (b : Bool) (o : Option (List ℕ)) → is_some o ≡ b → length (unwrap_or o []) ≤ 255 → HasKind (When b TextKind) (text_option o)
text_when true (Some t) e h = h
text_when true None e h = absurd cc
text_when false (Some t) e h = absurd cc
text_when false None e h = tt

striping_when : (b : Bool) (o : Option Striping) → is_some o ≡ b → IfSome o (λ s. (s.chunk < 2 ^ 64) × (s.columns < 2 ^ 64))
    → HasKind (When b NumberKind) (chunk_value o) × HasKind (When b NumberKind) (columns_value o)
striping_when true (Some s) e h = h
striping_when true None e h = absurd cc
striping_when false (Some s) e h = absurd cc
striping_when false None e h = (tt, tt)

ids_when : (b : Bool) (o : Option TwoIds) → is_some o ≡ b → HasKind (When b TextKind) (first_value o) × HasKind (When b TextKind) (second_value o)
ids_when true (Some ids) e = (ids.first_short, ids.second_short)
ids_when true None e = absurd cc
ids_when false (Some ids) e = absurd cc
ids_when false None e = (tt, tt)

pub volume_sound : (v : Volume) → v.head.mark < 2 ^ 16 → v.head.id < 2 ^ 64 → length v.fixed21 ≡ 21 → v.children < 2 ^ 64 → length v.fixed16 ≡ 16
    → v.size < 2 ^ 64 → length v.fixed4 ≡ 4 → length v.guid ≡ 16 → IfSome v.size2 (λ v. v < 2 ^ 64) → IsRecord (plain_volume v)
volume_sound v mark id fixed21 children fixed16 size fixed4 guid size2 = record {
  mark = mark;
  kinds = volume_kinds v.head.flags;
  known = refl;
  fields = (
    id,
    (
      v.head.name_short,
      (
        v.kind_short,
        (
          v.second_short,
          (
            fixed21,
            (
              children,
              (
                fixed16,
                (
                  size,
                  (
                    fixed4,
                    (
                      refl,
                      (
                        guid,
                        (
                          text_when _ v.id1 v.id1_flagged v.id1_short,
                          (
                            text_when _ v.id2 v.id2_flagged v.id2_short,
                            (
                              number_when _ v.size2 v.size2_flagged size2,
                              (text_when _ v.hint v.hint_flagged v.hint_short, tt),
                            ),
                          ),
                        ),
                      ),
                    ),
                  ),
                ),
              ),
            ),
          ),
        ),
      ),
    ),
  );
  short = omega (arith, own_body_len (plain_volume v), v.short);
}

pub component_sound : (c : Component) → c.head.mark < 2 ^ 16 → c.head.id < 2 ^ 64 → length c.fixed4 ≡ 4 → c.children < 2 ^ 64 → length c.fixed16 ≡ 16
    → c.parent < 2 ^ 64 → IfSome c.striping (λ s. (s.chunk < 2 ^ 64) × (s.columns < 2 ^ 64)) → IsRecord (plain_component c)
component_sound c mark id fixed4 children fixed16 parent striping =
    let s = striping_when _ c.striping c.flagged striping in
    record {
      mark = mark;
      kinds = component_kinds c.head.flags;
      known = refl;
      fields = (id, (c.head.name_short, (c.state_short, (refl, (fixed4, (children, (fixed16, (parent, (refl, (s.0, (s.1, tt)))))))))));
      short = omega (arith, own_body_len (plain_component c), c.short);
    }

pub partition_sound : (p : Partition) → p.head.mark < 2 ^ 16 → p.head.id < 2 ^ 64 → length p.fixed12 ≡ 12 → p.start < 2 ^ 64 → p.offset < 2 ^ 64
    → p.size < 2 ^ 64 → p.parent < 2 ^ 64 → p.disk < 2 ^ 64 → IfSome p.index (λ v. v < 2 ^ 64) → IsRecord (plain_partition p)
partition_sound p mark id fixed12 start offset size parent disk index = record {
  mark = mark;
  kinds = partition_kinds p.head.flags;
  known = refl;
  fields = (id, (p.head.name_short, (fixed12, ((refl, start), ((refl, offset), (size, (parent, (disk, (number_when _ p.index p.flagged index, tt)))))))));
  short = omega (arith, own_body_len (plain_partition p), p.short);
}

-- a form's fixed bytes are as many as they should be
abbrev pub DiskFits : DiskForm → Type 0
DiskFits (disks.V3 alt fixed12) = length fixed12 ≡ 12
DiskFits (disks.V4 fixed29) = length fixed29 ≡ 29

abbrev pub GroupFits : GroupForm → Type 0
GroupFits (groups.V3 guid fixed12) = length fixed12 ≡ 12
GroupFits (groups.V4 fixed44) = length fixed44 ≡ 44

disk_kinds : DiskForm → List FieldKind
disk_kinds (disks.V3 alt fixed12) = disk3_kinds
disk_kinds (disks.V4 fixed29) = disk4_kinds

disk_known : (f : DiskForm) (flags : ℕ) → kinds_of (disk_type f) flags ≡ Some (disk_kinds f)
unfolding disk_kinds
disk_known (disks.V3 alt fixed12) flags = refl
disk_known (disks.V4 fixed29) flags = refl

disk_fields : (f : DiskForm) (id : ℕ) (name : List ℕ) (guid : ℕ) → id < 2 ^ 64 → length name ≤ 255 → guid < 2 ^ 128 → length (alt_of f) ≤ 255 → DiskFits f → HasKinds (disk_kinds f) (disk_values id name guid f)
unfolding disk_kinds
disk_fields (disks.V3 alt fixed12) id name guid i n g a h = (i, (n, (g, (a, (h, tt)))))
disk_fields (disks.V4 fixed29) id name guid i n g a h = (i, (n, ((refl, g), (h, tt))))

pub disk_sound : (d : Disk) → d.head.mark < 2 ^ 16 → d.head.id < 2 ^ 64 → d.guid < 2 ^ 128 → DiskFits d.form → IsRecord (plain_disk d)
disk_sound d mark id guid fits = record {
  mark = mark;
  kinds = disk_kinds d.form;
  known = disk_known d.form d.head.flags;
  fields = disk_fields d.form d.head.id d.head.name d.guid id d.head.name_short guid d.alt_short fits;
  short = omega (arith, own_body_len (plain_disk d), d.short);
}

group_kinds : GroupForm → ℕ → List FieldKind
group_kinds (groups.V3 guid fixed12) flags = group3_kinds flags
group_kinds (groups.V4 fixed44) flags = group4_kinds flags

group_known : (f : GroupForm) (flags : ℕ) → kinds_of (group_type f) flags ≡ Some (group_kinds f flags)
unfolding group_kinds
group_known (groups.V3 guid fixed12) flags = refl
group_known (groups.V4 fixed44) flags = refl

group_fields : (f : GroupForm) (id : ℕ) (name : List ℕ) (flags : ℕ) (first second : Value) → id < 2 ^ 64 → length name ≤ 255 → length (guid_text_of f) ≤ 255 → GroupFits f
    → HasKind (When (has_flag flags 0x08) TextKind) first → HasKind (When (has_flag flags 0x08) TextKind) second → HasKinds (group_kinds f flags) (group_values id name f first second)
unfolding group_kinds
group_fields (groups.V3 guid fixed12) id name flags first second i n g h a b = (i, (n, (g, (h, (a, (b, tt))))))
group_fields (groups.V4 fixed44) id name flags first second i n g h a b = (i, (n, (h, (a, (b, tt)))))

pub group_sound : (g : GroupRec) → g.head.mark < 2 ^ 16 → g.head.id < 2 ^ 64 → GroupFits g.form → IsRecord (plain_group g)
group_sound g mark id fits =
    let ids = ids_when _ g.ids g.flagged in
    record {
      mark = mark;
      kinds = group_kinds g.form g.head.flags;
      known = group_known g.form g.head.flags;
      fields = group_fields g.form g.head.id g.head.name g.head.flags (first_value g.ids) (second_value g.ids) id g.head.name_short g.guid_short fits ids.0 ids.1;
      short = omega (arith, own_body_len (plain_group g), g.short);
    }
