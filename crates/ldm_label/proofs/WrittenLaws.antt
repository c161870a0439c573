-- What the written sectors of a label say, that an image which has them reads as the label, and where they are put.
use Rattle.std.proofs.Common.{◌≡◌, inl, inr, ℕ, ◌+◌, ◌^◌, ◌<◌, ◌≤◌, true, false, List, [], ◌∷◌, length, get_or, ◌||◌, replicate, slice_range, Some, Ok, refl, sym, ◌∙◌, ap, arith, ◌≢◌, ◌⊎◌, ◌*◌, ◌/◌, subst}
use Rattle.std.specs.Prelude.{nat_eq}
use Rattle.std.proofs.lemmas.Bool.Decides.{nat_tests}
use Rattle.ldm_bytes.specs.Guid.{guid_of, own_guid}
use Rattle.ldm_bytes.specs.Places.{u16_at, u64_at, put_each}
use Rattle.ldm_bytes.proofs.GuidLaws.{own_guid-len, guid_again}
use Rattle.ldm_label.specs.declared.Style.{Style}
use Rattle.ldm_label.specs.declared.table.Table.{Table}
use Rattle.ldm_label.specs.declared.toc.Toc.{Toc}
use Rattle.ldm_label.specs.declared.Label.{Label}
use Rattle.ldm_label.specs.Answer.{answer}
use Rattle.ldm_label.specs.Fields.{sectors_of, sector, has_signature, has_ldm_entry, is_out_of_mbr, is_out_of_range, is_privhead, has_version, config_size, disk_guid, header_of, same_header, parses, toc_of, is_out_of_database}
use Rattle.ldm_label.specs.LabelOf.{label_of, label_from, mbr_faults, style_of, table_faults, disk_table, header_faults, differs, copy_faults, tocs_in, some_differ, first_toc, toc_faults, Fits, SameOutsideArea}
use Rattle.ldm_label.specs.GoodCopies.{header_values}
use Rattle.ldm_label.specs.Written.{header_fields, toc_fields, written_mbr, written_header, written_toc, HasLabel, IsKnownMinor, IsWritable, written_sectors, IsOutsideLabel, SameOutsideLabel}
use Rattle.ldm_label.proofs.ReadLaws.{front_ok, label_is, same_itself}
use Rattle.ldm_bytes.proofs.PutLaws.{InOrder, length-put_each, field_there, number_there, AllMiss, outside_each}
use Rattle.std.proofs.lemmas.Bool.{cases_lt}
use Rattle.ldm_label.specs.declared.writing.LabelSectors.{LabelSectors}
use Rattle.ldm_label.specs.Laws.{IsClearOfLabel}
use Rattle.ldm_label.proofs.OkLaws.{same_sector}

-- ---- What the written sectors of a label say, and that an image that has them reads as the label.

abbrev pub toc_values : Label → Toc
toc_values label = record {
  area_start = label.area_start;
  area_sectors = label.area_sectors;
  log_start = label.log_start;
  log_sectors = label.log_sectors;
}

abbrev none : ℕ × List ℕ
none = (0, [])

abbrev zeros : List ℕ
zeros = replicate 512 0

-- ---- the MBR

mbr_good : answer {A = Unit {0}} (mbr_faults written_mbr) tt ≡ Ok tt
unfolding mbr_faults has_signature has_ldm_entry written_mbr put_each
mbr_good = refl

mbr_style : style_of written_mbr ≡ Style.Mbr
unfolding has_ldm_entry written_mbr put_each
mbr_style = refl

-- ---- the sectors are whole

header_in_order : (label : Label) → InOrder 0 512 (header_fields label)
header_in_order label =
    let guid = own_guid-len label.disk_guid in
    (omega arith, (omega arith, (omega arith, (omega arith, (omega arith, (omega arith, (omega arith, (omega arith, omega arith))))))))

toc_in_order : (label : Label) → InOrder 0 512 (toc_fields label)
toc_in_order label = (omega arith, (omega arith, (omega arith, (omega arith, (omega arith, (omega arith, (omega arith, omega arith)))))))

pub length-mbr : length written_mbr ≡ 512
unfolding written_mbr put_each
length-mbr = refl

pub length-header : (label : Label) → length (written_header label) ≡ 512
unfolding written_header
length-header label = length-put_each zeros 0 (header_fields label) (header_in_order label)

pub length-toc : (label : Label) → length (written_toc label) ≡ 512
unfolding written_toc
length-toc label = length-put_each zeros 0 (toc_fields label) (toc_in_order label)

-- ---- the private header

header_field : (label : Label) (i : ℕ) → i < 8
    → let field = get_or (header_fields label) i none in slice_range (written_header label) field.0 (field.0 + length field.1) ≡ field.1
unfolding written_header
header_field label i lt = field_there zeros 0 (header_fields label) i none lt (header_in_order label)

header_magic : (label : Label) → is_privhead (written_header label) ≡ true
unfolding is_privhead
header_magic label = rw (header_field label 0 (omega arith)) refl

header_major : (label : Label) → u16_at (written_header label) 0x0C ≡ 2
header_major label = number_there (written_header label) 0x0C 2 2 (omega arith) (header_field label 1 (omega arith))

header_size : (label : Label) → config_size (written_header label) ≡ 2048
header_size label = number_there (written_header label) 0x133 8 2048 (omega arith) (header_field label 7 (omega arith))

header_guid : (label : Label) → label.disk_guid < 2 ^ 128 → disk_guid (written_header label) ≡ Some label.disk_guid
header_guid label small =
    let there = header_field label 3 (omega arith) in
    let whole : slice_range (written_header label) 0x30 0x54 ≡ own_guid label.disk_guid = ap (λ (n : ℕ). slice_range (written_header label) 0x30 (0x30 + n)) (sym (own_guid-len label.disk_guid)) ∙ there in
    ap guid_of whole ∙ guid_again label.disk_guid small

-- the fields of the sectors have room for the numbers of the label
pub record HasRoom (label : Label) : Type 0 where
  pub minor : IsKnownMinor label.minor
  pub guid : label.disk_guid < 2 ^ 128
  pub start : label.data_start < 2 ^ 64
  pub size : label.data_size < 2 ^ 64
  pub config : label.config_start < 2 ^ 64

has_room : (label : Label) (n : ℕ) → Fits label n → IsWritable label → HasRoom label
has_room label n fits writable = let before = fits.before writable.style in let config = writable.start in
    record { minor = writable.minor; guid = writable.guid; start = omega arith; size = omega arith; config = config }

mbr_range : (label : Label) (n : ℕ) → Fits label n → IsWritable label → is_out_of_mbr (header_values label) n ≡ false
unfolding is_out_of_mbr
mbr_range label n fits writable = let before = fits.before writable.style in grind (arith, nat_tests)

module _ (label : Label) (n : ℕ) (table : Table) (fits : Fits label n) (writable : HasRoom label) (range : is_out_of_range (header_values label) table n ≡ false) where
  small_minor : label.minor < 256 ^ 2
  small_minor = elim writable.minor [ inl is ↦ omega arith | inr is ↦ omega arith ]

  header_minor : u16_at (written_header label) 0x0E ≡ label.minor
  header_minor = number_there (written_header label) 0x0E 2 label.minor small_minor (header_field label 2 (omega arith))

  header_is : header_of (written_header label) ≡ header_values label
  header_is =
      let guid = header_guid label writable.guid in
      let start : u64_at (written_header label) 0x11B ≡ label.data_start = number_there (written_header label) 0x11B 8 label.data_start (omega (arith, writable.start)) (header_field label 4 (omega arith)) in
      let size : u64_at (written_header label) 0x123 ≡ label.data_size = number_there (written_header label) 0x123 8 label.data_size (omega (arith, writable.size)) (header_field label 5 (omega arith)) in
      let config : u64_at (written_header label) 0x12B ≡ label.config_start = number_there (written_header label) 0x12B 8 label.config_start (omega (arith, writable.config)) (header_field label 6 (omega arith)) in
      rw (guid, header_minor, start, size, config) refl

  known : (minor : ℕ) → IsKnownMinor minor → (nat_eq minor 11 || nat_eq minor 12) ≡ true
  known minor is = grind (arith, nat_tests)

  header_version : has_version (written_header label) ≡ true
  unfolding has_version
  header_version = rw (header_major label, header_minor) (known label.minor writable.minor)

  pub header_good : answer (header_faults (written_header label) table n) (header_of (written_header label)) ≡ Ok (header_values label)
  unfolding header_faults
  header_good = rw (header_magic label, header_version, header_size label, header_is, range, header_guid label writable.guid) refl

  -- ---- its copies

  same_values : same_header (header_values label) (header_values label) ≡ true
  unfolding same_header
  same_values = grind (arith, nat_tests)

  pub copy_agrees : differs (header_values label) (written_header label) table n ≡ false
  unfolding differs
  copy_agrees = rw (header_good, header_is, same_values) refl

  -- ---- the table of contents

  toc_field : (i : ℕ) → i < 7
      → let field = get_or (toc_fields label) i none in slice_range (written_toc label) field.0 (field.0 + length field.1) ≡ field.1
  unfolding written_toc
  toc_field i lt = field_there zeros 0 (toc_fields label) i none lt (toc_in_order label)

  toc_parses : parses (written_toc label) ≡ true
  unfolding parses
  toc_parses = rw (toc_field 0 (omega arith), toc_field 1 (omega arith), toc_field 4 (omega arith)) refl

  pub toc_is : toc_of (written_toc label) ≡ Some (toc_values label)
  toc_is =
      let start : u64_at (written_toc label) 0x2E ≡ label.area_start = number_there (written_toc label) 0x2E 8 label.area_start (omega arith) (toc_field 2 (omega arith)) in
      let size : u64_at (written_toc label) 0x36 ≡ label.area_sectors = number_there (written_toc label) 0x36 8 label.area_sectors (omega arith) (toc_field 3 (omega arith)) in
      let log : u64_at (written_toc label) 0x50 ≡ label.log_start = number_there (written_toc label) 0x50 8 label.log_start (omega arith) (toc_field 5 (omega arith)) in
      let sectors : u64_at (written_toc label) 0x58 ≡ label.log_sectors = number_there (written_toc label) 0x58 8 label.log_sectors (omega arith) (toc_field 6 (omega arith)) in
      rw (toc_parses, start, size, log, sectors) refl

  in_database : is_out_of_database (toc_values label) ≡ false
  unfolding is_out_of_database
  in_database = grind (arith, nat_tests)

  unfoldable pub four : List Toc
  four = toc_values label ∷ toc_values label ∷ toc_values label ∷ toc_values label ∷ []

  four_agree : some_differ four ≡ false
  unfolding some_differ four
  four_agree = rw (same_itself (toc_values label)) refl

  pub four_good : answer (toc_faults four) (first_toc four) ≡ Ok (toc_values label)
  unfolding toc_faults four
  four_good = let agree = four_agree in rw (agree, in_database) refl

-- ---- an image

module _ (label : Label) (image : List ℕ) (has : HasLabel label image) (fits : Fits label (sectors_of image)) (writable : IsWritable label) where
  room : HasRoom label
  room = has_room label (sectors_of image) fits writable

  range : is_out_of_range (header_values label) Table.Mbr (sectors_of image) ≡ false
  range = mbr_range label (sectors_of image) fits writable

  long : 7 ≤ sectors_of image
  long = omega (arith, fits.inside)

  table : (answer (table_faults image) (disk_table image) ≡ Ok Table.Mbr) × (disk_table image ≡ Table.Mbr)
  unfolding table_faults disk_table
  table = rw (has.mbr, mbr_style) (front_ok (mbr_faults written_mbr) [] tt tt Table.Mbr mbr_good, refl)

  good : answer (header_faults (sector image 6) Table.Mbr (sectors_of image)) (header_of (sector image 6)) ≡ Ok (header_values label)
  good = rw has.header (header_good label (sectors_of image) Table.Mbr fits room range)

  agree : answer {A = Unit {0}} (copy_faults (header_values label) Table.Mbr image) tt ≡ Ok tt
  unfolding copy_faults
  agree = rw (has.header_2, has.header_3, copy_agrees label (sectors_of image) Table.Mbr fits room range) refl

  tocs : tocs_in label.config_start image ≡ four label (sectors_of image) Table.Mbr fits room range
  unfolding tocs_in four
  tocs = rw (has.toc_1, has.toc_2, has.toc_3, has.toc_4, toc_is label (sectors_of image) Table.Mbr fits room range) refl

  contents : answer (toc_faults (tocs_in label.config_start image)) (first_toc (tocs_in label.config_start image)) ≡ Ok (toc_values label)
  contents = rw (tocs) (four_good label (sectors_of image) Table.Mbr fits room range)

  pub label_reads : label_of image ≡ Ok label
  label_reads = label_is image long Table.Mbr table.0 (header_values label) good agree (toc_values label) contents
      ∙ ap (λ (style : Style). Ok (label_from style (header_values label) (toc_values label))) (sym writable.style)

-- ---- An image to which the eight sectors of a label were written.

-- the sectors with their places, in bytes
abbrev pub parts : LabelSectors → ℕ → List (ℕ × List ℕ)
parts sectors start =
    (512 * 0, sectors.mbr)
    ∷ (512 * 6, sectors.header)
    ∷ (512 * (start + 1), sectors.toc)
    ∷ (512 * (start + 2), sectors.toc)
    ∷ (512 * (start + 1856), sectors.header)
    ∷ (512 * (start + 2045), sectors.toc)
    ∷ (512 * (start + 2046), sectors.toc)
    ∷ (512 * (start + 2047), sectors.header)
    ∷ []

misses : (k a n : ℕ) → k / 512 ≢ a → n ≡ 512 → (k < 512 * a) ⊎ (512 * a + n ≤ k)
misses k a n other size =
    elim (cases_lt k (512 * a)) [
      | inl lt ↦ inl lt
      | inr ge ↦ elim (cases_lt k (512 * a + n)) [
        | inl lt ↦ absurd (other (omega arith))
        | inr behind ↦ inr behind
      ]
    ]

module _ (label : Label) (old new : List ℕ) (fits : Fits label (sectors_of old))
    (is : new ≡ put_each old (parts (written_sectors label) label.config_start)) where
  abbrev all : List (ℕ × List ℕ)
  all = parts (written_sectors label) label.config_start

  in_order : InOrder 0 (length old) all
  in_order =
      let mbr = length-mbr in
      let header = length-header label in
      let toc = length-toc label in
      let room = fits.room in
      let inside = fits.inside in
      (omega arith, (omega arith, (omega arith, (omega arith, (omega arith, (omega arith, (omega arith, (omega arith, omega arith))))))))

  part_there : (a : ℕ) (bytes : List ℕ) → length bytes ≡ 512
      → slice_range (put_each old all) (512 * a) (512 * a + length bytes) ≡ bytes → sector new a ≡ bytes
  part_there a bytes size there =
      ap (λ (l : List ℕ). sector l a) is ∙ ap (λ (n : ℕ). slice_range (put_each old all) (512 * a) (512 * a + n)) (sym size) ∙ there

  there : (i : ℕ) → i < 8 → let part = get_or all i (0, []) in slice_range (put_each old all) part.0 (part.0 + length part.1) ≡ part.1
  there i lt = field_there old 0 all i (0, []) lt in_order

  pub has_label : HasLabel label new
  has_label = record {
    mbr = part_there 0 written_mbr length-mbr (there 0 (omega arith));
    header = part_there 6 (written_header label) (length-header label) (there 1 (omega arith));
    toc_1 = part_there (label.config_start + 1) (written_toc label) (length-toc label) (there 2 (omega arith));
    toc_2 = part_there (label.config_start + 2) (written_toc label) (length-toc label) (there 3 (omega arith));
    header_2 = part_there (label.config_start + 1856) (written_header label) (length-header label) (there 4 (omega arith));
    toc_3 = part_there (label.config_start + 2045) (written_toc label) (length-toc label) (there 5 (omega arith));
    toc_4 = part_there (label.config_start + 2046) (written_toc label) (length-toc label) (there 6 (omega arith));
    header_3 = part_there (label.config_start + 2047) (written_header label) (length-header label) (there 7 (omega arith));
  }

  all_miss : (k : ℕ) → IsOutsideLabel label k → AllMiss k all
  all_miss k outside =
      let mbr = length-mbr in
      let header = length-header label in
      let toc = length-toc label in (
        misses k 0 _ (outside 0 0 (omega arith)) mbr,
        (
          misses k 6 _ (outside 1 0 (omega arith)) header,
          (
            misses k (label.config_start + 1) _ (outside 2 0 (omega arith)) toc,
            (
              misses k (label.config_start + 2) _ (outside 3 0 (omega arith)) toc,
              (
                misses k (label.config_start + 1856) _ (outside 4 0 (omega arith)) header,
                (
                  misses k (label.config_start + 2045) _ (outside 5 0 (omega arith)) toc,
                  (
                    misses k (label.config_start + 2046) _ (outside 6 0 (omega arith)) toc,
                    (misses k (label.config_start + 2047) _ (outside 7 0 (omega arith)) header, tt),
                  ),
                ),
              ),
            ),
          ),
        ),
      )

  size_stays : length new ≡ length old
  size_stays = ap (λ (l : List ℕ). length l) is ∙ length-put_each old 0 all in_order

  pub same_outside : SameOutsideLabel label old new
  same_outside = record {
    size = size_stays;
    outside = λ k outside. ap (λ (l : List ℕ). get_or l k 0) is ∙ outside_each old 0 all k in_order (all_miss k outside);
  }

  pub fits_new : Fits label (sectors_of new)
  fits_new = subst (λ (n : ℕ). Fits label (n / 512)) (sym size_stays) fits

-- An image that differs in the config area alone has the same sectors of the label.
pub label_sectors_stay : (label : Label) (old new : List ℕ) → HasLabel label old → 7 ≤ label.config_start → IsClearOfLabel label → SameOutsideArea label old new → HasLabel label new
label_sectors_stay label old new has room clear same =
    record {
      mbr = same_at 0 (inl (omega arith)) ∙ has.mbr;
      header = same_at 6 (inl (omega arith)) ∙ has.header;
      toc_1 = same_at (label.config_start + 1) (inl (omega (arith, clear.behind))) ∙ has.toc_1;
      toc_2 = same_at (label.config_start + 2) (inl (omega (arith, clear.behind))) ∙ has.toc_2;
      header_2 = same_at (label.config_start + 1856) (inr (omega (arith, clear.before))) ∙ has.header_2;
      toc_3 = same_at (label.config_start + 2045) (inr (omega (arith, clear.before))) ∙ has.toc_3;
      toc_4 = same_at (label.config_start + 2046) (inr (omega (arith, clear.before))) ∙ has.toc_4;
      header_3 = same_at (label.config_start + 2047) (inr (omega (arith, clear.before))) ∙ has.header_3;
    }
  where
    outside_area : (a k : ℕ) → (a < label.config_start + label.area_start) ⊎ (label.config_start + label.area_start + label.area_sectors ≤ a)
        → 512 * a ≤ k → k < 512 * a + 512 → (k < 512 * (label.config_start + label.area_start)) ⊎ (512 * (label.config_start + label.area_start + label.area_sectors) ≤ k)
    outside_area a k (inl lt) from to = inl (omega arith)
    outside_area a k (inr ge) from to = inr (omega arith)

    same_at : (a : ℕ) → (a < label.config_start + label.area_start) ⊎ (label.config_start + label.area_start + label.area_sectors ≤ a) → sector new a ≡ sector old a
    same_at a place = same_sector old new a same.size (λ k from to. same.outside k (outside_area a k place from to))
