-- The label of an image whose open copy is closed: no sector of it begins with the letter V, nor with a zero byte.
use Rattle.std.proofs.Common.{◌≡◌, ◌≢◌, inl, inr, ◌⊎◌, ℕ, ◌+◌, ◌*◌, ◌/◌, ◌<◌, ◌≤◌, List, [], ◌∷◌, ◌++◌, length, slice_index, slice_range, Bool, true, false, None, Result, Ok, refl, sym, ◌∙◌, ap, subst, arith}
use Rattle.std.specs.Prelude.{nat_lt, nat_eq, not, is_none, codes, bytes_eq}
use Rattle.std.proofs.lemmas.Bool.{cases_eq}
use Rattle.std.proofs.lemmas.Slice.Eq.{bytes_eq-Decides}
use Rattle.ldm_label.specs.declared.LabelFault.{LabelFault}
use Rattle.ldm_label.specs.declared.LabelFault.TheVariants.{Short, NoPrivhead, Version, DatabaseSize, Range, Guid}
use Rattle.ldm_label.specs.declared.Style.{Style}
use Rattle.ldm_label.specs.declared.table.Table.{Table}
use Rattle.ldm_label.specs.declared.gpt.GptBounds.{GptBounds}
use Rattle.ldm_label.specs.declared.header.PrivateHeader.{PrivateHeader}
use Rattle.ldm_label.specs.declared.toc.Toc.{Toc}
use Rattle.ldm_label.specs.declared.Label.{Label}
use Rattle.ldm_label.specs.Answer.{answer}
use Rattle.ldm_label.specs.Fields.{sectors_of, sector, is_privhead, has_version, config_size, disk_guid, is_out_of_range, header_of, toc_of, parses}
use Rattle.ldm_label.specs.LabelOf.{label_of, label_from, label_faults, style_of, styled_faults, styled_table, table_faults, disk_table, table_style, header_at, header_in, header_faults, copy_faults, differs, toc_faults, tocs_in, first_toc, Fits}
use Rattle.ldm_label.proofs.ReadLaws.{ok_value, both_ok}
use Rattle.ldm_label.proofs.GptLaws.{table_stays}
use Rattle.ldm_label.proofs.OkLaws.{same_sector, label_fits, style_good, ends_before}
use Rattle.ldm_view.proofs.LayLaws.{range_at}
use Rattle.ldm_copy.specs.Copy.{config_area, gate_at, IsOpen}
use Rattle.ldm_copy.proofs.AreaLaws.{gate_of}
use Rattle.ldm_repair.proofs.ShutLaws.{closed_view, gate_torn, gate_zero}

-- ---- sectors that begin with another letter

begins_with : (s : List ℕ) (text : List ℕ) → bytes_eq (slice_range s 0 8) text ≡ true → slice_index s 0 ≡ slice_index text 0
begins_with s text is =
    sym (range_at s 0 8 0 (omega arith)) ∙ ap (λ (l : List ℕ). slice_index l 0) ((bytes_eq-Decides (slice_range s 0 8) text).0 is)

-- such a sector is no private header
no_head : (s : List ℕ) → slice_index s 0 ≢ 0x50 → is_privhead s ≡ false
unfolding is_privhead
no_head s other = by_test (bytes_eq (slice_range s 0 8) (codes "PRIVHEAD")) refl
  where
    by_test : (b : Bool) → bytes_eq (slice_range s 0 8) (codes "PRIVHEAD") ≡ b → bytes_eq (slice_range s 0 8) (codes "PRIVHEAD") ≡ false
    by_test false is = is
    by_test true is = absurd (other (begins_with s (codes "PRIVHEAD") is))

-- such a sector is no table of contents
no_table : (s : List ℕ) → slice_index s 0 ≢ 0x54 → toc_of s ≡ None
unfolding parses
no_table s other = by_test (bytes_eq (slice_range s 0 8) (codes "TOCBLOCK")) refl
  where
    by_test : (b : Bool) → bytes_eq (slice_range s 0 8) (codes "TOCBLOCK") ≡ b → toc_of s ≡ None
    by_test false is = rw is refl
    by_test true is = absurd (other (begins_with s (codes "TOCBLOCK") is))

-- a private header begins with the letter P
head_letter : (s : List ℕ) → is_privhead s ≡ true → slice_index s 0 ≡ 0x50
unfolding is_privhead
head_letter s is = begins_with s (codes "PRIVHEAD") is

-- a copy of the private header that is such a sector differs from none
differs_not : (header : PrivateHeader) (s : List ℕ) (table : Table) (n : ℕ) → slice_index s 0 ≢ 0x50 → differs header s table n ≡ false
unfolding differs header_faults
differs_not header s table n other = rw (no_head s other) refl

-- ---- all that a label is read from

-- where a row of a fault comes first, the fault isn't there
first_absent : {A : Type 0} (fault : LabelFault) (b : Bool) (rows : List (LabelFault × Bool)) (a value : A) → answer ((fault, not b) ∷ rows) a ≡ Ok value → b ≡ true
first_absent fault true rows a value e = refl
first_absent fault false rows a value e = absurd (cc e)

-- a private header without a fault is one
head_is : {A : Type 0} (head : List ℕ) (table : Table) (n : ℕ) (a value : A) → answer (header_faults head table n) a ≡ Ok value → is_privhead head ≡ true
unfolding header_faults
head_is head table n a value e =
    first_absent NoPrivhead (is_privhead head)
    ((Version, not (has_version head)) ∷ (DatabaseSize, not (nat_eq (config_size head) 2048)) ∷ (Range, is_out_of_range (header_of head) table n) ∷ (Guid, is_none (disk_guid head)) ∷ [])
    a value e

whole : ℕ → List (LabelFault × Bool) → Table → List ℕ → List (LabelFault × Bool) → List Toc → Result Label LabelFault
whole n front table head copies tocs =
    answer ((Short, nat_lt n 7) ∷ front ++ header_faults head table n ++ copies ++ toc_faults tocs) (label_from (table_style table) (header_of head) (first_toc tocs))

label_whole : (image : List ℕ) → label_of image ≡ whole (sectors_of image) (table_faults image) (disk_table image) (sector image (header_at (disk_table image))) (copy_faults (header_in image) (disk_table image) image) (tocs_in (header_in image).config_start image)
unfolding label_of whole
label_whole image = refl

label_value : (image : List ℕ) (label : Label) → label_of image ≡ Ok label → label_from (table_style (disk_table image)) (header_in image) (first_toc (tocs_in (header_in image).config_start image)) ≡ label
unfolding label_of
label_value image label e = ok_value (label_faults image) (label_from (table_style (disk_table image)) (header_in image) (first_toc (tocs_in (header_in image).config_start image))) label e

alike_tables : (old new : List ℕ) → sector new 0 ≡ sector old 0 → styled_faults (style_of (sector old 0)) new ≡ styled_faults (style_of (sector old 0)) old
    → styled_table (style_of (sector old 0)) new ≡ styled_table (style_of (sector old 0)) old → (table_faults new ≡ table_faults old) × (disk_table new ≡ disk_table old)
unfolding table_faults disk_table
alike_tables old new first faults table = (rw (first, faults) refl, rw (first, table) refl)

alike_copies : (header : PrivateHeader) (table : Table) (old new : List ℕ)
    → ((a : ℕ) → differs header (sector new a) table (sectors_of new) ≡ differs header (sector old a) table (sectors_of old)) → copy_faults header table new ≡ copy_faults header table old
unfolding copy_faults
alike_copies header table old new same = rw (same (header.config_start + 1856), same (header.config_start + 2047)) refl

alike_tocs : (start : ℕ) (old new : List ℕ) → ((a : ℕ) → toc_of (sector new a) ≡ toc_of (sector old a)) → tocs_in start new ≡ tocs_in start old
unfolding tocs_in
alike_tocs start old new same = rw (same (start + 1), same (start + 2), same (start + 2045), same (start + 2046)) refl

-- ---- the gate is closed

module _ (label : Label) (old : List ℕ) (is : label_of old ≡ Ok label) (open_is : IsOpen (config_area label old)) where
  abbrev new : List ℕ
  new = closed_view label old

  fits : Fits label (sectors_of old)
  fits = label_fits old label is

  some : 1 ≤ label.area_sectors
  some = let none = fits.some_area in grind arith

  room : gate_at label + 1 ≤ length old
  room = let inside = fits.inside in let area = fits.area in let on = some in omega (arith, inside, area, on)

  size : length new ≡ length old
  size = (gate_torn label old room).size

  count : sectors_of new ≡ sectors_of old
  count = ap (λ (n : ℕ). n / 512) size

  gate_was : slice_index old (gate_at label) ≡ 0x56
  gate_was = sym (gate_of label old some) ∙ open_is

  others : (k : ℕ) → k ≢ gate_at label → slice_index new k ≡ slice_index old k
  others k ne = (gate_torn label old room).outside k (side k ne)
    where
      side : (k : ℕ) → k ≢ gate_at label → (k < gate_at label) ⊎ (gate_at label + 1 ≤ k)
      side k ne = grind arith

  -- the sector of the gate
  abbrev gate : ℕ
  gate = label.config_start + label.area_start

  first_byte : (x : List ℕ) (a : ℕ) → slice_index (sector x a) 0 ≡ slice_index x (512 * a)
  first_byte x a = range_at x (512 * a) (512 * a + 512) 0 (omega arith) ∙ ap (λ (k : ℕ). slice_index x k) (omega arith)

  stays : (a : ℕ) → a ≢ gate → sector new a ≡ sector old a
  stays a ne = same_sector old new a size (λ k from to. others k (apart k from to))
    where
      apart : (k : ℕ) → 512 * a ≤ k → k < 512 * a + 512 → k ≢ gate_at label
      apart k from to e = ne (omega arith)

  was : slice_index (sector old gate) 0 ≡ 0x56
  was = first_byte old gate ∙ gate_was

  now : slice_index (sector new gate) 0 ≡ 0
  now = first_byte new gate ∙ gate_zero label old room

  not_letter : (s : List ℕ) (n letter : ℕ) → slice_index s 0 ≡ n → (n ≡ letter → ⊥) → slice_index s 0 ≢ letter
  not_letter s n letter first other e = other (sym first ∙ e)

  same_differs : (header : PrivateHeader) (table : Table) (a : ℕ) → differs header (sector new a) table (sectors_of new) ≡ differs header (sector old a) table (sectors_of old)
  same_differs header table a = elim (cases_eq a gate) [
    | inl here ↦ subst (λ (b : ℕ). differs header (sector new b) table (sectors_of new) ≡ differs header (sector old b) table (sectors_of old)) (sym here)
        (differs_not header (sector new gate) table (sectors_of new) (not_letter (sector new gate) 0 0x50 now (λ e. omega (arith, e)))
        ∙ sym (differs_not header (sector old gate) table (sectors_of old) (not_letter (sector old gate) 0x56 0x50 was (λ e. omega (arith, e)))))
    | inr ne ↦ ap (λ (n : ℕ). differs header (sector new a) table n) count ∙ ap (λ (s : List ℕ). differs header s table (sectors_of old)) (stays a ne)
  ]

  same_tables : (a : ℕ) → toc_of (sector new a) ≡ toc_of (sector old a)
  same_tables a = elim (cases_eq a gate) [
    | inl here ↦ subst (λ (b : ℕ). toc_of (sector new b) ≡ toc_of (sector old b)) (sym here)
        (no_table (sector new gate) (not_letter (sector new gate) 0 0x54 now (λ e. omega (arith, e)))
        ∙ sym (no_table (sector old gate) (not_letter (sector old gate) 0x56 0x54 was (λ e. omega (arith, e)))))
    | inr ne ↦ ap toc_of (stays a ne)
  ]

  abbrev table : Table
  table = disk_table old

  abbrev value : Label
  value = label_from (table_style table) (header_in old) (first_toc (tocs_in (header_in old).config_start old))

  start_is : (header_in old).config_start ≡ label.config_start
  start_is = ap (λ (l : Label). l.config_start) (label_value old label is)

  first : sector new 0 ≡ sector old 0
  first = stays 0 (λ e. let behind = fits.room in omega (arith, e, behind))

  -- the table of partitions is in front of the database
  styled : (styled_faults (style_of (sector old 0)) new ≡ styled_faults (style_of (sector old 0)) old) × (styled_table (style_of (sector old 0)) new ≡ styled_table (style_of (sector old 0)) old)
  styled = table_stays old new label.config_start size (λ k lt. others k (λ e. omega (arith, e, lt))) (style_of (sector old 0)) value value (style_good old label is)
      (λ (bounds : GptBounds) e. let at = ends_before old label is bounds e in omega (arith, at, start_is))

  tables : (table_faults new ≡ table_faults old) × (disk_table new ≡ disk_table old)
  tables = alike_tables old new first styled.0 styled.1

  -- copy 1 of the private header begins with another letter than the gate
  rows : answer (header_faults (sector old (header_at table)) table (sectors_of old)) value ≡ Ok value
  unfolding whole
  rows =
      let front = (Short, nat_lt (sectors_of old) 7) ∷ table_faults old in
      let own = header_faults (sector old (header_at table)) table (sectors_of old) in
      let copies = copy_faults (header_in old) table old in
      let all = both_ok (front ++ own ++ copies) (toc_faults (tocs_in (header_in old).config_start old)) value label (sym (label_whole old) ∙ is) in
      (both_ok front own value value (both_ok (front ++ own) copies value value all.0).0).1

  letter : slice_index (sector old (header_at table)) 0 ≡ 0x50
  letter = head_letter (sector old (header_at table)) (head_is (sector old (header_at table)) table (sectors_of old) value value rows)

  head : sector new (header_at table) ≡ sector old (header_at table)
  head = stays (header_at table) (λ e. not_letter (sector old gate) 0x56 0x50 was (λ v. omega (arith, v)) (ap (λ (a : ℕ). slice_index (sector old a) 0) (sym e) ∙ letter))

  -- the label stays, wherever the config area lies
  pub shut_label : label_of (closed_view label old) ≡ Ok label
  shut_label =
      label_whole new
      ∙ rw (count, tables.0, tables.1, head, alike_copies (header_in old) table old new (same_differs (header_in old) table), alike_tocs (header_in old).config_start old new same_tables) (sym (label_whole old))
      ∙ is

  -- the copy is closed then
  pub shut_copy : IsOpen (config_area label (closed_view label old)) → ⊥
  shut_copy opened = zero_shut (slice_index new (gate_at label)) (gate_zero label old room) (sym (gate_of label new some) ∙ opened)
    where
      zero_shut : (n : ℕ) → n ≡ 0 → n ≡ 0x56 → ⊥
      zero_shut n zero_is v = omega arith
