-- An image that has what is written of the label of a GPT disk reads as that label; and where that is put.
use Rattle.std.proofs.Common.{◌≡◌, false, ℕ, suc, ◌+◌, ◌-◌, ◌*◌, ◌/◌, ◌^◌, ◌<◌, ◌≤◌, List, [], ◌∷◌, length, get_or, slice_range, Some, Ok, refl, sym, ◌∙◌, ap, subst, arith}
use Rattle.std.proofs.lemmas.Bool.Decides.{nat_tests}
use Rattle.ldm_bytes.specs.Places.{put_each}
use Rattle.ldm_bytes.proofs.PutLaws.{InOrder, AllMiss, length-put_each, field_there, outside_each}
use Rattle.ldm_crc32.specs.Crc32.{crc32}
use Rattle.ldm_label.specs.declared.Style.{Style}
use Rattle.ldm_label.specs.declared.Label.{Label}
use Rattle.ldm_label.specs.declared.gpt.GptBounds.{GptBounds}
use Rattle.ldm_label.specs.declared.table.Table.{Table}
use Rattle.ldm_label.specs.Answer.{answer}
use Rattle.ldm_label.specs.Fields.{sector, sectors_of, is_out_of_range, is_out_of_gpt, header_of}
use Rattle.ldm_label.specs.Gpt.{gpt_from, gpt_header_faults}
use Rattle.ldm_label.specs.LabelOf.{label_of, label_from, mbr_faults, style_of, gpt_header_in, gpt_of, gpt_faults, table_faults, disk_table, header_faults, copy_faults, tocs_in, toc_faults, first_toc, Fits}
use Rattle.ldm_label.specs.GoodCopies.{header_values}
use Rattle.ldm_label.specs.Written.{written_header, written_toc}
use Rattle.ldm_label.specs.WrittenGpt.{written_protective, written_entries, written_gpt, gpt_parts, HasParts, IsOutsideParts, SameOutsideParts, IsGptWritable}
use Rattle.ldm_label.proofs.ReadLaws.{label_is}
use Rattle.ldm_label.proofs.GptLaws.{gpt_then, gpt_is}
use Rattle.ldm_label.proofs.WrittenLaws.{HasRoom, toc_values, length-header, length-toc, header_good, copy_agrees, toc_is, four, four_good}
use Rattle.ldm_label.proofs.GptWrittenLaws.{protective_good, length-protective, length-entries, length-gpt, primary_values, primary_good, metadata_values, metadata_is, bytes_are, entries_good}

none : ℕ × List ℕ
none = (0, [])

-- where the sectors of the label say that things lie
abbrev bounds : Label → ℕ → GptBounds
bounds label n = gpt_from (primary_values label n) (Some (metadata_values label))

in_range : (label : Label) (n : ℕ) → Fits label n → IsGptWritable label n → is_out_of_range (header_values label) (Table.Gpt (bounds label n)) n ≡ false
unfolding is_out_of_gpt
in_range label n fits writable =
    let some = fits.some_data in
    let at = writable.database in
    let reserved = writable.reserved in
    let rest = writable.rest in
    grind (arith, nat_tests)

has_room : (label : Label) (n : ℕ) → IsGptWritable label n → HasRoom label
has_room label n writable =
    let rest = writable.rest in
    let few = writable.few in
    let at = writable.database in
    record { minor = writable.minor; guid = writable.guid; start = omega arith; size = omega arith; config = omega arith }

module _ (label : Label) (image : List ℕ) (has : HasParts (gpt_parts label (sectors_of image)) image) (fits : Fits label (sectors_of image)) (writable : IsGptWritable label (sectors_of image)) where
  abbrev n : ℕ
  n = sectors_of image

  abbrev table : Table
  table = Table.Gpt (bounds label n)

  long : 2117 ≤ n
  long = let at = writable.database in let reserved = writable.reserved in let rest = writable.rest in let some = fits.some_data in omega arith

  part_there : (a : ℕ) (bytes : List ℕ) → length bytes ≡ 512 → slice_range image (512 * a) (512 * a + length bytes) ≡ bytes → sector image a ≡ bytes
  part_there a bytes size there = ap (λ (m : ℕ). slice_range image (512 * a) (512 * a + m)) (sym size) ∙ there

  mbr : sector image 0 ≡ written_protective n
  mbr = part_there 0 (written_protective n) (length-protective n) (has 0 none (omega arith))

  primary : sector image 1 ≡ written_gpt label n 1 (n - 1) 2
  primary = part_there 1 (written_gpt label n 1 (n - 1) 2) (length-gpt label n 1 (n - 1) 2) (has 1 none (omega arith))

  entries : slice_range image (512 * 2) (512 * 2 + 16384) ≡ written_entries label
  entries = ap (λ (m : ℕ). slice_range image (512 * 2) (512 * 2 + m)) (sym (length-entries label)) ∙ has 2 none (omega arith)

  toc_there : (a i : ℕ) → slice_range image (512 * a) (512 * a + length (written_toc label)) ≡ written_toc label → sector image a ≡ written_toc label
  toc_there a i there = part_there a (written_toc label) (length-toc label) there

  head_2 : sector image (label.config_start + 1856) ≡ written_header label
  head_2 = part_there (label.config_start + 1856) (written_header label) (length-header label) (has 5 none (omega arith))

  head_3 : sector image (label.config_start + 2047) ≡ written_header label
  head_3 = part_there (label.config_start + 2047) (written_header label) (length-header label) (has 8 none (omega arith))

  header_there : answer (gpt_header_faults (sector image 1) n) (gpt_header_in image) ≡ Ok (primary_values label n)
  header_there = rw primary (primary_good label n long writable.few)

  small : label.config_start < 2 ^ 55
  small = let at = writable.database in omega arith

  gpt_good : answer (gpt_faults image) (gpt_of image) ≡ Ok (bounds label n)
  gpt_good = gpt_then image (primary_values label n) (crc32 (written_entries label)) (Some (metadata_values label)) (Ok (bounds label n)) header_there
      (sym (ap crc32 (bytes_are label image small n entries))) (sym (metadata_is label image small n entries))
      (sym (entries_good label image small n entries writable.database long))

  style_there : answer (mbr_faults (sector image 0)) (style_of (sector image 0)) ≡ Ok Style.Gpt
  style_there = rw mbr (protective_good n)

  table_there : answer (table_faults image) (disk_table image) ≡ Ok table
  table_there = gpt_is image (bounds label n) style_there gpt_good

  room : HasRoom label
  room = has_room label n writable

  range : is_out_of_range (header_values label) table n ≡ false
  range = in_range label n fits writable

  good : answer (header_faults (sector image (label.config_start + 2047)) table n) (header_of (sector image (label.config_start + 2047))) ≡ Ok (header_values label)
  good = rw head_3 (header_good label n table fits room range)

  agree : answer {A = Unit {0}} (copy_faults (header_values label) table image) tt ≡ Ok tt
  unfolding copy_faults
  agree = rw (head_2, head_3, copy_agrees label n table fits room range) refl

  tocs : tocs_in label.config_start image ≡ four label n table fits room range
  unfolding tocs_in four
  tocs =
      let one = toc_there (label.config_start + 1) 3 (has 3 none (omega arith)) in
      let two = toc_there (label.config_start + 2) 4 (has 4 none (omega arith)) in
      let three = toc_there (label.config_start + 2045) 6 (has 6 none (omega arith)) in
      let last = toc_there (label.config_start + 2046) 7 (has 7 none (omega arith)) in
      rw (one, two, three, last, toc_is label n table fits room range) refl

  contents : answer (toc_faults (tocs_in label.config_start image)) (first_toc (tocs_in label.config_start image)) ≡ Ok (toc_values label)
  contents = rw tocs (four_good label n table fits room range)

  pub gpt_label_reads : label_of image ≡ Ok label
  gpt_label_reads = label_is image (omega (arith, long)) table table_there (header_values label) good agree (toc_values label) contents
      ∙ ap (λ (style : Style). Ok (label_from style (header_values label) (toc_values label))) (sym writable.style)

-- ---- an image to which it was written

all_miss : (k : ℕ) (parts : List (ℕ × List ℕ)) → IsOutsideParts parts k → AllMiss k parts
all_miss k [] outside = tt
all_miss k (part ∷ parts) outside = (outside 0 none (omega arith), all_miss k parts (λ i d lt. outside (suc i) d (omega arith)))

module _ (label : Label) (old new : List ℕ) (fits : Fits label (sectors_of old)) (writable : IsGptWritable label (sectors_of old))
    (is : new ≡ put_each old (gpt_parts label (sectors_of old))) where
  abbrev all : List (ℕ × List ℕ)
  all = gpt_parts label (sectors_of old)

  in_order : InOrder 0 (length old) all
  in_order =
      let n = sectors_of old in
      let at = writable.database in
      let reserved = writable.reserved in
      let rest = writable.rest in
      let protective = length-protective n in
      let primary = length-gpt label n 1 (n - 1) 2 in
      let backup = length-gpt label n (n - 1) 1 (n - 33) in
      let entries = length-entries label in
      let header = length-header label in
      let toc = length-toc label in
      (omega arith, (omega arith, (omega arith, (omega arith, (omega arith, (omega arith, (omega arith, (omega arith, (omega arith, (omega arith, (omega arith, omega arith)))))))))))

  size_stays : length new ≡ length old
  size_stays = ap (λ (l : List ℕ). length l) is ∙ length-put_each old 0 all in_order

  pub has_parts : HasParts all new
  has_parts k d lt = ap (λ (l : List ℕ). slice_range l (get_or all k d).0 ((get_or all k d).0 + length (get_or all k d).1)) is ∙ field_there old 0 all k d lt in_order

  pub same_outside : SameOutsideParts all old new
  same_outside = record {
    size = size_stays;
    outside = λ k outside. ap (λ (l : List ℕ). get_or l k 0) is ∙ outside_each old 0 all k in_order (all_miss k all outside);
  }

  count : sectors_of old ≡ sectors_of new
  count = ap (λ (m : ℕ). m / 512) (sym size_stays)

  pub reads_back : label_of new ≡ Ok label
  reads_back = gpt_label_reads label new
      (subst (λ (m : ℕ). HasParts (gpt_parts label m) new) count has_parts)
      (subst (λ (m : ℕ). Fits label m) count fits)
      (subst (λ (m : ℕ). IsGptWritable label m) count writable)
