-- What the written tables of a GPT disk say, and that an image which has them and the other sectors of the label reads as the label.
use Rattle.std.proofs.Common.{◌≡◌, ◌⊎◌, inl, inr, true, false, ℕ, suc, ◌+◌, ◌-◌, ◌*◌, ◌^◌, ◌<◌, ◌≤◌, ◌||◌, List, [], ◌∷◌, ◌++◌, length, map, take, drop, get_or, replicate, slice_range, Some, Ok, refl, sym, ◌∙◌, ap, subst, arith}
use Rattle.std.specs.Prelude.{find, nat_eq, nat_lt, codes}
use Rattle.std.specs.Int.{w128, to_be_bytes}
use Rattle.std.specs.List.{range_with_len}
use Rattle.std.proofs.lemmas.List.{append-nil, length-replicate, take-take, drop-take, drop-drop}
use Rattle.std.proofs.lemmas.Bool.{eq-eqb}
use Rattle.std.proofs.lemmas.Bool.Decides.{nat_tests}
use Rattle.byteorder.specs.Endian.{little_number, little_bytes}
use Rattle.byteorder.specs.Numbers.{little_from-take, little_number-reads_back}
use Rattle.ldm_bytes.specs.Places.{put_each}
use Rattle.ldm_bytes.proofs.PlaceLaws.{same_range, length-put, get_or-put_outside}
use Rattle.ldm_bytes.proofs.PutLaws.{InOrder, AllMiss, length-put_each, field_there, outside_each}
use Rattle.ldm_crc32.specs.Crc32.{crc32}
use Rattle.ldm_label.specs.declared.Style.{Style}
use Rattle.ldm_label.specs.declared.Label.{Label}
use Rattle.ldm_label.specs.declared.gpt.GptHeader.{GptHeader}
use Rattle.ldm_label.specs.declared.gpt.Partition.{Partition}
use Rattle.ldm_label.specs.Answer.{answer}
use Rattle.ldm_label.specs.Fields.{has_signature, has_ldm_entry, is_protective}
use Rattle.ldm_label.specs.Gpt.{le32_at, le64_at, is_gpt_header, gpt_size, has_gpt_size, checked_bytes, has_gpt_checksum, gpt_header_of, has_few_entries, is_out_of_disk, gpt_header_faults, entries_bytes, entry_bytes, partition_of, is_metadata, metadata_in, entries_faults, gpt_from}
use Rattle.ldm_label.specs.LabelOf.{mbr_faults, style_of}
use Rattle.ldm_label.specs.Written.{sector_with}
use Rattle.ldm_label.specs.WrittenGpt.{written_protective, guid_bytes, drawn_guid, metadata_name, reserved_name, data_name, metadata_fields, reserved_fields, data_fields, written_entries, gpt_fields, with_checksum, written_gpt}
use Rattle.ldm_label.proofs.GptLaws.{joined}
use Rattle.ldm_label.proofs.ChecksumLaws.{AreBytes, low_small, high_small, zeros_small, constant_small, swapped_small, range_small, each_small, crc_below}

none : ℕ × List ℕ
none = (0, [])

abbrev zeros : List ℕ
zeros = replicate 512 0

-- a little-endian number of n bytes is read back where its bytes stand
little_there : (list : List ℕ) (at n v : ℕ) → v < 256 ^ n → slice_range list at (at + n) ≡ little_bytes n v → little_number n (drop at list) ≡ v
little_there list at n v small there =
    let len : at + n - at ≡ n = omega arith in
    sym (little_from-take 0 n n (drop at list) (omega arith))
    ∙ ap (little_number n) (ap (λ (m : ℕ). take m (drop at list)) (sym len) ∙ there)
    ∙ ap (little_number n) (sym (append-nil (little_bytes n v)))
    ∙ little_number-reads_back n v [] small

-- a range of a range
sub_range : (xs : List ℕ) (p m a b : ℕ) → a ≤ b → b ≤ m → slice_range (slice_range xs p (p + m)) a b ≡ slice_range xs (p + a) (p + b)
sub_range xs p m a b le inside =
    let outer : p + m - p ≡ m = omega arith in
    let split : m ≡ a + (m - a) = omega arith in
    let inner : p + b - (p + a) ≡ b - a = omega arith in
    ap (λ (n : ℕ). take (b - a) (drop a (take n (drop p xs)))) (outer ∙ split)
    ∙ ap (λ (l : List ℕ). take (b - a) l) (drop-take a (m - a) (drop p xs))
    ∙ take-take (b - a) (m - a) (drop a (drop p xs)) (omega arith)
    ∙ ap (λ (l : List ℕ). take (b - a) l) (drop-drop a p xs)
    ∙ sym (ap (λ (n : ℕ). take n (drop (p + a) xs)) inner)

-- ---- the protective MBR

pub protective_good : (n : ℕ) → answer (mbr_faults (written_protective n)) (style_of (written_protective n)) ≡ Ok Style.Gpt
unfolding mbr_faults has_signature has_ldm_entry is_protective written_protective put_each
protective_good n = refl

pub length-protective : (n : ℕ) → length (written_protective n) ≡ 512
unfolding written_protective put_each
length-protective n = refl

-- ---- the entries

abbrev all_entries : Label → List (ℕ × List ℕ)
all_entries label = metadata_fields label ++ reserved_fields label ++ data_fields label

entries_in_order : (label : Label) → InOrder 0 16384 (all_entries label)
entries_in_order label = (
  omega arith,
  (
    omega arith,
    (
      omega arith,
      (
        omega arith,
        (
          omega arith,
          (
            omega arith,
            (
              omega arith,
              (
                omega arith,
                (
                  omega arith,
                  (
                    omega arith,
                    (omega arith, (omega arith, (omega arith, (omega arith, (omega arith, omega arith))))),
                  ),
                ),
              ),
            ),
          ),
        ),
      ),
    ),
  ),
)

-- They are in order in each list of that length.
entries_order : (label : Label) (size : ℕ) → size ≡ 16384 → InOrder 0 size (all_entries label)
entries_order label size is = subst (λ (n : ℕ). InOrder 0 n (all_entries label)) (sym is) (entries_in_order label)

-- a number of zeros
abbrev blank : ℕ → List ℕ
blank n = replicate n 0

many : (n : ℕ) → length (blank n) ≡ n
many n = length-replicate n 0

entries_fit : (label : Label) → InOrder 0 (length (blank 16384)) (all_entries label)
entries_fit label = entries_order label (length (blank 16384)) (many 16384)

pub length-entries : (label : Label) → length (written_entries label) ≡ 16384
unfolding written_entries
length-entries label = length-put_each (replicate 16384 0) 0 (all_entries label) (entries_fit label) ∙ many 16384

entry_field : (label : Label) (i : ℕ) → i < 15
    → let field = get_or (all_entries label) i none in slice_range (written_entries label) field.0 (field.0 + length field.1) ≡ field.1
unfolding written_entries
entry_field label i lt = field_there (replicate 16384 0) 0 (all_entries label) i none lt (entries_fit label)

guid_small : (guid : ℕ) → AreBytes (guid_bytes guid)
guid_small guid = swapped_small (to_be_bytes w128 guid) (high_small 16 guid)

entries_small : (label : Label) → AreBytes (written_entries label)
unfolding written_entries
entries_small label = each_small (replicate 16384 0) 0 (all_entries label) (entries_fit label) (zeros_small 16384) (
  guid_small 0x5808C8AA7E8F42E085D2E1E90434CFB3,
  (
    guid_small _,
    (
      low_small 0 8 _,
      (
        low_small 0 8 _,
        (
          constant_small metadata_name refl,
          (
            guid_small 0xE3C9E3160B5C4DB8817DF92DF00215AE,
            (
              guid_small _,
              (
                low_small 0 8 _,
                (
                  low_small 0 8 _,
                  (
                    constant_small reserved_name refl,
                    (guid_small 0xAF9B60A014314F62BC683311714A69AD, (guid_small _, (low_small 0 8 _, (low_small 0 8 _, (constant_small data_name refl, tt))))),
                  ),
                ),
              ),
            ),
          ),
        ),
      ),
    ),
  ),
)

pub entries_checksum : (label : Label) → crc32 (written_entries label) < 2 ^ 32
entries_checksum label = crc_below (written_entries label) (entries_small label)

-- ---- the headers

module _ (guid checksum n own other entries : ℕ) where
  abbrev plain : List ℕ
  plain = sector_with (gpt_fields guid checksum n own other entries)

  plain_in_order : InOrder 0 512 (gpt_fields guid checksum n own other entries)
  plain_in_order = (
    omega arith,
    (
      omega arith,
      (
        omega arith,
        (
          omega arith,
          (
            omega arith,
            (
              omega arith,
              (
                omega arith,
                (
                  omega arith,
                  (
                    omega arith,
                    (
                      omega arith,
                      (omega arith, (omega arith, omega arith)),
                    ),
                  ),
                ),
              ),
            ),
          ),
        ),
      ),
    ),
  )

  length-plain : length plain ≡ 512
  length-plain = length-put_each zeros 0 (gpt_fields guid checksum n own other entries) plain_in_order

  plain_field : (i : ℕ) → i < 12
      → let field = get_or (gpt_fields guid checksum n own other entries) i none in slice_range plain field.0 (field.0 + length field.1) ≡ field.1
  plain_field i lt = field_there zeros 0 (gpt_fields guid checksum n own other entries) i none lt plain_in_order

  plain_small : AreBytes plain
  plain_small = each_small zeros 0 (gpt_fields guid checksum n own other entries) plain_in_order (zeros_small 512) (
    constant_small (codes "EFI PART") refl,
    (
      low_small 0 4 0x10000,
      (
        low_small 0 4 92,
        (
          low_small 0 8 own,
          (
            low_small 0 8 other,
            (
              low_small 0 8 34,
              (
                low_small 0 8 (n - 34),
                (
                  guid_small guid,
                  (low_small 0 8 entries, (low_small 0 4 128, (low_small 0 4 128, (low_small 0 4 checksum, tt)))),
                ),
              ),
            ),
          ),
        ),
      ),
    ),
  )

  -- zeros stand in the place of the checksum
  miss_all : (k : ℕ) → 0x10 ≤ k → k < 0x14 → AllMiss k (gpt_fields guid checksum n own other entries)
  miss_all k from to = (
    inr (omega arith),
    (
      inr (omega arith),
      (
        inr (omega arith),
        (
          inl (omega arith),
          (
            inl (omega arith),
            (
              inl (omega arith),
              (
                inl (omega arith),
                (
                  inl (omega arith),
                  (inl (omega arith), (inl (omega arith), (inl (omega arith), (inl (omega arith), tt)))),
                ),
              ),
            ),
          ),
        ),
      ),
    ),
  )

  zeros_there : slice_range plain 0x10 0x14 ≡ 0 ∷ 0 ∷ 0 ∷ 0 ∷ []
  zeros_there = same_range plain zeros 0x10 0x14 length-plain
      (λ k from to. outside_each zeros 0 (gpt_fields guid checksum n own other entries) k plain_in_order (miss_all k from to))

  abbrev sum : ℕ
  sum = crc32 (slice_range plain 0 92)

  abbrev head : List ℕ
  head = with_checksum plain

  fits_there : 0x10 + length (little_bytes 4 sum) ≤ length plain
  fits_there = omega (arith, length-plain)

  length-head : length head ≡ 512
  length-head = length-put plain 0x10 (little_bytes 4 sum) fits_there ∙ length-plain

  -- all but the checksum
  head_range : (a b : ℕ) → (b ≤ 0x10) ⊎ (0x14 ≤ a) → slice_range head a b ≡ slice_range plain a b
  head_range a b place = same_range head plain a b (length-put plain 0x10 (little_bytes 4 sum) fits_there)
      (λ k from to. get_or-put_outside plain 0x10 (little_bytes 4 sum) k fits_there (beside k from to place))
    where
      beside : (k : ℕ) → a ≤ k → k < b → (b ≤ 0x10) ⊎ (0x14 ≤ a) → (k < 0x10) ⊎ (0x10 + length (little_bytes 4 sum) ≤ k)
      beside k from to (inl le) = inl (omega arith)
      beside k from to (inr ge) = inr (omega arith)

  sum_small : sum < 2 ^ 32
  sum_small = crc_below (slice_range plain 0 92) (range_small plain 0 92 plain_small)

  sum_there : slice_range head 0x10 0x14 ≡ little_bytes 4 sum
  unfolding put_each
  sum_there = field_there plain 0 ((0x10, little_bytes 4 sum) ∷ []) 0 none (omega arith) (omega arith, omega (arith, length-plain))

  sum_is : le32_at head 0x10 ≡ sum
  sum_is = little_there head 0x10 4 sum (omega (arith, sum_small)) sum_there

  magic : is_gpt_header head ≡ true
  unfolding is_gpt_header
  magic = rw (head_range 0 8 (inl (omega arith)) ∙ plain_field 0 (omega arith)) refl

  size_is : gpt_size head ≡ 92
  size_is = little_there head 0x0C 4 92 (omega arith) (head_range 0x0C 0x10 (inl (omega arith)) ∙ plain_field 2 (omega arith))

  size_good : has_gpt_size head ≡ true
  unfolding has_gpt_size
  size_good = rw size_is refl

  checked_is : checked_bytes head ≡ slice_range plain 0 92
  checked_is =
      let front : slice_range plain 0 0x10 ++ slice_range plain 0x10 0x14 ≡ slice_range plain 0 0x14 = joined plain 0 0x10 4 in
      let whole : slice_range plain 0 0x14 ++ slice_range plain 0x14 92 ≡ slice_range plain 0 92 = joined plain 0 0x14 72 in
      let all : slice_range plain 0 0x10 ++ (0 ∷ 0 ∷ 0 ∷ 0 ∷ []) ++ slice_range plain 0x14 92 ≡ slice_range plain 0 92 =
      ap (λ (l : List ℕ). slice_range plain 0 0x10 ++ l ++ slice_range plain 0x14 92) (sym zeros_there)
      ∙ ap (λ (l : List ℕ). l ++ slice_range plain 0x14 92) front
      ∙ whole in
      rw (size_is, head_range 0 0x10 (inl (omega arith)), head_range 0x14 92 (inr (omega arith))) all

  checksum_good : has_gpt_checksum head ≡ true
  unfolding has_gpt_checksum
  checksum_good = eq-eqb (crc32 (checked_bytes head)) (le32_at head 0x10) (ap crc32 checked_is ∙ sym sum_is)

  module _ (small_own : own < 2 ^ 64) (small_entries : entries < 2 ^ 64) (small_checksum : checksum < 2 ^ 32) (small_n : n < 2 ^ 55) where
    pub written_values : gpt_header_of head ≡ record { own_sector = own; first_usable = 34; last_usable = n - 34; entries_start = entries; entries = 128; entry_size = 128; entries_checksum = checksum }
    written_values =
        let a : le64_at head 0x18 ≡ own = little_there head 0x18 8 own (omega arith) (head_range 0x18 0x20 (inr (omega arith)) ∙ plain_field 3 (omega arith)) in
        let b : le64_at head 0x28 ≡ 34 = little_there head 0x28 8 34 (omega arith) (head_range 0x28 0x30 (inr (omega arith)) ∙ plain_field 5 (omega arith)) in
        let c : le64_at head 0x30 ≡ n - 34 = little_there head 0x30 8 (n - 34) (omega arith) (head_range 0x30 0x38 (inr (omega arith)) ∙ plain_field 6 (omega arith)) in
        let d : le64_at head 0x48 ≡ entries = little_there head 0x48 8 entries (omega arith) (head_range 0x48 0x50 (inr (omega arith)) ∙ plain_field 8 (omega arith)) in
        let e : le32_at head 0x50 ≡ 128 = little_there head 0x50 4 128 (omega arith) (head_range 0x50 0x54 (inr (omega arith)) ∙ plain_field 9 (omega arith)) in
        let f : le32_at head 0x54 ≡ 128 = little_there head 0x54 4 128 (omega arith) (head_range 0x54 0x58 (inr (omega arith)) ∙ plain_field 10 (omega arith)) in
        let g : le32_at head 0x58 ≡ checksum = little_there head 0x58 4 checksum (omega arith) (head_range 0x58 0x5C (inr (omega arith)) ∙ plain_field 11 (omega arith)) in
        rw (a, b, c, d, e, f, g) refl

pub length-gpt : (label : Label) (n own other entries : ℕ) → length (written_gpt label n own other entries) ≡ 512
unfolding written_gpt
length-gpt label n own other entries = length-head (drawn_guid label 1) (crc32 (written_entries label)) n own other entries

-- the values of the primary header of a disk of so many sectors
abbrev pub primary_values : Label → ℕ → GptHeader
primary_values label n = record { own_sector = 1; first_usable = 34; last_usable = n - 34; entries_start = 2; entries = 128; entry_size = 128; entries_checksum = crc32 (written_entries label) }

few_good : (label : Label) (n : ℕ) → has_few_entries (primary_values label n) ≡ true
unfolding has_few_entries
few_good label n = refl

disk_good : (label : Label) (n : ℕ) → 2117 ≤ n → is_out_of_disk (primary_values label n) n ≡ false
unfolding is_out_of_disk
disk_good label n long = grind (arith, nat_tests)

pub primary_good : (label : Label) (n : ℕ) → 2117 ≤ n → n < 2 ^ 55
    → answer (gpt_header_faults (written_gpt label n 1 (n - 1) 2) n) (gpt_header_of (written_gpt label n 1 (n - 1) 2)) ≡ Ok (primary_values label n)
unfolding gpt_header_faults written_gpt
primary_good label n long few =
    let guid = drawn_guid label 1 in
    let sum = crc32 (written_entries label) in
    let values : gpt_header_of (with_checksum (sector_with (gpt_fields guid sum n 1 (n - 1) 2))) ≡ primary_values label n =
    written_values guid sum n 1 (n - 1) 2 (omega arith) (omega arith) (entries_checksum label) few in
    rw (magic guid sum n 1 (n - 1) 2, size_good guid sum n 1 (n - 1) 2, checksum_good guid sum n 1 (n - 1) 2, values, few_good label n, disk_good label n long) refl

-- ---- an image that has the tables

find_first : (f : ℕ → Partition) (n : ℕ) → is_metadata (f 0) ≡ true → find is_metadata (map f (range_with_len 0 (suc n))) ≡ Some (f 0)
find_first f n is = rw is refl

-- the LDM metadata partition, by the label
abbrev pub metadata_values : Label → Partition
metadata_values label = record { type_guid = 0x5808C8AA7E8F42E085D2E1E90434CFB3; first = label.config_start; last = label.config_start + 2047 }

module _ (label : Label) (image : List ℕ) (small : label.config_start < 2 ^ 55) (n : ℕ) (has : slice_range image (512 * 2) (512 * 2 + 16384) ≡ written_entries label) where
  abbrev header : GptHeader
  header = primary_values label n

  abbrev entry : List ℕ
  entry = slice_range image (512 * 2) (512 * 2 + 128)

  entry_range : (a b : ℕ) → a ≤ b → b ≤ 128 → slice_range entry a b ≡ slice_range (written_entries label) a b
  entry_range a b le inside =
      sub_range image (512 * 2) 128 a b le inside ∙ sym (sub_range image (512 * 2) 16384 a b le (omega arith)) ∙ ap (λ (l : List ℕ). slice_range l a b) has

  type_there : slice_range entry 0 16 ≡ guid_bytes 0x5808C8AA7E8F42E085D2E1E90434CFB3
  type_there = entry_range 0 16 (omega arith) (omega arith) ∙ entry_field label 0 (omega arith)

  first_is : le64_at entry 0x20 ≡ label.config_start
  first_is = little_there entry 0x20 8 label.config_start (omega arith) (entry_range 32 40 (omega arith) (omega arith) ∙ entry_field label 2 (omega arith))

  last_is : le64_at entry 0x28 ≡ label.config_start + 2047
  last_is = little_there entry 0x28 8 (label.config_start + 2047) (omega arith) (entry_range 40 48 (omega arith) (omega arith) ∙ entry_field label 3 (omega arith))

  entry_is : partition_of entry ≡ metadata_values label
  entry_is = rw (type_there, first_is, last_is) refl

  pub metadata_is : metadata_in header image ≡ Some (metadata_values label)
  unfolding metadata_in
  metadata_is =
      find_first (λ k. partition_of (entry_bytes header image k)) 127 (ap is_metadata entry_is)
      ∙ ap Some entry_is

  pub bytes_are : entries_bytes header image ≡ written_entries label
  bytes_are = has

  module _ (at : label.config_start ≡ 34) (long : 2117 ≤ n) where
    pub entries_good : answer (entries_faults header (crc32 (written_entries label)) (Some (metadata_values label))) (gpt_from header (Some (metadata_values label)))
        ≡ Ok (gpt_from header (Some (metadata_values label)))
    unfolding entries_faults
    entries_good =
        let same : nat_eq (crc32 (written_entries label)) (crc32 (written_entries label)) ≡ true = eq-eqb (crc32 (written_entries label)) (crc32 (written_entries label)) refl in
        let size : nat_eq (label.config_start + 2047) (label.config_start + 2047) ≡ true = eq-eqb (label.config_start + 2047) (label.config_start + 2047) refl in
        let inside : (nat_lt label.config_start 34 || nat_lt (n - 34) (label.config_start + 2047)) ≡ false = grind (arith, nat_tests) in
        rw (same, size, inside) refl
