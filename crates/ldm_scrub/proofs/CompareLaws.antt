-- Places of a volume: where they lie, how many there are, what is compared at each, and what is
-- said of those that are bad.
use Rattle.std.proofs.Common.{◌≡◌, ℕ, ◌+◌, ◌-◌, ◌*◌, ◌/◌, ◌%◌, ◌<◌, ◌≤◌, Bool, false, length, refl, ap, sym, ◌∙◌, arith, Option, Some, if◌then◌else◌, slice_get, List, true, not, ◌||◌, [], ◌∷◌, ◌++◌, map, take, drop, slice_index, add-one, zero, suc, ◌==◌, get_or, replicate, filter_map, inl, inr, min, cond, filter, flat_map, count_by, append_assoc, zero-add}
use Rattle.std.specs.Option.{option_map, option_to_list}
use Rattle.std.proofs.lemmas.Nat.{div-add-mod', div-mul-add, mod-mul-add, mod_below, mul-le}
use Rattle.ldm_places.specs.Places.{raid5_offset}
use Rattle.ldm_places.specs.Layouts.{Layout, place_at, copies_of, place_in, copies_by, is_tiled}
use Rattle.ldm_places.specs.Columns.{columns_of, IsColumned, column_in, moved}
use Rattle.ldm_places.specs.declared.extent.Extent.{Extent}
use Rattle.ldm_places.specs.declared.shape.Place.{Place}
use Rattle.ldm_places.specs.declared.shape.Shape.{Shape}
use Rattle.ldm_places.specs.declared.shape.Shape.TheVariants.{Raid5}
use Rattle.ldm_copy.specs.declared.found.Found.{Found}
use Rattle.ldm_dump.specs.Sources.{is_raid5, spot_at, copy_spot}
use Rattle.ldm_dump.specs.Runs.{behind, IsOn, HasBytes, RowsLieOn, LiesOn}
use Rattle.ldm_dump.specs.declared.spots.Spot.{Spot}
use Rattle.ldm_dump.proofs.RunLaws.{spot_moved, Along, list_moved, raid5_is}
use Rattle.ldm_scrub.specs.Compare.{place_sector, copy_sector, copy_differs, row_fails, is_bad, IsCommonRun, sector_in, mark, marked, is_bad_at, IsCount, places_of}
use Rattle.std.proofs.lemmas.List.Folds.{list_any-append, list_any_at}
use Rattle.std.specs.List.{list_any, range_with_len}
use Rattle.std.proofs.lemmas.List.{ext_get_or, get_or-take, get_or-drop, length-take-le, length-drop, get_or-replicate, append-nil}
use Rattle.std.proofs.lemmas.List.FromFn.{length-map-range_with_len, get_or-map-range_with_len, length-range_with_len}
use Rattle.ldm_dump.specs.Bytes.{joined_byte, joined_sector}
use Rattle.ldm_dump.proofs.ByteLaws.{joined_behind}
use Rattle.ldm_dump.specs.Redundant.{row_spots, IsRedundant}
use Rattle.ldm_dump.proofs.RangeLaws.{range_more, made_moved, range_append, at_number}
use Rattle.ldm_dump.proofs.ReadLaws.{run_bytes}
use Rattle.std.specs.Str.{bytes_eq}
use Rattle.std.proofs.lemmas.Bool.{eq-eqb, eqb-true, not-false, false_from_ne_true, true≢false, cases_lt, lt-ltb, le-ltb}
use Rattle.std.proofs.lemmas.Slice.Eq.{bytes_eq-Decides}
use Rattle.std.proofs.lemmas.List.Elements.{filter-append}
use Rattle.std.proofs.Math.Nat.{suc-mul, mul_assoc, mul_comm}
use Rattle.std.proofs.lemmas.List.Sums.{sum_by-append}
use Rattle.std.proofs.lemmas.Grind.{common_steps, flat_map-append}
use Rattle.ldm_host.specs.Moves.{Begins}
use Rattle.ldm_words.specs.declared.job.Format.{Format}
use Rattle.ldm_scrub.specs.Lines.{differing_line, failing_line, bad_line, bad_lines, bad_of, counts_line}
use Rattle.ldm_places.proofs.SpotLaws.{spot_along, place_along}

-- ---- Places of a RAID-5: what lies beside them in the columns.

-- ---- the sector of a place

abbrev pub row_sector : ℕ → ℕ → ℕ → ℕ
row_sector k u p = p / u * (k - 1) * u + p % u

pub sector_raid5 : (l : Layout) (p : ℕ) → l.shape ≡ Raid5 → place_sector l p ≡ row_sector (length (columns_of l)) l.chunk p
unfolding place_sector
sector_raid5 l p raid5 = ap (λ (s : Shape). if is_raid5 s then row_sector (length (columns_of l)) l.chunk p else p) raid5

pub sector_other : (l : Layout) (p : ℕ) → is_raid5 l.shape ≡ false → place_sector l p ≡ p
unfolding place_sector
sector_other l p other = ap (λ (b : Bool). if b then row_sector (length (columns_of l)) l.chunk p else p) other

-- the row and the offset of that sector
pub record RowParts (k u p : ℕ) : Type 0 where
  pub chunk : row_sector k u p / u ≡ p / u * (k - 1)
  pub rest : row_sector k u p % u ≡ p % u
  pub row : row_sector k u p / u / (k - 1) ≡ p / u
  pub offset : raid5_offset k u (row_sector k u p) ≡ p

pub row_parts : (k u p : ℕ) → 0 < u → 2 ≤ k → RowParts k u p
row_parts k u p some many =
    let low : p % u < u = mod_below p u some in
    let chunk : row_sector k u p / u ≡ p / u * (k - 1) = div-mul-add (p / u * (k - 1)) u (p % u) low in
    let rest : row_sector k u p % u ≡ p % u = mod-mul-add (p / u * (k - 1)) u (p % u) low in
    let none : p / u * (k - 1) ≡ p / u * (k - 1) + 0 = omega arith in
    let row : row_sector k u p / u / (k - 1) ≡ p / u = ap (λ n. n / (k - 1)) (chunk ∙ none) ∙ div-mul-add (p / u) (k - 1) 0 (omega arith) in
    record {
      chunk = chunk;
      rest = rest;
      row = row;
      offset = ap (λ n. n * u + row_sector k u p % u) row ∙ (ap (λ n. p / u * u + n) rest ∙ div-add-mod' p u);
    }

-- the place of a sector in the first chunk of a row
pub place_of_row : (k u x : ℕ) → 0 < u → x / u % (k - 1) ≡ 0 → row_sector k u (x / u / (k - 1) * u + x % u) ≡ x
place_of_row k u x some first = grind (arith, mod_below, div-mul-add, mod-mul-add, div-add-mod')

-- ---- the columns

at_offset : (o : Option Extent) (p i : ℕ) → option_map place_at (option_map {U = Extent × ℕ} (λ e. (e, p + i)) o) ≡ option_map (moved i) (option_map place_at (option_map {U = Extent × ℕ} (λ e. (e, p)) o))
at_offset o p i = grind (arith, spot_along, place_along)

-- what is in a column at a place
column_at : (l : Layout) (p column : ℕ) → l.shape ≡ Raid5 → IsColumned l
    → column_in l (place_sector l p) column ≡ option_map place_at (option_map {U = Extent × ℕ} (λ e. (e, p)) (slice_get (columns_of l) column))
column_at l p column raid5 columned = grind (arith, sector_raid5, row_parts)

-- places lie side by side in each column
pub column_moved : (l : Layout) (p i column : ℕ) → l.shape ≡ Raid5 → IsColumned l → column_in l (place_sector l (p + i)) column ≡ option_map (moved i) (column_in l (place_sector l p) column)
column_moved l p i column raid5 columned = grind (arith, column_at, at_offset)

-- as many sectors are there as up to the last
last_bytes : (sizes : List ℕ) (s : Spot) (n bytes : ℕ) → 0 < n → IsOn sizes (behind (n - 1) s) → bytes ≤ 512 * n → HasBytes sizes s bytes
last_bytes sizes s n bytes some on few = (let last = on.sector in record { image = on.image; inside = omega (arith, last, few, some) })

pub column_bytes : (sizes : List ℕ) (found : Found) (l : Layout) (p column n bytes : ℕ) (s : Spot) → RowsLieOn found l sizes → l.shape ≡ Raid5 → IsColumned l → 0 < n
    → ((i : ℕ) → i < n → place_sector l (p + i) < l.size) → bytes ≤ 512 * n → spot_at found (column_in l (place_sector l p) column) ≡ Some s → HasBytes sizes s bytes
column_bytes sizes found l p column n bytes s lies raid5 columned some within few is =
    let last : spot_at found (column_in l (place_sector l (p + (n - 1))) column) ≡ Some (behind (n - 1) s) =
    ap (λ (o : Option Place). spot_at found o) (column_moved l p (n - 1) column raid5 columned)
    ∙ (spot_moved found (n - 1) (column_in l (place_sector l p) column) ∙ ap (λ (o : Option Spot). option_map (behind (n - 1)) o) is) in
    last_bytes sizes s n bytes some (lies (place_sector l (p + (n - 1))) column (behind (n - 1) s) (within (n - 1) (omega (arith, some))) raid5 last) few

-- ---- Marks of sectors of which the copies differ.

-- a sector of what is read of some sectors
pub part_is : (images : List (List ℕ)) (spots : List Spot) (out : List ℕ) (i n : ℕ) → length out ≡ 512 * n → i < n → ((j : ℕ) → j < length out → slice_index out j ≡ joined_byte images spots j)
    → sector_in out i ≡ joined_sector images (map (behind i) spots)
part_is images spots out i n size lt bytes =
    let span : 512 * i + 512 - 512 * i ≡ 512 = omega arith in
    let long : 512 ≤ length (drop (512 * i) out) = omega (arith, length-drop (512 * i) out, size, lt) in
    ap (λ (m : ℕ). take m (drop (512 * i) out)) span
    ∙ ext_get_or 0 (take 512 (drop (512 * i) out)) (joined_sector images (map (behind i) spots)) (length-take-le 512 (drop (512 * i) out) long ∙ sym (length-map-range_with_len (joined_byte images (map (behind i) spots)) 0 512))
    (λ k low.
    let few : k < 512 = omega (arith, low, length-take-le 512 (drop (512 * i) out) long) in
    get_or-take 512 (drop (512 * i) out) k 0 few ∙ (get_or-drop (512 * i) out k 0 ∙ (bytes (512 * i + k) (omega (arith, size, lt, few))
    ∙ (sym (joined_behind images i k spots) ∙ sym (get_or-map-range_with_len (joined_byte images (map (behind i) spots)) 0 512 k k 0 few (omega arith))))))

pub copy_part : (images : List (List ℕ)) (found : Found) (l : Layout) (x copy run i n : ℕ) (out : List ℕ) → IsCommonRun l x run → copy < copies_of l → n ≤ run → length out ≡ 512 * n → i < n
    → ((j : ℕ) → j < length out → slice_index out j ≡ joined_byte images (option_to_list (copy_spot found l x copy)) j) → sector_in out i ≡ copy_sector images found l (x + i) copy
copy_part images found l x copy run i n out common copied few size lt bytes =
    let moves : copy_spot found l (x + i) copy ≡ option_map (behind i) (copy_spot found l x copy) =
    ap (λ (p : Option Place). spot_at found p) (common.places copy i copied (omega (arith, lt, few))) ∙ spot_moved found i (place_in l x copy) in
    part_is images (option_to_list (copy_spot found l x copy)) out i n size lt bytes
    ∙ ap (λ (s : List Spot). joined_sector images s) (sym (list_moved i (copy_spot found l x copy)) ∙ ap (λ (o : Option Spot). option_to_list o) (sym moves))

-- ---- marks

marked_more : (a : Bool) (b : Bool) → marked b (mark a) ≡ mark (a || not b)
marked_more a b = grind (arith, common_steps)

any_push : (t : ℕ → Bool) (xs : List ℕ) (y : ℕ) → list_any t (xs ++ y ∷ []) ≡ (list_any t xs || t y)
any_push t xs y = list_any-append t xs (y ∷ []) ∙ ap (λ (b : Bool). list_any t xs || b) (go (t y))
  where
    go : (b : Bool) → (b || false) ≡ b
    go true = refl
    go false = refl

-- one copy more is compared
pub marked_next : (t : ℕ → Bool) (copy : ℕ) (same : Bool) (m new : ℕ) → 1 ≤ copy → t copy ≡ not same → m ≡ mark (list_any t (range_with_len 1 (copy - 1))) → new ≡ marked same m
    → new ≡ mark (list_any t (range_with_len 1 (copy + 1 - 1)))
marked_next t copy same m new low is so step =
    let e : copy + 1 - 1 ≡ copy - 1 + 1 = omega arith in
    let at : 1 + (copy - 1) ≡ copy = omega arith in
    let range : range_with_len 1 (copy + 1 - 1) ≡ range_with_len 1 (copy - 1) ++ copy ∷ [] =
    ap (λ (k : ℕ). range_with_len 1 k) (e ∙ add-one (copy - 1)) ∙ (range_more 1 (copy - 1) ∙ ap (λ (k : ℕ). range_with_len 1 (copy - 1) ++ k ∷ []) at) in
    step ∙ (ap (λ (k : ℕ). marked same k) so ∙ (marked_more (list_any t (range_with_len 1 (copy - 1))) same
    ∙ (ap (λ (b : Bool). mark (list_any t (range_with_len 1 (copy - 1)) || b)) (sym is)
    ∙ (ap mark (sym (any_push t (range_with_len 1 (copy - 1)) copy)) ∙ sym (ap (λ (r : List ℕ). mark (list_any t r)) range)))))

-- ---- rows

pub row_part : (images : List (List ℕ)) (found : Found) (l : Layout) (p i n : ℕ) (out : List ℕ) → l.shape ≡ Raid5 → IsColumned l → length out ≡ 512 * n → i < n
    → ((j : ℕ) → j < length out → slice_index out j ≡ joined_byte images (row_spots found l (place_sector l p)) j) → sector_in out i ≡ joined_sector images (row_spots found l (place_sector l (p + i)))
row_part images found l p i n out raid5 columned size lt bytes =
    part_is images (row_spots found l (place_sector l p)) out i n size lt bytes
    ∙ ap (λ (s : List Spot). joined_sector images s)
    (sym (made_moved (λ column. spot_at found (column_in l (place_sector l (p + i)) column)) (λ column. spot_at found (column_in l (place_sector l p) column)) (behind i) (range_with_len 0 (length (columns_of l)))
    (λ column. ap (λ (q : Option Place). spot_at found q) (column_moved l p i column raid5 columned) ∙ spot_moved found i (column_in l (place_sector l p) column))))

pub marked_once : (same : Bool) (m new : ℕ) → m ≡ 0 → new ≡ marked same m → new ≡ mark (not same)
marked_once same m new none is = grind (arith, common_steps)

-- ---- what is bad

pub bad_copies : (images : List (List ℕ)) (found : Found) (l : Layout) (x : ℕ) → is_raid5 l.shape ≡ false → list_any (copy_differs images found l x) (range_with_len 1 (copies_of l - 1)) ≡ is_bad images found l x
unfolding is_bad
bad_copies images found l x other = sym (ap (λ (b : Bool). if b then row_fails images found l x else list_any (copy_differs images found l x) (range_with_len 1 (copies_of l - 1))) other)

pub bad_row : (images : List (List ℕ)) (found : Found) (l : Layout) (x : ℕ) → l.shape ≡ Raid5 → row_fails images found l x ≡ is_bad images found l x
unfolding is_bad
bad_row images found l x raid5 = sym (ap (λ (s : Shape). if is_raid5 s then row_fails images found l x else list_any (copy_differs images found l x) (range_with_len 1 (copies_of l - 1))) raid5)

-- ---- a run

pub common_along : (l : Layout) (x n : ℕ) → Along l x (copies_of l) n → IsCommonRun l x n
common_along l x n so = record { some = so.some; within = so.within; places = λ copy i lt li. so.places copy i lt li }

pub copy_bytes : (sizes : List ℕ) (found : Found) (l : Layout) (x copy n bytes : ℕ) (s : Spot) → LiesOn found l sizes → IsCommonRun l x n → copy < copies_of l → bytes ≤ 512 * n
    → copy_spot found l x copy ≡ Some s → HasBytes sizes s bytes
copy_bytes sizes found l x copy n bytes s lies run copied few is =
    run_bytes sizes (λ y. copy_spot found l y copy) x n l.size bytes s (λ y t lt at. lies.copies y copy t lt copied at)
    (λ i lt. ap (λ (p : Option Place). spot_at found p) (run.places copy i copied lt) ∙ spot_moved found i (place_in l x copy))
    is run.some run.within few

-- ---- A volume of which no place is bad is redundant.

none_passes : (t : ℕ → Bool) (a n c : ℕ) → list_any t (range_with_len a n) ≡ false → a ≤ c → c < a + n → t c ≡ false
none_passes t a n c h low lt =
    let at = at_number a n c 0 low lt in
    false_from_ne_true (t c)
    (λ yes. true≢false (sym (list_any_at t (range_with_len a n) (c - a) 0 at.0 (ap t at.1 ∙ yes))
    ∙ h))

byte_in : (images : List (List ℕ)) (spots : List Spot) (j : ℕ) → j < 512 → get_or (joined_sector images spots) j 0 ≡ joined_byte images spots j
byte_in images spots j lt = get_or-map-range_with_len (joined_byte images spots) 0 512 j j 0 lt (omega arith)

-- what is in a row goes by its offset in the columns
rows_by : (found : Found) (l : Layout) (x y : ℕ) (images : List (List ℕ)) (j : ℕ) → raid5_offset (length (columns_of l)) l.chunk x ≡ raid5_offset (length (columns_of l)) l.chunk y
    → joined_byte images (row_spots found l x) j ≡ joined_byte images (row_spots found l y) j
rows_by found l x y images j same =
    ap (λ (o : ℕ). joined_byte images (filter_map (λ column. spot_at found (option_map place_at (option_map {U = Extent × ℕ} (λ e. (e, o)) (slice_get (columns_of l) column)))) (range_with_len 0 (length (columns_of l)))) j) same

-- the sectors of places: all of a mirror, and those of the first chunk of each row of a RAID-5
abbrev is_place : Layout → ℕ → Bool
is_place l x = if is_raid5 l.shape then (x / l.chunk % (length (columns_of l) - 1)) == 0 else true

module _ (images : List (List ℕ)) (found : Found) (l : Layout) (columned : l.shape ≡ Raid5 → IsColumned l)
    (clean : (x : ℕ) → x < l.size → is_place l x ≡ true → is_bad images found l x ≡ false) where
  -- each copy is the first
  as_first : (x c j : ℕ) → is_raid5 l.shape ≡ false → x < l.size → c < copies_of l → j < 512
      → joined_byte images (option_to_list (copy_spot found l x c)) j ≡ joined_byte images (option_to_list (copy_spot found l x 0)) j
  as_first x zero j other within copied lt = refl
  as_first x (suc c) j other within copied lt =
      let place : is_place l x ≡ true = ap (λ (b : Bool). if b then (x / l.chunk % (length (columns_of l) - 1)) == 0 else true) other in
      let none = bad_copies images found l x other ∙ clean x within place in
      let same : bytes_eq (copy_sector images found l x 0) (copy_sector images found l x (suc c)) ≡ true =
      not-false (bytes_eq (copy_sector images found l x 0) (copy_sector images found l x (suc c))) (none_passes (copy_differs images found l x) 1 (copies_of l - 1) (suc c) none (omega arith) (omega (arith, copied))) in
      let equal : copy_sector images found l x 0 ≡ copy_sector images found l x (suc c) = (bytes_eq-Decides (copy_sector images found l x 0) (copy_sector images found l x (suc c))).0 same in
      sym (byte_in images (option_to_list (copy_spot found l x (suc c))) j lt) ∙ (ap (λ (s : List ℕ). get_or s j 0) (sym equal) ∙ byte_in images (option_to_list (copy_spot found l x 0)) j lt)

  -- a RAID-5 has one copy
  raid5_first : (c : ℕ) → l.shape ≡ Raid5 → c < copies_of l → c ≡ 0
  raid5_first c raid5 copied = (let one : copies_of l ≡ 1 = ap (λ (s : Shape). copies_by s (length l.plexes)) raid5 in omega (arith, one, copied))

  copies_same : (x c d j : ℕ) → x < l.size → c < copies_of l → d < copies_of l → j < 512
      → joined_byte images (option_to_list (copy_spot found l x c)) j ≡ joined_byte images (option_to_list (copy_spot found l x d)) j
  copies_same x c d j within at_c at_d lt = go (is_raid5 l.shape) refl
    where
      go : (b : Bool) → is_raid5 l.shape ≡ b → joined_byte images (option_to_list (copy_spot found l x c)) j ≡ joined_byte images (option_to_list (copy_spot found l x d)) j
      go false is = as_first x c j is within at_c lt ∙ sym (as_first x d j is within at_d lt)
      go true is =
          let raid5 = raid5_is l.shape is in
          ap (λ (n : ℕ). joined_byte images (option_to_list (copy_spot found l x n)) j) (raid5_first c raid5 at_c ∙ sym (raid5_first d raid5 at_d))

  -- the place that is compared for a sector of a RAID-5
  module _ (x : ℕ) (raid5 : l.shape ≡ Raid5) where
    abbrev u : ℕ
    u = l.chunk

    abbrev k : ℕ
    k = length (columns_of l)

    -- where it is in its column, and the first sector there
    abbrev at : ℕ
    at = raid5_offset k u x

    abbrev first : ℕ
    first = row_sector k u at

    parts : RowParts k u at
    parts = row_parts k u at (columned raid5).chunked (columned raid5).many

    on_place : is_place l first ≡ true
    on_place =
        let many = (columned raid5).many in
        let chunk : first / u ≡ at / u * (k - 1) + 0 = omega (arith, parts.chunk) in
        ap (λ (s : Shape). if is_raid5 s then (first / u % (k - 1)) == 0 else true) raid5
        ∙ eq-eqb (first / u % (k - 1)) 0 (ap (λ n. n % (k - 1)) chunk
        ∙ mod-mul-add (at / u) (k - 1) 0 (omega (arith, many)))

    first_low : first ≤ x
    first_low =
        let low : x % u < u = mod_below x u (columned raid5).chunked in
        let row = ap (λ n. n * (k - 1) * u) (div-mul-add (x / u / (k - 1)) u (x % u) low) in
        let rest = mod-mul-add (x / u / (k - 1)) u (x % u) low in
        let whole : x / u * u + x % u ≡ x = div-add-mod' x u in
        let chunks : x / u / (k - 1) * (k - 1) + x / u % (k - 1) ≡ x / u = div-add-mod' (x / u) (k - 1) in
        let few : x / u / (k - 1) * (k - 1) ≤ x / u = omega (arith, chunks) in
        let less : x / u / (k - 1) * (k - 1) * u ≤ x / u * u = mul-le (x / u / (k - 1) * (k - 1)) u
        (x / u) u few (omega arith) in
        omega (arith, whole, less, row, rest)

  row_zero : (x j : ℕ) → x < l.size → l.shape ≡ Raid5 → j < 512 → joined_byte images (row_spots found l x) j ≡ 0
  row_zero x j within raid5 lt =
      let at = first x raid5 in
      let ok : is_bad images found l at ≡ false = clean at (let low = first_low x raid5 in omega (arith, low, within)) (on_place x raid5) in
      let fails = bad_row images found l at raid5 ∙ ok in
      let zero_byte : ℕ = 0 in
      let equal : joined_sector images (row_spots found l at) ≡ replicate 512 zero_byte = (bytes_eq-Decides (joined_sector images (row_spots found l at)) (replicate 512 zero_byte)).0 (not-false (bytes_eq (joined_sector images (row_spots found l at)) (replicate 512 zero_byte)) fails) in
      row_same x raid5 j ∙ (sym (byte_in images (row_spots found l at) j lt) ∙ (ap (λ (s : List ℕ). get_or s j 0) equal ∙ get_or-replicate 512 j zero_byte zero_byte lt))
    where
      row_same : (y : ℕ) (is : l.shape ≡ Raid5) (i : ℕ) → joined_byte images (row_spots found l y) i ≡ joined_byte images (row_spots found l (first y is)) i
      row_same y is i = rows_by found l y (first y is) images i (sym (parts y is).offset)

-- each of them is the sector of a place
at_place : (l : Layout) (x : ℕ) → (l.shape ≡ Raid5 → IsColumned l) → is_place l x ≡ true → (p : ℕ) × (place_sector l p ≡ x)
at_place l x columned place = go (is_raid5 l.shape) refl
  where
    go : (b : Bool) → is_raid5 l.shape ≡ b → (p : ℕ) × (place_sector l p ≡ x)
    go false other = (x, sector_other l x other)
    go true is =
        let raid5 = raid5_is l.shape is in
        let has = columned raid5 in
        let first : ((x / l.chunk % (length (columns_of l) - 1)) == 0) ≡ true = sym (ap (λ (b : Bool). if b then (x / l.chunk % (length (columns_of l) - 1)) == 0 else true) is) ∙ place in
        let p : ℕ = x / l.chunk / (length (columns_of l) - 1) * l.chunk + x % l.chunk in
        (p, sector_raid5 l p raid5 ∙ place_of_row (length (columns_of l)) l.chunk x has.chunked (eqb-true (x / l.chunk % (length (columns_of l) - 1)) 0 first))

pub clean_redundant : (images : List (List ℕ)) (found : Found) (l : Layout) → (l.shape ≡ Raid5 → IsColumned l)
    → ((p : ℕ) → place_sector l p < l.size → is_bad_at images found l p ≡ false) → IsRedundant images found l
clean_redundant images found l columned clean =
    record { copies = copies_same images found l columned sectors; rows = row_zero images found l columned sectors }
  where
    sectors : (x : ℕ) → x < l.size → is_place l x ≡ true → is_bad images found l x ≡ false
    sectors x lt place =
        let at = at_place l x columned place in
        sym (ap (λ (y : ℕ). is_bad images found l y) at.1) ∙ clean at.0 (let e = at.1 in omega (arith, e, lt))

-- ---- How many places there are.

filter_all : (t : ℕ → Bool) (a n : ℕ) → ((p : ℕ) → a ≤ p → p < a + n → t p ≡ true) → filter t (range_with_len a n) ≡ range_with_len a n
filter_all t a zero all = refl
filter_all t a (suc n) all =
    let rest = filter_all t (a + 1) n (λ p low lt. all p (omega (arith, low)) (omega (arith, lt))) in
    rw (all a (omega arith) (omega arith), rest) refl

filter_none : (t : ℕ → Bool) (a n : ℕ) → ((p : ℕ) → a ≤ p → p < a + n → t p ≡ false) → filter t (range_with_len a n) ≡ []
filter_none t a zero none = refl
filter_none t a (suc n) none =
    rw (none a (omega arith) (omega arith))
    (filter_none t (a + 1) n (λ p low lt. none p (omega (arith, low)) (omega (arith, lt))))

-- those that pass a test stand in front
filter_front : (t : ℕ → Bool) (size n : ℕ) → n ≤ size → ((p : ℕ) → p < n → t p ≡ true) → ((p : ℕ) → n ≤ p → t p ≡ false) → filter t (range_with_len 0 size) ≡ range_with_len 0 n
filter_front t size n le passes fails =
    let e : size ≡ n + (size - n) = omega (arith, le) in
    ap (λ (m : ℕ). filter t (range_with_len 0 m)) e
    ∙ (ap (λ (r : List ℕ). filter t r) (range_append 0 n (size - n))
    ∙ (filter-append t (range_with_len 0 n) (range_with_len (0 + n) (size - n))
    ∙ (ap (λ (r : List ℕ). r ++ filter t (range_with_len (0 + n) (size - n))) (filter_all t 0 n (λ p low lt. passes p (omega (arith, lt))))
    ∙ (ap (λ (r : List ℕ). range_with_len 0 n ++ r) (filter_none t (0 + n) (size - n) (λ p low lt. fails p (omega (arith, low))))
    ∙ append-nil (range_with_len 0 n)))))

-- what a number of places must be
pub count_is : (l : Layout) (n : ℕ) → n ≤ l.size → ((p : ℕ) → p < n → place_sector l p < l.size) → ((p : ℕ) → n ≤ p → l.size ≤ place_sector l p) → (is_raid5 l.shape ≡ false → n ≡ l.size) → IsCount l n
count_is l n le passes fails others = grind (arith, filter_front, lt-ltb, le-ltb)

pub count_others : (l : Layout) → is_raid5 l.shape ≡ false → IsCount l l.size
count_others l other = grind (arith, count_is, sector_other)

-- ---- rows

-- a product with one more
one_more : (a r : ℕ) → (a + 1) * r ≡ a * r + r
one_more a r = ap (λ n. n * r) (let e : a + 1 ≡ suc a = omega arith in e) ∙ suc-mul a r

below : (a b r : ℕ) → a < b → a * r + r ≤ b * r
below a b r lt = (let more = mul-le (a + 1) r b r (omega (arith, lt)) (omega arith) in let e = one_more a r in omega (arith, more, e))

-- the sectors of the whole rows in front
row_start : (s h u : ℕ) → s * h * u ≡ s * (u * h)
row_start s h u = mul_assoc s h u ∙ ap (λ n. s * n) (mul_comm h u)

-- place s * u + o among the rows of u * h sectors, of which there are q whole ones, and m sectors behind them
record RowCount (h u s o q m : ℕ) : Type 0 where
  few : q * u + min m u ≤ q * (u * h) + m
  inside : s * u + o < q * u + min m u → s * h * u + o < q * (u * h) + m
  outside : q * u + min m u ≤ s * u + o → q * (u * h) + m ≤ s * h * u + o

row_count : (h u s o q m : ℕ) → 0 < h → o < u → m < u * h → RowCount h u s o q m
row_count h u s o q m some low short =
    let wide : u * 1 ≤ u * h = mul-le u 1 u h (omega arith) some in
    let whole : q * u ≤ q * (u * h) = mul-le q u q (u * h) (omega arith) (omega (arith, wide)) in
    let start = row_start s h u in
    record {
      few = omega (arith, whole);
      inside = λ lt. elim (cases_lt s q) [
        | inl less ↦ (let b = below s q (u * h) less in omega (arith, b, start, wide, low))
        | inr ge ↦ elim (cases_lt q s) [
          | inl more ↦ (let b = below q s u more in absurd (omega (arith, b, lt)))
          | inr le ↦ (let e : s ≡ q = omega (arith, ge, le) in
              let a = ap (λ n. n * u) e in let b = ap (λ n. n * (u * h)) e in omega (arith, a, b, start, lt))
        ]
      ];
      outside = λ ge. elim (cases_lt s q) [
        | inl less ↦ (let b = below s q u less in absurd (omega (arith, b, ge, low)))
        | inr at ↦ elim (cases_lt q s) [
          | inl more ↦ (let b = below q s (u * h) more in omega (arith, b, start, short))
          | inr le ↦ (let e : s ≡ q = omega (arith, at, le) in
              let a = ap (λ n. n * u) e in let b = ap (λ n. n * (u * h)) e in omega (arith, a, b, start, ge, low))
        ]
      ];
    }

-- the places of the whole rows, and those of the row that is cut
abbrev pub rows_in : ℕ → ℕ → ℕ → ℕ
rows_in k u size = size / (u * (k - 1)) * u + min (size % (u * (k - 1))) u

pub count_rows : (l : Layout) → l.shape ≡ Raid5 → IsColumned l → IsCount l (rows_in (length (columns_of l)) l.chunk l.size)
count_rows l raid5 columned =
    count_is l (rows_in k u l.size) (few_all 0) yes_all no_more_all (λ other. absurd (not_other (ap is_raid5 raid5) other))
  where
    k : ℕ
    k = length (columns_of l)

    u : ℕ
    u = l.chunk

    not_other : is_raid5 l.shape ≡ true → is_raid5 l.shape ≡ false → ⊥
    not_other a b = (let e : true ≡ false = sym a ∙ b in absurd cc)

    some : 0 < k - 1
    some = (let m = columned.many in omega (arith, m))

    long : 0 < u * (k - 1)
    long = (let w = mul-le u 1 u (k - 1) (omega arith) some in let c = columned.chunked in omega (arith, w, c))

    count : (p : ℕ) → RowCount (k - 1) u (p / u) (p % u) (l.size / (u * (k - 1))) (l.size % (u * (k - 1)))
    count p = row_count (k - 1) u (p / u) (p % u) (l.size / (u * (k - 1))) (l.size % (u * (k - 1))) some (mod_below p u columned.chunked) (mod_below l.size (u * (k - 1)) long)

    size_is : l.size / (u * (k - 1)) * (u * (k - 1)) + l.size % (u * (k - 1)) ≡ l.size
    size_is = div-add-mod' l.size (u * (k - 1))

    few_all : (p : ℕ) → rows_in k u l.size ≤ l.size
    few_all p = (let f = (count p).few in let e = size_is in omega (arith, f, e))

    yes_all : (p : ℕ) → p < rows_in k u l.size → place_sector l p < l.size
    yes_all p lt =
        let y = (count p).inside (let e = div-add-mod' p u in omega (arith, e, lt)) in
        let e = size_is in let at = sector_raid5 l p raid5 in omega (arith, y, e, at)

    no_more_all : (p : ℕ) → rows_in k u l.size ≤ p → l.size ≤ place_sector l p
    no_more_all p low =
        let n = (count p).outside (let e = div-add-mod' p u in omega (arith, e, low)) in
        let e = size_is in let at = sector_raid5 l p raid5 in omega (arith, n, e, at)

-- what a plan of a RAID-5 tells of its chunks
pub untiled : (l : Layout) → l.shape ≡ Raid5 → is_tiled l.shape ≡ false
untiled l raid5 = ap is_tiled raid5

-- ---- The lines of some places, and how many are bad.

-- ---- more places

count_append : (t : ℕ → Bool) (xs ys : List ℕ) → count_by t (xs ++ ys) ≡ count_by t xs + count_by t ys
count_append t xs ys = sum_by-append (λ (x : ℕ). cond (t x) 1 0) xs ys

-- one place more
pub count_one : (t : ℕ → Bool) (place i : ℕ) → count_by t (range_with_len place (i + 1)) ≡ count_by t (range_with_len place i) + cond (t (place + i)) 1 0
count_one t place i = grind (arith, range_more, count_append, zero-add)

pub line_one : (t : ℕ → Bool) (line : ℕ → List ℕ) (place i : ℕ) → flat_map (λ p. if t p then line p else []) (range_with_len place (i + 1))
    ≡ flat_map (λ p. if t p then line p else []) (range_with_len place i) ++ (if t (place + i) then line (place + i) else [])
line_one t line place i = grind (arith, range_more, flat_map-append, append-nil)

pub lines_more : (format : Format) (images : List (List ℕ)) (found : Found) (l : Layout) (p n : ℕ) → bad_lines format images found l (range_with_len 0 (p + n)) ≡ bad_lines format images found l (range_with_len 0 p) ++ bad_lines format images found l (range_with_len p n)
unfolding bad_lines
lines_more format images found l p n = grind (arith, range_append, zero-add, flat_map-append)

pub bad_more : (images : List (List ℕ)) (found : Found) (l : Layout) (p n : ℕ) → bad_of images found l (range_with_len 0 (p + n)) ≡ bad_of images found l (range_with_len 0 p) + bad_of images found l (range_with_len p n)
unfolding bad_of
bad_more images found l p n = grind (arith, range_append, zero-add, count_append)

pub no_lines : (format : Format) (images : List (List ℕ)) (found : Found) (l : Layout) → bad_lines format images found l (range_with_len 0 0) ≡ []
unfolding bad_lines
no_lines format images found l = refl

pub none_bad : (images : List (List ℕ)) (found : Found) (l : Layout) → bad_of images found l (range_with_len 0 0) ≡ 0
unfolding bad_of
none_bad images found l = refl

-- where none is bad nothing is said
no_line : (t : ℕ → Bool) (line : ℕ → List ℕ) (xs : List ℕ) → count_by t xs ≡ 0 → flat_map (λ p. if t p then line p else []) xs ≡ []
no_line t line [] none = refl
no_line t line (x ∷ xs) none = go (t x) (sym (count_append t (x ∷ []) xs) ∙ none) (no_line t line xs)
  where
    go : (b : Bool) → 0 + cond b 1 0 + count_by t xs ≡ 0 → (count_by t xs ≡ 0 → flat_map (λ p. if t p then line p else []) xs ≡ [])
        → (if b then line x else []) ++ flat_map (λ p. if t p then line p else []) xs ≡ []
    go true none rest = absurd (omega (arith, none))
    go false none rest = rest (omega (arith, none))

pub silent : (format : Format) (images : List (List ℕ)) (found : Found) (l : Layout) (places : List ℕ) → count_by (is_bad_at images found l) places ≡ 0 → bad_lines format images found l places ≡ []
unfolding bad_lines
silent format images found l places none = no_line (is_bad_at images found l) (bad_line format l) places none

pub lines_are : (format : Format) (images : List (List ℕ)) (found : Found) (l : Layout) (places : List ℕ) → flat_map (λ p. if is_bad_at images found l p then bad_line format l p else []) places ≡ bad_lines format images found l places
unfolding bad_lines
lines_are format images found l places = refl

pub bad_are : (images : List (List ℕ)) (found : Found) (l : Layout) (places : List ℕ) → count_by (is_bad_at images found l) places ≡ bad_of images found l places
unfolding bad_of
bad_are images found l places = refl

-- ---- what was said

-- the marks of the places that were marked
marks_taken : (images : List (List ℕ)) (found : Found) (l : Layout) (place n : ℕ) (marks : List ℕ) → n ≤ length marks
    → ((i : ℕ) → i < n → slice_index marks i ≡ mark (is_bad_at images found l (place + i)))
    → (i : ℕ) → i < length (take n marks) → slice_index (take n marks) i ≡ mark (is_bad_at images found l (place + i))
marks_taken images found l place n marks few marked i lt = grind (arith, length-take-le, get_or-take)

-- what begins the lines of places that were marked, before which nothing was said
pub marked_front : (format : Format) (images : List (List ℕ)) (found : Found) (l : Layout) (place all n : ℕ) (marks old mid new : List ℕ) → n ≤ length marks → mid ≡ old → place + n ≤ all
    → ((i : ℕ) → i < n → slice_index marks i ≡ mark (is_bad_at images found l (place + i)))
    → (((i : ℕ) → i < length (take n marks) → slice_index (take n marks) i ≡ mark (is_bad_at images found l (place + i)))
    → Begins new (mid ++ bad_lines format images found l (range_with_len place (length (take n marks)))))
    → (m : ℕ) × (place + m ≤ all) × Begins new (old ++ bad_lines format images found l (range_with_len place m))
marked_front format images found l place all n marks old mid new few same fits marked front =
    grind (arith, marks_taken, length-take-le)

-- the lines of places that were marked, before which nothing was said
pub marked_said : (format : Format) (images : List (List ℕ)) (found : Found) (l : Layout) (place n : ℕ) (marks old mid new : List ℕ) → n ≤ length marks → mid ≡ old
    → ((i : ℕ) → i < n → slice_index marks i ≡ mark (is_bad_at images found l (place + i)))
    → (((i : ℕ) → i < length (take n marks) → slice_index (take n marks) i ≡ mark (is_bad_at images found l (place + i)))
    → new ≡ mid ++ bad_lines format images found l (range_with_len place (length (take n marks))))
    → new ≡ old ++ bad_lines format images found l (range_with_len place n)
marked_said format images found l place n marks old mid new few same marked said =
    grind (arith, marks_taken, length-take-le)

-- how many of the places that were marked are bad
pub marked_bad : (images : List (List ℕ)) (found : Found) (l : Layout) (place n bad : ℕ) (marks : List ℕ) → n ≤ length marks
    → ((i : ℕ) → i < n → slice_index marks i ≡ mark (is_bad_at images found l (place + i)))
    → (((i : ℕ) → i < length (take n marks) → slice_index (take n marks) i ≡ mark (is_bad_at images found l (place + i)))
    → bad ≡ bad_of images found l (range_with_len place (length (take n marks))))
    → bad ≡ bad_of images found l (range_with_len place n)
marked_bad images found l place n bad marks few marked count = grind (arith, marks_taken, length-take-le)

-- what begins a text begins it with more behind
pub begins_more : (new whole more : List ℕ) → Begins new whole → Begins new (whole ++ more)
begins_more new whole more b = (b.0 ++ more, ap (λ (t : List ℕ). t ++ more) b.1 ∙ append_assoc new b.0 more)

-- ---- a line

pub line_row : (format : Format) (l : Layout) (p : ℕ) → l.shape ≡ Raid5 → bad_line format l p ≡ failing_line format (p / l.chunk) (p % l.chunk)
unfolding bad_line
line_row format l p raid5 = ap (λ (s : Shape). if is_raid5 s then failing_line format (p / l.chunk) (p % l.chunk) else differing_line format p) raid5

pub line_other : (format : Format) (l : Layout) (p : ℕ) → is_raid5 l.shape ≡ false → bad_line format l p ≡ differing_line format p
unfolding bad_line
line_other format l p other = ap (λ (b : Bool). if b then failing_line format (p / l.chunk) (p % l.chunk) else differing_line format p) other

pub other_shape : (s : Shape) → (s ≡ Raid5 → ⊥) → is_raid5 s ≡ false
other_shape s apart = false_from_ne_true (is_raid5 s) (λ is. apart (raid5_is s is))

-- the last line has both counts
pub end_text : (format : Format) (images : List (List ℕ)) (found : Found) (l : Layout) (front : List ℕ) (all bad : ℕ) → IsCount l all → bad ≡ bad_of images found l (places_of l)
    → counts_line format front all bad ≡ counts_line format front (length (places_of l)) (bad_of images found l (places_of l))
end_text format images found l front all bad counted is = grind (arith, length-range_with_len)
