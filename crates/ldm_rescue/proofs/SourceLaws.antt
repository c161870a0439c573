-- The sources of a sector: turn by turn, side by side with those of the sectors behind it, and on the images.
use Rattle.std.proofs.Common.{◌≡◌, ℕ, ◌+◌, ◌-◌, ◌*◌, ◌<◌, ◌≤◌, Bool, true, false, not, List, [], ◌∷◌, ◌++◌, map, length, slice_index, slice_get, Contains, refl, ap, sym, subst, ◌∙◌, arith, Option, Some, None, option_and_then, if◌then◌else◌, is_some, inl, inr}
use Rattle.std.specs.List.{range_with_len}
use Rattle.std.specs.Option.{option_map, option_to_list}
use Rattle.std.proofs.lemmas.Bool.{cases_lt, le-ltb, lt-ltb}
use Rattle.ldm_places.specs.Layouts.{Layout, copies_of, copies_by, place_in}
use Rattle.ldm_places.specs.Columns.{columns_of, own_column, column_in, moved}
use Rattle.ldm_places.specs.declared.shape.Place.{Place}
use Rattle.ldm_places.specs.declared.shape.Shape.{Shape}
use Rattle.ldm_places.specs.declared.shape.Shape.TheVariants.{Raid5}
use Rattle.ldm_copy.specs.declared.found.Found.{Found}
use Rattle.ldm_dump.specs.Sources.{is_here, spot_at, copy_spot, other_spot, other_spots, can_rebuild}
use Rattle.ldm_dump.specs.Runs.{behind, IsOn, HasBytes, LiesOn}
use Rattle.ldm_dump.specs.declared.spots.Spot.{Spot}
use Rattle.ldm_dump.proofs.RangeLaws.{made_moved}
use Rattle.ldm_dump.proofs.RunLaws.{Along, spot_moved, other_moved, beside_moved, rebuild_same, rebuilds_raid5}
use Rattle.ldm_dump.proofs.ReadLaws.{here_is}
use Rattle.ldm_rescue.specs.Rescued.{is_stale, source_if, fresh_source, stale_source, rebuilt_source, source_in, turn_count, sources_in_order, source_spots, AreTogether}
use Rattle.ldm_rescue.specs.declared.sources.Source.{Source}
use Rattle.ldm_rescue.proofs.ListLaws.{made_to, made_next, made_at, made_part, made_from, contains_one, contains_first, contains_map}

-- ---- turn by turn

-- the sources that are tried before a turn
abbrev pub sources_to : Found → Layout → ℕ → ℕ → List (List Spot)
sources_to found l x turn = made_to (source_in found l x) turn

pub all_turns : (found : Found) (l : Layout) (x : ℕ) → sources_in_order found l x ≡ sources_to found l x (turn_count l)
unfolding sources_in_order
all_turns found l x = refl

-- the first source is that of the first turn that has one
pub first_at : (found : Found) (l : Layout) (x turn : ℕ) (spots : List Spot) → sources_to found l x turn ≡ [] → turn < turn_count l → source_in found l x turn ≡ Some spots
    → slice_get (sources_in_order found l x) 0 ≡ Some spots
first_at found l x turn spots none lt is =
    let at = made_at (source_in found l x) (turn_count l) turn lt in
    ap (λ (s : List (List Spot)). slice_get s 0)
    (all_turns found l x ∙ at.1
    ∙ (ap (λ (s : List (List Spot)). s ++ (option_to_list (source_in found l x turn) ++ at.0)) none
    ∙ ap (λ (o : Option (List Spot)). option_to_list o ++ at.0) is))

-- where a turn has no source, there is none yet
pub none_next : (found : Found) (l : Layout) (x turn : ℕ) → sources_to found l x turn ≡ [] → source_in found l x turn ≡ None → sources_to found l x (turn + 1) ≡ []
none_next found l x turn none is =
    made_next (source_in found l x) turn
    ∙ (ap (λ (s : List (List Spot)). s ++ option_to_list (source_in found l x turn)) none
    ∙ ap (λ (o : Option (List Spot)). option_to_list o) is)

-- what code finds in a turn
pub first_by : (found : Found) (l : Layout) (x turn : ℕ) (s : Option Source) → sources_to found l x turn ≡ [] → turn < turn_count l → option_map (source_spots found l x) s ≡ source_in found l x turn → true ≡ is_some s
    → option_map (source_spots found l x) s ≡ slice_get (sources_in_order found l x) 0
first_by found l x turn None none lt is some = absurd cc
first_by found l x turn (Some source) none lt is some = sym (first_at found l x turn (source_spots found l x source) none lt (sym is))

pub none_by : (found : Found) (l : Layout) (x turn : ℕ) (s : Option Source) → sources_to found l x turn ≡ [] → option_map (source_spots found l x) s ≡ source_in found l x turn → false ≡ is_some s → sources_to found l x (turn + 1) ≡ []
none_by found l x turn None none is some = none_next found l x turn none (sym is)
none_by found l x turn (Some source) none is some = absurd cc

pub none_at_all : (found : Found) (l : Layout) (x turn : ℕ) → turn ≡ turn_count l → sources_to found l x turn ≡ [] → sources_in_order found l x ≡ []
none_at_all found l x turn all none = all_turns found l x ∙ (ap (sources_to found l x) (sym all) ∙ none)

-- ---- the turns

pub fresh_turn : (found : Found) (l : Layout) (x turn : ℕ) → turn < copies_of l → source_in found l x turn ≡ fresh_source found l x turn
fresh_turn found l x turn lt = rw (lt-ltb turn (copies_of l) lt) refl

pub stale_turn : (found : Found) (l : Layout) (x turn : ℕ) → copies_of l ≤ turn → turn < 2 * copies_of l → source_in found l x turn ≡ stale_source found l x (turn - copies_of l)
stale_turn found l x turn ge lt = rw (le-ltb turn (copies_of l) ge, lt-ltb turn (2 * copies_of l) lt) refl

pub rebuilt_turn : (found : Found) (l : Layout) (x turn : ℕ) → 2 * copies_of l ≤ turn → source_in found l x turn ≡ rebuilt_source found l x
rebuilt_turn found l x turn ge =
    let high : copies_of l ≤ turn = omega (arith, ge) in
    rw (le-ltb turn (copies_of l) high, le-ltb turn (2 * copies_of l) ge) refl

-- ---- sectors that lie side by side

pub source_if_moved : (i : ℕ) (b : Bool) (s : Spot) → source_if b (behind i s) ≡ option_map (map (behind i)) (source_if b s)
source_if_moved i true s = refl
source_if_moved i false s = refl

copy_moved : (i : ℕ) (t : ℕ → Bool) (o : Option Spot) → option_and_then (λ spot. source_if (t spot.image) spot) (option_map (behind i) o)
    ≡ option_map (map (behind i)) (option_and_then (λ spot. source_if (t spot.image) spot) o)
copy_moved i t None = refl
copy_moved i t (Some s) = source_if_moved i (t s.image) s

module _ (found : Found) (l : Layout) (x n : ℕ) (so : AreTogether l x n) where
  spot_along : (i copy : ℕ) → i < n → copy < copies_of l → copy_spot found l (x + i) copy ≡ option_map (behind i) (copy_spot found l x copy)
  spot_along i copy li lc = ap (λ (p : Option Place). spot_at found p) (so.copies i copy li lc) ∙ spot_moved found i (place_in l x copy)

  fresh_along : (i copy : ℕ) → i < n → copy < copies_of l → fresh_source found l (x + i) copy ≡ option_map (map (behind i)) (fresh_source found l x copy)
  fresh_along i copy li lc =
      let pick : Option Spot → Option (List Spot) = option_and_then (λ spot. source_if (not (is_stale found spot.image)) spot) in
      ap pick (spot_along i copy li lc) ∙ copy_moved i (λ image. not (is_stale found image)) (copy_spot found l x copy)

  stale_along : (i copy : ℕ) → i < n → copy < copies_of l → stale_source found l (x + i) copy ≡ option_map (map (behind i)) (stale_source found l x copy)
  stale_along i copy li lc =
      let pick : Option Spot → Option (List Spot) = option_and_then (λ spot. source_if (is_stale found spot.image) spot) in
      ap pick (spot_along i copy li lc) ∙ copy_moved i (λ image. is_stale found image) (copy_spot found l x copy)

  can_along : (i : ℕ) → i < n → can_rebuild found l (x + i) ≡ can_rebuild found l x
  can_along i li = rebuild_same found l x (x + i) l.shape refl (λ raid5 c. beside_moved found l x i c (so.own i li raid5) (so.columns i c li raid5))

  others_along : (i : ℕ) → i < n → can_rebuild found l x ≡ true → other_spots found l (x + i) ≡ map (behind i) (other_spots found l x)
  others_along i li rebuilds = made_moved (other_spot found l (x + i)) (other_spot found l x) (behind i) (range_with_len 0 (length (columns_of l)))
      (λ c. other_moved found l x i c (so.own i li (rebuilds_raid5 found l x rebuilds)) (so.columns i c li (rebuilds_raid5 found l x rebuilds)))

  rebuilt_along : (i : ℕ) → i < n → rebuilt_source found l (x + i) ≡ option_map (map (behind i)) (rebuilt_source found l x)
  rebuilt_along i li =
      ap (λ (b : Bool). if b then Some (other_spots found l (x + i)) else None) (can_along i li)
      ∙ go (can_rebuild found l x) refl
    where
      go : (b : Bool) → can_rebuild found l x ≡ b → (if b then Some (other_spots found l (x + i)) else None) ≡ option_map (map (behind i)) (if b then Some (other_spots found l x) else None)
      go true is = ap (λ (s : List Spot). Some s) (others_along i li is)
      go false is = refl

  pub source_along : (i turn : ℕ) → i < n → source_in found l (x + i) turn ≡ option_map (map (behind i)) (source_in found l x turn)
  source_along i turn li = elim (cases_lt turn (copies_of l)) [
    | inl lt ↦ fresh_turn found l (x + i) turn lt ∙ fresh_along i turn li lt ∙ sym (ap (option_map (map (behind i))) (fresh_turn found l x turn lt))
    | inr ge ↦ elim (cases_lt turn (2 * copies_of l)) [
      | inl lt ↦ stale_turn found l (x + i) turn ge lt ∙ stale_along i (turn - copies_of l) li (omega (arith, ge, lt)) ∙ sym (ap (option_map (map (behind i))) (stale_turn found l x turn ge lt))
      | inr high ↦ rebuilt_turn found l (x + i) turn high ∙ rebuilt_along i li ∙ sym (ap (option_map (map (behind i))) (rebuilt_turn found l x turn high))
    ]
  ]

  pub sources_along : (i : ℕ) → i < n → sources_in_order found l (x + i) ≡ map (map (behind i)) (sources_in_order found l x)
  sources_along i li =
      all_turns found l (x + i)
      ∙ (made_moved (source_in found l (x + i)) (source_in found l x) (map (behind i)) (range_with_len 0 (turn_count l)) (λ turn. source_along i turn li)
      ∙ sym (ap (map (map (behind i))) (all_turns found l x)))

-- fewer of them
pub together_less : (l : Layout) (x n m : ℕ) → AreTogether l x n → 0 < m → m ≤ n → AreTogether l x m
together_less l x n m so some few = record {
  some = some;
  within = omega (arith, so.within, few);
  copies = λ i copy li lc. so.copies i copy (omega (arith, li, few)) lc;
  own = λ i li raid5. so.own i (omega (arith, li, few)) raid5;
  columns = λ i column li raid5. so.columns i column (omega (arith, li, few)) raid5;
}

-- what lies side by side in all copies
pub together_all : (l : Layout) (x n : ℕ) → Along l x (copies_of l) n → AreTogether l x n
together_all l x n so = record {
  some = so.some;
  within = so.within;
  copies = λ i copy li lc. so.places copy i lc li;
  own = λ i li raid5. so.own i (some raid5) li raid5;
  columns = λ i column li raid5. so.columns i column (some raid5) li raid5;
}
  where
    some : l.shape ≡ Raid5 → 0 < copies_of l
    some raid5 = subst (λ (s : Shape). 0 < copies_by s (length l.plexes)) (sym raid5) (omega arith)

-- ---- on the images

-- the spot that a copy is
copy_is : (t : ℕ → Bool) (o : Option Spot) (spots : List Spot) (s : Spot) → option_and_then (λ spot. source_if (t spot.image) spot) o ≡ Some spots → Contains spots s → o ≡ Some s
copy_is t None spots s is part = absurd cc
copy_is t (Some r) spots s is part = go (t r.image) is
  where
    go : (b : Bool) → source_if b r ≡ Some spots → Some r ≡ Some s
    go true e = (let same : r ∷ [] ≡ spots = cc in ap (λ (z : Spot). Some z) (contains_one r s (subst (λ (l : List Spot). Contains l s) (sym same) part)))
    go false e = absurd cc

module _ (found : Found) (l : Layout) (sizes : List ℕ) (lies : LiesOn found l sizes) where
  -- each sector of a source is on an image
  source_on : (y turn : ℕ) (spots : List Spot) (s : Spot) → y < l.size → source_in found l y turn ≡ Some spots → Contains spots s → IsOn sizes s
  source_on y turn spots s within is part = elim (cases_lt turn (copies_of l)) [
    | inl lt ↦ lies.copies y turn s within lt
        (copy_is (λ image. not (is_stale found image)) (copy_spot found l y turn) spots s (sym (fresh_turn found l y turn lt) ∙ is) part)
    | inr ge ↦ elim (cases_lt turn (2 * copies_of l)) [
      | inl lt ↦ lies.copies y (turn - copies_of l) s within (omega (arith, ge, lt))
          (copy_is (λ image. is_stale found image) (copy_spot found l y (turn - copies_of l)) spots s (sym (stale_turn found l y turn ge lt) ∙ is) part)
      | inr high ↦ go (can_rebuild found l y) refl (sym (rebuilt_turn found l y turn high) ∙ is)
    ]
  ]
    where
      go : (b : Bool) → can_rebuild found l y ≡ b → (if b then Some (other_spots found l y) else None) ≡ Some spots → IsOn sizes s
      go true can e =
          let same : other_spots found l y ≡ spots = cc in
          let of = made_from (other_spot found l y) (range_with_len 0 (length (columns_of l))) s (subst (λ (r : List Spot). Contains r s) (sym same) part) in
          lies.columns y of.0 s within (rebuilds_raid5 found l y can) of.1
      go false can e = absurd cc

  -- as many bytes as the sectors that lie side by side have are there in each sector of a source
  pub source_has : (x n turn bytes : ℕ) (spots : List Spot) (s : Spot) → AreTogether l x n → bytes ≤ 512 * n → source_in found l x turn ≡ Some spots → Contains spots s → HasBytes sizes s bytes
  source_has x n turn bytes spots s so few is part =
      let i = n - 1 in
      let lt : i < n = omega (arith, so.some) in
      let last : source_in found l (x + i) turn ≡ Some (map (behind i) spots) = source_along found l x n so i turn lt ∙ ap (option_map (map (behind i))) is in
      let there = source_on (x + i) turn (map (behind i) spots) (behind i s) (omega (arith, so.within, so.some)) last (contains_map (behind i) spots s part) in
      let low : s.sector + i < slice_index sizes s.image = there.sector in
      record { image = there.image; inside = omega (arith, low, few, so.some) }

-- one sector lies beside itself
pub together_one : (l : Layout) (x : ℕ) → x < l.size → AreTogether l x 1
together_one l x lt = record {
  some = omega arith;
  within = omega (arith, lt);
  copies = λ i copy li lc. let none : i ≡ 0 = omega (arith, li) in
      subst (λ (k : ℕ). place_in l (x + k) copy ≡ option_map (moved k) (place_in l x copy)) (sym none) (ap (λ (y : ℕ). place_in l y copy) here ∙ stays (place_in l x copy));
  own = λ i li raid5. let none : x + i ≡ x = omega (arith, li) in ap (λ (y : ℕ). own_column l y) none;
  columns = λ i column li raid5. let none : i ≡ 0 = omega (arith, li) in
      subst (λ (k : ℕ). column_in l (x + k) column ≡ option_map (moved k) (column_in l x column)) (sym none) (ap (λ (y : ℕ). column_in l y column) here ∙ stays (column_in l x column));
}
  where
    here : x + 0 ≡ x
    here = omega arith

    moved_at : Place → ℕ → Option Place
    moved_at place n = Some (record { disk = place.disk; sector = n })

    stays : (p : Option Place) → p ≡ option_map (moved 0) p
    stays None = refl
    stays (Some place) = (let same : place.sector ≡ place.sector + 0 = omega arith in ap (λ (n : ℕ). moved_at place n) same)

-- a source in its order is that of a turn
pub turn_of : (found : Found) (l : Layout) (x : ℕ) (spots : List Spot) → Contains (sources_in_order found l x) spots → (turn : ℕ) × (source_in found l x turn ≡ Some spots)
turn_of found l x spots part =
    made_from (source_in found l x) (range_with_len 0 (turn_count l)) spots (subst (λ (s : List (List Spot)). Contains s spots) (all_turns found l x) part)

-- the source of a turn is one of all
pub turn_part : (found : Found) (l : Layout) (x turn : ℕ) (spots : List Spot) → turn < turn_count l → source_in found l x turn ≡ Some spots → Contains (sources_in_order found l x) spots
turn_part found l x turn spots lt is =
    subst (λ (s : List (List Spot)). Contains s spots) (sym (all_turns found l x))
    (made_part (source_in found l x) (turn_count l) turn spots lt (subst (λ (o : Option (List Spot)). Contains (option_to_list o) spots) (sym is) (contains_first spots [])))

-- where there is no source, the first copy isn't here
pub first_absent : (found : Found) (l : Layout) (x : ℕ) → sources_in_order found l x ≡ [] → 0 < copies_of l → is_here found (place_in l x 0) ≡ false
first_absent found l x none some =
    here_is found (place_in l x 0)
    ∙ both (copy_spot found l x 0) (not_there 0 (omega arith) (fresh_turn found l x 0 some))
    (not_there (copies_of l) (omega arith) (stale_turn found l x (copies_of l) (omega arith) (omega (arith, some)) ∙ ap (stale_source found l x) (let e : copies_of l - copies_of l ≡ 0 = omega arith in e)))
  where
    not_there : {o : Option (List Spot)} (turn : ℕ) → turn < turn_count l → source_in found l x turn ≡ o → o ≡ None
    not_there {o} turn lt is = go o is
      where
        go : (o : Option (List Spot)) → source_in found l x turn ≡ o → o ≡ None
        go None e = refl
        go (Some spots) e =
            let part = subst (λ (s : List (List Spot)). Contains s spots) none (turn_part found l x turn spots lt e) in
            let lt = part.1 in absurd (omega (arith, lt))

    both : (o : Option Spot) → option_and_then (λ spot. source_if (not (is_stale found spot.image)) spot) o ≡ None → option_and_then (λ spot. source_if (is_stale found spot.image) spot) o ≡ None → is_some o ≡ false
    both None fresh stale = refl
    both (Some s) fresh stale = go (is_stale found s.image) fresh stale
      where
        go : (b : Bool) → source_if (not b) s ≡ None → source_if b s ≡ None → true ≡ false
        go true fresh stale = absurd cc
        go false fresh stale = absurd cc
