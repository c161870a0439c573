-- Runs of sectors: where they can be read moves along with them, and which sector is lost first.
use Rattle.std.proofs.Common.{◌≡◌, ℕ, ◌+◌, ◌<◌, ◌≤◌, ◌==◌, inl, inr, min, not, Bool, true, false, List, map, length, refl, ap, sym, subst, ◌∙◌, arith, add_assoc, Option, Some, None, if◌then◌else◌, is_none, find, ◌-◌, ◌*◌, ◌/◌, ◌%◌, cond, slice_get}
use borrow.Author.Count.{below_more}
use Rattle.std.specs.Prelude.{◌&&◌, ◌||◌}
use Rattle.std.specs.List.{range_with_len, list_all}
use Rattle.std.specs.Option.{option_map, option_to_list}
use Rattle.std.proofs.lemmas.Bool.{cases_lt, cases_Bool, and_parts, eqb-true, eq-eqb, or_from, or_left, or_right, ne_eqb, false_from_ne_true, or_parts, true≢false}
use Rattle.ldm_places.specs.Layouts.{Layout, copies_of, copies_by, place_in, is_tiled, plex_spot, place_at}
use Rattle.ldm_places.specs.Columns.{columns_of, own_column, column_in, moved, IsStretch, chunk_of, IsColumned}
use Rattle.ldm_places.specs.declared.shape.Place.{Place}
use Rattle.ldm_places.specs.declared.shape.Shape.{Shape}
use Rattle.ldm_places.specs.declared.shape.Shape.TheVariants.{Span, Stripe, Mirror, Raid5}
use Rattle.ldm_copy.specs.declared.found.Found.{Found}
use Rattle.ldm_copy.specs.Images.{image_of}
use Rattle.ldm_dump.specs.Sources.{is_here, data_start, spot_at, first_copy, copy_spot, other_spot, other_spots, is_beside, is_raid5, can_rebuild, sources_by, sources_of, is_lost, IsLeastLost, IsLeastLostIn, chunk_start}
use Rattle.ldm_dump.specs.Runs.{behind, IsRun}
use Rattle.ldm_dump.specs.declared.spots.Spot.{Spot}
use Rattle.ldm_dump.proofs.RangeLaws.{find_first, find_nothing, all_in, all_but, all_at, made_moved, not_all, all_same_in}
use Rattle.std.proofs.Math.Nat.{add-mod_right, add-mul-div_left, add-mul-mod_self_left, div-add-mod, div-eq_of_lt-le, div-mul-le_self, mod-le, mul-div-le}
use Rattle.std.proofs.lemmas.Nat.{le-div, mod_below, mul-le}
use Rattle.ldm_places.proofs.SpotLaws.{place_by}
use Rattle.ldm_places.specs.Places.{stripe_column, stripe_offset, raid5_offset}
use Rattle.ldm_places.specs.declared.extent.Extent.{Extent}
use Rattle.ldm_dump.specs.declared.runs.Run.{Run}

-- ---- A run of sectors: where they can be read moves along with them.

-- ---- a place that is moved

pub here_moved : (found : Found) (i : ℕ) (p : Option Place) → is_here found (option_map (moved i) p) ≡ is_here found p
here_moved found i None = refl
here_moved found i (Some place) = refl

pub spot_moved : (found : Found) (i : ℕ) (p : Option Place) → spot_at found (option_map (moved i) p) ≡ option_map (behind i) (spot_at found p)
spot_moved found i None = refl
spot_moved found i (Some place) = go (image_of place.disk found.db.records found.labels)
  where
    go : (o : Option ℕ) → option_map {U = Spot} (λ image. record { image = image; sector = data_start found.labels image + (place.sector + i) }) o
        ≡ option_map (behind i) (option_map {U = Spot} (λ image. record { image = image; sector = data_start found.labels image + place.sector }) o)
    go None = refl
    go (Some image) =
        let make : ℕ → Option Spot = λ n. Some (record { image = image; sector = n }) in
        ap make (sym (add_assoc (data_start found.labels image) place.sector i))

pub list_moved : (i : ℕ) (o : Option Spot) → option_to_list (option_map (behind i) o) ≡ map (behind i) (option_to_list o)
list_moved i None = refl
list_moved i (Some s) = refl

pub raid5_is : (s : Shape) → is_raid5 s ≡ true → s ≡ Raid5
raid5_is Span h = absurd cc
raid5_is Stripe h = absurd cc
raid5_is Mirror h = absurd cc
raid5_is Raid5 h = refl

pub other_moved : (found : Found) (l : Layout) (x i column : ℕ) → own_column l (x + i) ≡ own_column l x → column_in l (x + i) column ≡ option_map (moved i) (column_in l x column)
    → other_spot found l (x + i) column ≡ option_map (behind i) (other_spot found l x column)
other_moved found l x i column own place =
    ap (λ (o : ℕ). if column == o then None else spot_at found (column_in l (x + i) column)) own
    ∙ (ap (λ (p : Option Place). if column == own_column l x then None else spot_at found p) place
    ∙ (ap (λ (s : Option Spot). if column == own_column l x then None else s) (spot_moved found i (column_in l x column))
    ∙ go (column == own_column l x) (spot_at found (column_in l x column))))
  where
    go : (b : Bool) (s : Option Spot) → (if b then None else option_map (behind i) s) ≡ option_map (behind i) (if b then None else s)
    go true s = refl
    go false s = refl

pub beside_moved : (found : Found) (l : Layout) (x i column : ℕ) → own_column l (x + i) ≡ own_column l x → column_in l (x + i) column ≡ option_map (moved i) (column_in l x column)
    → is_beside found l (x + i) column ≡ is_beside found l x column
beside_moved found l x i column own place =
    ap (λ (o : ℕ). (column == o) || is_here found (column_in l (x + i) column)) own
    ∙ ap (λ (b : Bool). (column == own_column l x) || b) (ap (λ (p : Option Place). is_here found p) place ∙ here_moved found i (column_in l x column))

pub rebuild_same : (found : Found) (l : Layout) (x y : ℕ) (s : Shape) → l.shape ≡ s → (s ≡ Raid5 → (c : ℕ) → is_beside found l y c ≡ is_beside found l x c) → can_rebuild found l y ≡ can_rebuild found l x
unfolding can_rebuild
rebuild_same found l x y Raid5 is same = ap (λ (b : Bool). is_raid5 l.shape && b) (all_same_in (is_beside found l y) (is_beside found l x) 0 (length (columns_of l)) (λ c low high. same refl c))
rebuild_same found l x y s is same =
    ap (λ (t : Shape). is_raid5 t && list_all (is_beside found l y) (range_with_len 0 (length (columns_of l)))) is
    ∙ sym (ap (λ (t : Shape). is_raid5 t && list_all (is_beside found l x) (range_with_len 0 (length (columns_of l)))) is)

pub rebuilds_raid5 : (found : Found) (l : Layout) (x : ℕ) → can_rebuild found l x ≡ true → l.shape ≡ Raid5
unfolding can_rebuild
rebuilds_raid5 found l x h = raid5_is l.shape (and_parts (is_raid5 l.shape) (list_all (is_beside found l x) (range_with_len 0 (length (columns_of l)))) h).0

-- ---- sources

pub sources_moved : (found : Found) (l : Layout) (x i : ℕ) (o : Option ℕ) (r : Bool) → first_copy found l (x + i) ≡ o → first_copy found l x ≡ o
    → ((c : ℕ) → o ≡ Some c → copy_spot found l (x + i) c ≡ option_map (behind i) (copy_spot found l x c))
    → can_rebuild found l (x + i) ≡ r → can_rebuild found l x ≡ r → (r ≡ true → other_spots found l (x + i) ≡ map (behind i) (other_spots found l x))
    → sources_of found l (x + i) ≡ option_map (map (behind i)) (sources_of found l x)
unfolding sources_of
sources_moved found l x i (Some c) r a b spots p q others =
    rw (a, b, spots c refl) (ap (λ (s : List Spot). Some s) (list_moved i (copy_spot found l x c)))
sources_moved found l x i None true a b spots p q others =
    rw (a, b, p, q) (ap (λ (s : List Spot). Some s) (others refl))
sources_moved found l x i None false a b spots p q others = rw (a, b, p, q) refl

-- a sector that is read from a copy isn't lost
pub copy_kept : (found : Found) (l : Layout) (x c : ℕ) → Some c ≡ first_copy found l x → is_lost found l x ≡ false
unfolding sources_of
copy_kept found l x c is = sym (ap (λ (o : Option ℕ). is_none (sources_by found l x o (can_rebuild found l x))) is)

-- a sector that is read from no copy is lost where it can't be made
pub none_lost : (found : Found) (l : Layout) (x : ℕ) → None ≡ first_copy found l x → is_lost found l x ≡ not (can_rebuild found l x)
unfolding sources_of
none_lost found l x is = sym (ap (λ (o : Option ℕ). is_none (sources_by found l x o (can_rebuild found l x))) is) ∙ go (can_rebuild found l x)
  where
    go : (b : Bool) → is_none (sources_by found l x None b) ≡ not b
    go true = refl
    go false = refl

-- ---- the copies so far

-- the next n sectors lie side by side in each copy in front of this one
pub record Along (l : Layout) (x copy n : ℕ) : Type 0 where
  pub some : 0 < n
  pub within : x + n ≤ l.size
  pub places : (c i : ℕ) → c < copy → i < n → place_in l (x + i) c ≡ option_map (moved i) (place_in l x c)
  pub own : (i : ℕ) → 0 < copy → i < n → l.shape ≡ Raid5 → own_column l (x + i) ≡ own_column l x
  pub columns : (i column : ℕ) → 0 < copy → i < n → l.shape ≡ Raid5 → column_in l (x + i) column ≡ option_map (moved i) (column_in l x column)

-- no copy of the sector in front of this one is on an image
abbrev pub AllAbsent : Found → Layout → ℕ → ℕ → Type 0
AllAbsent found l x copy = (c : ℕ) → c < copy → is_here found (place_in l x c) ≡ false

pub along_more : (l : Layout) (x copy s n : ℕ) → Along l x copy s → IsStretch l x copy n → Along l x (copy + 1) (min s n)
along_more l x copy s n so st = record {
  some = omega (arith, so.some, st.some);
  within = omega (arith, so.within, st.within);
  places = λ c i lt li. elim (cases_lt c copy) [
    | inl less ↦ so.places c i less (omega (arith, li))
    | inr ge ↦ (let e : copy ≡ c = omega (arith, lt, ge) in
        subst (λ (d : ℕ). place_in l (x + i) d ≡ option_map (moved i) (place_in l x d)) e (st.places i (omega (arith, li))))
  ];
  own = λ i _ li raid5. st.own i (omega (arith, li)) raid5;
  columns = λ i column _ li raid5. st.columns i column (omega (arith, li)) raid5;
}

pub absent_more : (found : Found) (l : Layout) (x copy : ℕ) → AllAbsent found l x copy → is_here found (place_in l x copy) ≡ false → AllAbsent found l x (copy + 1)
absent_more found l x copy all here = below_more (λ c. is_here found (place_in l x c) ≡ false) copy all here

-- ---- the run

module _ (found : Found) (l : Layout) (x copy n : ℕ) (so : Along l x copy n) (some_copy : l.shape ≡ Raid5 → 0 < copy) where
  here_along : (c i : ℕ) → c < copy → i < n → is_here found (place_in l (x + i) c) ≡ is_here found (place_in l x c)
  here_along c i lc li = ap (λ (p : Option Place). is_here found p) (so.places c i lc li) ∙ here_moved found i (place_in l x c)

  spot_along : (c i : ℕ) → c < copy → i < n → copy_spot found l (x + i) c ≡ option_map (behind i) (copy_spot found l x c)
  spot_along c i lc li = ap (λ (p : Option Place). spot_at found p) (so.places c i lc li) ∙ spot_moved found i (place_in l x c)

  column_along : (i column : ℕ) → i < n → l.shape ≡ Raid5 → other_spot found l (x + i) column ≡ option_map (behind i) (other_spot found l x column)
  column_along i column li raid5 = other_moved found l x i column (so.own i (some_copy raid5) li raid5) (so.columns i column (some_copy raid5) li raid5)

  rebuild_along : (i : ℕ) → i < n → can_rebuild found l (x + i) ≡ can_rebuild found l x
  rebuild_along i li = rebuild_same found l x (x + i) l.shape refl (λ raid5 c. beside_moved found l x i c (so.own i (some_copy raid5) li raid5) (so.columns i c (some_copy raid5) li raid5))

  others_along : (i : ℕ) → i < n → can_rebuild found l x ≡ true → other_spots found l (x + i) ≡ map (behind i) (other_spots found l x)
  others_along i li rebuilds = made_moved (other_spot found l (x + i)) (other_spot found l x) (behind i) (range_with_len 0 (length (columns_of l)))
      (λ c. column_along i c li (rebuilds_raid5 found l x rebuilds))

first_at : (found : Found) (l : Layout) (x c : ℕ) → c < copies_of l → AllAbsent found l x c → is_here found (place_in l x c) ≡ true → first_copy found l x ≡ Some c
unfolding first_copy
first_at found l x c lt absent here = find_first (λ d. is_here found (place_in l x d)) 0 (copies_of l) c (omega arith) (omega (arith, lt)) (λ d _ less. absent d less) here

first_none : (found : Found) (l : Layout) (x : ℕ) → AllAbsent found l x (copies_of l) → first_copy found l x ≡ None
unfolding first_copy
first_none found l x absent = find_nothing (λ d. is_here found (place_in l x d)) 0 (copies_of l) (λ d _ lt. absent d (omega (arith, lt)))

pub run_found : (found : Found) (l : Layout) (x c n : ℕ) → Along l x (c + 1) n → c < copies_of l → AllAbsent found l x c → is_here found (place_in l x c) ≡ true
    → IsRun found l x (record { copy = Some c; sectors = n })
run_found found l x c n so lt absent here = record {
  copy_is = sym now;
  some = so.some;
  within = so.within;
  copies = λ i d li is. (let e : c ≡ d = cc in subst (λ (k : ℕ). copy_spot found l (x + i) k ≡ option_map (behind i) (copy_spot found l x k)) e (spot_along found l x (c + 1) n so (λ _. omega arith) c i (omega arith) li));
  columns = λ i column li raid5. column_along found l x (c + 1) n so (λ _. omega arith) i column li raid5;
  sources = λ i li. sources_moved found l x i (Some c) (can_rebuild found l x)
      (first_at found l (x + i) c lt (λ d less. here_along found l x (c + 1) n so (λ _. omega arith) d i (omega (arith, less)) li ∙ absent d less) (here_along found l x (c + 1) n so (λ _. omega arith) c i (omega arith) li ∙ here))
      now
      (λ d is. (let e : c ≡ d = cc in subst (λ (k : ℕ). copy_spot found l (x + i) k ≡ option_map (behind i) (copy_spot found l x k)) e (spot_along found l x (c + 1) n so (λ _. omega arith) c i (omega arith) li)))
      (rebuild_along found l x (c + 1) n so (λ _. omega arith) i li)
      refl
      (λ rebuilds. others_along found l x (c + 1) n so (λ _. omega arith) i li rebuilds);
}
  where
    now : first_copy found l x ≡ Some c
    now = first_at found l x c lt absent here

pub run_none : (found : Found) (l : Layout) (x n : ℕ) → Along l x (copies_of l) n → AllAbsent found l x (copies_of l)
    → IsRun found l x (record { copy = None; sectors = n })
run_none found l x n so absent = record {
  copy_is = sym now;
  some = so.some;
  within = so.within;
  copies = λ i d li is. absurd cc;
  columns = λ i column li raid5. column_along found l x (copies_of l) n so some i column li raid5;
  sources = λ i li. sources_moved found l x i None (can_rebuild found l x)
      (first_none found l (x + i) (λ d less. here_along found l x (copies_of l) n so some d i less li ∙ absent d less))
      now
      (λ d is. absurd cc)
      (rebuild_along found l x (copies_of l) n so some i li)
      refl
      (λ rebuilds. others_along found l x (copies_of l) n so some i li rebuilds);
}
  where
    now : first_copy found l x ≡ None
    now = first_none found l x absent

    some : l.shape ≡ Raid5 → 0 < copies_of l
    some raid5 = subst (λ (s : Shape). 0 < copies_by s (length l.plexes)) (sym raid5) (omega arith)

-- ---- the other columns

pub beside_false : (c own : ℕ) (h : Bool) → (c ≡ own → ⊥) → h ≡ false → ((c == own) || h) ≡ false
beside_false c own h ne is = or_from (c == own) h (ne_eqb c own ne) is

pub beside_own : (c own : ℕ) (h : Bool) → c ≡ own → ((c == own) || h) ≡ true
beside_own c own h is = or_left (c == own) h (eq-eqb c own is)

pub beside_here : (c own : ℕ) (h : Bool) → h ≡ true → ((c == own) || h) ≡ true
beside_here c own h is = or_right (c == own) h is

pub others_in : (found : Found) (l : Layout) (x : ℕ) → l.shape ≡ Raid5 → ((c : ℕ) → c < length (columns_of l) → is_beside found l x c ≡ true) → can_rebuild found l x ≡ true
unfolding can_rebuild
others_in found l x raid5 here =
    ap (λ (s : Shape). is_raid5 s && list_all (is_beside found l x) (range_with_len 0 (length (columns_of l)))) raid5
    ∙ all_in (is_beside found l x) 0 (length (columns_of l)) (λ d _ lt. here d (omega (arith, lt)))

pub others_out : (found : Found) (l : Layout) (x c : ℕ) → l.shape ≡ Raid5 → c < length (columns_of l) → is_beside found l x c ≡ false → can_rebuild found l x ≡ false
unfolding can_rebuild
others_out found l x c raid5 lt out =
    ap (λ (s : Shape). is_raid5 s && list_all (is_beside found l x) (range_with_len 0 (length (columns_of l)))) raid5
    ∙ all_but (is_beside found l x) 0 (length (columns_of l)) c (omega arith) (omega (arith, lt)) out

pub not_rebuilt : (found : Found) (l : Layout) (x : ℕ) → (l.shape ≡ Raid5 → ⊥) → can_rebuild found l x ≡ false
not_rebuilt found l x not_raid5 = false_from_ne_true (can_rebuild found l x) (λ is. not_raid5 (rebuilds_raid5 found l x is))

-- where a sector can be made, each other column is there
pub others_here : (found : Found) (l : Layout) (x c : ℕ) → can_rebuild found l x ≡ true → c < length (columns_of l) → (c ≡ own_column l x → ⊥) → is_here found (column_in l x c) ≡ true
unfolding can_rebuild
others_here found l x c made lt apart =
    go (c == own_column l x) refl (all_at (is_beside found l x) 0 (length (columns_of l)) c (and_parts (is_raid5 l.shape) (list_all (is_beside found l x) (range_with_len 0 (length (columns_of l)))) made).1 (omega arith) (omega (arith, lt)))
  where
    go : (t : Bool) → (c == own_column l x) ≡ t → (t || is_here found (column_in l x c)) ≡ true → is_here found (column_in l x c) ≡ true
    go true e h = absurd (apart (eqb-true c (own_column l x) e))
    go false e h = h

-- ---- The least lost sector, as the first that a test finds.

pub least_found : (found : Found) (l : Layout) (r : Option ℕ) → IsLeastLost found l r → find (is_lost found l) (range_with_len 0 l.size) ≡ r
least_found found l (Some x) least = find_first (is_lost found l) 0 l.size x (omega arith) (let lt = least.0 in omega (arith, lt)) (λ d low lt. least.2 d lt) least.1
least_found found l None least = find_nothing (is_lost found l) 0 l.size (λ d low lt. least d (omega (arith, lt)))

pub least_found_in : (found : Found) (l : Layout) (first count : ℕ) (r : Option ℕ) → IsLeastLostIn found l first (first + count) r → find (is_lost found l) (range_with_len first count) ≡ r
least_found_in found l first count (Some x) least = find_first (is_lost found l) first count x least.0 least.1 least.3 least.2
least_found_in found l first count None least = find_nothing (is_lost found l) first count least

-- the least of all sectors
pub least_of : (found : Found) (l : Layout) (n : ℕ) (r : Option ℕ) → n ≡ l.size → IsLeastLostIn found l 0 (0 + n) r → IsLeastLost found l r
least_of found l n (Some x) is least = (let lt = least.1 in omega (arith, lt, is), least.2, λ y less. least.3 y (omega arith) less)
least_of found l n None is least = λ y lt. least y (omega arith) (omega (arith, lt, is))

-- ---- The least sector that is lost.

-- ---- runs

none_moved : (i : ℕ) (o : Option (List Spot)) → is_none (option_map (map (behind i)) o) ≡ is_none o
none_moved i None = refl
none_moved i (Some spots) = refl

-- a run is lost whole or not at all
pub lost_along : (found : Found) (l : Layout) (x : ℕ) (run : Run) (i : ℕ) → IsRun found l x run → i < run.sectors → is_lost found l (x + i) ≡ is_lost found l x
lost_along found l x run i is lt = ap (λ (o : Option (List Spot)). is_none o) (is.sources i lt) ∙ none_moved i (sources_of found l x)

pub kept_more : (found : Found) (l : Layout) (first x : ℕ) (run : Run) → IsRun found l x run → ((y : ℕ) → first ≤ y → y < x → is_lost found l y ≡ false) → is_lost found l x ≡ false
    → (y : ℕ) → first ≤ y → y < x + run.sectors → is_lost found l y ≡ false
kept_more found l first x run is before here y low lt = elim (cases_lt y x) [
  | inl less ↦ before y low less
  | inr ge ↦ (let e : x + (y - x) ≡ y = omega (arith, ge) in
      subst (λ (z : ℕ). is_lost found l z ≡ false) e (lost_along found l x run (y - x) is (omega (arith, lt, ge)) ∙ here))
]

-- ---- columns

-- the disk of a column is there
abbrev pub is_column_here : Found → List Extent → ℕ → Bool
is_column_here found es c = is_here found (option_map place_at (option_map {U = Extent × ℕ} (λ e. (e, 0)) (slice_get es c)))

here_at : (found : Found) (g : Option Extent) (o : ℕ) → is_here found (option_map place_at (option_map {U = Extent × ℕ} (λ e. (e, o)) g)) ≡ is_here found (option_map place_at (option_map {U = Extent × ℕ} (λ e. (e, 0)) g))
here_at found None o = refl
here_at found (Some e) o = refl

-- a volume with one copy: a sector is lost where that isn't there and can't be made
pub lost_alone : (found : Found) (l : Layout) (x : ℕ) → copies_of l ≡ 1 → is_lost found l x ≡ (not (is_here found (place_in l x 0)) && not (can_rebuild found l x))
unfolding sources_of first_copy
lost_alone found l x one =
    ap (λ (n : ℕ). is_none (sources_by found l x (find (λ copy. is_here found (place_in l x copy)) (range_with_len 0 n)) (can_rebuild found l x))) one
    ∙ go (is_here found (place_in l x 0)) (can_rebuild found l x)
  where
    go : (a b : Bool) → is_none (sources_by found l x (cond a (Some 0) None) b) ≡ (not a && not b)
    go true b = refl
    go false true = refl
    go false false = refl

-- a sector is lost where one of the first chunks behind another begins, and that isn't behind this one
pub record IsEarly (found : Found) (l : Layout) (first y : ℕ) : Type 0 where
  pub chunks : ℕ
  pub there : chunks < length (columns_of l)
  pub low : chunk_start l first chunks ≤ y
  pub lost : is_lost found l (chunk_start l first chunks) ≡ true

-- a chunk begins at its first sector or behind it
first_low : (u y c : ℕ) → 0 < u → c ≤ y / u → u * c ≤ y
first_low u y c h le =
    let less : u * c ≤ u * (y / u) = mul-le u c u (y / u) (omega arith) le in
    let whole : u * (y / u) ≤ y = mul-div-le y u in
    omega (arith, whole, less)

-- the number of the chunk
start_in : (l : Layout) (x n : ℕ) → 0 < l.chunk → chunk_start l x n / l.chunk ≡ x / l.chunk + n
start_in l x n h =
    let u = l.chunk in
    let whole : u * (x / u) + x % u ≡ x = div-add-mod x u in
    let rest : x % u < u = mod_below x u h in
    let low : (x / u + n) * u ≤ chunk_start l x n = omega (arith, whole, rest) in
    let high : chunk_start l x n < (x / u + n + 1) * u = omega (arith, whole, rest) in
    div-eq_of_lt-le u low high

start_rises : (l : Layout) (x m n : ℕ) → m ≤ n → chunk_start l x m ≤ chunk_start l x n
start_rises l x m n le =
    let more : l.chunk * (x / l.chunk + m) ≤ l.chunk * (x / l.chunk + n) = mul-le l.chunk (x / l.chunk + m) l.chunk (x / l.chunk + n) (omega arith) (omega (arith, le)) in
    omega (arith, more)

-- going round k columns from one number comes to the column of each later number
turn : (p q k : ℕ) → p ≤ q → (p + (q - p) % k) % k ≡ q % k
turn p q k le =
    let whole : k * ((q - p) / k) + (q - p) % k ≡ q - p = div-add-mod (q - p) k in
    let e : q ≡ p + (q - p) % k + k * ((q - p) / k) = omega (arith, whole, le) in
    sym (ap (λ n. n % k) e ∙ add-mul-mod_self_left (p + (q - p) % k) k ((q - p) / k))

-- a sector is lost where each of its column is
early_by : (found : Found) (l : Layout) (first y : ℕ) → IsColumned l
    → ((x : ℕ) → x / l.chunk % length (columns_of l) ≡ y / l.chunk % length (columns_of l) → is_lost found l x ≡ true) → first ≤ y → IsEarly found l first y
early_by found l first y columned same low =
    let u = l.chunk in
    let k = length (columns_of l) in
    let n = (y / u - first / u) % k in
    let front : first / u * u ≤ first = div-mul-le_self first u in
    let le : first / u ≤ y / u = le-div (first / u) y u columned.chunked (omega (arith, front, low)) in
    let few : n ≤ y / u - first / u = mod-le (y / u - first / u) k in
    let begin : u * (first / u + n) ≤ y = first_low u y (first / u + n) columned.chunked (omega (arith, le, few)) in
    record {
      chunks = n;
      there = mod_below (y / u - first / u) k (omega (arith, columned.many));
      low = omega (arith, begin, low);
      lost = same (chunk_start l first n) (ap (λ c. c % k) (start_in l first n columned.chunked) ∙ turn (first / u) (y / u) k le);
    }

both_not : (a b : Bool) → (not a && not b) ≡ true → (a ≡ false) × (b ≡ false)
both_not true b h = absurd cc
both_not false true h = absurd cc
both_not false false h = (refl, refl)

-- ---- a stripe

module _ (found : Found) (l : Layout) (shape_is : l.shape ≡ Stripe) (columned : IsColumned l) where
  abbrev es : List Extent
  es = columns_of l

  stripe_alone : copies_of l ≡ 1
  stripe_alone = ap (λ (s : Shape). copies_by s (length l.plexes)) shape_is

  stripe_here : (x : ℕ) → is_here found (place_in l x 0) ≡ is_column_here found es (stripe_column (length es) l.chunk x)
  stripe_here x =
      ap (λ (p : Option Place). is_here found p) (place_by l 0 x es columned.first ∙ ap (λ (s : Shape). option_map place_at (plex_spot s l.chunk es x)) shape_is)
      ∙ here_at found (slice_get es (stripe_column (length es) l.chunk x)) (stripe_offset (length es) l.chunk x)

  stripe_none : (x : ℕ) → can_rebuild found l x ≡ false
  unfolding can_rebuild
  stripe_none x = ap (λ (s : Shape). is_raid5 s && list_all (is_beside found l x) (range_with_len 0 (length es))) shape_is

  stripe_lost : (x : ℕ) → is_lost found l x ≡ not (is_column_here found es (stripe_column (length es) l.chunk x))
  stripe_lost x = lost_alone found l x stripe_alone
      ∙ (ap (λ (b : Bool). not (is_here found (place_in l x 0)) && not b) (stripe_none x)
      ∙ (go (is_here found (place_in l x 0)) ∙ ap not (stripe_here x)))
    where
      go : (a : Bool) → (not a && true) ≡ not a
      go true = refl
      go false = refl

  pub again_stripe : (x y : ℕ) → x / l.chunk % length es ≡ y / l.chunk % length es → is_lost found l x ≡ is_lost found l y
  again_stripe x y same = stripe_lost x ∙ (ap (λ c. not (is_column_here found es c)) same ∙ sym (stripe_lost y))

  pub early_stripe : (first y : ℕ) → is_lost found l y ≡ true → first ≤ y → IsEarly found l first y
  early_stripe first y is low =
      early_by found l first y columned (λ x same. stripe_lost x ∙ (ap (λ c. not (is_column_here found es c)) same ∙ (sym (stripe_lost y) ∙ is))) low

-- ---- a RAID-5

round_sum : (m a b d t : ℕ) → b ≤ m → t ≡ m * a → m - b + 1 + d + (m + 1) * (t + b) ≡ m * (t + a + b) + d + (m + 1)
round_sum m a b d t le is = omega (arith, le, is)

-- the chunks of a row begin behind its parity, so that they go round the columns, row after row
round_by : (m q : ℕ) → (m - q / m % (m + 1) + 1 + q % m) % (m + 1) ≡ q % (m + 1)
round_by m q =
    let r = q / m in
    let a = r / (m + 1) in
    let b = r % (m + 1) in
    let row : m * r + q % m ≡ q = div-add-mod q m in
    let turns : (m + 1) * a + b ≡ r = div-add-mod r (m + 1) in
    let less : b < m + 1 = mod_below r (m + 1) (omega arith) in
    let is : m * a + a + b ≡ r = omega (arith, turns) in
    let all : m - b + 1 + q % m + (m + 1) * (m * a + b) ≡ q + (m + 1) =
    round_sum m a b (q % m) (m * a) (omega (arith, less)) refl ∙ (ap (λ n. m * n + q % m + (m + 1)) is ∙ ap (λ n. n + (m + 1)) row) in
    sym (add-mul-mod_self_left (m - b + 1 + q % m) (m + 1) (m * a + b)) ∙ (ap (λ n. n % (m + 1)) all ∙ add-mod_right q (m + 1))

module _ (found : Found) (l : Layout) (shape_is : l.shape ≡ Raid5) (columned : IsColumned l) where
  abbrev cs : List Extent
  cs = columns_of l

  raid5_alone : copies_of l ≡ 1
  raid5_alone = ap (λ (s : Shape). copies_by s (length l.plexes)) shape_is

  raid5_here : (x : ℕ) → is_here found (place_in l x 0) ≡ is_column_here found cs (own_column l x)
  raid5_here x =
      ap (λ (p : Option Place). is_here found p) (place_by l 0 x cs columned.first ∙ ap (λ (s : Shape). option_map place_at (plex_spot s l.chunk cs x)) shape_is)
      ∙ here_at found (slice_get cs (own_column l x)) (raid5_offset (length cs) l.chunk x)

  raid5_beside : (x c : ℕ) → is_here found (column_in l x c) ≡ is_column_here found cs c
  raid5_beside x c = here_at found (slice_get cs c) (raid5_offset (length cs) l.chunk x)

  raid5_made : (x : ℕ) → can_rebuild found l x ≡ list_all (is_beside found l x) (range_with_len 0 (length cs))
  unfolding can_rebuild
  raid5_made x = ap (λ (s : Shape). is_raid5 s && list_all (is_beside found l x) (range_with_len 0 (length cs))) shape_is

  -- two columns are absent, of which one is the sector's own
  pub record AreAbsent (own other : ℕ) : Type 0 where
    pub own_there : own < length cs
    pub own_absent : is_column_here found cs own ≡ false
    pub other_there : other < length cs
    pub other_absent : is_column_here found cs other ≡ false
    pub apart : (other == own) ≡ false

  absent_of : (y : ℕ) → is_lost found l y ≡ true → (other : ℕ) × AreAbsent (own_column l y) other
  absent_of y is =
      let both = both_not (is_here found (place_in l y 0)) (can_rebuild found l y) (sym (lost_alone found l y raid5_alone) ∙ is) in
      let out = not_all (is_beside found l y) 0 (length cs) (sym (raid5_made y) ∙ both.1) in
      let parts = or_parts (out.place == own_column l y) (is_here found (column_in l y out.place)) out.fails in (
        out.place,
        record {
          own_there = mod_below _ (length cs) (omega (arith, columned.many));
          own_absent = sym (raid5_here y) ∙ both.0;
          other_there = omega (arith, out.high);
          other_absent = sym (raid5_beside y out.place) ∙ parts.1;
          apart = parts.0;
        },
      )

  lost_by : (x own other : ℕ) → own_column l x ≡ own → AreAbsent own other → is_lost found l x ≡ true
  lost_by x own other is absent = lost_alone found l x raid5_alone
      ∙ (ap (λ (b : Bool). not b && not (can_rebuild found l x)) (raid5_here x ∙ (ap (λ c. is_column_here found cs c) is ∙ absent.own_absent))
      ∙ ap not (raid5_made x ∙ all_but (is_beside found l x) 0 (length cs) other (omega arith) (omega (arith, absent.other_there))
      (ap (λ (b : Bool). b || is_here found (column_in l x other)) (ap (λ o. other == o) is ∙ absent.apart) ∙ (raid5_beside x other ∙ absent.other_absent))))

  own_is : (x : ℕ) → own_column l x ≡ x / l.chunk % length cs
  own_is x =
      let q = x / l.chunk in
      let e : length cs - 1 + 1 ≡ length cs = omega (arith, columned.many) in
      subst (λ (k : ℕ). (length cs - 1 - q / (length cs - 1) % k + 1 + q % (length cs - 1)) % k ≡ q % k) e (round_by (length cs - 1) q)

  lost_like : (x y : ℕ) → own_column l x ≡ own_column l y → is_lost found l y ≡ true → is_lost found l x ≡ true
  lost_like x y same is = (let absent = absent_of y is in lost_by x (own_column l y) absent.0 same absent.1)

  pub again_raid5 : (x y : ℕ) → x / l.chunk % length cs ≡ y / l.chunk % length cs → is_lost found l x ≡ is_lost found l y
  again_raid5 x y same =
      let own : own_column l x ≡ own_column l y = own_is x ∙ (same ∙ sym (own_is y)) in
      elim (cases_Bool (is_lost found l y)) [
        | inl is ↦ lost_like x y own is ∙ sym is
        | inr is ↦ false_from_ne_true (is_lost found l x) (λ lost. true≢false (sym (lost_like y x (sym own) lost) ∙ is)) ∙ sym is
      ]

  pub early_raid5 : (first y : ℕ) → is_lost found l y ≡ true → first ≤ y → IsEarly found l first y
  early_raid5 first y is low =
      let absent = absent_of y is in
      early_by found l first y columned (λ x same. lost_by x (own_column l y) absent.0 (own_is x ∙ (same ∙ sym (own_is y))) absent.1) low

-- ---- both

pub early : (found : Found) (l : Layout) (first y : ℕ) → is_tiled l.shape ≡ false → IsColumned l → is_lost found l y ≡ true → first ≤ y → IsEarly found l first y
early found l first y tiled columned is low = go l.shape refl tiled
  where
    go : (s : Shape) → l.shape ≡ s → is_tiled s ≡ false → IsEarly found l first y
    go Span e h = absurd cc
    go Mirror e h = absurd cc
    go Stripe e h = early_stripe found l e columned first y is low
    go Raid5 e h = early_raid5 found l e columned first y is low

-- what is lost repeats with each turn of the chunks over the columns
pub lost_again : (found : Found) (l : Layout) → is_tiled l.shape ≡ false → IsColumned l → (x : ℕ) → is_lost found l (x + l.chunk * length (columns_of l)) ≡ is_lost found l x
lost_again found l tiled columned x = go l.shape refl tiled
  where
    u : ℕ
    u = l.chunk

    k : ℕ
    k = length (columns_of l)

    same : (x + u * k) / u % k ≡ x / u % k
    same = ap (λ n. n % k) (add-mul-div_left x k columned.chunked) ∙ add-mod_right (x / u) k

    go : (s : Shape) → l.shape ≡ s → is_tiled s ≡ false → is_lost found l (x + u * k) ≡ is_lost found l x
    go Span e h = absurd cc
    go Mirror e h = absurd cc
    go Stripe e h = again_stripe found l e columned (x + u * k) x same
    go Raid5 e h = again_raid5 found l e columned (x + u * k) x same

-- none is lost before a chunk, where the first sectors of those in front of it, from the first on, aren't
pub none_before : (found : Found) (l : Layout) (first n y : ℕ) → is_tiled l.shape ≡ false → IsColumned l → ((c : ℕ) → c < n → is_lost found l (chunk_start l first c) ≡ false) → first ≤ y → y < chunk_start l first n
    → is_lost found l y ≡ false
none_before found l first n y tiled columned kept low lt =
    false_from_ne_true (is_lost found l y) (λ is.
    let e = early found l first y tiled columned is low in
    elim (cases_lt e.chunks n) [
      | inl less ↦ true≢false (sym e.lost ∙ kept e.chunks less)
      | inr ge ↦ (let rises = start_rises l first n e.chunks ge in omega (arith, rises, e.low, lt))
    ])

-- no sector is lost, from the first on, where those that begin one chunk of each column behind it aren't
pub none_there : (found : Found) (l : Layout) (first y : ℕ) → is_tiled l.shape ≡ false → IsColumned l → ((c : ℕ) → c < length (columns_of l) → is_lost found l (chunk_start l first c) ≡ false) → first ≤ y → is_lost found l y ≡ false
none_there found l first y tiled columned kept low =
    false_from_ne_true (is_lost found l y) (λ is. let e = early found l first y tiled columned is low in true≢false (sym e.lost ∙ kept e.chunks e.there))

pub chunk_is : (l : Layout) → is_tiled l.shape ≡ false → chunk_of l ≡ l.chunk
chunk_is l tiled = ap (λ (b : Bool). if b then 0 else l.chunk) tiled
