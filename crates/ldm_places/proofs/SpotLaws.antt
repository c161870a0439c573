-- Where the sectors of a layout without faults lie: each at a spot of its own in each copy, inside
-- a partition, and side by side with the next.
use Rattle.std.proofs.Common.{◌≡◌, ℕ, zero, suc, ◌+◌, ◌^◌, ◌<◌, ◌≤◌, List, [], ◌∷◌, length, get_or, map, refl, ap, arith, Option, Some, slice_get, Bool, true, false, sym, subst, nat_le, None, inl, inr, drop, ◌∙◌, nat_lt, find, sum_by, ◌-◌, ◌*◌, ◌/◌, ◌%◌, min, cond, add_assoc}
use Rattle.std.proofs.lemmas.Grind.{common_steps}
use Rattle.std.specs.Option.{option_map}
use Rattle.ldm_places.specs.Plans.{AllEnd, IsPlan, IsPlexOf}
use Rattle.ldm_places.specs.Layouts.{place_at, Layout, is_tiled, has_gap, lacks_chunk, lacks_columns, has_columns, is_short, fewest, plex_capacity, capacity_of, layout_fault, covers, tile_spot, stripe_spot, raid5_spot, parity_spot, plex_spot, parity_at, place_in}
use Rattle.ldm_places.specs.Extents.{least, tiles, rises_from, tiles_from}
use Rattle.ldm_places.specs.Places.{stripe_capacity, stripe_column, stripe_offset, raid5_capacity, raid5_row, parity_column, raid5_column, raid5_offset}
use Rattle.ldm_places.specs.declared.extent.Extent.{Extent}
use Rattle.ldm_places.specs.declared.shape.Place.{Place}
use Rattle.std.specs.List.{list_all, All}
use Rattle.std.proofs.lemmas.Bool.{and_parts, leb-true, ltb-false, eqb-false, cases_lt, and_from, and_right, lt-ltb, le-ltb, le-leb, cond-true, cond-false, leb-false, not-false, not_from_false}
use Rattle.ldm_bytes.specs.Tables as tables
use Rattle.ldm_places.specs.declared.shape.LayoutFault.{LayoutFault}
use Rattle.std.specs.List.Sorted.{IsNonDecreasingBy, IsPartitionPoint}
use Rattle.std.proofs.lemmas.List.Sums.{sum_by-cons, AllPass-from_list_all}
use Rattle.ldm_bytes.proofs.FindLaws.{find_there}
use Rattle.ldm_places.proofs.PlaceLaws.{stripe_inside, stripe_apart, raid5_inside, raid5_apart, no_parity, one_parity}
use Rattle.ldm_places.specs.declared.shape.Shape.{Shape}
use Rattle.ldm_places.specs.declared.shape.Shape.TheVariants.{Span, Stripe, Mirror, Raid5}
use Rattle.std.specs.Prelude.{option_and_then}
use Rattle.ldm_places.specs.Columns.{columns_of, column_spot, moved, IsStretch}
use Rattle.std.proofs.lemmas.Option.{slice_get-get_or}

-- ---- Columns: none is smaller than the least, and the sectors of a volume lie inside them.

abbrev pub sizes : List Extent → List ℕ
sizes es = map (λ e. e.size) es

-- the least is at most each
pub least_at : {X : Type 0} (f : X → ℕ) (xs : List X) (i : ℕ) (d : X) → i < length xs → least (map f xs) ≤ f (get_or xs i d)
least_at f [] i d h = absurd (omega arith)
least_at f (x ∷ []) zero d h = omega arith
least_at f (x ∷ []) (suc i) d h = absurd (omega arith)
least_at f (x ∷ (y ∷ xs)) zero d h = omega arith
least_at f (x ∷ (y ∷ xs)) (suc i) d h = (let rest : least (map f (y ∷ xs)) ≤ f (get_or (y ∷ xs) i d) = least_at f (y ∷ xs) i d (omega arith) in omega arith)

-- the sector at an offset of the partition at an index
abbrev pub at_index : List Extent → ℕ → ℕ → Extent → Place
at_index es i o d = record { disk = (get_or es i d).disk; sector = (get_or es i d).start + o }

pub place_there : (es : List Extent) (i o : ℕ) (d : Extent) → i < length es → option_map place_at (option_map {U = Extent × ℕ} (λ e. (e, o)) (slice_get es i)) ≡ Some (at_index es i o d)
place_there es i o d h = ap (λ (g : Option Extent). option_map place_at (option_map {U = Extent × ℕ} (λ e. (e, o)) g)) (slice_get-get_or es i d h)

-- an offset below the least size stays within the numbers of the format
pub ends_there : (es : List Extent) (i o : ℕ) (d : Extent) → AllEnd es → i < length es → o < least (sizes es) → (get_or es i d).start + o < 2 ^ 64
ends_there es i o d ends h lt = grind (arith, least_at)

-- only a volume with columns has sectors
pub some_columns : (k u m x : ℕ) → x < stripe_capacity k u m → 0 < k
some_columns k u m x h = grind (arith, common_steps)

abbrev pub none : Extent
none = record { component = 0; disk = 0; start = 0; size = 0; offset = 0; index = 0 }

-- ---- What a layout without faults has.

not_first : (f : LayoutFault) (b : Bool) (rest : List (LayoutFault × Bool)) → tables.first_fault ((f, b) ∷ rest) ≡ None → (b ≡ false) × (tables.first_fault rest ≡ None)
not_first f b rest h = grind (arith, common_steps)

-- without faults no test holds
pub record HasNone (l : Layout) : Type 0 where
  pub gap : has_gap l ≡ false
  pub chunk : lacks_chunk l ≡ false
  pub columns : lacks_columns l ≡ false
  pub short : is_short l ≡ false

pub has_none : (l : Layout) → layout_fault l ≡ None → HasNone l
has_none l h = grind (arith, common_steps)

columns_parts : (l : Layout) (es : List Extent) → has_columns l es ≡ true → (fewest l.shape ≤ length es) × (rises_from 0 es ≡ true)
columns_parts l es h = grind (arith, common_steps)

-- what a component of a layout without faults has
pub record PlexFacts (l : Layout) (es : List Extent) : Type 0 where
  pub tiled : is_tiled l.shape ≡ true → tiles es ≡ true
  pub chunked : is_tiled l.shape ≡ false → 0 < l.chunk
  pub columned : is_tiled l.shape ≡ false → fewest l.shape ≤ length es
  pub rises : is_tiled l.shape ≡ false → rises_from 0 es ≡ true
  pub holds : l.size ≤ plex_capacity l.shape l.chunk es

pub plex_facts : (l : Layout) (k : ℕ) (d : List Extent) → layout_fault l ≡ None → k < length l.plexes → PlexFacts l (get_or l.plexes k d)
plex_facts l k d sound h =
    let none = has_none l sound in
    let es = get_or l.plexes k d in
    let columned : is_tiled l.shape ≡ false → ((fewest l.shape ≤ length es) × (rises_from 0 es ≡ true)) = λ e. columns_parts l es
    (AllPass-from_list_all (has_columns l) l.plexes
    (not-false (list_all (has_columns l) l.plexes)
    (rw (not_from_false (is_tiled l.shape) e) at none.columns)) k d h) in
    record {
      tiled = λ e. AllPass-from_list_all tiles l.plexes
          (not-false (list_all tiles l.plexes) (rw e at none.gap)) k d h;
      chunked = λ e. (let some = eqb-false l.chunk 0 (rw e at none.chunk) in omega arith);
      columned = λ e. (columned e).0;
      rises = λ e. (columned e).1;
      holds = (let whole : l.size ≤ capacity_of l = ltb-false (capacity_of l) l.size none.short in
          let part : capacity_of l ≤ plex_capacity l.shape l.chunk es = least_at (plex_capacity l.shape l.chunk) l.plexes k d h in
          omega arith);
    }

-- each component of a plan holds the volume
pub plex_of_plan : (l : Layout) (k : ℕ) (d : List Extent) → IsPlan l → k < length l.plexes → IsPlexOf l (get_or l.plexes k d)
plex_of_plan l k d plan h = grind (arith, common_steps, plex_facts)

-- a volume with sectors has a component
pub some_plex : (l : Layout) → IsPlan l → 0 < l.size → 0 < length l.plexes
some_plex l plan some = go l.plexes refl
  where
    go : (ps : List (List Extent)) → l.plexes ≡ ps → 0 < length l.plexes
    go [] e =
        let whole : l.size ≤ capacity_of l = ltb-false (capacity_of l) l.size (has_none l plan.sound).short in
        let nothing : capacity_of l ≡ 0 = ap (λ (ps : List (List Extent)). least (map (plex_capacity l.shape l.chunk) ps)) e in
        absurd (omega (arith, whole, nothing, some))
    go (p ∷ ps) e = subst (λ (qs : List (List Extent)). 0 < length qs) (sym e) (omega arith)

-- ---- Partitions that tile: each sector below their total lies in one, the last that begins at it or before.

-- the tiles from an index on begin at a place
abbrev pub Walked : List Extent → ℕ → ℕ → Type 0
Walked es i at = tiles_from 0 es ≡ tiles_from at (drop i es)

pub tiles_zero : (es : List Extent) → tiles es ≡ true → tiles_from 0 es ≡ true
tiles_zero es h = grind (arith, common_steps)

-- the first tile begins at the place, and the others where it ends
pub first_tile : (at : ℕ) (e : Extent) (es : List Extent) → tiles_from at (e ∷ es) ≡ true → (e.offset ≡ at) × (tiles_from (at + e.size) es ≡ true)
first_tile at e es tiled = grind (arith, common_steps)

-- no tile begins before them
pub begins_behind : (at : ℕ) (es : List Extent) (k : ℕ) (d : Extent) → tiles_from at es ≡ true → k < length es → at ≤ (get_or es k d).offset
begins_behind at [] k d tiled h = absurd (omega arith)
begins_behind at (e ∷ es) zero d tiled h = (let first : (e.offset ≡ at) × (tiles_from (at + e.size) es ≡ true) = first_tile at e es tiled in omega arith)
begins_behind at (e ∷ es) (suc k) d tiled h =
    let later : at + e.size ≤ (get_or es k d).offset = begins_behind (at + e.size) es k d (first_tile at e es tiled).1 (omega arith) in
    omega arith

-- tiles rise by each number that doesn't fall from one tile to those behind it
pub tiles_rise : (n : Extent → ℕ) (at : ℕ) (es : List Extent)
    → ((e f : Extent) → e.offset + e.size ≤ f.offset → n e ≤ n f) → tiles_from at es ≡ true
    → IsNonDecreasingBy n es
tiles_rise n at [] next tiled i j d le h = absurd (omega arith)
tiles_rise n at (e ∷ es) next tiled zero zero d le h = omega arith
tiles_rise n at (e ∷ es) next tiled (suc i) zero d le h = absurd (omega arith)
tiles_rise n at (e ∷ es) next tiled zero (suc j) d le h = grind (arith, first_tile, begins_behind)
tiles_rise n at (e ∷ es) next tiled (suc i) (suc j) d le h = tiles_rise n (at + e.size) es next (first_tile at e es tiled).1 i j d (omega arith) (omega arith)

-- where those before an index begin at a sector or before it, and the others behind it
pub record IsPoint (x : ℕ) (es : List Extent) (i : ℕ) : Type 0 where
  pub within : i ≤ length es
  pub before : (k : ℕ) (d : Extent) → k < i → (get_or es k d).offset ≤ x
  pub behind : (k : ℕ) (d : Extent) → i ≤ k → k < length es → x < (get_or es k d).offset

-- the sector lies in the last of those before it
pub record IsFound (x : ℕ) (es : List Extent) (i : ℕ) (d : Extent) : Type 0 where
  pub place : ℕ
  pub next : i ≡ suc place
  pub there : place < length es
  pub found : find (covers x) es ≡ Some (get_or es place d)
  pub low : (get_or es place d).offset ≤ x
  pub high : x < (get_or es place d).offset + (get_or es place d).size

tail_point : (x : ℕ) (e : Extent) (es : List Extent) (i : ℕ) → IsPoint x (e ∷ es) (suc i) → IsPoint x es i
tail_point x e es i p = record {
  within = (let h : suc i ≤ length (e ∷ es) = p.within in omega arith);
  before = λ k d h. p.before (suc k) d (omega arith);
  behind = λ k d le h. p.behind (suc k) d (omega arith) (omega arith);
}

pub tile_found : (at x : ℕ) (es : List Extent) (i : ℕ) (d : Extent) → tiles_from at es ≡ true → at ≤ x → x < at + sum_by (λ e. e.size) es → IsPoint x es i → IsFound x es i d
tile_found at x [] i d tiled low high p = absurd (omega arith)
tile_found at x (e ∷ es) zero d tiled low high p =
    absurd (let first : (e.offset ≡ at) × (tiles_from (at + e.size) es ≡ true) = first_tile at e es tiled in
    let behind : x < e.offset = p.behind 0 d (omega arith) (omega arith) in omega arith)
tile_found at x (e ∷ es) (suc i) d tiled low high p =
    let first : (e.offset ≡ at) × (tiles_from (at + e.size) es ≡ true) = first_tile at e es tiled in
    let total : sum_by (λ (f : Extent). f.size) (e ∷ es) ≡ e.size + sum_by (λ (f : Extent). f.size) es = sum_by-cons (λ (f : Extent). f.size) e es in
    elim (cases_lt x (at + e.size)) [
      | inl lt ↦ here first lt i p
      | inr ge ↦ (let rest : IsFound x es i d = tile_found (at + e.size) x es i d first.1 ge (omega (arith, total, high)) (tail_point x e es i p) in
          let misses : covers x e ≡ false = and_right (nat_le e.offset x) (nat_lt x (e.offset + e.size)) (le-ltb x (e.offset + e.size) (omega arith)) in
          record {
            place = suc rest.place;
            next = ap suc rest.next;
            there = (let h : rest.place < length es = rest.there in omega arith);
            found = cond-false (covers x e) (Some e) (find (covers x) es) misses ∙ rest.found;
            low = rest.low;
            high = rest.high;
          })
    ]
  where
    here : (e.offset ≡ at) × (tiles_from (at + e.size) es ≡ true) → x < at + e.size → (j : ℕ) → IsPoint x (e ∷ es) (suc j) → IsFound x (e ∷ es) (suc j) d
    here first lt zero q =
        let hits : covers x e ≡ true = and_from (nat_le e.offset x) (nat_lt x (e.offset + e.size)) (le-leb e.offset x (omega arith)) (lt-ltb x (e.offset + e.size) (omega arith)) in
        record {
          place = 0;
          next = refl;
          there = omega arith;
          found = cond-true (covers x e) (Some e) (find (covers x) es) hits;
          low = omega arith;
          high = omega arith;
        }
    here first lt (suc j) q =
        absurd (let within : suc (suc j) ≤ length (e ∷ es) = q.within in
        let later : at + e.size ≤ (get_or es 0 d).offset = begins_behind (at + e.size) es 0 d first.1 (omega arith) in
        let before : (get_or es 0 d).offset ≤ x = q.before 1 d (omega arith) in omega arith)

-- what a binary search for the last of them finds
pub tile_of_points : (es : List Extent) (x i : ℕ) (d : Extent) → tiles es ≡ true → x < sum_by (λ e. e.size) es → i ≤ length es
    → IsPartitionPoint (λ (e : Extent). nat_le e.offset x ≡ true) (λ (e : Extent). nat_le e.offset x ≡ false) es i → IsFound x es i d
tile_of_points es x i d tiled high within points = tile_found 0 x es i d (tiles_zero es tiled) (omega arith) (omega (arith, high)) (record {
  within = within;
  before = λ k f h. leb-true _ _ (points.0 k f (omega arith) h);
  behind = λ k f le h. leb-false _ _ (points.1 k f le h);
})

-- ---- Each sector of a volume has a spot of its own in each copy: a partition, and an offset inside it. No parity has one of these.

pub some_same : {A : Type 0} {a b : A} → Some a ≡ Some b → a ≡ b
some_same h = cc

-- a spot in a partition of these that has P, inside it
pub record IsInside (P : Extent → Type 0) (spot : Option (Extent × ℕ)) : Type 0 where
  pub part : Extent
  pub offset : ℕ
  pub is : spot ≡ Some (part, offset)
  pub has : P part
  pub within : offset < part.size

-- ---- tiles

covers_parts : (x : ℕ) (e : Extent) → covers x e ≡ true → (e.offset ≤ x) × (x < e.offset + e.size)
covers_parts x e h = grind (arith, common_steps)

-- a spot among tiles, by its partition
pub tile_spot_at : (es : List Extent) (x : ℕ) (e : Extent) (o : ℕ) → tile_spot es x ≡ Some (e, o) → e.offset + o ≡ x
tile_spot_at es x e o h = go (find (covers x) es) refl h
  where
    go : (g : Option Extent) → find (covers x) es ≡ g → option_map {U = Extent × ℕ} (λ (f : Extent). (f, x - f.offset)) g ≡ Some (e, o) → e.offset + o ≡ x
    go None is g = absurd cc
    go (Some f) is g =
        let one : Extent × ℕ = (f, x - f.offset) in
        let two : Extent × ℕ = (e, o) in
        let pair : one ≡ two = some_same g in
        let low : f.offset ≤ x = (covers_parts x f (find_there (covers x) es f is).1).0 in
        let offsets : f.offset ≡ e.offset = ap (λ (y : Extent × ℕ). y.0.offset) pair in
        let rest : x - f.offset ≡ o = ap (λ (y : Extent × ℕ). y.1) pair in
        omega arith

pub tile_spot_apart : (es : List Extent) (x y : ℕ) (e : Extent) (o : ℕ) → tile_spot es x ≡ Some (e, o) → tile_spot es y ≡ Some (e, o) → x ≡ y
tile_spot_apart es x y e o f g = sym (tile_spot_at es x e o f) ∙ tile_spot_at es y e o g

-- some tile has the sector
tile_covered : (at x : ℕ) (es : List Extent) (d : Extent) → tiles_from at es ≡ true → at ≤ x → x < at + sum_by (λ e. e.size) es → (k : ℕ) × (k < length es) × (find (covers x) es ≡ Some (get_or es k d))
tile_covered at x [] d tiled low high = absurd (omega arith)
tile_covered at x (e ∷ es) d tiled low high =
    let first : (e.offset ≡ at) × (tiles_from (at + e.size) es ≡ true) = first_tile at e es tiled in
    let total : sum_by (λ (f : Extent). f.size) (e ∷ es) ≡ e.size + sum_by (λ (f : Extent). f.size) es = sum_by-cons (λ (f : Extent). f.size) e es in
    elim (cases_lt x (at + e.size)) [
      | inl lt ↦ (
        0,
        omega arith,
        cond-true (covers x e) (Some e) (find (covers x) es)
            (and_from (nat_le e.offset x) (nat_lt x (e.offset + e.size)) (le-leb e.offset x (omega arith)) (lt-ltb x (e.offset + e.size) (omega arith))),
      )
      | inr ge ↦ (let rest = tile_covered (at + e.size) x es d first.1 ge (omega (arith, total, high)) in (
        suc rest.0,
        omega (arith, rest.1),
        cond-false (covers x e) (Some e) (find (covers x) es)
            (and_right (nat_le e.offset x) (nat_lt x (e.offset + e.size)) (le-ltb x (e.offset + e.size) (omega arith))) ∙ rest.2,
      ))
    ]

pub tile_spot_inside : (P : Extent → Type 0) (es : List Extent) (x : ℕ) (d : Extent) → tiles es ≡ true → All P es → x < sum_by (λ e. e.size) es → IsInside P (tile_spot es x)
tile_spot_inside P es x d tiled all h =
    let hit = tile_covered 0 x es d (tiles_zero es tiled) (omega arith) (omega (arith, h)) in
    let e = get_or es hit.0 d in
    let parts : (e.offset ≤ x) × (x < e.offset + e.size) = covers_parts x e (find_there (covers x) es e hit.2).1 in
    record {
      part = e;
      offset = x - e.offset;
      is = ap (λ (g : Option Extent). option_map {U = Extent × ℕ} (λ f. (f, x - f.offset)) g) hit.2;
      has = all hit.0 d hit.1;
      within = omega arith;
    }

-- ---- columns

rise_above : (n : ℕ) (es : List Extent) (i : ℕ) (e : Extent) → rises_from n es ≡ true → slice_get es i ≡ Some e → n ≤ e.index
rise_above n [] i e up h = absurd cc
rise_above n (f ∷ fs) zero e up h =
    let le : n ≤ f.index = leb-true n f.index (and_parts (nat_le n f.index) (rises_from (f.index + 1) fs) up).0 in
    let same : f ≡ e = some_same h in
    subst (λ (g : Extent). n ≤ g.index) same le
rise_above n (f ∷ fs) (suc i) e up h =
    let parts : (nat_le n f.index ≡ true) × (rises_from (f.index + 1) fs ≡ true) = and_parts (nat_le n f.index) (rises_from (f.index + 1) fs) up in
    let le : n ≤ f.index = leb-true n f.index parts.0 in
    let more : f.index + 1 ≤ e.index = rise_above (f.index + 1) fs i e parts.1 h in
    omega arith

first_later : (n : ℕ) (f : Extent) (fs : List Extent) (j : ℕ) (e : Extent) → rises_from n (f ∷ fs) ≡ true → Some f ≡ Some e → slice_get fs j ≡ Some e → zero ≡ suc j
first_later n f fs j e up g h = grind (arith, rise_above, and_parts, some_same)

-- a partition is one column alone
pub rise_apart : (n : ℕ) (es : List Extent) (i j : ℕ) (e : Extent) → rises_from n es ≡ true → slice_get es i ≡ Some e → slice_get es j ≡ Some e → i ≡ j
rise_apart n [] i j e up g h = absurd cc
rise_apart n (f ∷ fs) zero zero e up g h = refl
rise_apart n (f ∷ fs) zero (suc j) e up g h = first_later n f fs j e up g h
rise_apart n (f ∷ fs) (suc i) zero e up g h = sym (first_later n f fs i e up h g)
rise_apart n (f ∷ fs) (suc i) (suc j) e up g h =
    ap suc (rise_apart (f.index + 1) fs i j e (and_parts (nat_le n f.index) (rises_from (f.index + 1) fs) up).1 g h)

-- a spot in a column, by its index
pub in_column : (es : List Extent) (i o : ℕ) (e : Extent) (q : ℕ) → option_map {U = Extent × ℕ} (λ (f : Extent). (f, o)) (slice_get es i) ≡ Some (e, q) → (slice_get es i ≡ Some e) × (o ≡ q)
in_column es i o e q h = go (slice_get es i) refl h
  where
    go : (g : Option Extent) → slice_get es i ≡ g → option_map {U = Extent × ℕ} (λ (f : Extent). (f, o)) g ≡ Some (e, q) → (slice_get es i ≡ Some e) × (o ≡ q)
    go None is g = absurd cc
    go (Some f) is g =
        let one : Extent × ℕ = (f, o) in
        let two : Extent × ℕ = (e, q) in
        let pair : one ≡ two = some_same g in
        (is ∙ ap (λ (y : Extent). Some y) (ap (λ (y : Extent × ℕ). y.0) pair), ap (λ (y : Extent × ℕ). y.1) pair)

column_inside : (P : Extent → Type 0) (es : List Extent) (i o : ℕ) (d : Extent) → All P es → i < length es → o < least (sizes es) → IsInside P (option_map {U = Extent × ℕ} (λ (f : Extent). (f, o)) (slice_get es i))
column_inside P es i o d all h lt =
    let low : least (sizes es) ≤ (get_or es i d).size = least_at (λ e. e.size) es i d h in
    record {
      part = get_or es i d;
      offset = o;
      is = ap (λ (g : Option Extent). option_map {U = Extent × ℕ} (λ f. (f, o)) g) (slice_get-get_or es i d h);
      has = all i d h;
      within = omega arith;
    }

pub stripe_spot_inside : (P : Extent → Type 0) (es : List Extent) (u x : ℕ) (d : Extent) → 0 < u → All P es → x < stripe_capacity (length es) u (least (sizes es)) → IsInside P (stripe_spot es u x)
stripe_spot_inside P es u x d hu all h =
    let inside = stripe_inside (length es) u (least (sizes es)) x hu (some_columns (length es) u (least (sizes es)) x h) h in
    column_inside P es (stripe_column (length es) u x) (stripe_offset (length es) u x) d all inside.0 inside.1

pub stripe_spot_apart : (es : List Extent) (u x y : ℕ) (e : Extent) (o : ℕ) → 0 < u → rises_from 0 es ≡ true → stripe_spot es u x ≡ Some (e, o) → stripe_spot es u y ≡ Some (e, o) → x ≡ y
stripe_spot_apart es u x y e o hu up f g = grind (arith, in_column, stripe_apart, rise_apart)

pub raid5_spot_inside : (P : Extent → Type 0) (es : List Extent) (u x : ℕ) (d : Extent) → 0 < u → 2 ≤ length es → All P es → x < raid5_capacity (length es) u (least (sizes es)) → IsInside P (raid5_spot es u x)
raid5_spot_inside P es u x d hu hk all h =
    let inside = raid5_inside (length es) u (least (sizes es)) x hu hk h in
    column_inside P es (raid5_column (length es) u x) (raid5_offset (length es) u x) d all inside.0 inside.2

-- the parity of a RAID-5 sector lies inside an extent
pub parity_spot_inside : (P : Extent → Type 0) (es : List Extent) (u x : ℕ) (d : Extent) → 0 < u → 2 ≤ length es → All P es → x < raid5_capacity (length es) u (least (sizes es)) → IsInside P (parity_spot es u x)
parity_spot_inside P es u x d hu hk all h =
    let inside = raid5_inside (length es) u (least (sizes es)) x hu hk h in
    column_inside P es (parity_column (length es) (raid5_row (length es) u x)) (raid5_offset (length es) u x) d all inside.1 inside.2

pub raid5_spot_apart : (es : List Extent) (u x y : ℕ) (e : Extent) (o : ℕ) → 0 < u → 2 ≤ length es → rises_from 0 es ≡ true → raid5_spot es u x ≡ Some (e, o) → raid5_spot es u y ≡ Some (e, o) → x ≡ y
raid5_spot_apart es u x y e o hu hk up f g = grind (arith, in_column, raid5_apart, rise_apart)

-- no sector lies at a parity's spot
pub parity_spot_apart : (es : List Extent) (u x y : ℕ) (e : Extent) (o : ℕ) → 0 < u → 2 ≤ length es → rises_from 0 es ≡ true → raid5_spot es u x ≡ Some (e, o) → parity_spot es u y ≡ Some (e, o) → ⊥
parity_spot_apart es u x y e o hu hk up f g = grind (arith, in_column, no_parity, rise_apart)

-- two sectors with one parity are in one row of chunks, at one offset in their chunks
pub parity_spot_shared : (es : List Extent) (u x y : ℕ) (e : Extent) (o : ℕ) → 0 < u → rises_from 0 es ≡ true → parity_spot es u x ≡ Some (e, o) → parity_spot es u y ≡ Some (e, o)
    → (x / (u * (length es - 1)) ≡ y / (u * (length es - 1))) × (x % u ≡ y % u)
parity_spot_shared es u x y e o hu up f g = grind (arith, in_column, one_parity, rise_apart)

-- two sectors in one row of chunks, at one offset in their chunks, have one parity
pub parity_spot_same : (es : List Extent) (u x y : ℕ) → 0 < u → x / (u * (length es - 1)) ≡ y / (u * (length es - 1)) → x % u ≡ y % u → parity_spot es u x ≡ parity_spot es u y
parity_spot_same es u x y hu rows rests = grind (arith, one_parity)

-- ---- a component of a layout without faults

plex_inside : (P : Extent → Type 0) (s : Shape) (u size : ℕ) (es : List Extent) (x : ℕ) (d : Extent) → (is_tiled s ≡ true → tiles es ≡ true) → (is_tiled s ≡ false → 0 < u) → (is_tiled s ≡ false → fewest s ≤ length es)
    → size ≤ plex_capacity s u es → All P es → x < size → IsInside P (plex_spot s u es x)
plex_inside P Span u size es x d tiled chunked columned holds all h = tile_spot_inside P es x d (tiled refl) all (omega arith)
plex_inside P Mirror u size es x d tiled chunked columned holds all h = tile_spot_inside P es x d (tiled refl) all (omega arith)
plex_inside P Stripe u size es x d tiled chunked columned holds all h = stripe_spot_inside P es u x d (chunked refl) all (omega arith)
plex_inside P Raid5 u size es x d tiled chunked columned holds all h = grind (arith, raid5_spot_inside)

pub plex_spot_inside : (P : Extent → Type 0) (l : Layout) (es : List Extent) (x : ℕ) (d : Extent) → PlexFacts l es → All P es → x < l.size → IsInside P (plex_spot l.shape l.chunk es x)
plex_spot_inside P l es x d facts all h = plex_inside P l.shape l.chunk l.size es x d facts.tiled facts.chunked facts.columned facts.holds all h

plex_apart : (s : Shape) (u : ℕ) (es : List Extent) (x y : ℕ) (e : Extent) (o : ℕ) → (is_tiled s ≡ false → 0 < u) → (is_tiled s ≡ false → fewest s ≤ length es) → (is_tiled s ≡ false → rises_from 0 es ≡ true)
    → plex_spot s u es x ≡ Some (e, o) → plex_spot s u es y ≡ Some (e, o) → x ≡ y
plex_apart Span u es x y e o chunked columned rises f g = tile_spot_apart es x y e o f g
plex_apart Mirror u es x y e o chunked columned rises f g = tile_spot_apart es x y e o f g
plex_apart Stripe u es x y e o chunked columned rises f g = stripe_spot_apart es u x y e o (chunked refl) (rises refl) f g
plex_apart Raid5 u es x y e o chunked columned rises f g =
    let many : 3 ≤ length es = columned refl in
    raid5_spot_apart es u x y e o (chunked refl) (omega arith) (rises refl) f g

pub plex_spot_apart : (l : Layout) (es : List Extent) (x y : ℕ) (e : Extent) (o : ℕ) → PlexFacts l es → plex_spot l.shape l.chunk es x ≡ Some (e, o) → plex_spot l.shape l.chunk es y ≡ Some (e, o) → x ≡ y
plex_spot_apart l es x y e o facts f g = plex_apart l.shape l.chunk es x y e o facts.chunked facts.columned facts.rises f g

plex_parity_inside : (P : Extent → Type 0) (s : Shape) (u size : ℕ) (es : List Extent) (x : ℕ) (d : Extent) → s ≡ Raid5 → (is_tiled s ≡ false → 0 < u) → (is_tiled s ≡ false → fewest s ≤ length es)
    → size ≤ plex_capacity s u es → All P es → x < size → IsInside P (parity_at s u es x)
plex_parity_inside P s u size es x d e chunked columned holds all h = grind (arith, common_steps, parity_spot_inside)

pub parity_inside : (P : Extent → Type 0) (l : Layout) (es : List Extent) (x : ℕ) (d : Extent) → l.shape ≡ Raid5 → PlexFacts l es → All P es → x < l.size → IsInside P (parity_at l.shape l.chunk es x)
parity_inside P l es x d e facts all h = plex_parity_inside P l.shape l.chunk l.size es x d e facts.chunked facts.columned facts.holds all h

plex_beside : (s : Shape) (u : ℕ) (es : List Extent) (x y : ℕ) (e : Extent) (o : ℕ) → (is_tiled s ≡ false → 0 < u) → (is_tiled s ≡ false → fewest s ≤ length es) → (is_tiled s ≡ false → rises_from 0 es ≡ true)
    → plex_spot s u es x ≡ Some (e, o) → parity_at s u es y ≡ Some (e, o) → ⊥
plex_beside s u es x y e o chunked columned rises f g = grind (arith, common_steps, parity_spot_apart)

-- no sector of the component lies at a parity's spot
pub parity_beside : (l : Layout) (es : List Extent) (x y : ℕ) (e : Extent) (o : ℕ) → PlexFacts l es → plex_spot l.shape l.chunk es x ≡ Some (e, o) → parity_at l.shape l.chunk es y ≡ Some (e, o) → ⊥
parity_beside l es x y e o facts f g = plex_beside l.shape l.chunk es x y e o facts.chunked facts.columned facts.rises f g

-- ---- Sectors that lie side by side: in one tile, and in one chunk.

-- a spot, and the one so many sectors behind it
abbrev pub spot_at : Extent → ℕ → Option (Extent × ℕ)
spot_at e o = Some (e, o)

abbrev pub along : ℕ → Option (Extent × ℕ) → Option (Extent × ℕ)
along i spot = option_map (λ s. (s.0, s.1 + i)) spot

pub spot_along : (g : Option Extent) (o p i : ℕ) → o ≡ p + i
    → option_map {U = Extent × ℕ} (λ (f : Extent). (f, o)) g
    ≡ along i (option_map {U = Extent × ℕ} (λ (f : Extent). (f, p)) g)
spot_along g o p i e = grind (arith, common_steps)

pub place_along : (spot : Option (Extent × ℕ)) (i : ℕ) → option_map place_at (along i spot) ≡ option_map (moved i) (option_map place_at spot)
place_along spot i = grind (arith, common_steps)

-- ---- tiles

covering : (x : ℕ) (e : Extent) → e.offset ≤ x → x < e.offset + e.size → covers x e ≡ true
covering x e low high = and_from (nat_le e.offset x) (nat_lt x (e.offset + e.size)) (le-leb e.offset x low) (lt-ltb x (e.offset + e.size) high)

-- what a tile covers doesn't lie in an earlier one
behind_first : (at : ℕ) (f : Extent) (fs : List Extent) (x y : ℕ) (e : Extent) → tiles_from at (f ∷ fs) ≡ true → find (covers x) fs ≡ Some e → covers y e ≡ true → covers y f ≡ false
behind_first at f fs x y e tiled hit cover =
    grind (arith, first_tile, find_there, begins_behind, covers_parts, and_right, le-ltb)

pub same_tile : (at : ℕ) (es : List Extent) (x y : ℕ) (e : Extent) → tiles_from at es ≡ true → find (covers x) es ≡ Some e → covers y e ≡ true → find (covers y) es ≡ Some e
same_tile at [] x y e tiled hit cover = absurd cc
same_tile at (f ∷ fs) x y e tiled hit cover = go (covers x f) refl hit (λ h. same_tile (at + f.size) fs x y e (first_tile at f fs tiled).1 h cover)
  where
    go : (b : Bool) → covers x f ≡ b → cond b (Some f) (find (covers x) fs) ≡ Some e → (find (covers x) fs ≡ Some e → find (covers y) fs ≡ Some e) → find (covers y) (f ∷ fs) ≡ Some e
    go true is h rest = cond-true (covers y f) (Some f) (find (covers y) fs) (subst (λ (g : Extent). covers y g ≡ true) (sym (some_same h)) cover) ∙ h
    go false is h rest = cond-false (covers y f) (Some f) (find (covers y) fs) (behind_first at f fs x y e tiled h cover) ∙ rest h

pub tile_along : (es : List Extent) (x i : ℕ) (e : Extent) → tiles es ≡ true → find (covers x) es ≡ Some e → x + i < e.offset + e.size → tile_spot es (x + i) ≡ along i (tile_spot es x)
tile_along es x i e tiled hit lt =
    let low : e.offset ≤ x = (covers_parts x e (find_there (covers x) es e hit).1).0 in
    let far : find (covers (x + i)) es ≡ Some e = same_tile 0 es x (x + i) e (tiles_zero es tiled) hit (covering (x + i) e (omega arith) lt) in
    let off : x + i - e.offset ≡ x - e.offset + i = omega arith in
    ap (λ (g : Option Extent). option_map {U = Extent × ℕ} (λ f. (f, x + i - f.offset)) g) far
    ∙ ap (λ (o : ℕ). spot_at e o) off
    ∙ sym (ap (λ (g : Option Extent). along i (option_map {U = Extent × ℕ} (λ f. (f, x - f.offset)) g)) hit)

-- ---- chunks

pub in_chunk : (u x i : ℕ) → x % u + i < u → ((x + i) / u ≡ x / u) × ((x + i) % u ≡ x % u + i)
in_chunk u x i lt = grind (arith, common_steps)

pub stripe_along : (es : List Extent) (u x i : ℕ) → x % u + i < u → stripe_spot es u (x + i) ≡ along i (stripe_spot es u x)
stripe_along es u x i lt =
    let both = in_chunk u x i lt in
    let k = length es in
    let off : stripe_offset k u (x + i) ≡ stripe_offset k u x + i =
    ap (λ q. q / k * u + (x + i) % u) both.0 ∙ (ap (λ r. x / u / k * u + r) both.1 ∙ sym (add_assoc (x / u / k * u) (x % u) i)) in
    ap (λ c. option_map {U = Extent × ℕ} (λ e. (e, stripe_offset k u (x + i))) (slice_get es c)) (ap (λ q. q % k) both.0)
    ∙ spot_along (slice_get es (stripe_column k u x)) (stripe_offset k u (x + i)) (stripe_offset k u x) i off

pub raid5_offset_along : (k u x i : ℕ) → x % u + i < u → raid5_offset k u (x + i) ≡ raid5_offset k u x + i
raid5_offset_along k u x i lt =
    let both = in_chunk u x i lt in
    ap (λ q. q / (k - 1) * u + (x + i) % u) both.0 ∙ (ap (λ r. x / u / (k - 1) * u + r) both.1 ∙ sym (add_assoc (x / u / (k - 1) * u) (x % u) i))

pub raid5_column_along : (k u x i : ℕ) → x % u + i < u → raid5_column k u (x + i) ≡ raid5_column k u x
raid5_column_along k u x i lt = ap (λ q. (k - 1 - q / (k - 1) % k + 1 + q % (k - 1)) % k) (in_chunk u x i lt).0

pub raid5_along : (es : List Extent) (u x i : ℕ) → x % u + i < u → raid5_spot es u (x + i) ≡ along i (raid5_spot es u x)
raid5_along es u x i lt =
    let k = length es in
    ap (λ c. option_map {U = Extent × ℕ} (λ e. (e, raid5_offset k u (x + i))) (slice_get es c)) (raid5_column_along k u x i lt)
    ∙ spot_along (slice_get es (raid5_column k u x)) (raid5_offset k u (x + i)) (raid5_offset k u x) i (raid5_offset_along k u x i lt)

pub column_along : (es : List Extent) (u x i column : ℕ) → x % u + i < u → column_spot es u (x + i) column ≡ along i (column_spot es u x column)
column_along es u x i column lt = grind (arith, spot_along, raid5_offset_along)

-- ---- a component

pub chunked_along : (s : Shape) (u : ℕ) (es : List Extent) (x i : ℕ) → is_tiled s ≡ false → x % u + i < u → plex_spot s u es (x + i) ≡ along i (plex_spot s u es x)
chunked_along s u es x i tiled lt = grind (arith, common_steps, stripe_along, raid5_along)

-- the places of a copy are those of its component
pub place_by : (l : Layout) (copy x : ℕ) (es : List Extent) → slice_get l.plexes copy ≡ Some es → place_in l x copy ≡ option_map place_at (plex_spot l.shape l.chunk es x)
place_by l copy x es there = ap (λ (g : Option (List Extent)). option_map place_at (option_and_then (λ fs. plex_spot l.shape l.chunk fs x) g)) there

in_rest : (u x i n : ℕ) → n ≡ u - x % u → i < n → x % u + i < u
in_rest u x i n is lt = omega (arith, is, lt)

-- a stretch in the component of a copy, whose layout is seen in two ways
pub stretch_there : {l k : Layout} (x copy n m : ℕ) (es : List Extent) → l ≡ k → slice_get l.plexes copy ≡ Some es → x < l.size → 0 < n
    → ((i : ℕ) → i < n → plex_spot k.shape k.chunk es (x + i) ≡ along i (plex_spot k.shape k.chunk es x)) → (is_tiled k.shape ≡ false → n ≡ k.chunk - x % k.chunk)
    → m ≡ min n (k.size - x) → IsStretch l x copy m
stretch_there {l} {k} x copy n m es same there within some spots chunk is =
    subst (λ (j : Layout). IsStretch j x copy m) (sym same) (record {
      some = omega (arith, is, some, low);
      within = omega (arith, is, low);
      places = λ i lt. place_by k copy (x + i) es at ∙ (ap (λ (s : Option (Extent × ℕ)). option_map place_at s) (spots i (omega (arith, is, lt)))
          ∙ (place_along (plex_spot k.shape k.chunk es x) i ∙ sym (ap (λ (p : Option Place). option_map (moved i) p) (place_by k copy x es at))));
      own = λ i lt raid5. raid5_column_along (length (columns_of k)) k.chunk x i (in_rest k.chunk x i n (chunk (ap is_tiled raid5)) (omega (arith, is, lt)));
      columns = λ i column lt raid5.
          ap (λ (s : Option (Extent × ℕ)). option_map place_at s) (column_along (columns_of k) k.chunk x i column (in_rest k.chunk x i n (chunk (ap is_tiled raid5)) (omega (arith, is, lt))))
          ∙ place_along (column_spot (columns_of k) k.chunk x column) i;
    })
  where
    low : x < k.size
    low = subst (λ (j : Layout). x < j.size) same within

    at : slice_get k.plexes copy ≡ Some es
    at = subst (λ (j : Layout). slice_get j.plexes copy ≡ Some es) same there
