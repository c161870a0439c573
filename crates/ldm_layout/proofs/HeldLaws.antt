-- What the components of a volume hold, and when it has a layout; which components are of a volume.
use Rattle.std.proofs.Common.{◌≡◌, ℕ, ◌+◌, ◌≤◌, ◌==◌, List, [], ◌∷◌, length, map, refl, sym, ap, ◌∙◌, arith, true, ◌*◌, Some, Option, ◌&&◌, not, Bool, false, Ok, min, ◌≢◌, ◌-◌, ◌/◌, ◌%◌, subst, None}
use Rattle.std.specs.Prelude.{if◌then◌else◌, nat_le}
use Rattle.std.specs.List.{All, list_all, Contains, list_any}
use Rattle.std.proofs.lemmas.List.Elements.{All-tail}
use Rattle.std.proofs.lemmas.Bool.{and_from, eq-eqb, le-leb, le-ltb, ltb-false, ne_eqb, eqb-true}
use Rattle.ldm_places.specs.declared.extent.Extent.{Extent}
use Rattle.ldm_layout.specs.Parts.{by_offset, by_index, plexes_of, extents_of, in_rising, held_in, plex_of}
use Rattle.ldm_places.specs.Extents.{tiles, rises_from, least}
use Rattle.ldm_records.specs.declared.types.Record.{Record}
use Rattle.std.specs.Option.{option_map}
use Rattle.ldm_bytes.specs.Tables.{first_fault, unless}
use Rattle.ldm_records.specs.declared.types.Volume.{Volume}
use Rattle.ldm_layout.specs.declared.parts.Plex.{Plex}
use Rattle.ldm_places.specs.declared.shape.LayoutFault.TheVariants.{Gap, Chunk, Columns, Short}
use Rattle.ldm_places.specs.declared.shape.Shape.{Shape}
use Rattle.ldm_places.specs.declared.shape.Shape.TheVariants.{Span, Stripe, Mirror, Raid5}
use Rattle.ldm_places.specs.Layouts.{Layout, has_gap, lacks_chunk, lacks_columns, has_columns, is_short, is_tiled, plex_capacity, capacity_of, fewest}
use Rattle.ldm_layout.specs.Volumes.{layout_of, shape_of, striping_of, laid_out, draft_of, checked, is_basic}
use Rattle.ldm_places.proofs.SpotLaws.{has_none}
use Rattle.ldm_layout.proofs.VolumeLaws.{laid_out_volume, plex_there, plexes_are}
use Rattle.std.proofs.Math.Nat.{mul_assoc}
use Rattle.ldm_layout.proofs.SortLaws.{Climbs, climbs_rises, stable_is}
use Rattle.ldm_records.specs.declared.types.Record.TheVariants as kinds
use Rattle.ldm_records.specs.declared.types.Component.{Component}
use Rattle.ldm_group.proofs.ListLaws.{only_one, moved}
use Rattle.std.proofs.lemmas.List.Folds.{list_any_at, Any-from_list_any}

-- the partitions of each component, in the order of the volume's sectors
abbrev pub copies_in : List Record → List Plex → List (List Extent)
copies_in records ps = map (λ (p : Plex). by_offset (extents_of p.id records)) ps

-- a layout without a fault
pub faultless : (l : Layout) → has_gap l ≡ false → lacks_chunk l ≡ false → lacks_columns l ≡ false → is_short l ≡ false
    → checked (Some l) ≡ Ok l
faultless l gap chunk columns short = λ i. unless (first_fault ((Gap, gap i) ∷ (Chunk, chunk i) ∷ (Columns, columns i) ∷ (Short, short i) ∷ [])) l

-- a tiled component holds what its partitions do
pub tiled_capacity : (s : Shape) (chunk : ℕ) (es : List Extent) → is_tiled s ≡ true → plex_capacity s chunk es ≡ held_in es
tiled_capacity Span chunk es h = refl
tiled_capacity Mirror chunk es h = refl
tiled_capacity Stripe chunk es h = absurd cc
tiled_capacity Raid5 chunk es h = absurd cc

module _ (records : List Record) (v : Volume) (ps : List Plex) (s : Shape) (plexes : plexes_of v.head.id records ≡ ps) (shape : shape_of ps ≡ Some s) (is : is_tiled s ≡ true) where
  laid : (ps : List Plex) → map (λ (p : Plex). laid_out s (extents_of p.id records)) ps ≡ copies_in records ps
  laid ps = ap (λ (b : Bool). map (λ (p : Plex). if b then by_offset (extents_of p.id records) else by_index (extents_of p.id records)) ps) is

  capacities : (chunk : ℕ) (es : List (List Extent)) → least (map (plex_capacity s chunk) es) ≡ least (map held_in es)
  capacities chunk es = ap (λ (f : List Extent → ℕ). least (map f es)) (λ i x. tiled_capacity s chunk x is i)

  -- a volume of which each component is tiled and holds its size has a layout
  pub tiled_laid : list_all tiles (copies_in records ps) ≡ true → v.size ≤ least (map held_in (copies_in records ps))
      → (l : Layout) × (layout_of records v ≡ Ok l)
  unfolding layout_of
  tiled_laid tiled fits =
      let lay : List (List Extent) → Layout = λ xs. record { shape = s; size = v.size; chunk = (striping_of ps).chunk; columns = (striping_of ps).columns; plexes = xs } in
      let es : List (List Extent) = copies_in records ps in
      let gap : has_gap (lay es) ≡ false = (λ i. is i && not (tiled i)) in
      let chunk : lacks_chunk (lay es) ≡ false = ap (λ (b : Bool). not b && ((striping_of ps).chunk == 0)) is in
      let columns : lacks_columns (lay es) ≡ false = ap (λ (b : Bool). not b && not (list_all (has_columns (lay es)) es)) is in
      let holds = capacities (striping_of ps).chunk es in
      let short : is_short (lay es) ≡ false = le-ltb _ _ (omega arith) in (
        lay es,
        ap (λ (qs : List Plex). checked (draft_of v.size qs (λ c. extents_of c records))) plexes
            ∙ ap (λ (o : Option Shape). checked (option_map {U = Layout} (λ t. record { shape = t; size = v.size; chunk = (striping_of ps).chunk; columns = (striping_of ps).columns; plexes = map (λ (p : Plex). laid_out t (extents_of p.id records)) ps }) o)) shape
            ∙ ap (λ (xs : List (List Extent)). checked (Some (lay xs))) (laid ps)
            ∙ faultless (lay es) gap chunk columns short,
      )

-- what the partitions of a span or mirror hold
pub record HoldsTiled (records : List Record) (v : Volume) (ps : List Plex) (l : Layout) : Type 0 where
  pub tiled : list_all tiles (copies_in records ps) ≡ true
  pub fits : v.size ≤ least (map held_in (copies_in records ps))
  pub capacity : capacity_of l ≡ least (map held_in (copies_in records ps))

pub not_gap : (b : Bool) → not b ≡ false → b ≡ true
not_gap true h = refl
not_gap false h = absurd cc

pub tiled_holds : (records : List Record) (v : Volume) (ps : List Plex) (s : Shape) (l : Layout)
    → plexes_of v.head.id records ≡ ps → shape_of ps ≡ Some s → is_tiled s ≡ true → layout_of records v ≡ Ok l
    → HoldsTiled records v ps l
tiled_holds records v ps s l plexes shaped is layout =
    let es : List (List Extent) = copies_in records ps in
    let facts = laid_out_volume records v l layout in
    let none = has_none l facts.sound in
    let shapes : shape_of (plexes_of v.head.id records) ≡ Some s = ap shape_of plexes ∙ shaped in
    let shape : l.shape ≡ s = (let both : Some l.shape ≡ Some s = sym facts.parts.shape ∙ shapes in cc) in
    let copies : l.plexes ≡ es =
    facts.parts.plexes ∙ ap (λ (qs : List Plex). map (λ (p : Plex). laid_out l.shape (extents_of p.id records)) qs) plexes
    ∙ ap (λ (t : Shape). map (λ (p : Plex). laid_out t (extents_of p.id records)) ps) shape ∙ laid records v ps s plexes shaped is ps in
    let capacity : capacity_of l ≡ least (map held_in es) =
    ap (λ (ls : List (List Extent)). least (map (plex_capacity l.shape l.chunk) ls)) copies ∙ ap (λ (t : Shape). least (map (plex_capacity t l.chunk) es)) shape
    ∙ capacities records v ps s plexes shaped is l.chunk es in
    let gap : (is_tiled l.shape && not (list_all tiles l.plexes)) ≡ false = none.gap in
    let tiled : is_tiled l.shape ≡ true = ap is_tiled shape ∙ is in
    let here : not (list_all tiles es) ≡ false = sym (λ i. tiled i && not (list_all tiles (copies i))) ∙ gap in
    let short : l.size ≤ capacity_of l = ltb-false (capacity_of l) l.size none.short in
    let size = facts.size in
    record { tiled = not_gap (list_all tiles es) here; fits = omega arith; capacity = capacity }

-- as much more for each is as much more for the least
pub least_more : {X : Type 0} (f : X → ℕ) (n : ℕ) (xs : List X) → 1 ≤ length xs → least (map (λ x. f x + n) xs) ≡ least (map f xs) + n
least_more f n [] some = absurd (omega arith)
least_more f n (x ∷ []) some = refl
least_more f n (x ∷ (y ∷ xs)) some =
    let rest = least_more f n (y ∷ xs) (omega arith) in
    ap (λ (m : ℕ). min (f x + n) m) rest ∙ min_more (f x) (least (map f (y ∷ xs))) n
  where
    min_more : (a b n : ℕ) → min (a + n) (b + n) ≡ min a b + n
    min_more a b n = omega arith

-- a list that rises is in its order
pub laid_as_is : (n : Extent → ℕ) (es : List Extent) → Climbs n es → in_rising n es ≡ es
laid_as_is n es up = sym (stable_is n es es (climbs_rises n es up) (λ k. refl))

-- the least of numbers that are all one
pub least_one : (ns : List ℕ) (m : ℕ) → 1 ≤ length ns → All (λ n. n ≡ m) ns → least ns ≡ m
least_one [] m some same = absurd (omega arith)
least_one (n ∷ []) m some same = same 0 n (omega arith)
least_one (n ∷ (k ∷ ns)) m some same =
    let here : n ≡ m = same 0 n (omega arith) in
    let rest : least (k ∷ ns) ≡ m = least_one (k ∷ ns) m (omega arith) (All-tail (λ (x : ℕ). x ≡ m) n (k ∷ ns) same) in
    omega arith

-- chunks that fill a column
pub whole_chunks : (k u len : ℕ) → u ≢ 0 → len % u ≡ 0 → k * u * (len / u) ≡ k * len
whole_chunks k u len some whole =
    let fills : u * (len / u) ≡ len = omega arith in
    mul_assoc k u (len / u) ∙ ap (λ n. k * n) fills

-- columns side by side that hold the volume
pub columned_laid : (records : List Record) (v : Volume) (s : Shape) (c u layout columns : ℕ) (es : List Extent) → is_tiled s ≡ false
    → plexes_of v.head.id records ≡ record { volume = v.head.id; id = c; layout = layout; striping = Some (record { chunk = u; columns = columns }) } ∷ []
    → shape_of (record { volume = v.head.id; id = c; layout = layout; striping = Some (record { chunk = u; columns = columns }) } ∷ []) ≡ Some s
    → extents_of c records ≡ es → length es ≡ columns → rises_from 0 es ≡ true → Climbs (λ e. e.index) es
    → fewest s ≤ columns → u ≢ 0 → v.size ≤ plex_capacity s u es → (l : Layout) × (layout_of records v ≡ Ok l)
unfolding layout_of
columned_laid records v s c u layout columns es untiled plexes shape extents many rise climb enough some fits =
    let lay : List Extent → Layout = λ xs. record { shape = s; size = v.size; chunk = u; columns = columns; plexes = xs ∷ [] } in
    let whole : has_columns (lay es) es ≡ true =
    and_from (columns == length es) _ (eq-eqb columns (length es) (sym many))
    (and_from (nat_le (fewest s) (length es)) _ (le-leb (fewest s) _ (omega arith)) rise) in
    let gap : has_gap (lay es) ≡ false = ap (λ (b : Bool). b && not (tiles es && true)) untiled in
    let chunk : lacks_chunk (lay es) ≡ false = (λ i. not (untiled i) && ne_eqb u 0 some i) in
    let lacks : lacks_columns (lay es) ≡ false = (λ i. not (untiled i) && not (whole i && true)) in (
      lay es,
      ap (λ (ps : List Plex). checked (draft_of v.size ps (λ d. extents_of d records))) plexes
          ∙ ap (λ (o : Option Shape). checked (option_map {U = Layout} (λ t. record { shape = t; size = v.size; chunk = u; columns = columns; plexes = laid_out t (extents_of c records) ∷ [] }) o)) shape
          ∙ ap (λ (b : Bool). checked (Some (lay (if b then by_offset (extents_of c records) else by_index (extents_of c records))))) untiled
          ∙ ap (λ (xs : List Extent). checked (Some (lay (by_index xs)))) extents
          ∙ ap (λ (xs : List Extent). checked (Some (lay xs))) (laid_as_is (λ e. e.index) es climb)
          ∙ faultless (lay es) gap chunk lacks (le-ltb _ _ fits),
    )

pub one_span : (ps : List Plex) → shape_of ps ≡ Some Span → (p : Plex) × (ps ≡ p ∷ [])
one_span [] h = absurd cc
one_span (p ∷ []) h = (p, refl)
one_span (p ∷ (q ∷ ps)) h = absurd (elim (list_all is_basic (p ∷ (q ∷ ps)))
    as (λ (b : Bool). (if b then Some Mirror else None) ≡ Some Span → ⊥)
    [ true ↦ λ e. cc | false ↦ λ e. cc ] h)

-- a span's component is its only one
pub own_plex : (records : List Record) (v : Volume) (c : Component) → shape_of (plexes_of v.head.id records) ≡ Some Span
    → Contains records (kinds.Component c) → c.parent ≡ v.head.id
    → plexes_of v.head.id records ≡ plex_of c ∷ []
own_plex records v c shape there parent =
    let one = one_span (plexes_of v.head.id records) shape in
    let own : Contains (plexes_of v.head.id records) (plex_of c) = subst (λ (q : ℕ). Contains (plexes_of q records) (plex_of c)) parent (plex_there records c there) in
    one.1 ∙ ap (λ (p : Plex). p ∷ []) (only_one one.0 (plex_of c) (moved one.1 (plex_of c) own))

-- ---- components of a volume

-- a component of the volume, of this id
pub record IsOwn (records : List Record) (volume q : ℕ) : Type 0 where
  pub component : Component
  pub there : Contains records (kinds.Component component)
  pub parent : component.parent ≡ volume
  pub id : component.head.id ≡ q

pub own_any : (records : List Record) (volume q : ℕ) → IsOwn records volume q → list_any (λ plex. plex.id == q) (plexes_of volume records) ≡ true
own_any records volume q is =
    let own : Contains (plexes_of volume records) (plex_of is.component) = subst (λ (n : ℕ). Contains (plexes_of n records) (plex_of is.component)) is.parent (plex_there records is.component is.there) in
    list_any_at (λ plex. plex.id == q) (plexes_of volume records) own.0 (plex_of is.component) own.1 (ap (λ (x : Plex). x.id == q) own.2 ∙ eq-eqb is.component.head.id q is.id)

pub any_own : (records : List Record) (volume q : ℕ) → list_any (λ plex. plex.id == q) (plexes_of volume records) ≡ true → IsOwn records volume q
any_own records volume q h =
    let any = Any-from_list_any (λ plex. plex.id == q) (plexes_of volume records) h in
    let is = plexes_are records volume any.0 any.1 any.2 in
    record { component = is.component; there = is.there; parent = is.parent; id = ap (λ (x : Plex). x.id) (is.is ∙ any.3) ∙ eqb-true any.1.id q any.4 }
