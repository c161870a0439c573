-- What a layout is made of: the components and partitions of a volume, and drafts of them.
use Rattle.std.proofs.Common.{◌≡◌, ℕ, suc, ◌<◌, ◌==◌, List, [], ◌∷◌, length, get_or, refl, sym, ap, ◌∙◌, arith, Bool, true, false, Option, Some, None, ◌+◌, ◌*◌, ◌^◌, inl, inr, subst, slice_get, cond, map, IfSome, Result, Ok, Err, IfOk, nat_le, ◌≤◌, ◌||◌, ◌++◌, sum_by}
use Rattle.std.proofs.lemmas.Grind.{common_steps}
use Rattle.std.specs.Prelude.{filter, if◌then◌else◌}
use Rattle.std.specs.List.{filter_map, All, AllPairs, Contains, cons_option, list_any}
use Rattle.std.specs.Option.{option_map}
use Rattle.std.proofs.lemmas.Bool.{eq-eqb, cases_lt, eqb-true, and_from}
use Rattle.ldm_records.specs.declared.types.Record.{Record}
use Rattle.ldm_records.specs.declared.types.Record.TheVariants as kinds
use Rattle.ldm_records.specs.declared.types.Volume.{Volume}
use Rattle.ldm_records.specs.declared.types.Component.{Component}
use Rattle.ldm_group.specs.Looks.{is_child}
use Rattle.ldm_group.proofs.KinLaws.{filter_keeps, named_there}
use Rattle.ldm_places.specs.declared.shape.Shape.{Shape}
use Rattle.ldm_layout.specs.declared.parts.Plex.{Plex}
use Rattle.ldm_places.specs.declared.extent.Extent.{Extent}
use Rattle.ldm_layout.specs.Parts.{plex_of, extent_of, plex_in, plexes_of, extent_in, extents_of, plexes_at, extents_at, insert_by, in_rising, by_offset, by_index, tile_key, is_partition_of}
use Rattle.ldm_places.specs.Extents.{tiles, tiles_from}
use Rattle.ldm_places.specs.Layouts.{Layout, is_tiled, layout_fault, copies_by}
use Rattle.ldm_layout.specs.Volumes.{layout_of, shape_of, draft_of, checked, laid_out, striping_of, fault_of, fault_at}
use Rattle.std.proofs.lemmas.List.Kept.{AllPairs-filter, AllPairs-cons}
use Rattle.ldm_group.specs.Order.{Rising, place_of}
use Rattle.ldm_group.proofs.LookLaws.{one_record}
use Rattle.std.proofs.lemmas.List.{length-map}
use Rattle.std.proofs.lemmas.List.Elements.{All-cons, All-filter, filter_passes, All-tail, filter-append, Contains-get_or}
use Rattle.ldm_records.specs.declared.types.Partition.{Partition}
use Rattle.ldm_places.proofs.SpotLaws.{some_same, first_tile, tiles_rise}
use Rattle.ldm_layout.specs.Answers.{PlansAs}
use Rattle.ldm_places.specs.Plans.{AllEnd, IsPlan}
use Rattle.ldm_layout.specs.Grouped.{Lists, IsListsOf}
use Rattle.ldm_places.specs.declared.shape.LayoutFault.{LayoutFault}
use Rattle.ldm_layout.specs.declared.faulty.VolumeFault.{VolumeFault}
use Rattle.std.proofs.lemmas.List.Folds.{list_any_at}
use Rattle.ldm_bytes.specs.Tables.{unless}
use Rattle.ldm_group.specs.Partitions.{EndsInRange}
use Rattle.ldm_places.specs.declared.shape.LayoutError.{LayoutError}
use Rattle.std.proofs.lemmas.List.Sums.{sum_by-cons}
use Rattle.ldm_layout.proofs.SortLaws.{rising_numbers, stable_is}
use Rattle.std.proofs.lemmas.Option.{slice_get_within, get_or_from_slice_get, same_Some}

-- ---- What the layout of a volume reads: its components, and the partitions of each, as those that name them as their parent.

-- the components of a volume are what its children say
pub plexes_by : (q : ℕ) (records : List Record) → plexes_of q records ≡ filter_map plex_in (filter (is_child 3 q) records)
plexes_by q [] = refl
plexes_by q (kinds.Component c ∷ records) =
    let rest = plexes_by q records in
    elim (c.parent == q) as (λ (b : Bool). (if b then plex_of c ∷ plexes_of q records else plexes_of q records) ≡ filter_map plex_in (if b then kinds.Component c ∷ filter (is_child 3 q) records else filter (is_child 3 q) records))
    [ true ↦ ap (λ (l : List Plex). plex_of c ∷ l) rest | false ↦ rest ]
plexes_by q (r ∷ records) = plexes_by q records

-- the partitions of a component are what its children say
pub extents_by : (q : ℕ) (records : List Record) → extents_of q records ≡ filter_map extent_in (filter (is_child 4 q) records)
extents_by q [] = refl
extents_by q (kinds.Partition p ∷ records) =
    let rest = extents_by q records in
    elim (p.parent == q) as (λ (b : Bool). (if b then extent_of p ∷ extents_of q records else extents_of q records) ≡ filter_map extent_in (if b || false then kinds.Partition p ∷ filter (is_child 4 q) records else filter (is_child 4 q) records))
    [ true ↦ ap (λ (l : List Extent). extent_of p ∷ l) rest | false ↦ rest ]
extents_by q (r ∷ records) = extents_by q records

map_same : {X Y : Type 0} (f g : X → Y) (xs : List X) → ((k : ℕ) (d : X) → k < length xs → f (get_or xs k d) ≡ g (get_or xs k d)) → map f xs ≡ map g xs
map_same f g [] same = refl
map_same f g (x ∷ xs) same =
    let first : f x ≡ g x = same 0 x (omega arith) in
    let rest : map f xs ≡ map g xs = map_same f g xs (λ k d lt. same (suc k) d (omega arith)) in
    cc

draft_same : (size : ℕ) (ps : List Plex) (e f : ℕ → List Extent) → ((k : ℕ) (d : Plex) → k < length ps → e (get_or ps k d).id ≡ f (get_or ps k d).id) → draft_of size ps e ≡ draft_of size ps f
draft_same size ps e f same = by (shape_of ps)
  where
    lay : (s : Shape) → map (λ p. laid_out s (e p.id)) ps ≡ map (λ p. laid_out s (f p.id)) ps
    lay s = map_same (λ p. laid_out s (e p.id)) (λ p. laid_out s (f p.id)) ps (λ k d lt. ap (laid_out s) (same k d lt))

    by : (o : Option Shape) → option_map {U = Layout} (λ s. record { shape = s; size = size; chunk = (striping_of ps).chunk; columns = (striping_of ps).columns; plexes = map (λ p. laid_out s (e p.id)) ps }) o
        ≡ option_map {U = Layout} (λ s. record { shape = s; size = size; chunk = (striping_of ps).chunk; columns = (striping_of ps).columns; plexes = map (λ p. laid_out s (f p.id)) ps }) o
    by None = refl
    by (Some s) = ap (λ (l : List (List Extent)). Some (record { shape = s; size = size; chunk = (striping_of ps).chunk; columns = (striping_of ps).columns; plexes = l })) (lay s)

-- a volume whose components, and their partitions, are the same has the same layout
pub same_layout : (old next : List Record) (v : Volume) → filter (is_child 3 v.head.id) old ≡ filter (is_child 3 v.head.id) next
    → ((k : ℕ) (d : Plex) → k < length (plexes_of v.head.id old) → filter (is_child 4 (get_or (plexes_of v.head.id old) k d).id) old ≡ filter (is_child 4 (get_or (plexes_of v.head.id old) k d).id) next)
    → layout_of old v ≡ layout_of next v
unfolding layout_of
same_layout old next v components partitions =
    let plexes : plexes_of v.head.id old ≡ plexes_of v.head.id next = plexes_by v.head.id old ∙ ap (filter_map plex_in) components ∙ sym (plexes_by v.head.id next) in
    ap checked (draft_same v.size (plexes_of v.head.id old) (λ c. extents_of c old) (λ c. extents_of c next)
    (λ k d lt. extents_by _ old ∙ ap (filter_map extent_in) (partitions k d lt) ∙ sym (extents_by _ next))
    ∙ ap (λ (ps : List Plex). draft_of v.size ps (λ c. extents_of c next)) plexes)

-- a component of a volume is one of its parts
pub plex_there : (records : List Record) (c : Component) → Contains records (kinds.Component c) → Contains (plexes_of c.parent records) (plex_of c)
plex_there records c there =
    filter_keeps (λ p. p.volume == c.parent) (filter_map plex_in records) (plex_of c) (named_there plex_in records (kinds.Component c) there.0 (plex_of c) there.1 (ap plex_in there.2)) (eq-eqb c.parent c.parent refl)

-- ---- What the components and partitions of a volume are read from, and that no two volumes share a component.

-- ---- what the parts are read from

-- what a list names is of an element of it
named : {X Y : Type 0} (f : X → Option Y) (P : Y → Type 0) (xs : List X) → ((k : ℕ) (d : X) → k < length xs → (y : Y) → f (get_or xs k d) ≡ Some y → P y) → All P (filter_map f xs)
named f P [] h = λ k d lt. absurd (omega arith)
named {X} {Y} f P (x ∷ xs) h = go (f x) refl (named f P xs (λ k d lt. h (suc k) d (omega arith)))
  where
    go : (o : Option Y) → f x ≡ o → All P (filter_map f xs) → All P (cons_option (f x) (filter_map f xs))
    go None e rest = subst (λ (o : Option Y). All P (cons_option o (filter_map f xs))) (sym e) rest
    go (Some y) e rest = subst (λ (o : Option Y). All P (cons_option o (filter_map f xs))) (sym e) (All-cons P y (filter_map f xs) (h 0 x (omega arith) y e) rest)

-- a partition of the group, of the component of this id
pub record IsExtentOf (records : List Record) (component : ℕ) (e : Extent) : Type 0 where
  pub partition : Partition
  pub there : Contains records (kinds.Partition partition)
  pub is : extent_of partition ≡ e
  pub parent : partition.parent ≡ component

-- a component of the group, of the volume of this id
pub record IsPlexIn (records : List Record) (volume : ℕ) (p : Plex) : Type 0 where
  pub component : Component
  pub there : Contains records (kinds.Component component)
  pub is : plex_of component ≡ p
  pub parent : component.parent ≡ volume

extent_from : (r : Record) (e : Extent) → extent_in r ≡ Some e → (p : Partition) × (r ≡ kinds.Partition p) × (extent_of p ≡ e)
extent_from (kinds.Partition p) e h = (p, refl, some_same h)
extent_from r e h = absurd cc

plex_from : (r : Record) (p : Plex) → plex_in r ≡ Some p → (c : Component) × (r ≡ kinds.Component c) × (plex_of c ≡ p)
plex_from (kinds.Component c) p h = (c, refl, some_same h)
plex_from r p h = absurd cc

all_both : {X : Type 0} (P Q R : X → Type 0) (xs : List X) → ((x : X) → P x → Q x → R x) → All P xs → All Q xs → All R xs
all_both P Q R xs f p q k d h = f (get_or xs k d) (p k d h) (q k d h)

pub extents_are : (records : List Record) (component : ℕ) → All (IsExtentOf records component) (extents_of component records)
extents_are records component =
    let from : Extent → Type 0 = λ e. (p : Partition) × Contains records (kinds.Partition p) × (extent_of p ≡ e) in
    let all : All from (filter_map extent_in records) = named extent_in from records (λ k d h e is. let one = extent_from (get_or records k d) e is in
    (one.0, subst (λ (r : Record). Contains records r) one.1 (Contains-get_or records k d h), one.2)) in
    all_both from (λ e. (e.component == component) ≡ true) (IsExtentOf records component) (extents_of component records)
    (λ e f same. record {
      partition = f.0;
      there = f.1;
      is = f.2;
      parent = ap (λ (x : Extent). x.component) f.2 ∙ eqb-true e.component component same;
    })
    (All-filter (λ e. e.component == component) from (filter_map extent_in records) all)
    (filter_passes (λ e. e.component == component) (filter_map extent_in records))

pub plexes_are : (records : List Record) (volume : ℕ) → All (IsPlexIn records volume) (plexes_of volume records)
plexes_are records volume =
    let from : Plex → Type 0 = λ p. (c : Component) × Contains records (kinds.Component c) × (plex_of c ≡ p) in
    let all : All from (filter_map plex_in records) = named plex_in from records (λ k d h p is. let one = plex_from (get_or records k d) p is in
    (one.0, subst (λ (r : Record). Contains records r) one.1 (Contains-get_or records k d h), one.2)) in
    all_both from (λ p. (p.volume == volume) ≡ true) (IsPlexIn records volume) (plexes_of volume records)
    (λ p f same. record {
      component = f.0;
      there = f.1;
      is = f.2;
      parent = ap (λ (x : Plex). x.volume) f.2 ∙ eqb-true p.volume volume same;
    })
    (All-filter (λ p. p.volume == volume) from (filter_map plex_in records) all)
    (filter_passes (λ p. p.volume == volume) (filter_map plex_in records))

-- ---- one component, one volume

same_component : {c d : Component} → kinds.Component c ≡ kinds.Component d → c ≡ d
same_component h = cc

pub one_component : (records : List Record) (c d : Component) → Rising records → Contains records (kinds.Component c) → Contains records (kinds.Component d) → c.head.id ≡ d.head.id → c ≡ d
unfolding place_of
one_component records c d up at_c at_d e = same_component (one_record records (kinds.Component c) (kinds.Component d) up at_c at_d (ap (λ n. 4 * 2 ^ 64 + n) e))

abbrev pub Above : Plex → Plex → Type 0
Above p q = p.id < q.id

ids_rise : (r s : Record) (p q : Plex) → place_of r < place_of s → plex_in r ≡ Some p → plex_in s ≡ Some q → Above p q
unfolding place_of
ids_rise r s p q lt at_p at_q = grind (arith, common_steps)

plexes_rise : (records : List Record) → Rising records → AllPairs Above (filter_map plex_in records)
plexes_rise [] up = λ i j d lt le. absurd (omega arith)
plexes_rise (r ∷ rs) up = go (plex_in r) refl (plexes_rise rs (λ i j d lt le. up (suc i) (suc j) d (omega arith) (omega arith)))
  where
    go : (o : Option Plex) → plex_in r ≡ o → AllPairs Above (filter_map plex_in rs) → AllPairs Above (cons_option (plex_in r) (filter_map plex_in rs))
    go None e rest = subst (λ (o : Option Plex). AllPairs Above (cons_option o (filter_map plex_in rs))) (sym e) rest
    go (Some p) e rest = subst (λ (o : Option Plex). AllPairs Above (cons_option o (filter_map plex_in rs))) (sym e)
        (AllPairs-cons Above p (filter_map plex_in rs)
        (named plex_in (Above p) rs
        (λ k d h q is. ids_rise r (get_or rs k d) p q
        (up 0 (suc k) d (omega arith) (omega arith)) e is)) rest)

once : (ps : List Plex) (i j : ℕ) (p : Plex) → AllPairs Above ps → slice_get ps i ≡ Some p → slice_get ps j ≡ Some p → i ≡ j
once ps i j p up f g =
    let at_i = slice_get_within ps i p f in
    let at_j = slice_get_within ps j p g in
    let one = ap (λ (x : Plex). x.id) (get_or_from_slice_get ps i p p f) in
    let two = ap (λ (x : Plex). x.id) (get_or_from_slice_get ps j p p g) in
    elim (cases_lt i j) [
      | inl lt ↦ absurd (let below : (get_or ps i p).id < (get_or ps j p).id = up i j p lt at_j in omega (arith, below, one, two))
      | inr ge ↦ elim (cases_lt j i) [
        | inl lt ↦ absurd (let below : (get_or ps j p).id < (get_or ps i p).id = up j i p lt at_i in omega (arith, below, one, two))
        | inr le ↦ omega arith
      ]
    ]

-- a component of a volume is one copy alone
pub plex_once : (records : List Record) (volume i j : ℕ) (p : Plex) → Rising records → slice_get (plexes_of volume records) i ≡ Some p → slice_get (plexes_of volume records) j ≡ Some p → i ≡ j
plex_once records volume i j p up f g = once (plexes_of volume records) i j p (AllPairs-filter Above (λ q. q.volume == volume) (filter_map plex_in records) (plexes_rise records up)) f g

-- components of one id are one, whatever volume names them
pub one_plex : (records : List Record) (v w : ℕ) (p q : Plex) → Rising records → IsPlexIn records v p → IsPlexIn records w q → p.id ≡ q.id → (p ≡ q) × (v ≡ w)
one_plex records v w p q up at_p at_q e =
    let ids : at_p.component.head.id ≡ at_q.component.head.id = ap (λ (x : Plex). x.id) at_p.is ∙ (e ∙ sym (ap (λ (x : Plex). x.id) at_q.is)) in
    let same : at_p.component ≡ at_q.component = one_component records at_p.component at_q.component up at_p.there at_q.there ids in
    (sym at_p.is ∙ (ap plex_of same ∙ at_q.is), sym at_p.parent ∙ (ap (λ (c : Component). c.parent) same ∙ at_q.parent))

same_volume : {v w : Volume} → kinds.Volume v ≡ kinds.Volume w → v ≡ w
same_volume h = cc

pub one_volume : (records : List Record) (v w : Volume) → Rising records → Contains records (kinds.Volume v) → Contains records (kinds.Volume w) → v.head.id ≡ w.head.id → v ≡ w
unfolding place_of
one_volume records v w up at_v at_w e = same_volume (one_record records (kinds.Volume v) (kinds.Volume w) up at_v at_w (ap (λ n. 3 * 2 ^ 64 + n) e))

-- ---- Lists of the components and partitions of a group give the layouts of its volumes.

pub draft_is : (lists : Lists) (records : List Record) (v : Volume) → IsListsOf lists records
    → draft_of v.size (plexes_at v.head.id lists.plexes) (λ c. extents_at c lists.extents) ≡ draft_of v.size (plexes_of v.head.id records) (λ c. extents_of c records)
draft_is lists records v h = grind (arith, common_steps)

pub layout_is : (lists : Lists) (records : List Record) (v : Volume) → IsListsOf lists records
    → checked (draft_of v.size (plexes_at v.head.id lists.plexes) (λ c. extents_at c lists.extents)) ≡ layout_of records v
unfolding layout_of
layout_is lists records v h = ap checked (draft_is lists records v h)

-- what is found at a volume
pub fault_is : (lists : Lists) (records : List Record) (r : Record) (v : Volume) (f : Option LayoutFault) → r ≡ kinds.Volume v → IsListsOf lists records
    → f ≡ fault_of (checked (draft_of v.size (plexes_at v.head.id lists.plexes) (λ c. extents_at c lists.extents)))
    → option_map {U = VolumeFault} (λ g. record { volume = v.head.id; fault = g }) f ≡ fault_at records r
fault_is lists records r v f at h is = grind (arith, layout_is)

-- the partitions of the components in the lists end in range where those of the volume do
pub lists_end : (lists : Lists) (records : List Record) (volume : ℕ) → IsListsOf lists records → All (λ p. AllEnd (extents_of p.id records)) (plexes_of volume records)
    → All (λ p. AllEnd (extents_at p.id lists.extents)) (plexes_at volume lists.plexes)
lists_end lists records volume h ends =
    subst (λ (ps : List Plex). All (λ p. AllEnd (extents_at p.id lists.extents)) ps) (sym (h.plexes_are volume))
    (λ k d lt. subst (λ (es : List Extent). AllEnd es) (sym (h.extents_are (get_or (plexes_of volume records) k d).id)) (ends k d lt))

-- ---- What is known of a layout by the records that it is made of.

-- ---- ends

abbrev pub Ends : Extent → Type 0
Ends e = e.start + e.size < 2 ^ 64

insert_all : (P : Extent → Type 0) (n : Extent → ℕ) (e : Extent) (fs : List Extent) → P e → All P fs → All P (insert_by n e fs)
insert_all P n e [] h hs = All-cons P e [] h hs
insert_all P n e (f ∷ fs) h hs = elim (nat_le (n e) (n f)) as (λ b. All P (cond b (e ∷ (f ∷ fs)) (f ∷ insert_by n e fs))) [
  | true ↦ All-cons P e (f ∷ fs) h hs
  | false ↦ All-cons P f (insert_by n e fs) (hs 0 f (omega arith)) (insert_all P n e fs h (All-tail P f fs hs))
]

rising_all : (P : Extent → Type 0) (n : Extent → ℕ) (es : List Extent) → All P es → All P (in_rising n es)
rising_all P n [] hs = hs
rising_all P n (e ∷ es) hs = insert_all P n e (in_rising n es) (hs 0 e (omega arith)) (rising_all P n es (All-tail P e es hs))

-- what holds of each partition holds in the order of the volume's sectors
pub laid_all : (P : Extent → Type 0) (s : Shape) (es : List Extent) → All P es → All P (laid_out s es)
laid_all P s es hs = elim (is_tiled s) as (λ b. All P (cond b (by_offset es) (by_index es))) [
  | true ↦ rising_all P tile_key es hs
  | false ↦ rising_all P (λ e. e.index) es hs
]

-- it ends in range where its component is this one
abbrev EndsAt : ℕ → Extent → Type 0
EndsAt c e = (e.component == c) ≡ true → Ends e

record_ends : (volume c : ℕ) (all rs : List Record) → list_any (λ p. p.id == c) (plexes_of volume all) ≡ true → All (λ r. is_partition_of volume all r ≡ true → EndsInRange r) rs → All (EndsAt c) (filter_map extent_in rs)
record_ends volume c all [] own hs = λ k d h. absurd (omega arith)
record_ends volume c all (kinds.Partition p ∷ rs) own hs =
    All-cons (EndsAt c) (extent_of p) (filter_map extent_in rs)
    (λ same. hs 0 (kinds.Partition p) (omega arith) (ap (λ (n : ℕ). list_any (λ q. q.id == n) (plexes_of volume all)) (eqb-true p.parent c same) ∙ own))
    (record_ends volume c all rs own (All-tail (λ r. is_partition_of volume all r ≡ true → EndsInRange r) (kinds.Partition p) rs hs))
record_ends volume c all (s ∷ rs) own hs = record_ends volume c all rs own (All-tail (λ r. is_partition_of volume all r ≡ true → EndsInRange r) s rs hs)

-- the partitions of the components of a volume end in range
pub extents_end : (records : List Record) (volume : ℕ) → All (λ r. is_partition_of volume records r ≡ true → EndsInRange r) records → All (λ p. AllEnd (extents_of p.id records)) (plexes_of volume records)
extents_end records volume hs k d h =
    let p = get_or (plexes_of volume records) k d in
    let own : list_any (λ q. q.id == p.id) (plexes_of volume records) ≡ true = list_any_at (λ q. q.id == p.id) (plexes_of volume records) k d h (eq-eqb p.id p.id refl) in
    let all : All (EndsAt p.id) (extents_of p.id records) =
    All-filter (λ e. e.component == p.id) (EndsAt p.id) (filter_map extent_in records) (record_ends volume p.id records records own hs) in
    λ j e lt. all j e lt (filter_passes (λ e. e.component == p.id) (filter_map extent_in records) j e lt)

plexes_end : (s : Shape) (extents : ℕ → List Extent) (ps : List Plex) → All (λ p. AllEnd (extents p.id)) ps → All AllEnd (map (λ p. laid_out s (extents p.id)) ps)
plexes_end s extents [] hs = λ k d h. absurd (omega arith)
plexes_end s extents (p ∷ ps) hs =
    All-cons AllEnd (laid_out s (extents p.id)) (map (λ q. laid_out s (extents q.id)) ps) (laid_all Ends s (extents p.id) (hs 0 p (omega arith)))
    (plexes_end s extents ps (All-tail (λ q. AllEnd (extents q.id)) p ps hs))

-- ---- copies

one_copy : (s : Shape) → copies_by s 1 ≡ 1
one_copy s = grind (arith, common_steps)

shape_copies : (ps : List Plex) (s : Shape) → shape_of ps ≡ Some s → copies_by s (length ps) ≡ length ps
shape_copies ps s h = grind (arith, common_steps, one_copy)

-- ---- the parts of a draft

pub record IsDraft (ps : List Plex) (extents : ℕ → List Extent) (l : Layout) : Type 0 where
  pub shape : shape_of ps ≡ Some l.shape
  pub plexes : l.plexes ≡ map (λ p. laid_out l.shape (extents p.id)) ps

-- the draft of a shape
abbrev drafted : ℕ → List Plex → (ℕ → List Extent) → Shape → Layout
drafted size ps extents s =
    record {
      shape = s;
      size = size;
      chunk = (striping_of ps).chunk;
      columns = (striping_of ps).columns;
      plexes = map (λ p. laid_out s (extents p.id)) ps;
    }

draft_shape : (size : ℕ) (ps : List Plex) (extents : ℕ → List Extent) (l : Layout)
    → draft_of size ps extents ≡ Some l
    → (s : Shape) × (shape_of ps ≡ Some s) × (drafted size ps extents s ≡ l)
draft_shape size ps extents l h = go (shape_of ps) refl h
  where
    go : (o : Option Shape) → shape_of ps ≡ o → option_map (drafted size ps extents) o ≡ Some l
        → (s : Shape) × (shape_of ps ≡ Some s) × (drafted size ps extents s ≡ l)
    go None is e = absurd cc
    go (Some s) is e = (s, is, same_Some (drafted size ps extents s) l e)

draft_parts : (size : ℕ) (ps : List Plex) (extents : ℕ → List Extent) (l : Layout) → draft_of size ps extents ≡ Some l → IsDraft ps extents l
draft_parts size ps extents l h = grind (arith, common_steps)

-- a draft without faults is a plan
pub plan_of_draft : (size : ℕ) (ps : List Plex) (extents : ℕ → List Extent) (l : Layout) → All (λ p. AllEnd (extents p.id)) ps → draft_of size ps extents ≡ Some l → layout_fault l ≡ None → IsPlan l
plan_of_draft size ps extents l ends h sound = grind (arith, draft_parts, length-map, shape_copies, plexes_end)

-- ---- the layout of a volume

-- what a volume with a layout has
pub record IsLaidOut (records : List Record) (v : Volume) (l : Layout) : Type 0 where
  pub sound : layout_fault l ≡ None
  pub size : l.size ≡ v.size
  pub parts : IsDraft (plexes_of v.head.id records) (λ c. extents_of c records) l

checked_ok : (o : Option Layout) (l : Layout) → checked o ≡ Ok l → (o ≡ Some l) × (layout_fault l ≡ None)
checked_ok None l h = absurd cc
checked_ok (Some d) l h = go (layout_fault d) refl h
  where
    go : (f : Option LayoutFault) → layout_fault d ≡ f → unless f d ≡ Ok l → (Some d ≡ Some l) × (layout_fault l ≡ None)
    go (Some f) is e = absurd cc
    go None is e = (let same : d ≡ l = cc in (ap (λ (x : Layout). Some x) same, ap layout_fault (sym same) ∙ is))

pub laid_out_volume : (records : List Record) (v : Volume) (l : Layout) → layout_of records v ≡ Ok l → IsLaidOut records v l
unfolding layout_of
laid_out_volume records v l h =
    let both = checked_ok (draft_of v.size (plexes_of v.head.id records) (λ c. extents_of c records)) l h in
    record {
      sound = both.1;
      size = sym (ap (λ (x : Layout). x.size)
          (draft_shape v.size (plexes_of v.head.id records)
          (λ c. extents_of c records) l both.0).2);
      parts = draft_parts v.size (plexes_of v.head.id records) (λ c. extents_of c records) l both.0;
    }

-- a plan has the size of its volume
pub plan_size : (records : List Record) (v : Volume) (o : Option Volume) (result : Result Layout LayoutError) → o ≡ Some v → PlansAs result (layout_of records v)
    → IfOk result (λ plan. IfSome o (λ w. plan.size ≡ w.size))
plan_size records v o (Ok l) found plans = subst (λ (q : Option Volume). IfSome q (λ w. l.size ≡ w.size)) (sym found) (laid_out_volume records v l plans).size
plan_size records v o (Err e) found plans = tt

-- ---- The layout of a span of given tiles, and of a span with tiles put behind it.

pub tiles_append : (at : ℕ) (xs ys : List Extent) → tiles_from at xs ≡ true → tiles_from (at + sum_by (λ (e : Extent). e.size) xs) ys ≡ true → tiles_from at (xs ++ ys) ≡ true
tiles_append at [] ys here behind = let e : at + sum_by (λ (e : Extent). e.size) [] ≡ at = omega arith in subst (λ (n : ℕ). tiles_from n ys ≡ true) e behind
tiles_append at (x ∷ xs) ys here behind =
    let first = first_tile at x xs here in
    let sum = sum_by-cons (λ (e : Extent). e.size) x xs in
    let e : at + sum_by (λ (e : Extent). e.size) (x ∷ xs) ≡ at + x.size + sum_by (λ (e : Extent). e.size) xs = omega arith in
    and_from (x.offset == at) (tiles_from (at + x.size) (xs ++ ys)) (eq-eqb x.offset at first.0) (tiles_append (at + x.size) xs ys first.1 (subst (λ (n : ℕ). tiles_from n ys ≡ true) e behind))

-- tiles that follow those that are there stay behind them in the sort
pub by_offset_more : (es more : List Extent) → tiles_from 0 (by_offset es ++ more) ≡ true → by_offset (es ++ more) ≡ by_offset es ++ more
by_offset_more es more tiled =
    sym (stable_is tile_key (es ++ more) (by_offset es ++ more)
    (tiles_rise tile_key 0 (by_offset es ++ more) (λ e f le. omega arith) tiled) (λ k.
    filter-append (λ e. tile_key e == k) (by_offset es) more ∙ ap (λ (l : List Extent). l ++ filter (λ e. tile_key e == k) more) (rising_numbers tile_key k es) ∙ sym (filter-append (λ e. tile_key e == k) es more)))

pub some_tiles : (xs ys : List Extent) → tiles xs ≡ true → tiles_from 0 (xs ++ ys) ≡ true → tiles (xs ++ ys) ≡ true
some_tiles xs ys some h = grind (arith, common_steps)

-- ---- how many there are

insert_sum : (n : Extent → ℕ) (e : Extent) (fs : List Extent) → sum_by (λ (x : Extent). x.size) (insert_by n e fs) ≡ e.size + sum_by (λ (x : Extent). x.size) fs
insert_sum n e [] = sum_by-cons (λ (x : Extent). x.size) e []
insert_sum n e (f ∷ fs) = elim (nat_le (n e) (n f)) as (λ (b : Bool). sum_by (λ (x : Extent). x.size) (if b then e ∷ (f ∷ fs) else f ∷ insert_by n e fs) ≡ e.size + sum_by (λ (x : Extent). x.size) (f ∷ fs)) [
  | true ↦ sum_by-cons (λ (x : Extent). x.size) e (f ∷ fs)
  | false ↦ (let rest = insert_sum n e fs in
      let one = sum_by-cons (λ (x : Extent). x.size) f fs in
      let two = sum_by-cons (λ (x : Extent). x.size) f (insert_by n e fs) in
      omega arith)
]

pub rising_sum : (n : Extent → ℕ) (es : List Extent) → sum_by (λ (x : Extent). x.size) (in_rising n es) ≡ sum_by (λ (x : Extent). x.size) es
rising_sum n [] = refl
rising_sum n (e ∷ es) = insert_sum n e (in_rising n es) ∙ ap (λ (m : ℕ). e.size + m) (rising_sum n es) ∙ sym (sum_by-cons (λ (x : Extent). x.size) e es)

pub few_by : {X : Type 0} (f : X → ℕ) (xs : List X) → All (λ x. 1 ≤ f x) xs → length xs ≤ sum_by f xs
few_by f [] some = omega arith
few_by f (x ∷ xs) some =
    let rest = few_by f xs (All-tail (λ y. 1 ≤ f y) x xs some) in
    let here : 1 ≤ f x = some 0 x (omega arith) in
    let sum = sum_by-cons f x xs in
    omega arith

pub many_extents : (q : ℕ) (records : List Record) → length (filter (is_child 4 q) records) ≡ length (extents_of q records)
many_extents q [] = refl
many_extents q (kinds.Partition p ∷ records) =
    let rest = many_extents q records in
    elim (p.parent == q) as (λ (b : Bool). length (if b || false then kinds.Partition p ∷ filter (is_child 4 q) records else filter (is_child 4 q) records) ≡ length (if b then extent_of p ∷ extents_of q records else extents_of q records))
    [ true ↦ ap suc rest | false ↦ rest ]
many_extents q (r ∷ records) = many_extents q records
