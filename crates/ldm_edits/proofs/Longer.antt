-- A span or mirror with more partitions: what extend makes, its layout, and what the group keeps.
use Rattle.std.proofs.Common.{◌≡◌, ◌≢◌, ℕ, ◌+◌, ◌*◌, ◌^◌, ◌<◌, ◌≤◌, ◌==◌, not, List, [], ◌∷◌, ◌++◌, length, map, refl, sym, ap, subst, ◌∙◌, inl, inr, arith, Bool, true, false, Some, None, Ok, Contains, zero-add, ◌-◌, ◌||◌, Option, is_some, sum_by, find, filter, eq-eqb, ne_eqb, ltb-false, append-nil}
use Rattle.ldm_edits.proofs.Common.{first_of, resized, Record, Volume, Component, Partition, Rising, place_of, in_order, is_child, max_id, Database, IsFitting, Label, Plex, Extent, Shape, Layout, plex_of, plexes_of, extent_of, extents_of, by_offset, held_in, least, layout_of, shape_of, data_size, taken_of, taken_in, AllEndWithin, AreDisjoint, Span, IsSoundOn, Taken, Wanted, span_parts, there}
use Rattle.ldm_made.specs.Made.{with_children}
use Rattle.std.specs.List.{All, list_all, list_any, cons_option}
use Rattle.std.proofs.lemmas.Bool.{not-true, eqb-false, or_parts}
use Rattle.std.proofs.lemmas.List.{length-map}
use Rattle.std.proofs.lemmas.List.Elements.{All-filter, Contains-get_or, All-contains}
use Rattle.std.proofs.lemmas.List.Kept.{AllPairs-cons, AllPairs-filter}
use Rattle.std.proofs.lemmas.List.Sums.{length-filter, sum_by-append, get_or-le-sum_by}
use Rattle.ldm_records.specs.declared.types.Record.TheVariants as kinds
use Rattle.ldm_records.specs.declared.pieces.Head.{Head}
use Rattle.ldm_group.proofs.InOrder.{next_rises, max_above, pairs_append, member_next, stays_next, made_next}
use Rattle.ldm_group.proofs.KinLaws.{filter_has, filter_keeps, kin_are}
use Rattle.ldm_group.proofs.LookLaws.{one_record}
use Rattle.ldm_bytes.proofs.FindLaws.{find_there}
use Rattle.ldm_places.specs.Layouts.{is_tiled}
use Rattle.ldm_places.specs.Extents.{tiles, tiles_from}
use Rattle.ldm_layout.proofs.VolumeLaws.{plex_there, tiles_append, by_offset_more, some_tiles, few_by, one_component}
use Rattle.ldm_places.proofs.SpotLaws.{tiles_zero}
use Rattle.ldm_rules.proofs.CarryLaws.{KeepsVolume, volume_kept, component_kept, few_children}
use Rattle.ldm_rules.proofs.GroupLaws.{names_kept}
use Rattle.ldm_rules.proofs.SoundLaws.{EachRule, sound_parts}
use Rattle.ldm_edits.specs.Changes.{Change, limits, changed}
use Rattle.ldm_edits.specs.Extending.{held, span_changes, lengthened, component_in, MayExtend}
use Rattle.ldm_edits.specs.Steps.{Keeps}
use Rattle.ldm_edits.proofs.LimitLaws.{carried_keeps, IsGiven, spelled_by}
use Rattle.ldm_group.proofs.AddedLaws.{IdsFrom, parts_rise, follow_above, Below, alone_rises, of_component, place_below}
use Rattle.ldm_edits.proofs.Layouts.{MakesParts, makes_span_parts, tile_extents, tiles_on, tiles_sum, tiles_of, parts_taken, are_numbers, parts_own}
use Rattle.ldm_layout.proofs.HeldLaws.{copies_in, tiled_laid, HoldsTiled, tiled_holds, least_more, own_plex}
use Rattle.ldm_group.proofs.ListLaws.{map_same, all_pass, one_passes, map_there, each_mapped, mapped, only_one, map_map, moved, none_any}
use Rattle.ldm_group.proofs.ListLaws.{each_more}
use Rattle.ldm_rules.proofs.RemadeLaws.{records_of, Share, olds, news, parts_of, IsOther, IsMade, IsNewPart, IsRemade, read_plexes, read_extents, volume_keeps, new_of, old_of, remade_carries, longer_records, tiles_in, share_holds, listed_made, made_listed, news_rise, plexes_in, old_plexes, copies_are}
use Rattle.ldm_edits.proofs.Shares.{remade_each}
use Rattle.std.specs.Option.{option_map}
use Rattle.ldm_made.proofs.MadeLaws.{MakesChildren, MakesSize, makes_size, makes_children}
use Rattle.ldm_group.proofs.KindLaws.{child_component}
use Rattle.ldm_edits.specs.Asked.{is_much}
use Rattle.ldm_space.proofs.FreeLaws.{taken_sum}
use Rattle.ldm_edits.proofs.AskedLaws.{IsTaken, IsSize, are_taken, as_asked, ends_within, first_fits, lie_apart}
use Rattle.ldm_edits.specs.Spots.{ArePlaced}

-- ---- A span or mirror whose components have more partitions: what the change makes, the layout of the volume, and what the group keeps.

-- a component of the volume that has more partitions, of so many sectors together, behind those that it has
pub record IsShare (old : List Record) (v : Volume) (len : ℕ) (s : Share) : Type 0 where
  pub parent : s.c.parent ≡ v.head.id
  pub same_plex : plex_of s.d ≡ plex_of s.c
  pub children : s.d.children ≡ s.c.children + length s.parts
  pub each : (p : Partition) → Contains s.parts p → IsNewPart old s.c p
  pub rise : Rising (records_of s.parts)
  pub tiled : tiles_from (share_holds old s) (map extent_of s.parts) ≡ true
  pub size : held_in (map extent_of s.parts) ≡ len

-- a span or mirror whose components have more partitions, each so many sectors more, where none were taken
pub record IsWider (labels : List Label) (old : List Record) (v w : Volume) (len : ℕ) (ss : List Share) : Type 0 where
  pub volume : Contains old (kinds.Volume v)
  pub shape : Shape
  pub shape_is : shape_of (plexes_of v.head.id old) ≡ Some shape
  pub tiled : is_tiled shape ≡ true
  pub components : filter (is_child 3 v.head.id) old ≡ olds ss
  pub same_head : w.head ≡ v.head
  pub same_children : w.children ≡ v.children
  pub size : w.size ≡ held (layout_of old v) + len
  pub each : (s : Share) → Contains ss s → IsShare old v len s
  pub within : AllEndWithin (data_size labels old) (map taken_of (parts_of ss))
  pub free : AreDisjoint (taken_in old) (map taken_of (parts_of ss))

-- it takes the volume and its components out, and makes the longer volume, its components, and new partitions behind all records
pub record Lengthens (labels : List Label) (old : List Record) (change : Change) (v w : Volume) (len : ℕ) (ss : List Share) : Type 0 where
  pub t : Record → Bool
  pub stay : change.stay ≡ filter (λ r. not (t r)) old
  pub other : (r : Record) → Contains old r → t r ≡ false → IsOther v.head.id r
  pub stays : (r : Record) → Contains old r → IsOther v.head.id r → t r ≡ false
  pub made : change.made ≡ longer_records w ss
  pub low : max_id old < 2 ^ 64
  pub ids : IdsFrom (max_id old + 1) (parts_of ss)
  pub wider : IsWider labels old v w len ss

-- ---- lists of components

-- what the volume holds
pub held_shared : (old : List Record) (v : Volume) (l : Layout) (shape : Shape) (ss : List Share)
    → filter (is_child 3 v.head.id) old ≡ olds ss → shape_of (plexes_of v.head.id old) ≡ Some shape → is_tiled shape ≡ true
    → layout_of old v ≡ Ok l → held (layout_of old v) ≡ least (map (share_holds old) ss)
held_shared old v l shape ss components shape_is tiled layout =
    let plexes : plexes_of v.head.id old ≡ plexes_in ss = old_plexes old v.head.id ss components in
    ap held layout ∙ (tiled_holds old v (plexes_in ss) shape l plexes (ap shape_of (sym plexes) ∙ shape_is) tiled layout).capacity
    ∙ ap (λ (ls : List (List Extent)). least (map held_in ls)) (copies_are ss old) ∙ ap least (map_map held_in (tiles_in old) ss)

-- ---- the order

module _ {labels : List Label} {old : List Record} {change : Change} {v w : Volume} {len : ℕ} {ss : List Share} (up : Rising old) (is : Lengthens labels old change v w len ss) where
  stay_has : (r : Record) → Contains change.stay r → Contains old r × IsOther v.head.id r
  stay_has r at =
      let has = filter_has (λ r. not (is.t r)) old r (moved is.stay r at) in
      (has.0, is.other r has.0 (not-true (is.t r) has.1))

  made_has : (r : Record) → Contains change.made r → IsMade w ss r
  made_has r at = listed_made w ss r (moved is.made r at)

  w_id : w.head.id ≡ v.head.id
  w_id = ap (λ (h : Head). h.id) is.wider.same_head

  -- a component of a share was there
  c_there : (s : Share) → Contains ss s → Contains old (kinds.Component s.c)
  c_there s at = (filter_has (is_child 3 v.head.id) old (kinds.Component s.c)
      (moved (sym is.wider.components) (kinds.Component s.c) (map_there old_of ss s at))).0

  d_id : (s : Share) → Contains ss s → s.d.head.id ≡ s.c.head.id
  d_id s at = ap (λ (x : Plex). x.id) (is.wider.each s at).same_plex

  d_rise : Rising (news ss)
  d_rise = news_rise ss d_id (rw is.wider.components at (AllPairs-filter Below (is_child 3 v.head.id) old up))

  -- a changed component stands behind the volumes and in front of the partitions
  between : (r : Record) → Contains (news ss) r → (4 * 2 ^ 64 ≤ place_of r) × (place_of r < 5 * 2 ^ 64)
  unfolding place_of
  between = each_mapped _ new_of ss (λ s at.
      let id = d_id s at in
      let top = max_above old (kinds.Component s.c) (c_there s at) in
      let low = is.low in
      (omega arith, omega arith))

  last : (r : Record) → Contains (records_of (parts_of ss)) r → 5 * 2 ^ 64 ≤ place_of r
  unfolding place_of
  last = each_mapped _ kinds.Partition (parts_of ss) (λ p at. omega arith)

  rise : Rising (longer_records w ss)
  unfolding place_of
  rise =
      let id = w_id in
      let top = max_above old (kinds.Volume v) is.wider.volume in
      let low = is.low in
      pairs_append Below (kinds.Volume w ∷ news ss) (records_of (parts_of ss))
      (AllPairs-cons Below (kinds.Volume w) (news ss)
      (λ k e lt. let above = (between _ (Contains-get_or (news ss) k e lt)).0 in omega arith) d_rise)
      (parts_rise (max_id old + 1) (parts_of ss) is.ids)
      (λ r q at_r at_q. let b = last q at_q in
      each_more (λ (s : Record). Below s q) (kinds.Volume w) (news ss) (omega arith)
      (λ s at. let a = (between s at).1 in omega arith) r at_r)

  -- no record that stays stands at the place of one that changes
  apart : (r s t : Record) → Contains old r × IsOther v.head.id r → Contains old s → (IsOther v.head.id s → ⊥) → place_of t ≡ place_of s
      → place_of r ≢ place_of t
  apart r s t at there changes same e = changes (rw (one_record old r s up at.0 there (e ∙ same)) at at.1)

  cross : (r s : Record) → Contains old r × IsOther v.head.id r → IsMade w ss s
      → place_of r ≢ place_of s
  unfolding place_of
  cross r (kinds.Volume x) at made = apart r (kinds.Volume v) (kinds.Volume x) at is.wider.volume
      (λ other. eqb-false v.head.id v.head.id other refl)
      (ap (λ (n : ℕ). 3 * 2 ^ 64 + n) (ap (λ (y : Volume). y.head.id) made ∙ w_id))
  cross r (kinds.Component x) at (s, here, made) = apart r (kinds.Component s.c) (kinds.Component x) at (c_there s here)
      (λ other. eqb-false s.c.parent v.head.id other (is.wider.each s here).parent)
      (ap (λ (n : ℕ). 4 * 2 ^ 64 + n) (ap (λ (y : Component). y.head.id) made ∙ d_id s here))
  cross r (kinds.Partition x) at (s, here, made) = place_below r x (max_id old) (max_above old r at.0) is.low ((is.wider.each s here).each x made).above
  cross r _ at made = absurd made

  -- the next group is in rising order
  pub longer_rises : Rising (in_order (change.stay ++ change.made))
  longer_rises =
      next_rises change.stay change.made (rw is.stay (AllPairs-filter Below (λ r. not (is.t r)) old up)) (rw is.made rise)
      (λ r s at_r at_s. cross r s (stay_has r at_r) (made_has s at_s))

  module _ (each : EachRule old labels) where
    abbrev next : List Record
    next = in_order (change.stay ++ change.made)

    remade : IsRemade old next v.head.id w ss
    remade = record {
      up = up;
      vp = longer_rises;
      back = λ r at. elim (member_next change.stay change.made r at) [ inl stays ↦ inl (stay_has r stays) | inr new ↦ inr (made_has r new) ];
      there = λ r at other. stays_next change.stay change.made r
          (rw is.stay (filter_keeps (λ r. not (is.t r)) old r at (ap not (is.stays r at other))));
      made = λ r new. made_next change.stay change.made r (moved (sym is.made) r (made_listed w ss r new));
      id = w_id;
      each = λ s at. (let of = is.wider.each s at in record {
        parent = of.parent;
        same_plex = of.same_plex;
        each = of.each;
        rise = of.rise;
        counted = of.children ∙ ap (λ (n : ℕ). n + length s.parts)
            (component_kept old labels each s.c (c_there s at)).counted;
      });
      rise = d_rise;
      own = λ x there parent. (let s = mapped old_of ss (kinds.Component x)
          (moved is.wider.components _ (filter_keeps (is_child 3 v.head.id) old _ there (eq-eqb x.parent v.head.id parent))) in
          (s.0, s.1, (let e = s.2 in cc)));
      apart = λ x there other s at. ne_eqb x.head.id s.c.head.id (λ same. eqb-false x.parent v.head.id other
          (ap (λ (y : Component). y.parent) (one_component old x s.c up there (c_there s at) same)
          ∙ (is.wider.each s at).parent));
    }

    was : KeepsVolume old v
    was = volume_kept old labels each v is.wider.volume

    -- ---- the layout

    -- the components that it reads are those that it read
    plexes_old : plexes_of v.head.id old ≡ plexes_in ss
    plexes_old = old_plexes old v.head.id ss is.wider.components

    plexes_next : plexes_of w.head.id next ≡ plexes_in ss
    plexes_next = read_plexes remade ∙ map_same (λ (s : Share). plex_of s.d) (λ (s : Share). plex_of s.c) ss (λ s at. (is.wider.each s at).same_plex)

    shape : shape_of (plexes_in ss) ≡ Some is.wider.shape
    shape = ap shape_of (sym plexes_old) ∙ is.wider.shape_is

    holds : HoldsTiled old v (plexes_in ss) was.layout.0
    holds = tiled_holds old v (plexes_in ss) is.wider.shape was.layout.0 plexes_old shape is.wider.tiled was.layout.1

    tiled_old : (s : Share) → Contains ss s → tiles (tiles_in old s) ≡ true
    tiled_old s at = one_passes tiles (tiles_in old) ss s (ap (list_all tiles) (sym (copies_are ss old)) ∙ holds.tiled) at

    -- the tiles of a component, and the new ones behind
    tiled_all : (s : Share) → Contains ss s → tiles_from 0 (tiles_in old s ++ map extent_of s.parts) ≡ true
    tiled_all s at =
        tiles_append 0 (tiles_in old s) (map extent_of s.parts) (tiles_zero (tiles_in old s) (tiled_old s at))
        (rw zero-add (is.wider.each s at).tiled)

    tiles_next : (s : Share) → Contains ss s → tiles_in next s ≡ tiles_in old s ++ map extent_of s.parts
    tiles_next s at = ap by_offset (read_extents remade s at)
        ∙ by_offset_more (extents_of s.c.head.id old) (map extent_of s.parts) (tiled_all s at)

    holds_more : (s : Share) → Contains ss s → share_holds next s ≡ share_holds old s + len
    holds_more s at =
        let sum = sum_by-append (λ (e : Extent). e.size) (tiles_in old s) (map extent_of s.parts) in
        let size = (is.wider.each s at).size in
        ap held_in (tiles_next s at) ∙ omega arith

    some : 1 ≤ length ss
    some = elim ss as (λ (l : List Share). shape_of (plexes_in l) ≡ Some is.wider.shape → 1 ≤ length l) [
      | [] ↦ λ h. absurd cc
      | s ∷ rest ↦ λ h. omega arith
    ] shape

    least_next : least (map held_in (copies_in next (plexes_in ss))) ≡ least (map (share_holds old) ss) + len
    least_next =
        ap (λ (l : List (List Extent)). least (map held_in l)) (copies_are ss next)
        ∙ ap least (map_map held_in (tiles_in next) ss ∙ map_same (share_holds next) (λ s. share_holds old s + len) ss holds_more)
        ∙ least_more (share_holds old) len ss some

    own_laid : (l : Layout) × (layout_of next w ≡ Ok l)
    own_laid =
        let size = is.wider.size in
        let held = held_shared old v was.layout.0 is.wider.shape ss is.wider.components is.wider.shape_is is.wider.tiled was.layout.1 in
        let whole = least_next in
        tiled_laid next w (plexes_in ss) is.wider.shape plexes_next shape is.wider.tiled
        (ap (list_all tiles) (copies_are ss next) ∙ all_pass tiles (tiles_in next) ss
        (λ s at. ap tiles (tiles_next s at) ∙ some_tiles (tiles_in old s) (map extent_of s.parts) (tiled_old s at) (tiled_all s at)))
        (omega arith)

    -- the volume has as many sectors as it had, at least
    own_some : (w.size == 0) ≡ false
    own_some = ne_eqb w.size 0 (λ none. let size = is.wider.size in
        let fits = holds.fits in
        let capacity = ap held was.layout.1 ∙ holds.capacity in
        eqb-false v.size 0 was.some (omega arith))

    -- ---- the rules

    keeps : KeepsVolume next w
    keeps = volume_keeps remade (is.wider.same_children ∙ was.counted
        ∙ sym (length-filter (is_child 3 v.head.id) old)
        ∙ ap (λ (l : List Record). length l) is.wider.components
        ∙ length-map ss old_of) own_some own_laid

    longer_each : EachRule next labels
    longer_each = remade_each remade keeps labels each is.wider.within is.wider.free
        (names_kept old next longer_rises (λ x at. elim (remade.back (kinds.Volume x) at) [
          | inl was ↦ (x, was.0, refl)
          | inr e ↦ (v, is.wider.volume, sym is.wider.same_head ∙ ap (λ (y : Volume). y.head) (sym e))
        ]) each.names)

-- a group whose span or mirror is longer is as sound
pub longer_keeps : {db : Database} {labels : List Label} {change : Change} {v w : Volume} {len : ℕ} {ss : List Share}
    → IsGiven db labels → (fresh : ℕ) → Lengthens labels db.records change v w len ss → first_of (limits db labels fresh change) ≡ None
    → Keeps labels db (changed db change)
longer_keeps {db} {labels} {change} given fresh is within =
    let rules = sound_parts db.records labels given.sound.sound in
    carried_keeps db labels fresh change given
    (rw is.stay (All-filter (λ r. not (is.t r)) IsFitting db.records given.sound.room.each))
    within (remade_carries (remade given.up is rules) (keeps given.up is rules))
    (longer_each given.up is rules)

-- ---- Extend: the longer span, its component and the new partitions are made where no word refuses them.

-- a component of another number of partitions is the same part of its volume
pub plex_is : {c : Component} {children : ℕ} (more : MakesChildren c children) → plex_of more.component ≡ plex_of c
plex_is more = λ i. record { volume = more.parent_is i; id = (more.head_is i).id; layout = more.layout_is i; striping = more.striping_is i }

-- ---- what is made

-- the volume, its component and the partitions that take these sectors are made
pub record MakesLonger (db : Database) (v : Volume) (c : Component) (capacity : ℕ) (taken : List Taken) : Type 0 where
  pub volume : MakesSize v (capacity + sum_by (λ (t : Taken). t.size) taken)
  pub component : MakesChildren c (c.children + length taken)
  pub parts : MakesParts (max_id db.records + 1) (span_parts (max_id db.records + 1) c.head.id capacity taken) (tile_extents c.head.id capacity taken)
  pub size_low : capacity + sum_by (λ (t : Taken). t.size) taken < 2 ^ 64
  pub children_low : c.children + length taken < 2 ^ 64
  pub ids_low : max_id db.records + 1 + length taken ≤ 2 ^ 64
  pub volume_there : is_some (resized v (capacity + sum_by (λ (t : Taken). t.size) taken)) ≡ true
  pub component_there : is_some (with_children c (c.children + length taken)) ≡ true

module _ {db : Database} {labels : List Label} {v : Volume} {c : Component} {wanted : List Wanted} {spots : List Taken} (up : Rising db.records) (sound : IsSoundOn db labels) (may : MayExtend db labels v c wanted spots) where
  abbrev capacity : ℕ
  capacity = held (layout_of db.records v)

  are : ArePlaced db labels may.words (λ w. None) wanted spots
  are = record { asked = may.asked; free = refl; places = may.places }

  own : Contains db.records (kinds.Component c) × (c.parent ≡ v.head.id)
  own = by (find (is_child 3 v.head.id) db.records) refl may.component
    where
      by : (o : Option Record) → find (is_child 3 v.head.id) db.records ≡ o → component_in o ≡ Some c
          → Contains db.records (kinds.Component c) × (c.parent ≡ v.head.id)
      by None found e = absurd cc
      by (Some r) found e =
          let at = find_there (is_child 3 v.head.id) db.records r found in
          let child = child_component v.head.id r at.1 in
          let same : child.0 ≡ c = (let is = rw child.1 at e in cc) in
          rw (← same) (rw child.1 at at.0, child.2)

  -- the component is the only one of the span
  only_c : (x : Component) → Contains db.records (kinds.Component x) → x.parent ≡ v.head.id → x ≡ c
  only_c x there parent = one_component db.records x c up there own.0 (sym (ap (λ (p : Plex). p.id) (only_one (plex_of c) (plex_of x)
      (moved (own_plex db.records v c may.span own.0 own.1) (plex_of x)
      (subst (λ (q : ℕ). Contains (plexes_of q db.records) (plex_of x)) parent (plex_there db.records x there))))))

  components : filter (is_child 3 v.head.id) db.records ≡ kinds.Component c ∷ []
  components = kin_are (is_child 3 v.head.id) db.records (kinds.Component c ∷ []) up (alone_rises (kinds.Component c))
      (λ r at. rw (← only_one (kinds.Component c) r at) (own.0, eq-eqb c.parent v.head.id own.1))
      (of_component v.head.id (λ (y : Record). Contains db.records y → Contains (kinds.Component c ∷ []) y)
      (λ x parent at. (0, omega arith, ap kinds.Component (sym (only_c x at parent)))))

  -- what the partitions hold that the component has
  capacity_is : capacity ≡ sum_by (λ (e : Extent). e.size) (by_offset (extents_of c.head.id db.records))
  capacity_is = (let laid = sound.laid_out v may.there in held_shared db.records v laid.0 Span (record { c = c; d = c; parts = [] } ∷ []) components may.span refl laid.1.layout)

  -- each piece has some sectors, and all together are a number of the format
  sizes : All (λ w. IsSize w.size) wanted × (capacity + sum_by (λ (t : Taken). t.size) spots ≤ 2 ^ 64 - 1)
  sizes =
      let size : Wanted → ℕ = λ w. w.size in
      let parts = or_parts (list_any (λ (w : Wanted). w.size == 0) wanted) (is_much (capacity + sum_by size wanted)) may.sizes in
      let most = ltb-false (2 ^ 64 - 1) (capacity + sum_by size wanted) parts.1 in
      let sum = taken_sum wanted (taken_in db.records) spots (first_fits are) in (
        λ k d lt. (none_any _ wanted parts.0 k d lt, (let part = get_or-le-sum_by size wanted k d lt in omega arith)),
        omega arith,
      )

  takes : All (IsTaken db.records) spots
  takes = (let ids = may.ids in are_taken are (omega arith) sizes.0)

  pub makes_longer : MakesLonger db v c capacity spots
  makes_longer =
      let ids = may.ids in
      let size = sizes.1 in
      let many = as_asked are in
      let few = few_by (λ (t : Taken). t.size) spots (λ k d lt. let none = eqb-false _ 0 (takes k d lt).some in omega arith) in
      let kids = few_children db.records labels c (sound_parts db.records labels sound.sound) own.0 in
      let held_is = capacity_is in
      let c_low = max_above db.records (kinds.Component c) own.0 in
      let spelled = λ (r : Record) (at : Contains db.records r). spelled_by r (All-contains IsFitting db.records r sound.room.each at) in
      let volume = makes_size v (capacity + sum_by (λ (t : Taken). t.size) spots) (omega arith) (spelled (kinds.Volume v) may.there) in
      let component = makes_children c (c.children + length spots) (omega arith) (spelled (kinds.Component c) own.0) in
      record {
        volume = volume;
        component = component;
        parts = makes_span_parts (max_id db.records + 1) c.head.id capacity spots (omega arith) (omega arith) (are_numbers db.records spots takes);
        size_low = omega arith;
        children_low = omega arith;
        ids_low = omega arith;
        volume_there = ap (λ (o : Option Volume). is_some o) volume.made;
        component_there = ap (λ (o : Option Component). is_some o) component.made;
      }

  abbrev parts : List Partition
  parts = makes_longer.parts.parts

  abbrev share : Share
  share = record { c = c; d = makes_longer.component.component; parts = makes_longer.parts.parts }

  taken_are : map taken_of parts ≡ spots
  taken_are = parts_taken _ _ spots parts (tiles_of c.head.id capacity spots) makes_longer.parts.extents_are

  -- the new partitions take just these sectors
  pub spots_are : map taken_of (parts_of (share ∷ [])) ≡ spots
  spots_are = ap (map taken_of) (append-nil parts) ∙ taken_are

  new_part : (p : Partition) → Contains parts p → IsNewPart db.records c p
  new_part p at =
      let t = All-contains (IsTaken db.records) spots (taken_of p) takes
      (moved taken_are (taken_of p) (map_there taken_of parts p at)) in
      record {
        above = (let least = follow_above (max_id db.records + 1) (records_of parts)
            (kinds.Partition p) makes_longer.parts.ids (map_there kinds.Partition parts p at) in
            omega arith);
        parent = parts_own _ _ spots parts (tiles_of c.head.id capacity spots) makes_longer.parts.extents_are p at;
        disk = t.disk;
        some = t.some;
      }

  is_share : IsShare db.records v (sum_by (λ (t : Taken). t.size) spots) share
  is_share = record {
    parent = own.1;
    same_plex = plex_is makes_longer.component;
    children = (let grown = makes_longer.component.children_is in let long = length-map parts taken_of in let same = ap (λ (l : List Taken). length l) taken_are in omega arith);
    each = new_part;
    rise = parts_rise (max_id db.records + 1) parts makes_longer.parts.ids;
    tiled = rw (← capacity_is, makes_longer.parts.extents_are) (tiles_on c.head.id capacity spots);
    size = ap (sum_by (λ (e : Extent). e.size)) makes_longer.parts.extents_are ∙ tiles_sum c.head.id capacity spots;
  }

  -- a component has the id of the span's where it is of the span
  other : (r : Record) → Contains db.records r → span_changes v c r ≡ false → IsOther v.head.id r
  other (kinds.Volume x) at fails = (or_parts (x.head.id == v.head.id) false fails).0
  other (kinds.Component x) at fails = ne_eqb x.parent v.head.id (λ parent.
      eqb-false x.head.id c.head.id fails (ap (λ (y : Component). y.head.id) (only_c x at parent)))
  other _ at fails = tt

  stays : (r : Record) → Contains db.records r → IsOther v.head.id r → span_changes v c r ≡ false
  stays (kinds.Volume x) at off = ap (λ (b : Bool). b || false) off
  stays (kinds.Component x) at off = ne_eqb x.head.id c.head.id (λ same.
      eqb-false x.parent v.head.id off (ap (λ (y : Component). y.parent) (one_component db.records x c up at own.0 same) ∙ own.1))
  stays _ at off = refl

  pub lengthens : Lengthens labels db.records (lengthened db.records v c capacity spots) v makes_longer.volume.volume (sum_by (λ (t : Taken). t.size) spots) (share ∷ [])
  lengthens =
      let all : parts_of (share ∷ []) ≡ parts = append-nil parts in
      record {
        t = span_changes v c;
        stay = refl;
        other = other;
        stays = stays;
        made = λ i. cons_option (option_map kinds.Volume (makes_longer.volume.made i))
            (cons_option (option_map kinds.Component (makes_longer.component.made i))
            ((makes_longer.parts.made_are ∙ ap records_of (sym all)) i));
        low = (let ids = may.ids in omega arith);
        ids = rw all makes_longer.parts.ids;
        wider = record {
          volume = may.there;
          shape = Span;
          shape_is = may.span;
          tiled = refl;
          components = components;
          same_head = makes_longer.volume.head_is;
          same_children = makes_longer.volume.children_is;
          size = makes_longer.volume.size_is;
          each = λ s at. rw (← only_one share s at) is_share;
          within = rw spots_are (ends_within are);
          free = rw spots_are (lie_apart are);
        };
      }
