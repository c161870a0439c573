-- A volume is new or changed, and its components have new partitions: who has which components and partitions then, and that they keep the rules.
use Rattle.std.proofs.Common.{◌≡◌, ap, sym, refl, ℕ, ◌+◌, ◌≤◌, [], ◌∷◌, get_or, arith, List, Contains, zero, suc, ◌*◌, ◌^◌, ◌<◌, ◌++◌, length, map, subst, ◌∙◌, inl, inr, ◌-◌, ◌==◌, not, true, false, ◌⊎◌, Bool, Ok}
use Rattle.std.specs.List.{flat_map}
use Rattle.std.proofs.lemmas.List.Elements.{Contains-get_or, Contains-append_left, Contains-append_right, Contains-append_cases, filter_map-append}
use Rattle.std.proofs.lemmas.List.Kept.{AllPairs-cons, AllPairs-filter}
use Rattle.ldm_records.specs.declared.types.Volume.{Volume}
use Rattle.ldm_records.specs.declared.types.Component.{Component}
use Rattle.ldm_records.specs.declared.types.Partition.{Partition}
use Rattle.ldm_records.specs.declared.types.Record.{Record}
use Rattle.ldm_records.specs.declared.types.Record.TheVariants as kinds
use Rattle.ldm_group.specs.Order.{Rising, place_of, in_order, id_of}
use Rattle.ldm_group.proofs.AddedLaws.{IdsFollow, parts_rise, follow_above, Below, follow_split, of_component, of_partition, part_of}
use Rattle.ldm_group.proofs.ListLaws.{map_there, each_mapped, each_more, flat_there, flat_from, behind, map_map, named_all, map_at}
use Rattle.std.specs.Prelude.{filter, filter_map}
use Rattle.std.proofs.lemmas.List.{length-map, length-append, get_or_default}
use Rattle.ldm_group.specs.Looks.{is_child, children_of, max_id}
use Rattle.ldm_layout.specs.declared.parts.Plex.{Plex}
use Rattle.ldm_places.specs.declared.extent.Extent.{Extent}
use Rattle.ldm_layout.specs.Parts.{plex_of, plex_in, plexes_of, extents_of, by_offset, held_in, is_of_volume, extent_of, extent_in}
use Rattle.ldm_layout.proofs.VolumeLaws.{plexes_by, one_component, extents_by}
use Rattle.ldm_layout.proofs.HeldLaws.{copies_in, own_any, any_own}
use Rattle.std.proofs.lemmas.Bool.{eq-eqb, eqb-true, not-true, cases_order}
use Rattle.ldm_group.proofs.KinLaws.{filter_has, filter_keeps, kin_are}
use Rattle.ldm_group.proofs.InOrder.{next_rises, member_next, stays_next, pairs_append, max_above}
use Rattle.ldm_group.proofs.Rise.{tested}
use Rattle.ldm_rules.proofs.CarryLaws.{SameComponents, SamePartitions, HasSameKin, Carries, HasVolume, HasComponent, HasDisk, KeepsVolume, KeepsComponent, KeepsPartition, KeepsRules}
use Rattle.std.proofs.lemmas.List.Sums.{length-filter}
use Rattle.ldm_group.proofs.KindLaws.{child_partition}
use Rattle.ldm_places.specs.Layouts.{Layout}
use Rattle.ldm_layout.specs.Volumes.{layout_of}

abbrev pub records_of : List Partition → List Record
records_of parts = map kinds.Partition parts

-- a component as it was and as it is, and its new partitions. One that is new is the same twice
pub record Share : Type 0 where
  pub c : Component
  pub d : Component
  pub parts : List Partition

abbrev pub old_of : Share → Record
old_of s = kinds.Component s.c

abbrev pub new_of : Share → Record
new_of s = kinds.Component s.d

abbrev pub olds : List Share → List Record
olds ss = map old_of ss

abbrev pub news : List Share → List Record
news ss = map new_of ss

abbrev pub parts_of : List Share → List Partition
parts_of ss = flat_map (λ (s : Share). s.parts) ss

-- no two have one component
pub one_share : (ss : List Share) → Rising (news ss) → (s t : Share) → Contains ss s → Contains ss t
    → s.d.head.id ≡ t.d.head.id → s ≡ t
unfolding place_of
one_share ss up s t (i, lt_i, is_i) (j, lt_j, is_j) same =
    let r : Record = kinds.Component s.d in
    let a : place_of (get_or (news ss) i r) ≡ 4 * 2 ^ 64 + s.d.head.id =
    ap place_of (map_at new_of ss i s r lt_i is_i) in
    let b : place_of (get_or (news ss) j r) ≡ 4 * 2 ^ 64 + t.d.head.id =
    ap place_of (map_at new_of ss j t r lt_j is_j) in
    let long : length (news ss) ≡ length ss = length-map ss new_of in
    elim (cases_order i j) [
      | inl e ↦ sym is_i ∙ get_or_default ss i s t lt_i ∙ ap (λ (k : ℕ). get_or ss k t) e ∙ is_j
      | inr (inl low) ↦ (let less : place_of (get_or (news ss) i r) < place_of (get_or (news ss) j r) = up i j r low (omega arith) in absurd (omega arith))
      | inr (inr high) ↦ (let less : place_of (get_or (news ss) j r) < place_of (get_or (news ss) i r) = up j i r high (omega arith) in absurd (omega arith))
    ]

-- a record that is neither the volume of this id nor one of its components
abbrev pub IsOther : ℕ → Record → Type 0
IsOther q (kinds.Volume x) = (x.head.id == q) ≡ false
IsOther q (kinds.Component x) = (x.parent == q) ≡ false
IsOther q _ = Unit {0}

-- one that is made
abbrev pub IsMade : Volume → List Share → Record → Type 0
IsMade w ss (kinds.Volume x) = x ≡ w
IsMade w ss (kinds.Component x) = (s : Share) × Contains ss s × (x ≡ s.d)
IsMade w ss (kinds.Partition x) = (s : Share) × Contains ss s × Contains s.parts x
IsMade w ss _ = ⊥

-- a new partition of the component
pub record IsNewPart (old : List Record) (c : Component) (p : Partition) : Type 0 where
  pub above : max_id old < p.head.id
  pub parent : p.parent ≡ c.head.id
  pub disk : HasDisk old p.disk
  pub some : (p.size == 0) ≡ false

-- a component of the volume of this id, which counts its new partitions
pub record HasParts (old : List Record) (q : ℕ) (s : Share) : Type 0 where
  pub parent : s.c.parent ≡ q
  pub same_plex : plex_of s.d ≡ plex_of s.c
  pub each : (p : Partition) → Contains s.parts p → IsNewPart old s.c p
  pub rise : Rising (records_of s.parts)
  pub counted : s.d.children ≡ children_of 4 s.c.head.id old + length s.parts

-- the next records: the others, the volume of this id and its components, and the new partitions
pub record IsRemade (old next : List Record) (q : ℕ) (w : Volume) (ss : List Share) : Type 0 where
  pub up : Rising old
  pub vp : Rising next
  pub back : (r : Record) → Contains next r → (Contains old r × IsOther q r) ⊎ IsMade w ss r
  pub there : (r : Record) → Contains old r → IsOther q r → Contains next r
  pub made : (r : Record) → IsMade w ss r → Contains next r
  pub id : w.head.id ≡ q
  pub each : (s : Share) → Contains ss s → HasParts old q s
  pub rise : Rising (news ss)
  pub own : (x : Component) → Contains old (kinds.Component x) → x.parent ≡ q → (s : Share) × Contains ss s × (s.c ≡ x)
  pub apart : (x : Component) → Contains old (kinds.Component x) → (x.parent == q) ≡ false
      → (s : Share) → Contains ss s → (x.head.id == s.c.head.id) ≡ false

module _ {old next : List Record} {q : ℕ} {w : Volume} {ss : List Share}
    (is : IsRemade old next q w ss) where
  d_there : (s : Share) → Contains ss s → Contains next (kinds.Component s.d)
  d_there s at = is.made (kinds.Component s.d) (s, at, refl)

  d_id : (s : Share) → Contains ss s → s.d.head.id ≡ s.c.head.id
  d_id s at = ap (λ (x : Plex). x.id) (is.each s at).same_plex

  d_parent : (s : Share) → Contains ss s → s.d.parent ≡ q
  d_parent s at = ap (λ (x : Plex). x.volume) (is.each s at).same_plex ∙ (is.each s at).parent

  -- ---- who names the volume, or one of its components

  components_are : filter (is_child 3 q) next ≡ news ss
  components_are = kin_are (is_child 3 q) next (news ss) is.vp is.rise
      (each_mapped (λ (y : Record). Contains next y × (is_child 3 q y ≡ true)) new_of ss
      (λ s at. (d_there s at, eq-eqb s.d.parent q (d_parent s at))))
      (of_component q (λ (y : Record). Contains next y → Contains (news ss) y)
      (λ x parent at. elim (is.back (kinds.Component x) at) [
        | inl was ↦ absurd (let own = eq-eqb x.parent q parent in
            let other : (x.parent == q) ≡ false = was.1 in cc)
        | inr s ↦ subst (λ (y : Component). Contains (news ss) (kinds.Component y)) (sym s.2)
            (map_there new_of ss s.0 s.1)
      ]))

  -- those that it had, and the new ones behind them
  partitions_are : (s : Share) → Contains ss s → filter (is_child 4 s.c.head.id) next ≡ filter (is_child 4 s.c.head.id) old ++ records_of s.parts
  unfolding place_of
  partitions_are s here = kin_are t next (filter t old ++ records_of s.parts) is.vp
      (pairs_append Below (filter t old) (records_of s.parts) (AllPairs-filter Below t old is.up)
      (is.each s here).rise
      (λ r e at_r at_e. let has = filter_has t old r at_r in
      each_mapped (Below r) kinds.Partition s.parts (below r has.0 has.1) e at_e))
      (λ r at. elim (Contains-append_cases (filter t old) (records_of s.parts) r at) [
        | inl h ↦ (let has = filter_has t old r h in (
          of_partition s.c.head.id (λ (y : Record). Contains old y → Contains next y)
              (λ x parent was. is.there (kinds.Partition x) was tt) r has.1 has.0,
          has.1,
        ))
        | inr h ↦ each_mapped (λ (y : Record). Contains next y × (t y ≡ true)) kinds.Partition
            s.parts
            (λ x new. (
              is.made (kinds.Partition x) (s, here, new),
              part_of s.c.head.id x
                  ((is.each s here).each x new).parent,
            )) r h
      ])
      (of_partition s.c.head.id (λ (y : Record). Contains next y
      → Contains (filter t old ++ records_of s.parts) y)
      (λ x parent at. elim (is.back (kinds.Partition x) at) [
        | inl was ↦ Contains-append_left (filter t old) (records_of s.parts) (kinds.Partition x)
            (filter_keeps t old (kinds.Partition x) was.0 (part_of s.c.head.id x parent))
        | inr new ↦ (let same : new.0 ≡ s = one_share ss is.rise new.0 s new.1 here (d_id new.0 new.1 ∙ sym ((is.each new.0 new.1).each x new.2).parent ∙ parent ∙ sym (d_id s here)) in
            Contains-append_right (filter t old) (records_of s.parts) (kinds.Partition x)
            (map_there kinds.Partition s.parts x
            (subst (λ (y : Share). Contains y.parts x) same new.2)))
      ]))
    where
      t : Record → Bool
      t = is_child 4 s.c.head.id

      below : (r : Record) → Contains old r → t r ≡ true → (p : Partition) → Contains s.parts p → place_of r < place_of (kinds.Partition p)
      below r at h p new =
          let x = child_partition s.c.head.id r h in
          let low : id_of r ≤ max_id old = max_above old r at in
          let high : max_id old < p.head.id = ((is.each s here).each p new).above in
          let id : id_of r ≡ x.0.head.id = ap id_of x.1 in
          let place : place_of r ≡ 5 * 2 ^ 64 + x.0.head.id = ap place_of x.1 in
          omega arith

  -- ---- what a layout reads

  pub read_plexes : plexes_of w.head.id next ≡ map (λ (s : Share). plex_of s.d) ss
  read_plexes = ap (λ (n : ℕ). plexes_of n next) is.id ∙ plexes_by q next
      ∙ ap (filter_map plex_in) components_are
      ∙ named_all plex_in new_of (λ (s : Share). plex_of s.d) (λ s. refl) ss

  pub read_extents : (s : Share) → Contains ss s
      → extents_of s.c.head.id next ≡ extents_of s.c.head.id old ++ map extent_of s.parts
  read_extents s at =
      extents_by s.c.head.id next ∙ ap (filter_map extent_in) (partitions_are s at)
      ∙ filter_map-append extent_in (filter (is_child 4 s.c.head.id) old) (records_of s.parts)
      ∙ (λ i. sym (extents_by s.c.head.id old) i ++ named_all extent_in kinds.Partition extent_of
      (λ p. refl) s.parts i)

  -- ---- what is made keeps the rules

  pub volume_keeps : w.children ≡ length ss → (w.size == 0) ≡ false → (l : Layout)
      × (layout_of next w ≡ Ok l) → KeepsVolume next w
  volume_keeps count some layout = record {
    counted = count ∙ sym (length-map ss new_of)
        ∙ ap (λ (l : List Record). length l) (sym components_are)
        ∙ length-filter (is_child 3 q) next ∙ ap (λ (n : ℕ). children_of 3 n next) (sym is.id);
    some = some;
    layout = layout;
  }

  component_keeps : (s : Share) → Contains ss s → KeepsComponent next s.d
  component_keeps s at = record {
    parent = (w, is.made (kinds.Volume w) refl, is.id ∙ sym (d_parent s at));
    counted = (let sum = length-append (filter (is_child 4 s.c.head.id) old) (records_of s.parts) in
        let many = length-map s.parts kinds.Partition in
        let before = length-filter (is_child 4 s.c.head.id) old in
        let counted = (is.each s at).counted in
        let after = ap (λ (l : List Record). length l) (partitions_are s at) in
        let now = length-filter (is_child 4 s.c.head.id) next in
        let all : s.d.children ≡ children_of 4 s.c.head.id next = omega arith in
        all ∙ ap (λ (n : ℕ). children_of 4 n next) (sym (d_id s at)));
  }

  partition_keeps : (s : Share) (p : Partition) → Contains ss s → Contains s.parts p → KeepsPartition next p
  partition_keeps s p at in' =
      let new = (is.each s at).each p in' in
      record {
        parent = (s.d, d_there s at, d_id s at ∙ sym new.parent);
        disk = (new.disk.0, is.there (kinds.Disk new.disk.0) new.disk.1 tt, new.disk.2);
        some = new.some;
      }

  -- ---- and what was there has the same kin

  volume_still : (n : ℕ) → HasVolume old n → HasVolume next n
  volume_still n (x, at, id) = elim (tested (x.head.id == q)) [
    | inl same ↦ (w, is.made (kinds.Volume w) refl, is.id ∙ sym (eqb-true x.head.id q same) ∙ id)
    | inr other ↦ (x, is.there (kinds.Volume x) at other, id)
  ]

  component_still : (n : ℕ) → HasComponent old n → HasComponent next n
  component_still n (x, at, id) = elim (tested (x.parent == q)) [
    | inl same ↦ (let s = is.own x at (eqb-true x.parent q same) in (s.0.d, d_there s.0 s.1, d_id s.0 s.1 ∙ ap (λ (y : Component). y.head.id) s.2 ∙ id))
    | inr other ↦ (x, is.there (kinds.Component x) at other, id)
  ]

  partitions_same : (x : Component) → Contains old (kinds.Component x) → (x.parent == q) ≡ false → SamePartitions old next x.head.id
  partitions_same x there other = record {
    stay = λ p parent at. is.there (kinds.Partition p) at tt;
    back = λ p parent at. elim (is.back (kinds.Partition p) at) [
      | inl was ↦ was.0
      | inr s ↦ absurd (let own = eq-eqb x.head.id s.0.c.head.id (sym parent
          ∙ ((is.each s.0 s.1).each p s.2).parent) in let off = is.apart x there other s.0 s.1 in
          cc)
    ];
  }

  module _ (keeps : KeepsVolume next w) where
    pub remade_carries : Carries old next
    remade_carries = record {
      up = is.up;
      vp = is.vp;
      groups = λ g at. is.there (kinds.Group g) at tt;
      disks = λ d at. is.there (kinds.Disk d) at tt;
      each = kin;
    }
      where
        kin : (r : Record) → Contains next r → (Contains old r × HasSameKin old next r) ⊎ KeepsRules next r
        kin (kinds.Group g) at = elim (is.back (kinds.Group g) at) [ inl was ↦ inl (was.0, tt) | inr bad ↦ absurd bad ]
        kin (kinds.Disk d) at = elim (is.back (kinds.Disk d) at) [ inl was ↦ inl (was.0, tt) | inr bad ↦ absurd bad ]
        kin (kinds.Volume x) at = elim (is.back (kinds.Volume x) at) [
          | inl was ↦ inl (
            was.0,
            record {
              components = record {
                stay = λ c parent there. is.there (kinds.Component c) there (ap (λ (n : ℕ). n == q) parent ∙ was.1);
                back = λ c parent there. elim (is.back (kinds.Component c) there) [
                  | inl old_one ↦ old_one.0
                  | inr s ↦ absurd (let own =
                      eq-eqb x.head.id q (sym parent ∙ ap (λ (y : Component). y.parent) s.2
                      ∙ d_parent s.0 s.1) in let other : (x.head.id == q) ≡ false = was.1 in cc)
                ];
              };
              partitions = λ c there parent. partitions_same c there (ap (λ (n : ℕ). n == q) parent
                  ∙ was.1);
            },
          )
          | inr e ↦ inr (subst (KeepsVolume next) (sym e) keeps)
        ]
        kin (kinds.Component x) at = elim (is.back (kinds.Component x) at) [
          | inl was ↦ inl (was.0, record { parent = volume_still x.parent; partitions = partitions_same x was.0 was.1 })
          | inr s ↦ inr (subst (KeepsComponent next) (sym s.2) (component_keeps s.0 s.1))
        ]
        kin (kinds.Partition x) at = elim (is.back (kinds.Partition x) at) [
          | inl was ↦ inl (was.0, component_still x.parent)
          | inr s ↦ inr (partition_keeps s.0 x s.1 s.2)
        ]

-- ---- a volume that leaves, with its components and their partitions

-- the next records are those that don't go with the volume
pub record IsWithout (v : Volume) (old next : List Record) : Type 0 where
  pub up : Rising old
  pub vp : Rising next
  pub back : (r : Record) → Contains next r → Contains old r × (is_of_volume v.head.id old r ≡ false)
  pub there : (r : Record) → Contains old r → is_of_volume v.head.id old r ≡ false → Contains next r

module _ (v : Volume) (old next : List Record) (is : IsWithout v old next) where
  -- a component of a volume that stays does,
  component_stays : (w : Volume) → Contains next (kinds.Volume w) → (c : Component) → Contains old (kinds.Component c)
      → c.parent ≡ w.head.id → Contains next (kinds.Component c)
  component_stays w there c at parent = is.there (kinds.Component c) at (ap (λ (n : ℕ). n == v.head.id) parent ∙ (is.back (kinds.Volume w) there).1)

  -- a partition of a component that stays isn't of the volume that goes
  partition_stays : (c : Component) → Contains next (kinds.Component c) → (p : Partition) → p.parent ≡ c.head.id
      → is_of_volume v.head.id old (kinds.Partition p) ≡ false
  partition_stays c there p parent = elim (tested (is_of_volume v.head.id old (kinds.Partition p))) [
    | inr fails ↦ fails
    | inl holds ↦ (let was = is.back (kinds.Component c) there in
        let of = any_own old v.head.id p.parent holds in
        let one : of.component ≡ c = one_component old of.component c is.up of.there was.0 (of.id ∙ parent) in
        let own : is_of_volume v.head.id old (kinds.Component c) ≡ true = eq-eqb c.parent v.head.id (sym (ap (λ (x : Component). x.parent) one) ∙ of.parent) in
        let not_own = was.1 in
        absurd cc)
  ]

  -- each volume that stays has the same components
  components_stay : (w : Volume) → Contains next (kinds.Volume w) → SameComponents old next w.head.id
  components_stay w there = record { stay = λ c parent at. component_stays w there c at parent; back = λ c parent at. (is.back (kinds.Component c) at).0 }

  partitions_stay : (c : Component) → Contains next (kinds.Component c) → SamePartitions old next c.head.id
  partitions_stay c there = record { stay = λ p parent at. is.there (kinds.Partition p) at (partition_stays c there p parent); back = λ p parent at. (is.back (kinds.Partition p) at).0 }

  -- a component that goes takes its partitions along
  whose_stays : (p : Partition) → Contains next (kinds.Partition p) → (c : Component) → Contains old (kinds.Component c)
      → c.head.id ≡ p.parent → is_of_volume v.head.id old (kinds.Component c) ≡ false
  whose_stays p there c at id = elim (tested (c.parent == v.head.id)) [
    | inr fails ↦ fails
    | inl holds ↦ (let goes = own_any old v.head.id p.parent (record { component = c; there = at; parent = eqb-true c.parent v.head.id holds; id = id }) in
        let stays = (is.back (kinds.Partition p) there).1 in absurd cc)
  ]

  kin : (r : Record) → Contains next r → HasSameKin old next r
  kin (kinds.Group g) there = tt
  kin (kinds.Disk d) there = tt
  kin (kinds.Volume w) there = record { components = components_stay w there; partitions = λ c at parent. partitions_stay c (component_stays w there c at parent) }
  kin (kinds.Component c) there = record {
    parent = λ w. (w.0, is.there (kinds.Volume w.0) w.1 (ap (λ (n : ℕ). n == v.head.id) w.2 ∙ (is.back (kinds.Component c) there).1), w.2);
    partitions = partitions_stay c there;
  }
  kin (kinds.Partition p) there = λ c. (c.0, is.there (kinds.Component c.0) c.1 (whose_stays p there c.0 c.1 c.2), c.2)

  pub without_carries : Carries old next
  without_carries = record {
    up = is.up;
    vp = is.vp;
    groups = λ g at. is.there (kinds.Group g) at refl;
    disks = λ d at. is.there (kinds.Disk d) at refl;
    each = λ r at. inl ((is.back r at).0, kin r at);
  }

pub without_next : (v : Volume) (old : List Record) → Rising old
    → IsWithout v old (in_order (filter (λ r. not (is_of_volume v.head.id old r)) old ++ []))
without_next v old up = record {
  up = up;
  vp = next_rises stay [] (AllPairs-filter (λ a b. place_of a < place_of b) (λ r. not (is_of_volume v.head.id old r)) old up) (λ i j d lt within. absurd (omega arith)) (λ r s at_r at_s. (let lt = at_s.1 in absurd (omega arith)));
  back = λ r at. back r (member_next stay [] r at);
  there = λ r at stays. stays_next stay [] r (filter_keeps (λ r. not (is_of_volume v.head.id old r)) old r at (ap not stays));
}
  where
    stay : List Record
    stay = filter (λ r. not (is_of_volume v.head.id old r)) old

    back : (r : Record) → Contains stay r ⊎ Contains [] r → Contains old r × (is_of_volume v.head.id old r ≡ false)
    back r (inl at) = let has = filter_has (λ r. not (is_of_volume v.head.id old r)) old r at in (has.0, not-true (is_of_volume v.head.id old r) has.1)
    back r (inr at) = (let lt = at.1 in absurd (omega arith))

-- ---- the records of a new volume: each component with its partitions behind it

-- a component with its partitions behind it
abbrev pub block : Share → List Record
block s = kinds.Component s.d ∷ records_of s.parts

abbrev pub blocks : List Share → List Record
blocks ss = flat_map block ss

-- the new components of blocks whose ids follow one another rise
pub blocks_rise : (id : ℕ) (ss : List Share) → IdsFollow id (blocks ss) → Rising (news ss)
unfolding place_of
blocks_rise id [] h = λ i j d lt within. absurd (omega arith)
blocks_rise id (s ∷ ss) h =
    let here : s.d.head.id ≡ id = h.0 in
    let rest = (follow_split (id + 1) (records_of s.parts) (blocks ss) h.1).1 in
    AllPairs-cons Below (kinds.Component s.d) (news ss)
    (λ k d lt. each_mapped (Below (kinds.Component s.d)) new_of ss (λ t at.
    let above : rest.0 ≤ t.d.head.id = follow_above rest.0 (blocks ss) (kinds.Component t.d)
    rest.2 (flat_there block ss t (kinds.Component t.d) at (0, omega arith, refl)) in
    let low = rest.1 in
    omega arith) (get_or (news ss) k d) (Contains-get_or (news ss) k d lt))
    (blocks_rise rest.0 ss rest.2)

pub block_rises : (id : ℕ) (ss : List Share) → IdsFollow id (blocks ss) → (s : Share) → Contains ss s
    → Rising (records_of s.parts)
block_rises id [] h s (k, lt, is) = absurd (omega arith)
block_rises id (s ∷ ss) h q at =
    let parts = follow_split (id + 1) (records_of s.parts) (blocks ss) h.1 in
    each_more (λ (t : Share). Rising (records_of t.parts)) s ss
    (parts_rise (id + 1) s.parts parts.0) (block_rises parts.1.0 ss parts.1.2) q at

-- what is listed is what is made
pub listed : (v : Volume) (ss : List Share) (r : Record) → Contains (kinds.Volume v ∷ blocks ss) r → IsMade v ss r
listed v ss = each_more (IsMade v ss) (kinds.Volume v) (blocks ss) refl (λ r at.
    let s = flat_from block ss r at in
    each_more (IsMade v ss) (kinds.Component s.0.d) (records_of s.0.parts) (s.0, s.1, refl)
    (each_mapped (IsMade v ss) kinds.Partition s.0.parts (λ p here. (s.0, s.1, here))) r s.2)

pub lists : (v : Volume) (ss : List Share) (r : Record) → IsMade v ss r
    → Contains (kinds.Volume v ∷ blocks ss) r
lists v ss (kinds.Group g) m = absurd m
lists v ss (kinds.Disk d) m = absurd m
lists v ss (kinds.Volume x) m = (0, omega arith, ap kinds.Volume (sym m))
lists v ss (kinds.Component x) (s, at, e) = behind (kinds.Volume v) (blocks ss) (kinds.Component x)
    (flat_there block ss s (kinds.Component x) at (0, omega arith, ap kinds.Component (sym e)))
lists v ss (kinds.Partition x) (s, at, in') =
    behind (kinds.Volume v) (blocks ss) (kinds.Partition x)
    (flat_there block ss s (kinds.Partition x) at
    (behind (kinds.Component s.d) (records_of s.parts) (kinds.Partition x)
    (map_there kinds.Partition s.parts x in')))

-- ---- the records of a longer volume: its components, and the new partitions behind them

-- what is made: the volume, its components, and the new partitions
abbrev pub longer_records : Volume → List Share → List Record
longer_records w ss = kinds.Volume w ∷ (news ss ++ records_of (parts_of ss))

-- the partitions of a component in the order of the volume's sectors, and what they hold
abbrev pub tiles_in : List Record → Share → List Extent
tiles_in records s = by_offset (extents_of s.c.head.id records)

abbrev pub share_holds : List Record → Share → ℕ
share_holds records s = held_in (tiles_in records s)

-- the list of what is made has just that
pub listed_made : (w : Volume) (ss : List Share) (r : Record) → Contains (longer_records w ss) r → IsMade w ss r
listed_made w ss = each_more (IsMade w ss) (kinds.Volume w) (news ss ++ records_of (parts_of ss))
    refl (λ r at. elim (Contains-append_cases (news ss) (records_of (parts_of ss)) r at) [
      | inl h ↦ each_mapped (IsMade w ss) new_of ss (λ s here. (s, here, refl)) r h
      | inr h ↦ each_mapped (IsMade w ss) kinds.Partition (parts_of ss)
          (λ p here. flat_from (λ (s : Share). s.parts) ss p here) r h
    ])

pub made_listed : (w : Volume) (ss : List Share) (r : Record) → IsMade w ss r → Contains (longer_records w ss) r
made_listed w ss (kinds.Group g) is = absurd is
made_listed w ss (kinds.Disk d) is = absurd is
made_listed w ss (kinds.Volume x) is = (0, omega arith, ap kinds.Volume (sym is))
made_listed w ss (kinds.Component x) (s, at, is) =
    Contains-append_right (kinds.Volume w ∷ []) (news ss ++ records_of (parts_of ss))
    (kinds.Component x)
    (Contains-append_left (news ss) (records_of (parts_of ss)) (kinds.Component x)
    (subst (λ (y : Component). Contains (news ss) (kinds.Component y)) (sym is) (map_there new_of ss s at)))
made_listed w ss (kinds.Partition x) (s, at, in') = Contains-append_right (kinds.Volume w ∷ []) (news ss ++ records_of (parts_of ss)) (kinds.Partition x)
    (Contains-append_right (news ss) (records_of (parts_of ss)) (kinds.Partition x)
    (map_there kinds.Partition (parts_of ss) x
    (flat_there (λ (t : Share). t.parts) ss s x at in')))

-- the changed components stand as those that they were
pub place_same : (ss : List Share) → ((s : Share) → Contains ss s → s.d.head.id ≡ s.c.head.id) → (k : ℕ) (d : Record)
    → k < length ss → place_of (get_or (news ss) k d) ≡ place_of (get_or (olds ss) k d)
unfolding place_of
place_same [] same k d lt = absurd (omega arith)
place_same (s ∷ ss) same zero d lt = ap (λ (n : ℕ). 4 * 2 ^ 64 + n) (same s (0, omega arith, refl))
place_same (s ∷ ss) same (suc k) d lt = place_same ss (λ t at. same t (behind s ss t at)) k d
    (omega arith)

pub news_rise : (ss : List Share) → ((s : Share) → Contains ss s → s.d.head.id ≡ s.c.head.id) → Rising (olds ss) → Rising (news ss)
news_rise ss same up i j d lt within =
    let long_news = length-map ss new_of in
    let long_olds = length-map ss old_of in
    let a = place_same ss same i d (omega arith) in
    let b = place_same ss same j d (omega arith) in
    let less : place_of (get_or (olds ss) i d) < place_of (get_or (olds ss) j d) = up i j d lt (omega arith) in
    omega arith

-- as a layout reads them
abbrev pub plexes_in : List Share → List Plex
plexes_in ss = map (λ (s : Share). plex_of s.c) ss

pub old_plexes : (old : List Record) (q : ℕ) (ss : List Share) → filter (is_child 3 q) old ≡ olds ss
    → plexes_of q old ≡ plexes_in ss
old_plexes old q ss are =
    plexes_by q old ∙ ap (filter_map plex_in) are
    ∙ named_all plex_in old_of (λ (s : Share). plex_of s.c) (λ s. refl) ss

pub copies_are : (ss : List Share) (records : List Record) → copies_in records (plexes_in ss) ≡ map (tiles_in records) ss
copies_are ss records = map_map (λ (p : Plex). by_offset (extents_of p.id records)) (λ (s : Share). plex_of s.c) ss
