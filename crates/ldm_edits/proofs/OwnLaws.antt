-- The records of one volume among those that are added, beside the front: the volume is the same there as in all records.
use Rattle.std.proofs.Common.{◌≡◌, ℕ, ◌+◌, ◌<◌, ◌≤◌, ◌==◌, ◌++◌, inl, inr, refl, sym, ap, subst, ◌∙◌, arith, Bool, true, false, cond, List, [], ◌∷◌, length, get_or, take, map, count_by, find, Option, Some, None, Contains, filter, nat_le, if◌then◌else◌, eq-eqb, eqb-true}
use Rattle.ldm_edits.proofs.Common.{Record, Volume, Label, is_child, is_volume_named, volume_in, volume_named, HasSameDisks, Rising, kind_of, in_order, place_of, Plex, plex_of, plexes_of}
use Rattle.std.specs.List.{filter_map, list_any}
use Rattle.std.specs.List.Sorted.{IsPermutation}
use Rattle.std.specs.Option.{option_map}
use Rattle.std.proofs.lemmas.List.{map-append, take_more}
use Rattle.std.proofs.lemmas.List.Elements.{All-contains, Contains-append_left, Contains-append_right, Contains-append_cases, Contains-get_or, filter-append, filter_map-append}
use Rattle.std.proofs.lemmas.List.Folds.{list_any_at}
use Rattle.std.proofs.lemmas.List.Sorted.{Contains-permutation, IsPermutation-sym}
use Rattle.std.proofs.lemmas.List.Sums.{sum_by-append}
use Rattle.std.proofs.lemmas.Slice.Eq.{bytes_eq-Decides}
use Rattle.ldm_records.specs.declared.types.Record.TheVariants as kinds
use Rattle.ldm_rules.specs.Rules.{has_namesake}
use Rattle.ldm_rules.specs.Table.{IsSound}
use Rattle.ldm_rules.proofs.GroupLaws.{not_broken}
use Rattle.ldm_rules.proofs.SoundLaws.{sound_parts}
use Rattle.ldm_group.specs.Order.{place, IsLeastTwice}
use Rattle.ldm_group.proofs.InOrder.{in_order_same, made_next, member_next, stays_next, one_place}
use Rattle.ldm_group.proofs.KindLaws.{child_component, child_partition, named_volume}
use Rattle.ldm_group.proofs.KinLaws.{filter_has, filter_keeps, kin_same, once_at, same_there}
use Rattle.ldm_group.proofs.LookLaws.{find_none, found_again, none_found, one_record}
use Rattle.ldm_bytes.proofs.FindLaws.{find_there}
use Rattle.ldm_group.proofs.OrderLaws.{count_kept}
use Rattle.ldm_group.proofs.Rise.{count_no, count_yes, tested}
use Rattle.ldm_layout.specs.Parts.{plex_in, plexes_at}
use Rattle.ldm_layout.proofs.VolumeLaws.{plex_there}
use Rattle.ldm_edits.specs.Replacing.{AreFront, ShowsAs, ShowsNamed, is_front}
use Rattle.ldm_edits.specs.Staying.{belongs, plex_ids}
use Rattle.ldm_layout.proofs.HeldLaws.{IsOwn, any_own}

-- ---- the ids of the components, one record after another

ids_append : (volume : ℕ) (xs ys : List Record) → plex_ids volume (xs ++ ys) ≡ plex_ids volume xs ++ plex_ids volume ys
ids_append volume xs ys =
    ap (λ (l : List Plex). map (λ (p : Plex). p.id) (plexes_at volume l)) (filter_map-append plex_in xs ys)
    ∙ ap (λ (l : List Plex). map (λ (p : Plex). p.id) l) (filter-append (λ p. p.volume == volume) (filter_map plex_in xs) (filter_map plex_in ys))
    ∙ map-append (λ (p : Plex). p.id) (plexes_of volume xs) (plexes_of volume ys)

pub ids_more : (volume : ℕ) (rs : List Record) (at : ℕ) (r : Record) (more : List ℕ) → at < length rs → r ≡ get_or rs at r → plex_ids volume (r ∷ []) ≡ more
    → plex_ids volume (take (at + 1) rs) ≡ plex_ids volume (take at rs) ++ more
ids_more volume rs at r more lt is h =
    ap (plex_ids volume) (take_more rs at r lt) ∙ ids_append volume (take at rs) (get_or rs at r ∷ [])
    ∙ ap (λ (s : Record). plex_ids volume (take at rs) ++ plex_ids volume (s ∷ [])) (sym is) ∙ ap (λ (l : List ℕ). plex_ids volume (take at rs) ++ l) h

any_id : (q : ℕ) (ps : List Plex) → list_any (λ id. id == q) (map (λ (p : Plex). p.id) ps) ≡ list_any (λ plex. plex.id == q) ps
any_id q [] = refl
any_id q (p ∷ ps) = cc (any_id q ps)

-- ---- no two have one place

count_fewer : (t p : Record → Bool) (xs : List Record) → count_by p (filter t xs) ≤ count_by p xs
count_fewer t p [] = omega arith
count_fewer t p (x ∷ xs) = by (t x) (count_fewer t p xs)
  where
    by : (b : Bool) → count_by p (filter t xs) ≤ count_by p xs → count_by p (if b then x ∷ filter t xs else filter t xs) ≤ count_by p (x ∷ xs)
    by true rest = elim (tested (p x)) [
      | inl a ↦ omega (arith, rest, count_yes p x xs a, count_yes p x (filter t xs) a)
      | inr a ↦ omega (arith, rest, count_no p x xs a, count_no p x (filter t xs) a)
    ]
    by false rest = elim (tested (p x)) [
      | inl a ↦ omega (arith, rest, count_yes p x xs a)
      | inr a ↦ omega (arith, rest, count_no p x xs a)
    ]

-- where all have one rising order, none of the front and of some of those that are added have one place
pub none_twice : (t : Record → Bool) (front added : List Record) (kind id : ℕ) → Rising (in_order (front ++ added)) → IsLeastTwice (front ++ filter t added) kind id → ⊥
none_twice t front added kind id up twice =
    let n : ℕ = place kind id in
    let p : Record → Bool = λ r. place_of r == n in
    let fewer : count_by p (filter t added) ≤ count_by p added = count_fewer t p added in
    let own : count_by p (front ++ filter t added) ≡ count_by p front + count_by p (filter t added) = sum_by-append (λ (r : Record). cond (p r) 1 0) front (filter t added) in
    let all : count_by p (front ++ added) ≡ count_by p front + count_by p added = sum_by-append (λ (r : Record). cond (p r) 1 0) front added in
    let two : 2 ≤ count_by p (front ++ filter t added) = twice.twice in
    let same : count_by p (in_order (front ++ added)) ≡ count_by p (front ++ added) = count_kept n (front ++ added) (in_order (front ++ added)) (in_order_same (front ++ added)) in
    let many : 2 ≤ count_by p (in_order (front ++ added)) = omega (arith, fewer, own, all, two, same) in
    one_place n (in_order (front ++ added)) up many

-- ---- the volume of a name

same_name : (name : List ℕ) (v : Volume) → is_volume_named name (kinds.Volume v) ≡ true → v.head.name ≡ name
same_name name v h = (bytes_eq-Decides v.head.name name).0 h

-- the first of a name is it, where it is the one of that name
one_named : (name : List ℕ) (all xs : List Record) (v : Volume) (labels : List Label) → Rising all → IsSound all labels → Contains all (kinds.Volume v) → Contains xs (kinds.Volume v)
    → ((r : Record) → Contains xs r → Contains all r) → v.head.name ≡ name → volume_named name xs ≡ Some v
one_named name all xs v labels up sound in_all in_xs within is = by (find (is_volume_named name) xs) refl
  where
    holds : is_volume_named name (kinds.Volume v) ≡ true
    holds = (bytes_eq-Decides v.head.name name).1 is

    by : (o : Option Record) → find (is_volume_named name) xs ≡ o → volume_in o ≡ Some v
    by None e =
        let fails : is_volume_named name (get_or xs in_xs.0 (kinds.Volume v)) ≡ false = none_found (is_volume_named name) xs in_xs.0 (kinds.Volume v) e in_xs.1 in
        let bad : true ≡ false = sym holds ∙ ap (is_volume_named name) (sym in_xs.2) ∙ fails in
        absurd cc
    by (Some r) e =
        let found = find_there (is_volume_named name) xs r e in
        let few : nat_le 2 (count_by (is_volume_named v.head.name) all) ≡ false =
        not_broken (has_namesake (λ n. count_by (is_volume_named n) all)) all (kinds.Volume v) (sound_parts all labels sound).names in_all in
        let few_name : nat_le 2 (count_by (is_volume_named name) all) ≡ false = subst (λ (n : List ℕ). nat_le 2 (count_by (is_volume_named n) all) ≡ false) is few in
        let places : place_of r ≡ place_of (kinds.Volume v) = once_at (is_volume_named name) all r (kinds.Volume v) few_name (within r found.0) in_all found.1 holds in
        ap (λ (s : Record). volume_in (Some s)) (one_record all r (kinds.Volume v) up (within r found.0) in_all places)

-- ---- what is of a volume, beside the front

module _ (name : List ℕ) (front added own : List Record) (labels : List Label) (v : Volume) (up : Rising (in_order (front ++ added))) (disks : HasSameDisks front (in_order (front ++ added)))
    (fronts : AreFront front) (sound : IsSound (in_order (front ++ added)) labels) (there : Contains added (kinds.Volume v)) (is : v.head.name ≡ name)
    (own_up : Rising own) (same : IsPermutation (front ++ filter (belongs v.head.id (plex_ids v.head.id added)) added) own) where
  abbrev pub all : List Record
  all = in_order (front ++ added)

  abbrev pub keeps : Record → Bool
  keeps = belongs v.head.id (plex_ids v.head.id added)

  -- one that isn't of the front is added
  behind : (r : Record) → Contains all r → is_front r ≡ false → Contains added r
  behind r at back = elim (member_next front added r at) [
    | inl first ↦ absurd (let yes : is_front r ≡ true = All-contains (λ s. is_front s ≡ true) front r fronts first in cc)
    | inr later ↦ later
  ]

  kept : (r : Record) → Contains added r → keeps r ≡ true → Contains own r
  kept r at holds = Contains-permutation (front ++ filter keeps added) own r same (Contains-append_right front (filter keeps added) r (filter_keeps keeps added r at holds))

  in_front : (r : Record) → Contains front r → Contains own r
  in_front r at = Contains-permutation (front ++ filter keeps added) own r same (Contains-append_left front (filter keeps added) r at)

  within : (r : Record) → Contains own r → Contains all r
  within r at = elim (Contains-append_cases front (filter keeps added) r (Contains-permutation own (front ++ filter keeps added) r (IsPermutation-sym (front ++ filter keeps added) own same) at)) [
    | inl first ↦ stays_next front added r first
    | inr later ↦ made_next front added r (filter_has keeps added r later).0
  ]

  volume_there : Contains own (kinds.Volume v)
  volume_there = kept (kinds.Volume v) there (eq-eqb v.head.id v.head.id refl)

  component_kept : (r : Record) → is_child 3 v.head.id r ≡ true → Contains all r → Contains own r
  component_kept r holds at =
      let c = child_component v.head.id r holds in
      let back : is_front r ≡ false = ap is_front c.1 in
      kept r (behind r at back) (ap keeps c.1 ∙ eq-eqb c.0.parent v.head.id c.2)

  -- a component of it is among those that are added
  added_id : (q : ℕ) → list_any (λ plex. plex.id == q) (plexes_of v.head.id all) ≡ true → list_any (λ id. id == q) (plex_ids v.head.id added) ≡ true
  added_id q h =
      let one : IsOwn all v.head.id q = any_own all v.head.id q h in
      let at : Contains added (kinds.Component one.component) = behind (kinds.Component one.component) one.there refl in
      let plex = subst (λ (n : ℕ). Contains (plexes_of n added) (plex_of one.component)) one.parent (plex_there added one.component at) in
      any_id q (plexes_of v.head.id added)
      ∙ list_any_at (λ p. p.id == q) (plexes_of v.head.id added) plex.0 (plex_of one.component) plex.1 (ap (λ (p : Plex). p.id == q) plex.2 ∙ eq-eqb one.component.head.id q one.id)

  partition_kept : (q : ℕ) → list_any (λ plex. plex.id == q) (plexes_of v.head.id all) ≡ true → (r : Record) → is_child 4 q r ≡ true → Contains all r → Contains own r
  partition_kept q h r holds at =
      let p = child_partition q r holds in
      let back : is_front r ≡ false = ap is_front p.1 in
      kept r (behind r at back) (ap keeps p.1 ∙ ap (λ (n : ℕ). list_any (λ id. id == n) (plex_ids v.head.id added)) p.2 ∙ added_id q h)

  shows_own : ShowsAs own all v
  shows_own = record {
    rising = own_up;
    members = within;
    disks = kin_same (λ r. kind_of r == 2) own all own_up up (λ r h at. within r at) (λ r h at. in_front r (same_there 2 all front r (sym disks) (eqb-true (kind_of r) 2 h) at));
    again = ap volume_in (found_again own (kinds.Volume v) own_up volume_there);
    components = kin_same (is_child 3 v.head.id) own all own_up up (λ r h at. within r at) component_kept;
    partitions = λ q h. kin_same (is_child 4 q) own all own_up up (λ r holds at. within r at) (partition_kept q h);
  }

  pub shown_own : ShowsNamed own all name
  shown_own = record {
    volume = v;
    named = one_named name all all v labels up sound (made_next front added (kinds.Volume v) there) (made_next front added (kinds.Volume v) there) (λ r at. at) is;
    own_named = one_named name all own v labels up sound (made_next front added (kinds.Volume v) there) volume_there within is;
    shows = shows_own;
  }

-- ---- the volume of a name, by its id

-- the volume that is named is there
id_there : (name : List ℕ) (records : List Record) (id : ℕ) → option_map (λ v. v.head.id) (volume_named name records) ≡ Some id
    → (v : Volume) × Contains records (kinds.Volume v) × (v.head.name ≡ name) × (v.head.id ≡ id)
id_there name records id h = by (find (is_volume_named name) records) refl h
  where
    by : (o : Option Record) → find (is_volume_named name) records ≡ o → option_map (λ v. v.head.id) (volume_in o) ≡ Some id
        → (v : Volume) × Contains records (kinds.Volume v) × (v.head.name ≡ name) × (v.head.id ≡ id)
    by None e h = absurd cc
    by (Some r) e h =
        let found = find_there (is_volume_named name) records r e in
        let one = named_volume name r found.1 in
        let ids : Some one.0.head.id ≡ Some id = ap (λ (s : Record). option_map (λ v. v.head.id) (volume_in (Some s))) (sym one.1) ∙ h in
        (one.0, subst (Contains records) one.1 found.0, same_name name one.0 (ap (is_volume_named name) (sym one.1) ∙ found.1), cc)

front_unnamed : (name : List ℕ) (r : Record) → is_front r ≡ true → is_volume_named name r ≡ false
front_unnamed name (kinds.Volume v) h = absurd cc
front_unnamed name (kinds.Group g) h = refl
front_unnamed name (kinds.Disk d) h = refl
front_unnamed name (kinds.Component c) h = refl
front_unnamed name (kinds.Partition p) h = refl

-- there is none in the group where none is added
pub none_named : (name : List ℕ) (front added : List Record) → AreFront front → option_map (λ v. v.head.id) (volume_named name added) ≡ None
    → volume_named name (in_order (front ++ added)) ≡ None
none_named name front added fronts h = by (find (is_volume_named name) added) refl h
  where
    unnamed : find (is_volume_named name) added ≡ None → (r : Record) → Contains (in_order (front ++ added)) r → is_volume_named name r ≡ false
    unnamed e r at = elim (member_next front added r at) [
      | inl first ↦ front_unnamed name r (All-contains (λ s. is_front s ≡ true) front r fronts first)
      | inr later ↦ ap (is_volume_named name) (sym later.2) ∙ none_found (is_volume_named name) added later.0 r e later.1
    ]

    none : find (is_volume_named name) added ≡ None → find (is_volume_named name) (in_order (front ++ added)) ≡ None
    none e = find_none (is_volume_named name) (in_order (front ++ added)) (λ k d lt. unnamed e _ (Contains-get_or (in_order (front ++ added)) k d lt))

    by : (o : Option Record) → find (is_volume_named name) added ≡ o → option_map (λ v. v.head.id) (volume_in o) ≡ None → volume_named name (in_order (front ++ added)) ≡ None
    by None e h = ap volume_in (none e)
    by (Some r) e h =
        let found = find_there (is_volume_named name) added r e in
        let one = named_volume name r found.1 in
        let bad : Some one.0.head.id ≡ None = ap (λ (s : Record). option_map (λ v. v.head.id) (volume_in (Some s))) (sym one.1) ∙ h in
        absurd cc

-- what is made of the front and of what is of the volume shows it
pub owns : (name : List ℕ) (front added own items : List Record) (labels : List Label) (id : ℕ) (ids : List ℕ) → Rising (in_order (front ++ added)) → HasSameDisks front (in_order (front ++ added))
    → AreFront front → IsSound (in_order (front ++ added)) labels → option_map (λ v. v.head.id) (volume_named name added) ≡ Some id → ids ≡ plex_ids id added
    → items ≡ front ++ filter (belongs id ids) added → Rising own → IsPermutation items own → ShowsNamed own (in_order (front ++ added)) name
owns name front added own items labels id ids up disks fronts sound named ids_are items_are own_up same =
    let v = id_there name added id named in
    let at_ids : front ++ filter (belongs id ids) added ≡ front ++ filter (belongs id (plex_ids id added)) added = ap (λ (l : List ℕ). front ++ filter (belongs id l) added) ids_are in
    let at_id : front ++ filter (belongs id (plex_ids id added)) added ≡ front ++ filter (belongs v.0.head.id (plex_ids v.0.head.id added)) added =
    ap (λ (n : ℕ). front ++ filter (belongs n (plex_ids n added)) added) (sym v.3) in
    shown_own name front added own labels v.0 up disks fronts sound v.1 v.2 own_up (subst (λ (l : List Record). IsPermutation l own) (items_are ∙ at_ids ∙ at_id) same)
