-- extend of a mirror, whose records are looked at alone: what is read of them there is what all records say.
use Rattle.std.proofs.Common.{◌≡◌, ℕ, ◌+◌, ◌-◌, ◌^◌, ◌<◌, ◌≤◌, ◌==◌, ◌&&◌, ◌||◌, ◌++◌, not, List, [], ◌∷◌, length, map, refl, sym, ap, subst, ◌∙◌, arith, Bool, true, false, Contains, Some, None, Ok, filter, is_some, Result, eq-eqb}
use Rattle.ldm_edits.proofs.Common.{Record, Volume, Component, resized, new_partition, there, Taken, Label, Database, is_child, max_id, Extent, Plex, Mirror, by_offset, plex_of, plexes_of, held_in, layout_of, shape_of, Wanted, Piece, first_of}
use Rattle.std.specs.Borrow.{Bor}
use Rattle.std.specs.List.{filter_map, list_any}
use Rattle.std.specs.Option.{option_map}
use Rattle.std.proofs.lemmas.Bool.{and_parts}
use Rattle.std.proofs.lemmas.List.{length-map}
use Rattle.std.proofs.lemmas.List.Folds.{list_any_at}
use Rattle.ldm_records.specs.declared.types.Record.TheVariants as kinds
use Rattle.ldm_layout.specs.Parts.{extent_in}
use Rattle.ldm_layout.proofs.VolumeLaws.{extents_by, plex_there}
use Rattle.ldm_edits.specs.declared.error.StepError.{StepError}
use Rattle.ldm_edits.specs.declared.reply.Refusal.{Refusal}
use Rattle.ldm_edits.specs.declared.reply.Refusal.TheVariants as refusals
use Rattle.ldm_edits.specs.Answers.{RefusesAs}
use Rattle.ldm_edits.specs.Asked.{has_twins, is_much, words_by}
use Rattle.ldm_edits.specs.Changes.{when, change_to}
use Rattle.ldm_edits.specs.Extending.{held}
use Rattle.ldm_edits.specs.Mirroring.{component_holds, component_in_record, components_of, grown, grown_components, grown_made, grown_parts, MayGrow}
use Rattle.ldm_edits.specs.Extended.{against_growth, extended_mirror, is_part_on, is_uneven, len_of, IsEven, longer_mirror, on_another, on_others}
use Rattle.ldm_edits.specs.Replacing.{ShowsAs}
use Rattle.ldm_edits.specs.Spots.{open_wanted, spots_for}
use Rattle.ldm_group.proofs.ListLaws.{behind}
use Rattle.ldm_edits.proofs.AdditionLaws.{then_refused}
use Rattle.ldm_edits.proofs.AskedLaws.{asked_open, place_ok}
use Rattle.ldm_edits.proofs.GrowLaws.{component_is}
use Rattle.ldm_edits.proofs.ShownLaws.{layout_shown, opened_shown}

-- ---- where these components have the same partitions

part_child : (q disk : ℕ) (r : Record) → is_part_on q disk r ≡ true → is_child 4 q r ≡ true
part_child q disk (kinds.Partition p) on = ap (λ (b : Bool). b || false) (and_parts (p.parent == q) (p.disk == disk) on).0
part_child q disk _ on = absurd cc

-- what holds of children alone is asked of them alone
any_child : (t s : Record → Bool) → ((r : Record) → t r ≡ true → s r ≡ true) → (records : List Record) → list_any t records ≡ list_any t (filter s records)
any_child t s only [] = refl
any_child t s only (r ∷ rs) = (let rest = any_child t s only rs in let here = only r in grind arith)

abbrev pub HaveSame : List Record → List Record → List Component → Type 0
HaveSame own all cs = (c : Component) → Contains cs c → filter (is_child 4 c.head.id) own ≡ filter (is_child 4 c.head.id) all

module _ (own all : List Record) where
  first_same : (c : Component) (cs : List Component) → HaveSame own all (c ∷ cs) → filter (is_child 4 c.head.id) own ≡ filter (is_child 4 c.head.id) all
  first_same c cs same = same c (0, omega arith, refl)

  rest_same : (c : Component) (cs : List Component) → HaveSame own all (c ∷ cs) → HaveSame own all cs
  rest_same c cs same = λ x at. same x (behind c cs x at)

  holds_same : (c : Component) → filter (is_child 4 c.head.id) own ≡ filter (is_child 4 c.head.id) all
      → component_holds own c ≡ component_holds all c
  holds_same c same = ap (λ (l : List Extent). held_in (by_offset l)) (extents_by c.head.id own ∙ ap (filter_map extent_in) same ∙ sym (extents_by c.head.id all))

  part_same : (c : Component) (disk : ℕ) → filter (is_child 4 c.head.id) own ≡ filter (is_child 4 c.head.id) all → list_any (is_part_on c.head.id disk) own ≡ list_any (is_part_on c.head.id disk) all
  part_same c disk same =
      let one = any_child (is_part_on c.head.id disk) (is_child 4 c.head.id) (part_child c.head.id disk) in
      rw (one own, same) (sym (one all))

  another_same : (cs : List Component) (id disk : ℕ) → HaveSame own all cs → on_another own cs id disk ≡ on_another all cs id disk
  another_same [] id disk same = refl
  another_same (c ∷ cs) id disk same =
      λ i. (not (c.head.id == id) && part_same c disk (first_same c cs same) i) || another_same cs id disk (rest_same c cs same) i

  others_same : (those cs : List Component) (ws : List Wanted) → HaveSame own all those → on_others own those cs ws ≡ on_others all those cs ws
  others_same those [] ws same = refl
  others_same those (c ∷ cs) [] same = refl
  others_same those (c ∷ cs) (w ∷ ws) same = λ i. another_same those c.head.id w.disk same i || others_same those cs ws same i

  much_same : (cs : List Component) → HaveSame own all cs → list_any (λ c. is_much (component_holds own c)) cs ≡ list_any (λ c. is_much (component_holds all c)) cs
  much_same [] same = refl
  much_same (c ∷ cs) same = λ i. is_much (holds_same c (first_same c cs same) i) || much_same cs (rest_same c cs same) i

  parts_same : (cs : List Component) (id : ℕ) (ts : List Taken) → HaveSame own all cs → grown_parts own id cs ts ≡ grown_parts all id cs ts
  parts_same [] id ts same = refl
  parts_same (c ∷ cs) id [] same = refl
  parts_same (c ∷ cs) id (t ∷ ts) same =
      λ i. new_partition id t.start (holds_same c (first_same c cs same) i) t.size c.head.id t.disk None ∷ parts_same cs (id + 1) ts (rest_same c cs same) i

-- ---- the components of a volume that is shown

module _ {own all : List Record} {v : Volume} (shows : ShowsAs own all v) where
  pub components_shown : components_of v own ≡ components_of v all
  components_shown = ap (filter_map component_in_record) shows.components

  pub partitions_shown : HaveSame own all (components_of v all)
  partitions_shown c at =
      let is = component_is all v c at in
      let listed : Contains (plexes_of v.head.id all) (plex_of c) = subst (λ (n : ℕ). Contains (plexes_of n all) (plex_of c)) is.1 (plex_there all c is.0) in
      shows.partitions c.head.id (list_any_at (λ plex. plex.id == c.head.id) (plexes_of v.head.id all) listed.0 (plex_of c) listed.1
      (eq-eqb _ c.head.id (ap (λ (p : Plex). p.id) listed.2)))

  pub against_shown : against_growth own v ≡ against_growth all v
  against_shown = λ i wanted. first_of (
      when (has_twins wanted || (ap (λ (cs : List Component). on_others own cs cs wanted) components_shown ∙ others_same own all (components_of v all) (components_of v all) wanted partitions_shown) i) refusals.SameDisk
      ∷ (when (is_uneven (len_of wanted) wanted || (is_much (held (layout_shown shows i) + len_of wanted)
      || (ap (λ (cs : List Component). list_any (λ c. is_much (component_holds own c)) cs) components_shown ∙ much_same own all (components_of v all) partitions_shown) i)) refusals.BadSize ∷ []))

  -- what is made of these components
  pub made_shown : (size id : ℕ) (ts : List Taken)
      → there (option_map kinds.Volume (resized v size)
      ∷ (grown_components (components_of v all) ++ grown_parts own id (components_of v all) ts))
      ≡ grown_made all v size id ts
  made_shown size id ts = rw (parts_same own all (components_of v all) id ts partitions_shown)

-- ---- the steps of the command

-- as many as the components that were found
pub found_many : {n : ℕ} {components found : List (Bor Component)} {cs : List Component} → n ≡ length components → components ≡ found → map (λ (b : Bor Component). b.now) found ≡ cs → n ≡ length cs
found_many {found = found} many same is =
    many ∙ ap (λ (l : List (Bor Component)). length l) same ∙ sym (length-map found (λ (b : Bor Component). b.now)) ∙ ap (λ (l : List Component). length l) is

-- one piece for each component, and no extra size: by what is asked of the disks, and where it is placed
module _ (own db : Database) (labels : List Label) (v : Volume) (pieces : List Piece) {extra : Bool}
    (shows : ShowsAs own.records db.records v) (extra_is : extra ≡ is_some v.size2) (plain : extra ≡ false)
    (many : length pieces ≡ length (components_of v own.records)) where
  abbrev asks_own : Result (List Wanted) Refusal
  asks_own = open_wanted own labels (words_by pieces) (against_growth own.records v)

  abbrev extends : Result Database Refusal
  extends = extended_mirror db labels pieces v

  many_all : length pieces ≡ length (components_of v db.records)
  many_all = many ∙ ap (λ (cs : List Component). length cs) (components_shown shows)

  is_longer : extends ≡ longer_mirror db labels pieces v
  is_longer = rw (sym extra_is ∙ plain, eq-eqb _ _ many_all)

  asks_all : asks_own ≡ open_wanted db labels (words_by pieces) (against_growth db.records v)
  asks_all = opened_shown own db labels _ _ _ shows.disks (against_shown shows)

  pub mirror_wanted_refused : (error : StepError) → RefusesAs error asks_own → RefusesAs error extends
  mirror_wanted_refused error refuses = rw is_longer (then_refused error _ _ (subst (RefusesAs error) asks_all refuses))

  -- where what is asked is placed as this list
  module _ (wanted : List Wanted) (asked : asks_own ≡ Ok wanted) {listed : List Wanted} (same : listed ≡ wanted) where
    pub mirror_spots_refused : (error : StepError) → RefusesAs error (spots_for db listed) → RefusesAs error extends
    mirror_spots_refused error refuses = rw (is_longer, sym asks_all ∙ asked) (then_refused error _ _ (rw same at refuses))

    module _ (spots : List Taken) (placed : spots_for db listed ≡ Ok spots) where
      pub mirror_placed : extends ≡ change_to db labels (length wanted)
          (grown db.records v (held (layout_of db.records v) + len_of wanted) spots)
      mirror_placed = is_longer ∙ rw (sym asks_all ∙ asked, rw same at placed)

      pub mirror_may : {capacity : ℕ} → Contains db.records (kinds.Volume v)
          → shape_of (plexes_of v.head.id db.records) ≡ Some Mirror → capacity ≡ held (layout_of db.records v)
          → IsEven own.records capacity (components_of v own.records) wanted → 1 ≤ length wanted → length wanted ≡ length pieces
          → db.header.last < 2 ^ 32 → max_id db.records + length wanted ≤ 2 ^ 64 - 1
          → MayGrow db labels v (len_of wanted) wanted spots
      mirror_may in_db shape capacity_is even some each low ids =
          let words = asked_open db labels (words_by pieces) (against_growth db.records v) wanted (sym asks_all ∙ asked) in
          record {
            there = in_db;
            shape = shape;
            words = words_by pieces;
            asked = words.0;
            one_each = each ∙ many_all;
            sizes = even.same;
            some = even.len (omega arith);
            fits = (let room = even.room in omega arith);
            places = place_ok refusals.NoSpace _ spots (rw same at placed);
            ids = ids;
            low = low;
          }
