-- extend of a mirror: what its records ask for, and that they lengthen it.
use Rattle.std.proofs.Common.{◌≡◌, ℕ, ◌+◌, ◌≤◌, ◌==◌, ◌||◌, List, [], ◌∷◌, length, get_or, refl, sym, ap, subst, ◌∙◌, arith, Bool, true, false, Contains, ◌^◌, ◌<◌, Option, None, filter, if◌then◌else◌, is_some, eqb-true}
use Rattle.ldm_edits.proofs.Common.{Record, Volume, Component, Rising, is_child, max_id, Database, IsFitting, need_of, Label, Mirror, layout_of, data_size, IsSoundOn, Taken, taken_in, Wanted, AllEndWithin, AreDisjoint, resized}
use Rattle.std.proofs.lemmas.Bool.{or_parts}
use Rattle.std.proofs.lemmas.List.Elements.{All-contains, Contains-get_or}
use Rattle.std.proofs.lemmas.List.Sums.{length-filter}
use Rattle.ldm_records.specs.declared.types.Record.TheVariants as kinds
use Rattle.ldm_made.proofs.MadeLaws.{MakesSize, makes_size, makes_children}
use Rattle.ldm_group.proofs.InOrder.{max_above}
use Rattle.ldm_group.proofs.KinLaws.{filter_has}
use Rattle.ldm_rules.proofs.CarryLaws.{component_kept}
use Rattle.ldm_rules.proofs.SoundLaws.{sound_parts}
use Rattle.ldm_edits.specs.Changes.{Change, changed}
use Rattle.ldm_edits.specs.Extending.{held}
use Rattle.ldm_edits.specs.Mirroring.{mirror_changes, components_of, grown, MayGrow}
use Rattle.ldm_space.proofs.FreeLaws.{taken_from}
use Rattle.ldm_edits.proofs.AskedLaws.{IsTaken, as_asked, ends_within, first_fits, lie_apart, are_taken}
use Rattle.ldm_edits.proofs.GrownMade.{IsReady, MakesShares, makes_shares, made_are, named_components, olds_are}
use Rattle.ldm_edits.proofs.LimitLaws.{spelled_by}
use Rattle.ldm_rules.proofs.RemadeLaws.{IsOther}
use Rattle.ldm_group.proofs.ListLaws.{map_there}
use Rattle.ldm_edits.proofs.Longer.{Lengthens, longer_rises}
use Rattle.std.specs.List.{All}
use Rattle.ldm_made.specs.Made.{with_children}
use Rattle.ldm_edits.specs.Spots.{ArePlaced}
use Rattle.ldm_group.proofs.NeedLaws.{few_records}

-- ---- there are few records

few_pass : (t : Record → Bool) (xs : List Record) → length (filter t xs) ≤ length xs
few_pass t [] = omega arith
few_pass t (x ∷ xs) =
    let rest = few_pass t xs in
    elim (t x) as (λ (b : Bool). length (if b then x ∷ filter t xs else filter t xs) ≤ length (x ∷ xs)) [ true ↦ omega arith | false ↦ omega arith ]

-- ---- the components

pub component_is : (records : List Record) (v : Volume) (c : Component) → Contains (components_of v records) c → Contains records (kinds.Component c) × (c.parent ≡ v.head.id)
component_is records v c at =
    let listed = subst (λ (l : List Record). Contains l (kinds.Component c)) (sym (named_components v.head.id records)) (map_there (λ (x : Component). kinds.Component x) (components_of v records) c at) in
    let has = filter_has (is_child 3 v.head.id) records (kinds.Component c) listed in
    (has.0, eqb-true c.parent v.head.id has.1)

-- what the records of the longer mirror ask for
pub record Grows (db : Database) (v : Volume) (len : ℕ) (wanted : List Wanted) (spots : List Taken) : Type 0 where
  pub many : length spots ≡ length wanted
  pub volume_there : is_some (resized v (held (layout_of db.records v) + len)) ≡ true
  pub few : All (λ c. c.children + 1 < 2 ^ 64) (components_of v db.records)
  pub made : All (λ c. is_some (with_children c (c.children + 1)) ≡ true) (components_of v db.records)
  pub rising : Rising (changed db (grown db.records v (held (layout_of db.records v) + len) spots)).records

module _ {db : Database} {labels : List Label} {v : Volume} {len : ℕ} {wanted : List Wanted} {spots : List Taken} (up : Rising db.records) (old : IsSoundOn db labels) (may : MayGrow db labels v len wanted spots) where
  abbrev taken : List Taken
  taken = spots

  abbrev capacity : ℕ
  capacity = held (layout_of db.records v)

  abbrev change : Change
  change = grown db.records v (held (layout_of db.records v) + len) spots

  are : ArePlaced db labels may.words (λ w. None) wanted spots
  are = record { asked = may.asked; free = refl; places = may.places }

  ready : (c : Component) → Contains (components_of v db.records) c → IsReady c
  ready c at =
      let is = component_is db.records v c at in
      let counted = (component_kept db.records labels (sound_parts db.records labels old.sound) c is.0).counted in
      let many = length-filter (is_child 4 c.head.id) db.records in
      let some = few_pass (is_child 4 c.head.id) db.records in
      let all : length db.records ≤ need_of db.records = few_records db.records in
      let room = old.room.need in
      let low = may.low in
      let top = max_above db.records (kinds.Component c) is.0 in
      let ids = may.ids in
      record {
        few = omega arith;
        low = omega arith;
        spelled = spelled_by (kinds.Component c) (All-contains IsFitting db.records (kinds.Component c) old.room.each is.0);
      }

  -- each piece has as many sectors
  takes : (t : Taken) → Contains taken t → IsTaken db.records t × (t.size ≡ len)
  takes t at =
      let from = taken_from wanted (taken_in db.records) spots t (first_fits are) at in
      let ids = may.ids in
      let room = may.fits in (
        All-contains (IsTaken db.records) spots t
            (are_taken are (omega arith) (λ k d lt. let size = may.sizes k d lt in
            (ap (λ (n : ℕ). n == 0) size ∙ may.some, omega arith))) at,
        sym from.3 ∙ All-contains (λ (x : Wanted). x.size ≡ len) wanted from.0 may.sizes from.1,
      )

  pub volume : MakesSize v (capacity + len)
  volume = makes_size v (capacity + len) (let room = may.fits in omega arith) (spelled_by (kinds.Volume v) (All-contains IsFitting db.records (kinds.Volume v) old.room.each may.there))

  pub shares : MakesShares db.records v len (max_id db.records + 1) (components_of v db.records) taken
  shares =
      let many : length taken ≡ length wanted = as_asked are in
      let each = may.one_each in
      let ids = may.ids in
      makes_shares db.records v len (max_id db.records + 1) (components_of v db.records) taken (omega arith) (omega arith) (omega arith)
      (λ c at. ((component_is db.records v c at).1, ready c at)) takes

  other : (r : Record) → mirror_changes v r ≡ false → IsOther v.head.id r
  other (kinds.Group g) fails = tt
  other (kinds.Disk d) fails = tt
  other (kinds.Partition p) fails = tt
  other (kinds.Volume x) fails = (or_parts (x.head.id == v.head.id) false fails).0
  other (kinds.Component x) fails = fails

  stays : (r : Record) → IsOther v.head.id r → mirror_changes v r ≡ false
  stays (kinds.Group g) off = refl
  stays (kinds.Disk d) off = refl
  stays (kinds.Partition p) off = refl
  stays (kinds.Volume x) off = ap (λ (b : Bool). b || false) off
  stays (kinds.Component x) off = off

  pub lengthens : Lengthens labels db.records change v volume.volume len shares.ss
  lengthens = record {
    t = mirror_changes v;
    stay = refl;
    other = λ r at fails. other r fails;
    stays = λ r at is. stays r is;
    made = made_are db.records v volume.volume (capacity + len) len (max_id db.records + 1) taken shares volume.made;
    low = (let ids = may.ids in omega arith);
    ids = shares.ids;
    wider = record {
      volume = may.there;
      shape = Mirror;
      shape_is = may.shape;
      tiled = refl;
      components = olds_are db.records v shares.ss shares.components_are;
      same_head = volume.head_is;
      same_children = volume.children_is;
      size = volume.size_is;
      each = shares.each;
      within = subst (λ (l : List Taken). AllEndWithin (data_size labels db.records) l) (sym shares.taken_are) (ends_within are);
      free = subst (λ (l : List Taken). AreDisjoint (taken_in db.records) l) (sym shares.taken_are) (lie_apart are);
    };
  }

  pub grows : Grows db v len wanted spots
  grows = record {
    many = as_asked are;
    volume_there = ap (λ (o : Option Volume). is_some o) volume.made;
    few = λ k d lt. (ready (get_or (components_of v db.records) k d) (Contains-get_or (components_of v db.records) k d lt)).few;
    made = λ k d lt. (let c : Component = get_or (components_of v db.records) k d in
        let is = ready c (Contains-get_or (components_of v db.records) k d lt) in
        ap (λ (o : Option Component). is_some o) (makes_children c (c.children + 1) is.few is.spelled).made);
    rising = longer_rises up lengthens;
  }
