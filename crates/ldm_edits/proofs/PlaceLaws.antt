-- What takes the places of records that leave: the records of both stand in one order, and what is kept beside them is of both.
use Rattle.std.proofs.Common.{◌≡◌, ℕ, ◌+◌, ◌-◌, ◌^◌, ◌<◌, ◌≤◌, ◌++◌, List, [], ◌∷◌, refl, sym, ap, ◌∙◌, append_assoc, arith, get_or, nat_le, Bool, true, false, cond, not, Some, None, Ok, filter, if◌then◌else◌}
use Rattle.ldm_edits.proofs.Common.{Record, Volume, first_of, grown_to, Label, Database, volume_named, HasSameDisks, in_order, place_of, IsFitting, own_len, need_of, last_for, plexes_of, AreMapsOf, FreeMaps, Piece, Taken}
use Rattle.std.specs.List.{All}
use Rattle.std.specs.List.Sorted.{IsPermutation}
use Rattle.std.proofs.lemmas.List.Elements.{All-contains, All-tail, Contains-append_right, Contains-get_or, filter-append}
use Rattle.std.proofs.lemmas.List.Filters.{sum_by-filter_both}
use Rattle.std.proofs.lemmas.List.Sorted.{All-permutation, IsPermutation-append_left, IsPermutation-cons, IsPermutation-middle, IsPermutation-refl, IsPermutation-sym, IsPermutation-trans, sum_by-IsPermutation}
use Rattle.std.proofs.lemmas.List.Sums.{sum_by-append}
use Rattle.ldm_records.specs.declared.types.Record.TheVariants as kinds
use Rattle.ldm_vmdb.specs.Parts.{parts_of as blocks_in}
use Rattle.ldm_group.specs.Looks.{of_kind}
use Rattle.ldm_group.specs.Order.{insert}
use Rattle.ldm_group.proofs.InOrder.{in_order_same, one_next}
use Rattle.ldm_layout.specs.Parts.{is_of_volume}
use Rattle.ldm_space.proofs.FreeLaws.{taken_permuted}
use Rattle.ldm_space.proofs.GapLaws.{maps_same}
use Rattle.ldm_edits.specs.declared.additions.Additions.{Additions}
use Rattle.ldm_edits.specs.declared.leaving.Leaving.{Leaving}
use Rattle.ldm_edits.specs.declared.leaving.Leaving.TheVariants as leavings
use Rattle.ldm_edits.specs.declared.replacing.Replacing.{Replacing}
use Rattle.ldm_edits.specs.Additions.{AreAdditions, AddsTo, with_added}
use Rattle.ldm_edits.specs.Changes.{AreasFit, Change, changed, change_to, limits, need_in}
use Rattle.ldm_edits.specs.Extended.{extended}
use Rattle.ldm_words.specs.Limits.{IsExtend}
use Rattle.std.specs.Global.{Vec}
use Rattle.ldm_edits.specs.Replacing.{AreFront, Replaces, ShowsAs, ShowsNamed, TakesPlaces, is_front}
use Rattle.ldm_edits.specs.Staying.{change_of, leaves}
use Rattle.ldm_group.proofs.AddedLaws.{rises_again}
use Rattle.ldm_edits.proofs.AdditionLaws.{top}
use Rattle.ldm_edits.proofs.AreaLaws.{most_low}
use Rattle.ldm_edits.proofs.CommandLaws.{deleted_done, deleted_rises, extended_done}
use Rattle.ldm_edits.proofs.ShownLaws.{plexes_shown}
use Rattle.ldm_edits.proofs.LimitLaws.{IsGiven, within_limits}

-- ---- what is kept of records in another order

kept_cons : (p : Record → Bool) (s : Record) (xs ys : List Record) → IsPermutation (filter p xs) (filter p ys) → IsPermutation (filter p (s ∷ xs)) (filter p (s ∷ ys))
kept_cons p s xs ys same =
    elim (p s) as (λ (b : Bool). IsPermutation (cond b (s ∷ filter p xs) (filter p xs)) (cond b (s ∷ filter p ys) (filter p ys))) [
      | true ↦ IsPermutation-cons s (filter p xs) (filter p ys) same
      | false ↦ same
    ]

kept_swap : (r s : Record) (a b : Bool) (k : List Record) → IsPermutation (cond a (r ∷ cond b (s ∷ k) k) (cond b (s ∷ k) k)) (cond b (s ∷ cond a (r ∷ k) k) (cond a (r ∷ k) k))
kept_swap r s true true k = IsPermutation-middle (r ∷ []) s k
kept_swap r s true false k = IsPermutation-refl (r ∷ k)
kept_swap r s false true k = IsPermutation-refl (s ∷ k)
kept_swap r s false false k = IsPermutation-refl k

kept_insert : (p : Record → Bool) (r : Record) (xs : List Record) → IsPermutation (filter p (r ∷ xs)) (filter p (insert r xs))
kept_insert p r [] = IsPermutation-refl (filter p (r ∷ []))
kept_insert p r (s ∷ rest) =
    elim (nat_le (place_of r) (place_of s)) as (λ (b : Bool). IsPermutation (filter p (r ∷ (s ∷ rest))) (filter p (if b then r ∷ (s ∷ rest) else s ∷ insert r rest))) [
      | true ↦ IsPermutation-refl (filter p (r ∷ (s ∷ rest)))
      | false ↦ IsPermutation-trans _ (filter p (s ∷ (r ∷ rest))) _ (kept_swap r s (p r) (p s) (filter p rest))
          (kept_cons p s (r ∷ rest) (insert r rest) (kept_insert p r rest))
    ]

kept_order : (p : Record → Bool) (xs : List Record) → IsPermutation (filter p xs) (filter p (in_order xs))
unfolding in_order
kept_order p [] = IsPermutation-refl []
kept_order p (r ∷ xs) =
    IsPermutation-trans _ (filter p (r ∷ in_order xs)) _ (kept_cons p r xs (in_order xs) (kept_order p xs))
    (kept_insert p r (in_order xs))

-- ---- the group's record and those of its disks never leave

front_stays : (leaving : Leaving) (records : List Record) (r : Record) → is_front r ≡ true → leaves leaving records r ≡ false
front_stays leaving records (kinds.Volume x) h = absurd cc
front_stays leaving records (kinds.Component x) h = absurd cc
front_stays leaving records (kinds.Partition x) h = absurd cc
front_stays (leavings.Changed v c) records _ h = refl
front_stays (leavings.Grown v) records _ h = refl
front_stays (leavings.Deleted v) records _ h = refl

front_kept : (leaving : Leaving) (all front : List Record) → AreFront front → filter (λ r. not (leaves leaving all r)) front ≡ front
front_kept leaving all [] are = refl
front_kept leaving all (r ∷ rest) are =
    let more = front_kept leaving all rest (All-tail (λ s. is_front s ≡ true) r rest are) in
    rw (front_stays leaving all r (are 0 r (omega arith)), more)

-- the records that are added fit too
pub added_fit : (records added : List Record) → All IsFitting (in_order (records ++ added)) → All IsFitting added
added_fit records added each k d lt =
    All-contains IsFitting (records ++ added) (get_or added k d) (All-permutation IsFitting _ _ (IsPermutation-sym _ _ (in_order_same (records ++ added))) each)
    (Contains-append_right records added (get_or added k d) (Contains-get_or added k d lt))

-- ---- the records of both

-- what is known of a group some of whose records leave it
pub record MayReplace (db : Database) (old : Additions) (own : List Record) (p : Replacing) : Type 0 where
  pub are : AreAdditions db.records old
  pub front : AreFront db.records
  pub step : Replaces own (with_added db old) p

module _ {db : Database} {old : Additions} {own : List Record} {p : Replacing}
    (may : MayReplace db old own p) where
  abbrev group : Database
  group = with_added db old

  abbrev change : Change
  change = change_of p.leaving group.records p.made.items

  abbrev left : List Record
  left = filter (λ r. not (leaves p.leaving own r)) old.records.items

  left_are : left ≡ filter (λ r. not (leaves p.leaving group.records r)) old.records.items
  left_are = λ i. filter (λ r. not (may.step.leaves_are r i)) old.records.items

  -- those that stay, in another order
  stay_same : IsPermutation (db.records ++ left) change.stay
  stay_same = rw (filter-append, front_kept p.leaving group.records db.records may.front, ← left_are)
      at (kept_order (λ r. not (leaves p.leaving group.records r)) (db.records ++ old.records.items))

  all_same : IsPermutation (db.records ++ (left ++ p.made.items)) (change.stay ++ p.made.items)
  all_same = rw (← append_assoc db.records left p.made.items) (IsPermutation-append_left p.made.items _ _ stay_same)

  -- ---- the blocks of those that stay

  module _ {n : ℕ} (n_is : n ≡ need_of (filter (leaves p.leaving own) old.records.items)) where
    parts : old.need ≡ need_of db.records + (n + need_of left)
    parts =
        let all = sum_by-append (λ (r : Record). blocks_in (own_len r)) db.records old.records.items in
        let both = sum_by-filter_both (leaves p.leaving own) (λ r. not (leaves p.leaving own r)) (λ r. refl)
        (λ (r : Record). blocks_in (own_len r)) old.records.items in
        omega (arith, may.are.need)

    pub leaving_few : n ≤ old.need
    leaving_few = omega (arith, parts)

    pub need_stays : old.need - n ≡ need_of change.stay
    need_stays =
        let both = sum_by-append (λ (r : Record). blocks_in (own_len r)) db.records left in
        let same = sum_by-IsPermutation (λ (r : Record). blocks_in (own_len r)) (db.records ++ left) change.stay stay_same in
        omega (arith, parts)

-- ---- where no limit is passed

-- the volume may be replaced within the limits, and this is how many blocks all records take then
pub record IsReplaced (db : Database) (labels : List Label) (old : Additions) (own : List Record) (p : Replacing)
    (need : ℕ) : Type 0 where
  pub may : MayReplace db old own p
  pub within : first_of (limits (with_added db old) labels p.fresh
      (change_of p.leaving (with_added db old).records p.made.items)) ≡ None
  pub need_is : need ≡ need_in (change_of p.leaving (with_added db old).records p.made.items)

module _ {db : Database} {labels : List Label} {old : Additions} {own : List Record} {p : Replacing} {need : ℕ}
    (given : IsReplaced db labels old own p need) where
  abbrev before : Database
  before = with_added db old

  abbrev replacing : Change
  replacing = change_of p.leaving before.records p.made.items

  pub replaced_few : AreasFit labels → need + 7 < 2 ^ 32
  replaced_few areas =
      let few = (within_limits before labels p.fresh replacing given.within).room in
      omega (arith, few, most_low labels areas, given.need_is)

  module _ {new : Additions} (takes : TakesPlaces db.records own p.leaving p.made.items need p.maps old new) where
    same : IsPermutation (db.records ++ new.records.items) (replacing.stay ++ p.made.items)
    same = rw takes.records (all_same given.may)

    in_both : IsPermutation (db.records ++ new.records.items) (in_order (replacing.stay ++ p.made.items))
    in_both = IsPermutation-trans _ _ _ same (in_order_same (replacing.stay ++ p.made.items))

    joined : in_order (replacing.stay ++ p.made.items) ≡ in_order (db.records ++ new.records.items)
    joined = one_next _ _ in_both given.may.step.rising (rises_again _ _ in_both given.may.step.rising)

    last_is : last_for old.last (need_in replacing) ≡ new.last
    last_is = rw (takes.last_is, given.need_is)

    pub replaced_additions : ((next : Database) → change_to before labels p.fresh replacing ≡ Ok next
        → HasSameDisks before.records next.records) → AreAdditions db.records new
    replaced_additions disks = record {
      rising = rw joined at given.may.step.rising;
      disks = given.may.are.disks ∙ disks (changed before replacing) (rw given.within) ∙ ap (of_kind 2) joined;
      maps = rw takes.maps_are (maps_same p.maps _ _ (λ disk s. sym (taken_permuted _ _ same disk 1 s)) given.may.step.maps);
      need = takes.need_is ∙ given.need_is ∙ sum_by-IsPermutation (λ (r : Record). blocks_in (own_len r)) _ _ same;
      max_id = takes.max_id_is;
      low = takes.low;
    }

    pub replaced_adds : AddsTo before (with_added db new) (Ok tt)
        (change_to before labels p.fresh replacing)
    replaced_adds = (
      changed before replacing,
      rw given.within,
      (λ i. record {
        header = grown_to db.header (last_is i) db.header.seq;
        records = joined i;
      }),
    )

-- ---- the volume is found among fewer records

pub shown_volume : {own all : List Record} {name : List ℕ} {v : Volume} → ShowsNamed own all name → Some v ≡ volume_named name own
    → (Some v ≡ volume_named name all) × ShowsAs own all v
shown_volume {v = v} shown is =
    let same : shown.volume ≡ v = (let e = is ∙ shown.own_named in cc) in
    (rw same at (sym shown.named), rw same at shown.shows)

-- ---- a delete takes out the same among fewer records

goes_shown : (own all : List Record) (volume : ℕ) → plexes_of volume own ≡ plexes_of volume all → (r : Record) → is_of_volume volume own r ≡ is_of_volume volume all r
goes_shown own all volume plexes (kinds.Partition x) = rw plexes
goes_shown own all volume plexes _ = refl

pub deleted_step : (db : Database) (a : Additions) (own : List Record) (v : Volume) (made : Vec Record) (maps : FreeMaps) → AreAdditions db.records a → a.max_id < 2 ^ 64
    → ShowsAs own (in_order (db.records ++ a.records.items)) v → made.items ≡ [] → ((taken : List Taken) → AreMapsOf maps taken)
    → Replaces own (with_added db a) (record { leaving = leavings.Deleted v.head.id; made = made; fresh = 0; maps = maps })
deleted_step db a own v made maps are low shows none all_maps = record {
  ids = omega (arith, top are);
  rising = rw none (deleted_rises v (in_order (db.records ++ a.records.items)) are.rising);
  maps = all_maps _;
  leaves_are = goes_shown own (in_order (db.records ++ a.records.items)) v.head.id (plexes_shown shows);
}

-- ---- the disks of the next group are the same

pub deleted_disks : (group : Database) (labels : List Label) (v : Volume) (made : List Record) → IsGiven group labels → made ≡ [] → (next : Database)
    → change_to group labels 0 (change_of (leavings.Deleted v.head.id) group.records made) ≡ Ok next → HasSameDisks group.records next.records
deleted_disks group labels v made given none next h =
    ((deleted_done {Grammar = Unit {0}} group labels (Some v) next (rw none at h)).keeps given tt).disks

pub extended_disks : (labels : List Label) (name : List ℕ) (pieces : List Piece) (v : Volume) (p : Replacing) {old new : Database} → new ≡ old → IsGiven old labels
    → IsExtend name pieces → Some v ≡ volume_named name old.records
    → extended old labels pieces (Some v) ≡ change_to old labels p.fresh (change_of p.leaving old.records p.made.items) → (next : Database)
    → change_to new labels p.fresh (change_of p.leaving new.records p.made.items) ≡ Ok next → HasSameDisks new.records next.records
extended_disks labels name pieces v p {old} same given grammar named is next =
    let done = extended_done old labels name pieces next in
    rw same (λ h. ((done (rw (← named) (is ∙ h))).keeps given grammar).disks)
