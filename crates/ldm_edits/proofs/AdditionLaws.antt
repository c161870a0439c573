-- What creates add to a group: the records of both stand in one order, and what is kept beside them is of both.
use Rattle.std.proofs.Common.{◌≡◌, ℕ, ◌+◌, ◌^◌, ◌<◌, ◌==◌, ◌||◌, ◌++◌, List, [], ◌∷◌, refl, sym, ap, ◌∙◌, arith, true, false, max, None, Result, Ok, Err, append_assoc, map, is_some, option_and_then, eqb-true, append-nil}
use Rattle.ldm_edits.proofs.Common.{Record, first_of, grown_to, Label, data_size, IsSoundOn, NewLayout, Database, is_volume_named, volume_named, max_id, HasSameDisks, Rising, kind_of, id_of, in_order, IsFitting, own_len, need_of, last_for, Taken, taken_of, taken_in, taken_by, AreMapsOf, placed, FreeMaps, Wanted}
use Rattle.std.specs.List.{All, list_any}
use Rattle.std.specs.Global.{Vec as RVec}
use Rattle.std.proofs.lemmas.Bool.{and_parts}
use Rattle.std.proofs.lemmas.List.{map-append}
use Rattle.std.proofs.lemmas.List.Folds.{list_any-append}
use Rattle.std.proofs.lemmas.List.Sorted.{IsPermutation-refl, list_any-IsPermutation, sum_by-IsPermutation}
use Rattle.std.proofs.lemmas.List.Sums.{fold-append}
use Rattle.ldm_records.specs.declared.types.Record.TheVariants as kinds
use Rattle.ldm_records.specs.declared.types.Disk.{Disk}
use Rattle.ldm_label.specs.Present.{sectors_by, label_with}
use Rattle.ldm_words.specs.Limits.{IsCreate}
use Rattle.ldm_vmdb.specs.Parts.{parts_of as blocks_in}
use Rattle.ldm_group.specs.Database.{at_seq}
use Rattle.ldm_group.specs.Looks.{is_at, is_disk_named, disk_in, disk_named, of_kind}
use Rattle.ldm_group.proofs.InOrder.{in_order_same, one_next}
use Rattle.ldm_group.proofs.KinLaws.{same_found}
use Rattle.ldm_space.specs.Placed.{PlacesAs}
use Rattle.ldm_space.proofs.FreeLaws.{placed_same, taken_behind, taken_permuted}
use Rattle.ldm_space.proofs.GapLaws.{maps_same}
use Rattle.ldm_edits.specs.declared.additions.Additions.{Additions}
use Rattle.ldm_edits.specs.declared.error.StepError.{StepError}
use Rattle.ldm_edits.specs.declared.error.StepError.TheVariants as errors
use Rattle.ldm_edits.specs.declared.reply.Refusal.{Refusal}
use Rattle.ldm_edits.specs.declared.reply.Refusal.TheVariants as refusals
use Rattle.ldm_edits.specs.Answers.{RefusesAs}
use Rattle.ldm_edits.specs.Asked.{ask, asked_for}
use Rattle.ldm_edits.specs.Changes.{AreasFit, Change, changed, change_to, limits, need_in}
use Rattle.ldm_edits.specs.Creating.{words_of, against_layout, change_for, created, fresh_for}
use Rattle.ldm_edits.specs.Additions.{AreAdditions, AddsVolume, AddsNone, AddsTo, PlacesBeside, with_added}
use Rattle.ldm_edits.specs.Spots.{ArePlaced, and_then, by_place, open_wanted, spots_for}
use Rattle.ldm_edits.proofs.AreaLaws.{most_low}
use Rattle.ldm_edits.proofs.AskedLaws.{asked_open, place_ok}
use Rattle.ldm_edits.proofs.CommandLaws.{created_done, created_keeps, placed_new}
use Rattle.ldm_edits.proofs.Created.{MakesNew, created_rises}
use Rattle.ldm_rules.proofs.RemadeLaws.{blocks, Share, records_of, parts_of}
use Rattle.ldm_edits.proofs.LimitLaws.{IsGiven, IsWithinLimits, need_both, within_limits}
use Rattle.ldm_group.proofs.AddedLaws.{max_same, named_any, rises_again, both_joined}
use Rattle.std.proofs.lemmas.List.Elements.{filter_map-append}
use Rattle.ldm_group.proofs.ListLaws.{named_all}

-- ---- what is made for a volume

blocks_take : (ss : List Share) → taken_in (blocks ss) ≡ map taken_of (parts_of ss)
blocks_take [] = refl
blocks_take (s ∷ ss) = filter_map-append taken_by (records_of s.parts) (blocks ss)
    ∙ rw (named_all taken_by kinds.Partition taken_of (λ p. refl) s.parts, blocks_take ss)
    (sym (map-append taken_of s.parts (parts_of ss)))

made_takes : {id : ℕ} {name : List ℕ} {made : List Record} {ts : List Taken} → MakesNew id name made ts → taken_in made ≡ ts
made_takes new = ap taken_in new.made_are ∙ blocks_take new.ss ∙ new.are.taken_are

-- ---- none is added to others

pub added_none : {records : List Record} {old new : Additions} → AreAdditions records old → AddsNone old new → AreAdditions records new
added_none {records} {old} {new} are adds = record {
  rising = rw adds.records are.rising;
  disks = rw adds.records are.disks;
  maps = rw adds.records (adds.maps _ are.maps);
  need = rw adds.records (adds.need ∙ are.need);
  max_id = rw adds.records (adds.max_id ∙ are.max_id);
  low = rw adds.last are.low;
}

-- the group with the records that are added is the same where none is added
pub same_group : (db : Database) {old new : Additions} → AddsNone old new → with_added db new ≡ with_added db old
same_group db adds = rw (adds.records, adds.last)

-- ---- what a create asks of the group that both make

-- the names and the ends of disks are the same where the disks are
pub asked_same : (labels : List Label) (a b : List Record) → HasSameDisks a b → (at : ℕ) (words : List (List ℕ × ℕ))
    → asked_for (data_size labels a) a at words ≡ asked_for (data_size labels b) b at words
asked_same labels a b same at [] = refl
asked_same labels a b same at (word ∷ words) =
    rw (same_found 2 (is_disk_named word.0) a b of_kind_two same, asked_same labels a b same (at + 1) words)
    (λ i. ask (sectors i) at word.1 (disk_named word.0 b) (asked_for (data_size labels b) b (at + 1) words))
  where
    sectors : data_size labels a ≡ data_size labels b
    sectors = λ i disk. sectors_by (option_and_then (λ (d : Disk). label_with d.guid labels) (disk_in
        (same_found 2 (is_at 2 disk) a b (λ r h. eqb-true (kind_of r) 2 (and_parts (kind_of r == 2) (id_of r == disk) h).0) same i)))

    of_kind_two : (r : Record) → is_disk_named word.0 r ≡ true → kind_of r ≡ 2
    of_kind_two (kinds.Disk d) h = refl
    of_kind_two _ h = absurd cc

pub then_refused : {X Y : Type 0} (error : StepError) (r : Result X Refusal) (next : X → Result Y Refusal) → RefusesAs error r → RefusesAs error (and_then r next)
then_refused (errors.Refused refusal) r next h = rw h
then_refused errors.NoMemory r next h = tt

pub top : {records : List Record} {a : Additions} → AreAdditions records a → a.max_id ≡ max_id (in_order (records ++ a.records.items))
top {records} {a} are = are.max_id ∙ max_same _ _ (in_order_same (records ++ a.records.items))

pub needs : {records : List Record} {a : Additions} → AreAdditions records a → a.need ≡ need_of (in_order (records ++ a.records.items))
needs {records} {a} are = are.need ∙ sym (sum_by-IsPermutation (λ (r : Record). blocks_in (own_len r)) _ _ (in_order_same (records ++ a.records.items)))

pub need_low : (db : Database) (labels : List Label) (a : Additions) → AreAdditions db.records a
    → IsSoundOn (with_added db a) labels → a.need < 2 ^ 32
need_low db labels a are sound = omega (arith, needs are, sound.room.need, are.low)

-- with these most of what the methods of the additions ask for is found
pub ruleset kept_beside = (added_none, need_low)

pub named_in : {records : List Record} {a : Additions} → AreAdditions records a → (name : List ℕ)
    → (list_any (is_volume_named name) records || list_any (is_volume_named name) a.records.items) ≡ is_some (volume_named name (in_order (records ++ a.records.items)))
named_in {records} {a} are name = sym (list_any-append (is_volume_named name) records a.records.items)
    ∙ list_any-IsPermutation (is_volume_named name) _ _ (in_order_same (records ++ a.records.items)) ∙ sym (named_any name (in_order (records ++ a.records.items)))

-- ---- one volume more

-- what is made for it, where no limit refuses it
pub record IsMore (db : Database) (labels : List Label) (old : Additions) (name : List ℕ) (guid : ℕ)
    (layout : NewLayout) (ts : List Taken) (made : List Record) : Type 0 where
  pub are : AreAdditions db.records old
  pub given : IsGiven (with_added db old) labels
  pub grammar : IsCreate name layout
  pub placed : (wanted : List Wanted) × ArePlaced (with_added db old) labels (words_of layout) (against_layout layout) wanted ts
  pub made_is : made ≡ (change_for (with_added db old) name guid layout ts).made
  pub within : first_of (limits (with_added db old) labels (fresh_for layout)
      (change_for (with_added db old) name guid layout ts)) ≡ None

-- what is kept beside the records, and the next group but for its sequence
module _ {db : Database} {labels : List Label} {old : Additions} {name : List ℕ} {guid : ℕ} {layout : NewLayout}
    {ts : List Taken} {made : List Record} (more : IsMore db labels old name guid layout ts made) where
  abbrev group : Database
  group = with_added db old

  abbrev change : Change
  change = change_for group name guid layout ts

  pub more_within : IsWithinLimits group labels (fresh_for layout) change
  more_within = within_limits group labels (fresh_for layout) change more.within

  pub more_fits : All IsFitting made
  more_fits = rw more.made_is more_within.each

  volume : MakesNew (max_id group.records + 1) name change.made ts
  volume = placed_new guid more.grammar more.placed.1 (omega (arith, more_within.ids))

  both_need : old.need + need_of made ≡ need_in change
  both_need = rw more.made_is (need_both group.records change.made _ _ (needs more.are) refl)

  pub more_few : AreasFit labels → old.need + need_of made + 7 < 2 ^ 32
  more_few areas = omega (arith, more_within.room, most_low labels areas, both_need)

  module _ {new : Additions} {maps : FreeMaps} (adds_made : AddsVolume old new made maps) where
    adds : AddsVolume old new change.made maps
    adds = rw more.made_is at adds_made

    up : Rising (in_order (group.records ++ change.made))
    up = created_rises group.records change.made more.given.up volume

    joined : in_order (group.records ++ change.made) ≡ in_order (db.records ++ new.records.items)
    joined = rw adds.records (both_joined db.records old.records.items change.made up)

    last_is : last_for old.last (need_in change) ≡ new.last
    last_is = rw (adds.last, adds_made.need, both_need)

    whole : (db.records ++ old.records.items) ++ change.made ≡ db.records ++ new.records.items
    whole = rw (adds.records, append_assoc)

    pub more_additions : volume_named name group.records ≡ None
        → AreMapsOf maps (ts ++ taken_in (db.records ++ old.records.items)) → AreAdditions db.records new
    more_additions free there = record {
      rising = rw joined at up;
      disks = more.are.disks ∙ (created_keeps guid more.given more.grammar more.placed.1 more.within free).disks
          ∙ ap (of_kind 2) joined;
      maps = rw (adds.maps_are, adds.records)
          (maps_same _ _ _ (λ disk. taken_behind db.records old.records.items change.made ts (made_takes volume) disk 1) there);
      need = rw (adds.need, ← whole) (need_both (db.records ++ old.records.items) change.made _ _ more.are.need refl);
      max_id = rw (adds.max_id, ← whole, more.are.max_id)
          (sym (fold-append (λ m r. max m (id_of r)) 0 (db.records ++ old.records.items) change.made));
      low = adds.low;
    }

    pub more_adds : AddsTo group (with_added db new) (Ok tt)
        (change_to group labels (fresh_for layout) change)
    more_adds = (
      changed group change,
      rw more.within,
      (λ i. record {
        header = grown_to db.header (last_is i) db.header.seq;
        records = joined i;
      }),
    )

-- ---- what is placed beside both

pub placed_both : (records : List Record) (wanted : List Wanted)
    → placed (taken_in records) 0 wanted ≡ placed (taken_in (in_order records)) 0 wanted
placed_both records wanted = placed_same _ _ 0 wanted (taken_permuted _ _ (in_order_same records))

-- exactly what the partitions take, or the piece that finds no place
pub places_beside : (taken : List Taken) (r : Result (List Taken) ℕ) (answer : FreeMaps × RVec Taken)
    → PlacesAs (Ok answer) taken r → PlacesBeside (Ok answer) taken (by_place refusals.NoSpace r)
places_beside taken (Ok spots) answer (same, maps) = (rw same, rw same maps)
places_beside taken (Err place) answer none = absurd none

pub refused_beside : (r : Result (List Taken) ℕ) (piece : ℕ) → PlacesAs (Err piece) [] r
    → by_place refusals.NoSpace r ≡ Err (refusals.NoSpace piece)
refused_beside (Ok spots) piece none = absurd none
refused_beside (Err place) piece same = rw same

-- ---- none is added

module _ (db : Database) (up : Rising db.records) where
  in_its_order : db.records ≡ in_order db.records
  in_its_order = one_next _ _ (IsPermutation-refl db.records) up (rises_again _ _ (IsPermutation-refl db.records) up)

  -- a group to which nothing is added is itself,
  pub with_none : (a : Additions) → a.records.items ≡ [] → a.last ≡ db.header.last → with_added db a ≡ db
  with_none a none same = rw (none, same, append-nil, ← in_its_order)

  -- where no record is added, what is kept beside the records is the group's
  pub none_added : (a : Additions) → a.records.items ≡ [] → AreMapsOf a.maps (taken_in db.records) → a.need ≡ need_of db.records
      → a.max_id ≡ max_id db.records → a.last < 2 ^ 32 → AreAdditions db.records a
  none_added a none maps need top low = record {
    rising = rw (none, append-nil, ← in_its_order) up;
    disks = rw (none, append-nil, ← in_its_order);
    maps = rw (none, append-nil) maps;
    need = rw (none, append-nil) need;
    max_id = rw (none, append-nil) top;
    low = low;
  }

-- ---- create, where both are the group

-- no other volume has the name
pub record IsNew (db : Database) (labels : List Label) (a : Additions) (name : List ℕ) (guid : ℕ) (layout : NewLayout)
    : Type 0 where
  pub are : AreAdditions db.records a
  pub free : is_some (volume_named name (in_order (db.records ++ a.records.items))) ≡ false

module _ {db : Database} {labels : List Label} {a : Additions} {name : List ℕ} {guid : ℕ} {layout : NewLayout}
    (new : IsNew db labels a name guid layout) where
  abbrev both : Database
  both = with_added db a

  -- what is asked of a group
  abbrev asks : Database → Result (List Wanted) Refusal
  asks group = open_wanted group labels (words_of layout) (against_layout layout)

  same_asked : asks db ≡ asks both
  same_asked = rw (asked_same labels db.records both.records new.are.disks 0 (words_of layout))

  -- it is created as the steps say
  pub as_new : created both labels name guid layout
      ≡ and_then (asks db) (λ wanted. and_then (spots_for both wanted) (λ spots.
      change_to both labels (fresh_for layout) (change_for both name guid layout spots)))
  unfolding created
  as_new = rw (new.free, ← same_asked)

  -- what is placed lies there
  pub lie_there : {wanted : List Wanted} → asks db ≡ Ok wanted → (ts : List Taken) → spots_for both wanted ≡ Ok ts
      → ArePlaced both labels (words_of layout) (against_layout layout) wanted ts
  lie_there {wanted} asked ts is =
      let words = asked_open both labels (words_of layout) (against_layout layout) wanted (sym same_asked ∙ asked) in
      record { asked = words.0; free = words.1; places = place_ok refusals.NoSpace _ ts is }

-- ---- create, where no batch is open: nothing was added before

pub created_next : (db : Database) (labels : List Label) (name : List ℕ) (guid : ℕ) (layout : NewLayout) (seq : ℕ) (old new : Additions) → with_added db old ≡ db
    → AddsTo (with_added db old) (with_added db new) (Ok tt) (created (with_added db old) labels name guid layout) → seq ≡ db.header.seq + 1
    → created db labels name guid layout ≡ Ok (at_seq seq (with_added db new))
created_next db labels name guid layout seq old new whole (next, is, same) seq_is =
    let next_is : created db labels name guid layout ≡ Ok next = rw whole at is in
    let seqs : next.header.seq ≡ seq = ap (λ (d : Database). d.header.seq) (sym (created_done db labels name guid layout next next_is).next_is) ∙ sym seq_is in
    next_is ∙ (λ i. Ok (at_seq (seqs i) (same i)))
