-- What holds while damaged copies are closed, and then all that are behind are healed.
use Rattle.std.proofs.Common.{◌≡◌, inl, inr, ℕ, ◌+◌, ◌*◌, ◌/◌, ◌<◌, ◌≤◌, Bool, true, false, List, length, get_or, slice_index, slice_get, Option, Some, None, Result, Ok, Err, refl, sym, ◌∙◌, ap, subst, arith}
use Rattle.std.specs.Prelude.{IsErrOf, IsErrAnd, OnOk}
use Rattle.std.proofs.lemmas.Option.{slice_get_within}
use Rattle.ldm_host.specs.Seen.{Seen}
use Rattle.ldm_host.specs.Moves.{AtEachMoment, Works}
use Rattle.ldm_host.specs.declared.host.Failed.{Failed}
use Rattle.ldm_host.proofs.Relations.{moments_trans, works_then, works_as}
use Rattle.ldm_label.specs.declared.Label.{Label}
use Rattle.ldm_group.specs.Database.{Database}
use Rattle.ldm_copy.specs.declared.answer.CopyFault.{CopyFault}
use Rattle.ldm_copy.specs.declared.fault.OpenFault.{OpenFault}
use Rattle.ldm_copy.specs.declared.found.Found.{Found}
use Rattle.ldm_copy.specs.declared.notes.Note.{Note}
use Rattle.ldm_copy.specs.declared.notes.Note.TheVariants as notes
use Rattle.ldm_found.specs.Facts.{IsSoundGroup}
use Rattle.ldm_found.specs.Labels.{AreSameOutside}
use Rattle.ldm_found.specs.Opening.{IsGroupIn}
use Rattle.ldm_found.specs.declared.fault.OpenError.{OpenError}
use Rattle.ldm_found.specs.declared.fault.OpenError.TheVariants as errors
use Rattle.ldm_found.proofs.GroupLaws.{one_group}
use Rattle.ldm_init.specs.Images.{NothingPending}
use Rattle.ldm_store.specs.Kept.{AlwaysKept, HoldsNoneFor, IsCurrent, IsKept, Opens}
use Rattle.ldm_store.specs.Turning.{AllHave}
use Rattle.ldm_store.specs.Healing.{is_behind}
use Rattle.ldm_store.specs.Settling.{IsHandedFew, IsSettled, KeepsOneGroup}
use Rattle.ldm_store.specs.Sessions.{Edited}
use Rattle.ldm_store.proofs.OpensLaws.{kept_opens_found}
use Rattle.ldm_store.proofs.ResultLaws.{same_error}
use Rattle.ldm_store.proofs.SettleLaws.{kept_from, one_label, same_found}
use Rattle.ldm_damage.specs.declared.damage.Damage.{Damage}
use Rattle.ldm_damage.specs.Views.{AreDamaged, no_damage}
use Rattle.ldm_repair.specs.Closing.{ClosingKeepsGroup, GoodIsPast, IsClosing, ClosesAll, closing_bytes}
use Rattle.ldm_repair.specs.Repairing.{damaged_label, HoldsRepaired, IsRepairing, repair_handed}
use Rattle.ldm_repair.specs.Stages.{HealsClosed}
use Rattle.ldm_repair.proofs.GoodLabelLaws.{damaged_closed}
use Rattle.ldm_repair.proofs.RepairLaws.{found_apart}

-- ---- a group that was found

-- images that hold a group which may be edited don't hold none for a fault
not_none_for : (images : List (List ℕ)) (found : Found) (fault : OpenFault) → IsGroupIn images (Ok found) → found.blocked ≡ None → HoldsNoneFor fault images → ⊥
not_none_for images found fault is editable (inl none) = let e : Ok found ≡ Err fault = one_group images (Ok found) (Err fault) is none in cc
not_none_for images found fault is editable (inr other) =
    let same = same_found images other.0 found other.1 is in
    let e : Some fault ≡ None = sym other.2 ∙ ap (λ (f : Found). f.blocked) same ∙ editable in cc

pub outside_trans : (labels : List Label) (a b c : List (List ℕ)) → AreSameOutside labels a b → AreSameOutside labels b c → AreSameOutside labels a c
outside_trans labels a b c first second disk label at =
    let one = first disk label at in
    let two = second disk label at in
    record { size = two.size ∙ one.size; outside = λ k far. two.outside k far ∙ one.outside k far }

-- images that open as the group
pub opens_repairs : GoodIsPast → (start : Seen) (found : Found) (images : List (List ℕ)) (said : List ℕ) → Opens images found.db → AreSameOutside found.labels start.content images → IsRepairing found start images said
opens_repairs good start found images said opens outside = record {
  now = opens.found;
  past = good images opens.found opens.is;
  editable = opens.editable;
  same = opens.same;
  places = found_apart images opens.found opens.is;
  outside = outside;
  answered = inr opens;
}

-- ---- the bytes that a disk is handed

at_most_one : (damage : Damage) → closing_bytes damage ≤ 1
at_most_one damage = by_copy damage.copy refl
  where
    by_copy : (copy : Option CopyFault) → damage.copy ≡ copy → closing_bytes damage ≤ 1
    by_copy None is = rw is (omega arith)
    by_copy (Some fault) is = rw is (omega arith)

module _ (images views : List (List ℕ)) (damages : List Damage) (found : Found) (are : AreDamaged images damages views) (labels : damaged_label damages ≡ None) (is : IsGroupIn views (Ok found))
    (sound : IsSoundGroup found) where
  -- a copy that isn't behind is handed no byte: it isn't damaged
  none_closed : (disk : ℕ) (note : Note) → slice_get found.notes disk ≡ Some note → is_behind found.db.header.seq note ≡ false → closing_bytes (get_or damages disk no_damage) ≡ 0
  none_closed disk note noted ahead = by_copy (get_or damages disk no_damage).copy refl
    where
      by_copy : (copy : Option CopyFault) → (get_or damages disk no_damage).copy ≡ copy → closing_bytes (get_or damages disk no_damage) ≡ 0
      by_copy None is = rw is refl
      by_copy (Some fault) damaged =
          let lt : disk < length found.labels = omega (arith, slice_get_within found.notes disk note noted, sound.one_note) in
          let e : Some note ≡ Some notes.Closed = sym noted ∙ damaged_closed images views damages found are labels is disk fault lt damaged in
          let shut : note ≡ notes.Closed = cc in
          let late : true ≡ false = ap (is_behind found.db.header.seq) (sym shut) ∙ ahead in
          absurd cc

  pub few_bytes : (before mid after : List ℕ) → ((disk : ℕ) → slice_index mid disk ≤ slice_index before disk + closing_bytes (get_or damages disk no_damage)) → IsHandedFew found mid after
      → (disk : ℕ) (note : Note) → slice_get found.notes disk ≡ Some note → slice_index after disk ≤ slice_index before disk + repair_handed found note
  few_bytes before mid after closed healed disk note noted = by_late (is_behind found.db.header.seq note) refl
    where
      by_late : (late : Bool) → is_behind found.db.header.seq note ≡ late → slice_index after disk ≤ slice_index before disk + repair_handed found note
      by_late true late =
          let one = closed disk in
          let gate = at_most_one (get_or damages disk no_damage) in
          let body = healed.most disk in
          let all : slice_index after disk ≤ slice_index before disk + (512 * (found.db.header.last / 4) + 2) = omega (arith, one, gate, body) in
          rw late all
      by_late false late =
          let one = closed disk in
          let none = none_closed disk note noted late in
          let spared = healed.spared disk note noted late in
          let all : slice_index after disk ≤ slice_index before disk + 0 = omega (arith, one, none, spared) in
          rw late all

-- nothing but the closing was done
pub nothing_more : (found : Found) (wrote : List ℕ) → IsHandedFew found wrote wrote
nothing_more found wrote = record { spared = λ disk note noted ahead. refl; most = λ disk. omega arith }

-- ---- from the images of the start on

module _ (closing : ClosingKeepsGroup) (a : Seen) (found : Found) (damages : List Damage) (views : List (List ℕ)) (are : AreDamaged a.content damages views) (is : IsGroupIn views (Ok found))
    (editable : found.blocked ≡ None) where
  -- while copies are closed the images hold the group past damage
  pub closing_repairs : (images : List (List ℕ)) (said : List ℕ) → IsClosing found.labels views a images said → IsRepairing found a images said
  closing_repairs images said moment = record {
    now = found;
    past = closing a.content views images damages (Ok found) are moment.between is;
    editable = editable;
    same = refl;
    places = found_apart views found is;
    outside = moment.outside;
    answered = inl moment.said_is;
  }

-- from the closed copies on
module _ (good : GoodIsPast) (a b c : Seen) (found : Found) (held : IsGroupIn b.content (Ok found)) (editable : found.blocked ≡ None) (one_each : length b.content ≡ length b.sizes) (settled : NothingPending b)
    (outside : AreSameOutside found.labels a.content b.content) where
  abbrev one_disk : length b.sizes ≡ length found.labels
  one_disk = one_label b found one_each held

  pub always_kept : (failed : Type 0) → KeepsOneGroup b c failed → AlwaysKept found.labels found.db found.db b c
  always_kept failed keeps = kept_from b c found held one_disk (λ disk lt. settled disk (omega (arith, lt, one_disk))) keeps.any

  pub healing_repairs : AlwaysKept found.labels found.db found.db b c → AtEachMoment b c (IsRepairing found a)
  healing_repairs always images said left =
      let kept = always images said left in
      opens_repairs good a found images said (kept_opens_found b found images said held editable kept) (outside_trans found.labels a.content b.content images outside kept.outside)

  pub faultless : (fault : OpenFault) → HoldsNoneFor fault b.content → ⊥
  faultless fault none = not_none_for b.content found fault held editable none

  -- in the end each copy is open with the group
  pub holds_repaired : (tells : Type 0) → tells → (session : Edited) → IsSettled tells b.content session c → AlwaysKept found.labels found.db found.db b c → c.left_since b.clock c.content c.said
      → HoldsRepaired found a c
  holds_repaired tells told session done always now = record {
    opens = kept_opens_found b found c.content c.said held editable kept;
    current = subst (λ (l : List Label). AllHave l c.content (IsCurrent found.db)) labels
        (subst (λ (db : Database). AllHave session.group.labels c.content (IsCurrent db)) db (done.holds told).holds.current);
    outside = outside_trans found.labels a.content b.content c.content outside kept.outside;
    settled = λ disk lt. done.rests.settled disk (omega (arith, lt, done.rests.lie.one_label));
  }
    where
      kept : IsKept found.labels found.db found.db b c.content c.said
      kept = always c.content c.said now

      same : (done.opened told).found ≡ found
      same = same_found b.content (done.opened told).found found (done.opened told).is held

      labels : session.group.labels ≡ found.labels
      labels = (done.opened told).labels ∙ ap (λ (f : Found). f.labels) same

      db : session.group.db ≡ found.db
      db = (done.opened told).db ∙ ap (λ (f : Found). f.db) same

-- ---- all of it

-- where an error was handed on, nothing is asked of a value
pub no_ok : (result : Result (Unit {0}) OpenError) (error : OpenError) (P : Type 0) → IsErrAnd result (λ e. e ≡ error) → OnOk result P
no_ok (Ok value) error P handed = absurd handed
no_ok (Err other) error P handed = tt

module _ (closing : ClosingKeepsGroup) (good : GoodIsPast) (tells : Type 0) (a : Seen) (found : Found) (damages : List Damage) (sound : IsSoundGroup found) (editable : found.blocked ≡ None)
    (labels : damaged_label damages ≡ None) (past : tells → (views : List (List ℕ)) × AreDamaged a.content damages views × IsGroupIn views (Ok found)) where
  closing_moments : (b : Seen) (result : Result (Unit {0}) Failed) → ClosesAll tells result found.labels damages a b → tells → AtEachMoment a b (IsRepairing found a)
  closing_moments b result closes told images said left =
      let p = past told in
      closing_repairs closing a found damages p.0 p.1 p.2 editable images said (closes.any_moment told p.0 p.1 images said left)

  closing_unsaid : (b : Seen) (result : Result (Unit {0}) Failed) → ClosesAll tells result found.labels damages a b → tells → AtEachMoment a b (λ images said. said ≡ a.said)
  closing_unsaid b result closes told images said left = let p = past told in (closes.any_moment told p.0 p.1 images said left).said_is

  all_bytes : (b : Seen) (result : Result (Unit {0}) Failed) (after : List ℕ) → ClosesAll tells result found.labels damages a b → IsHandedFew found b.wrote after → tells
      → (disk : ℕ) (note : Note) → slice_get found.notes disk ≡ Some note → slice_index after disk ≤ slice_index a.wrote disk + repair_handed found note
  all_bytes b result after closes few told = let p = past told in few_bytes a.content p.0 damages found p.1 labels p.2 sound a.wrote b.wrote after closes.handed few

  -- a disk failed while copies were closed
  pub closing_failed : (b : Seen) (failed : Failed) (result : Result (Unit {0}) OpenError) → ClosesAll tells (Err failed) found.labels damages a b → IsErrAnd result (λ e. e ≡ errors.Disk)
      → HealsClosed tells result found a b
  closing_failed b failed result closes handed = record {
    moments = closing_moments b (Err failed) closes;
    unsaid = closing_unsaid b (Err failed) closes;
    done = λ told. no_ok result errors.Disk (HoldsRepaired found a b) handed;
    handed = all_bytes b (Err failed) b.wrote closes (nothing_more found b.wrote);
    faultless = λ told fault is. let e : errors.Disk ≡ errors.Fault fault = same_error result errors.Disk (errors.Fault fault) handed is in cc;
    works = works_as closes.works (λ is. refl);
  }

  module _ (b c : Seen) (failed : Type 0) (closes : ClosesAll tells (Ok tt) found.labels damages a b) (one_each : tells → length b.content ≡ length b.sizes) (keeps : tells → KeepsOneGroup b c failed)
      (works : Works b c failed) where
    held : tells → IsGroupIn b.content (Ok found)
    held told = let p = past told in subst (λ (l : List (List ℕ)). IsGroupIn l (Ok found)) (sym (closes.done told p.0 p.1)) p.2

    always : tells → AlwaysKept found.labels found.db found.db b c
    always told = always_kept good a b c found (held told) editable (one_each told) closes.settled (closes.outside told) failed (keeps told)

    -- how it ends where all was closed
    pub healing_ends : (result : Result (Unit {0}) OpenError) → (tells → (other : Found) → IsGroupIn b.content (Ok other) → IsHandedFew other b.wrote c.wrote)
        → (tells → OnOk result (HoldsRepaired found a c)) → (tells → (fault : OpenFault) → IsErrOf result (errors.Fault fault) → HoldsNoneFor fault b.content) → (IsErrOf result errors.Disk → failed)
        → HealsClosed tells result found a c
    healing_ends result handed done fault disk = record {
      moments = λ told. moments_trans a b c (IsRepairing found a) closes.works.later works.later (closing_moments b (Ok tt) closes told)
          (healing_repairs good a b c found (held told) editable (one_each told) closes.settled (closes.outside told) (always told));
      unsaid = λ told. moments_trans a b c (λ images said. said ≡ a.said) closes.works.later works.later (closing_unsaid b (Ok tt) closes told)
          (λ images said left. (always told images said left).said_is ∙ closes.works.quiet.said);
      done = done;
      handed = λ told. all_bytes b (Ok tt) c.wrote closes (handed told found (held told)) told;
      faultless = λ told other is. faultless good a b c found (held told) editable (one_each told) closes.settled (closes.outside told) other (fault told other is);
      works = works_then closes.works works disk;
    }

    -- all was healed
    pub healing_done : (session : Edited) → IsSettled tells b.content session c → (tells → c.left_since b.clock c.content c.said) → tells → HoldsRepaired found a c
    healing_done session done now told =
        holds_repaired good a b c found (held told) editable (one_each told) closes.settled (closes.outside told) tells told session done (always told) (now told)
