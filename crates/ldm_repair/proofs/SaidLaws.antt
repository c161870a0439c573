-- What becomes of the host where a repair was done, or not, and that was said.
use Rattle.std.proofs.Common.{◌≡◌, ◌≢◌, ℕ, ◌+◌, ◌<◌, ◌≤◌, List, length, slice_index, slice_get, Option, Some, None, Result, Ok, Err, sym, ◌∙◌, ap, subst}
use Rattle.ldm_host.specs.Seen.{Seen, image}
use Rattle.ldm_host.specs.Moves.{AtEachMoment, Still}
use Rattle.ldm_host.proofs.Relations.{later_trans, moments_trans}
use Rattle.ldm_label.specs.declared.LabelFault.{LabelFault}
use Rattle.ldm_copy.specs.declared.fault.OpenFault.{OpenFault}
use Rattle.ldm_copy.specs.declared.found.Found.{Found}
use Rattle.ldm_copy.specs.declared.notes.Note.{Note}
use Rattle.ldm_found.specs.Labels.{AreSameOutside}
use Rattle.ldm_found.specs.Opening.{IsGroupIn}
use Rattle.ldm_found.specs.declared.fault.OpenError.{OpenError}
use Rattle.ldm_found.specs.declared.fault.OpenError.TheVariants as errors
use Rattle.ldm_store.specs.Kept.{Opens, IsCurrent}
use Rattle.ldm_store.specs.Turning.{AllHave}
use Rattle.ldm_words.specs.declared.status.Status.{Status}
use Rattle.ldm_words.specs.declared.status.Status.TheVariants.{Done}
use Rattle.ldm_look.specs.Said.{Answer, SaysNothing}
use Rattle.ldm_look.specs.Runs.{Says}
use Rattle.ldm_look.proofs.EndLaws.{Failing, ends_first, ends_silent}
use Rattle.ldm_damage.specs.declared.damage.Damage.{Damage}
use Rattle.ldm_damage.specs.Views.{AreDamaged}
use Rattle.ldm_repair.specs.Closing.{GoodIsPast, OneGroupPast}
use Rattle.ldm_repair.specs.Repairing.{damaged_copies, damaged_label, HoldsRepaired, IsRepairAnswer, IsRepairing, IsRepairPast, MayRepair, repaired_unless, repair_handed, text_of_repair}
use Rattle.ldm_repair.specs.Stages.{DoesRepair, HealsClosed}
use Rattle.ldm_repair.proofs.HealLaws.{opens_repairs}
use Rattle.ldm_repair.proofs.RepairLaws.{left_is_content}

-- what is held stays while no disk is changed
holds_still : (found : Found) (a c d : Seen) → Still c d → HoldsRepaired found a c → HoldsRepaired found a d
holds_still found a c d still holds = record {
  opens = subst (λ (l : List (List ℕ)). Opens l found.db) (sym still.content) holds.opens;
  current = subst (λ (l : List (List ℕ)). AllHave found.labels l (IsCurrent found.db)) (sym still.content) holds.current;
  outside = subst (λ (l : List (List ℕ)). AreSameOutside found.labels a.content l) (sym still.content) holds.outside;
  settled = λ disk lt x left.
      holds.settled disk (subst (λ (l : List ℕ). disk < length l) still.later.sizes lt) x ((still.left disk x).0 left) ∙ ap (λ (l : List (List ℕ)). image l disk) (sym still.content);
}

-- while the answer is said the images open as the group
said_moments : GoodIsPast → (found : Found) (a c d : Seen) → length c.content ≡ length c.sizes → HoldsRepaired found a c → Still c d → AtEachMoment c d (IsRepairing found a)
said_moments good found a c d one_each holds still images said left =
    let same = left_is_content c images one_each holds.settled (still.moments images said left).0 in
    opens_repairs good a found images said
    (subst (λ (l : List (List ℕ)). Opens l found.db) (sym same) holds.opens)
    (subst (λ (l : List (List ℕ)). AreSameOutside found.labels a.content l) (sym same) holds.outside)

-- the text of a group that may be edited is its answer
repair_answered : (images views : List (List ℕ)) (damages : List Damage) (found : Found) (text : List ℕ) (answer : Answer) → AreDamaged images damages views → damaged_label damages ≡ None → IsGroupIn views (Ok found)
    → found.blocked ≡ None → text ≡ text_of_repair found.db.header.seq (damaged_copies damages) → answer ≡ (text, Done) → IsRepairAnswer images answer
repair_answered images views damages found text answer are labels is editable made said = record {
  damages = damages;
  views = views;
  are = are;
  is = subst (λ (o : Option (ℕ × LabelFault)). IsRepairPast o damages views answer) (sym labels) (
    Ok found,
    is,
    said ∙ ap (λ (t : List ℕ). (t, Done)) made ∙ ap (λ (o : Option OpenFault). repaired_unless o (text_of_repair found.db.header.seq (damaged_copies damages))) (sym editable),
  );
}

module _ (good : GoodIsPast) (one : OneGroupPast) (tells : Type 0) (a c : Seen) (found : Found) (damages : List Damage) (editable : found.blocked ≡ None) (labels : damaged_label damages ≡ None)
    (past : tells → (views : List (List ℕ)) × AreDamaged a.content damages views × IsGroupIn views (Ok found)) where
  may : tells → MayRepair a.content found
  may told = let p = past told in record { damages = damages; views = p.0; are = p.1; labels = labels; is = p.2; editable = editable }

  -- one group may be repaired
  one_found : tells → (other : Found) → MayRepair a.content other → found ≡ other
  one_found told other it =
      let p = past told in
      let e : Ok found ≡ Ok other = one a.content (Ok found) (Ok other) (record { damages = damages; views = p.0; are = p.1; is = p.2 })
      (record { damages = it.damages; views = it.views; are = it.are; is = it.is }) in
      cc

  -- it was repaired, and that is said
  pub repaired_said : {talks : Type 0} (d : Seen) (text : List ℕ) (status : Status) → HealsClosed tells (Ok tt) found a c → Says talks SaysNothing c d (λ answer. answer ≡ (text, Done)) status → (tells → talks)
      → (tells → length c.content ≡ length c.sizes) → text ≡ text_of_repair found.db.header.seq (damaged_copies damages) → DoesRepair tells a d status
  repaired_said d text status heals says both one_each made = record {
    ends = ends_first says.ends heals.works.later heals.works.quiet.said both (λ told answer said. let p = past told in repair_answered a.content p.0 damages found text answer p.1 labels p.2 editable made said);
    silent = λ none. says.silent none ∙ heals.works.quiet.said;
    input = record { input = says.input.input ∙ heals.works.quiet.input; heard = says.input.heard ∙ heals.works.quiet.heard };
    disks = ∣ record {
      later = later_trans a c d heals.works.later says.still.later;
      done = λ told ended other it. subst (λ (f : Found). HoldsRepaired f a d) (one_found told other it) (holds_still found a c d says.still (heals.done told));
      handed = λ told other it. subst (λ (f : Found). (disk : ℕ) (note : Note) → slice_get f.notes disk ≡ Some note → slice_index d.wrote disk ≤ slice_index a.wrote disk + repair_handed f note) (one_found told other it)
          (subst (λ (l : List ℕ). (disk : ℕ) (note : Note) → slice_get found.notes disk ≡ Some note → slice_index l disk ≤ slice_index a.wrote disk + repair_handed found note) (sym says.still.wrote) (heals.handed told));
      unwritten = λ told none. absurd (none found (may told));
    } ∣₁;
    stops = λ told. ∣ (λ other it. subst (λ (f : Found). AtEachMoment a d (IsRepairing f a)) (one_found told other it)
        (moments_trans a c d (IsRepairing found a) heals.works.later says.still.later (heals.moments told) (said_moments good found a c d (one_each told) (heals.done told) says.still))) ∣₁;
  }

  -- a disk failed, or memory ran out
  pub repair_stopped : (result : Result (Unit {0}) OpenError) (status : Status) → HealsClosed tells result found a c → Failing a c status → status ≢ Done → DoesRepair tells a c status
  repair_stopped result status heals fails undone = record {
    ends = ends_silent fails heals.works.quiet.said heals.works.later.said;
    silent = λ none. heals.works.quiet.said;
    input = record { input = heals.works.quiet.input; heard = heals.works.quiet.heard };
    disks = ∣ record {
      later = heals.works.later;
      done = λ told ended. absurd (undone ended);
      handed = λ told other it. subst (λ (f : Found). (disk : ℕ) (note : Note) → slice_get f.notes disk ≡ Some note → slice_index c.wrote disk ≤ slice_index a.wrote disk + repair_handed f note) (one_found told other it)
          (heals.handed told);
      unwritten = λ told none. absurd (none found (may told));
    } ∣₁;
    stops = λ told. ∣ (λ other it. subst (λ (f : Found). AtEachMoment a c (IsRepairing f a)) (one_found told other it) (heals.moments told)) ∣₁;
  }

-- a fault comes only of a host that doesn't tell its disks
pub repair_faulty : {tells talks : Type 0} {a c d : Seen} {found : Found} {IsOne : Answer → Type 0} {status : Status} (result : Result (Unit {0}) OpenError) (fault : OpenFault) → result ≡ Err (errors.Fault fault)
    → HealsClosed tells result found a c → Says talks SaysNothing c d IsOne status → (tells → talks) → DoesRepair tells a d status
repair_faulty {tells} {talks} {a} {c} {d} {found} {IsOne} {status} result fault failed heals says both = record {
  ends = ends_first says.ends heals.works.later heals.works.quiet.said both (λ told. absurd (untold told));
  silent = λ none. says.silent none ∙ heals.works.quiet.said;
  input = record { input = says.input.input ∙ heals.works.quiet.input; heard = says.input.heard ∙ heals.works.quiet.heard };
  disks = ∣ record {
    later = later_trans a c d heals.works.later says.still.later;
    done = λ told. absurd (untold told);
    handed = λ told. absurd (untold told);
    unwritten = λ told. absurd (untold told);
  } ∣₁;
  stops = λ told. absurd (untold told);
}
  where
    untold : tells → ⊥
    untold told = heals.faultless told fault failed
