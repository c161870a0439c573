-- A repair after what leaves the disks as they are, and one that comes to no write.
use Rattle.std.proofs.Common.{[], ◌≡◌, ◌≢◌, inl, inr, ⊎_elim, ℕ, ◌+◌, ◌<◌, ◌≤◌, List, length, slice_index, Ok, refl, sym, ◌∙◌, ap, subst, arith}
use Rattle.std.proofs.Math.Logic.{∥∥₁_elim, ∥∥₁_map, ∥∥₁_map₂}
use Rattle.std.proofs.Props.{props}
use Rattle.std.proofs.lemmas.List.{same_lists, get_or_default, append-nil}
use Rattle.ldm_host.specs.Seen.{Seen, Leaves, image}
use Rattle.ldm_host.specs.Moves.{DiskFailed, Later, Quiet, SameInput, Settles, Still}
use Rattle.ldm_host.proofs.Relations.{later_trans, moments_trans, rose_sooner, still_syncs, syncs_settles}
use Rattle.ldm_label.specs.declared.Label.{Label}
use Rattle.ldm_group.specs.Database.{Database}
use Rattle.ldm_group.specs.Order.{Rising}
use Rattle.ldm_rules.specs.Disjoint.{HasDisjointPlaces}
use Rattle.ldm_rules.proofs.SoundLaws.{disjoint}
use Rattle.ldm_copy.specs.declared.answer.CopyState.{CopyState}
use Rattle.ldm_copy.specs.declared.answer.CopyState.TheVariants.{Valid}
use Rattle.ldm_copy.specs.declared.found.Found.{Found}
use Rattle.ldm_found.specs.Copies.{HasCopy, IsCopyIn}
use Rattle.ldm_found.specs.Labels.{AreSameOutside}
use Rattle.ldm_found.specs.Opening.{IsGroupIn}
use Rattle.ldm_found.proofs.FoundLaws.{holds_group, holder}
use Rattle.ldm_found.proofs.GroupLaws.{sound_of}
use Rattle.ldm_init.specs.Images.{NothingPending}
use Rattle.ldm_store.proofs.CopyLaws.{outside_itself}
use Rattle.ldm_words.specs.declared.status.Status.{Status}
use Rattle.ldm_words.specs.declared.status.Status.TheVariants.{DiskFault, NoMemory}
use Rattle.ldm_look.specs.Said.{Answer, HasAnswer, SaysNothing}
use Rattle.ldm_look.specs.Runs.{Completes, Ends, NoFault, OnlyReads}
use Rattle.ldm_look.proofs.EndLaws.{Failing, answers_as, complete, ends_silent}
use Rattle.ldm_damage.specs.Looked.{Looked}
use Rattle.ldm_damage.proofs.LookLaws.{same_content, no_less, no_less_talk}
use Rattle.ldm_repair.specs.Repairing.{EveryStopRepairs, EveryStopSinceRepair, IsRepairAnswer, IsRepairing, MayRepair, RepairsDisks, repair_handed}
use Rattle.ldm_repair.specs.Stages.{DoesRepair}

-- ---- images at rest

-- where nothing is pending, a stop leaves what a read gives
pub left_is_content : (host : Seen) (images : List (List ℕ)) → length host.content ≡ length host.sizes → NothingPending host → Leaves host images → images ≡ host.content
left_is_content host images one_each settled left =
    same_lists images host.content (left.one_each ∙ sym one_each) (λ k d lt.
    let near : k < length host.sizes = omega (arith, lt, left.one_each) in
    get_or_default images k d [] lt ∙ settled k near (image images k) (left.each k near) ∙ get_or_default host.content k [] d (omega (arith, near, one_each)))

-- ---- a group that was found

rising_at : (labels : List Label) (images : List (List ℕ)) (disk : ℕ) (db : Database) → HasCopy labels images disk (λ c. c ≡ Valid db) → Rising db.records
rising_at labels images disk db has = there has.2.0 has.2.1 has.2.2
  where
    there : (copy : CopyState) → IsCopyIn (has.0, image images disk) (Ok copy) → copy ≡ Valid db → Rising db.records
    there copy is same = (subst (λ (c : CopyState). IsCopyIn (has.0, image images disk) (Ok c)) same is).2.2.rising

-- each sector of it has its own places
pub found_apart : (images : List (List ℕ)) (found : Found) → IsGroupIn images (Ok found) → HasDisjointPlaces found.db.records
found_apart images found is =
    let held = holds_group images found is in
    disjoint found.db.records found.labels (let on = holder images found held in rising_at found.labels images on.0 found.db on.2) (sound_of found.db found.labels held.faultless)

-- images that can be repaired, before anything is written
pub at_rest : (found : Found) (start : Seen) (images : List (List ℕ)) (said : List ℕ) → MayRepair start.content found → images ≡ start.content → said ≡ start.said → IsRepairing found start images said
at_rest found start images said may same silent = subst (λ (l : List (List ℕ)). IsRepairing found start l said) (sym same) (record {
  now = found;
  past = record { damages = may.damages; views = may.views; are = may.are; is = may.is };
  editable = may.editable;
  same = refl;
  places = found_apart may.views found may.is;
  outside = λ disk label at. outside_itself label (image start.content disk);
  answered = inl silent;
})

-- ---- what comes first leaves the disks as they are

-- what was seen before is answered as what is seen now
pub ends_behind : (tells : Type 0) (old mid new : Seen) (status : Status) → mid.content ≡ old.content → mid.said ≡ old.said → old.disk_faults ≤ mid.disk_faults → old.talk_faults ≤ mid.talk_faults
    → Ends tells mid new (IsRepairAnswer mid.content) status → Ends tells old new (IsRepairAnswer old.content) status
ends_behind tells old mid new status content said disks talk ends = record {
  answers = λ told. answers_as old mid new (IsRepairAnswer mid.content) (IsRepairAnswer old.content) status said
      (λ answer is. subst (λ (l : List (List ℕ)). IsRepairAnswer l answer) content is) (ends.answers told);
  no_usage = ends.no_usage;
  causes = record {
    disk = λ is. rose_sooner old.disk_faults mid.disk_faults new.disk_faults disks (ends.causes.disk is);
    talk = λ is. rose_sooner old.talk_faults mid.talk_faults new.talk_faults talk (ends.causes.talk is);
  };
}

module _ (tells : Type 0) (old mid new : Seen) (status : Status) (settles : Settles old mid) where
  may_still : (found : Found) → MayRepair old.content found → MayRepair mid.content found
  may_still found may = subst (λ (l : List (List ℕ)). MayRepair l found) (sym settles.content) may

  pub disks_behind : RepairsDisks tells mid new status → RepairsDisks tells old new status
  disks_behind disks = record {
    later = later_trans old mid new settles.later disks.later;
    done = λ told is found may. let held = disks.done told is found (may_still found may) in record {
      opens = held.opens;
      current = held.current;
      outside = subst (λ (l : List (List ℕ)). AreSameOutside found.labels l new.content) settles.content held.outside;
      settled = held.settled;
    };
    handed = λ told found may disk note at. subst (λ (l : List ℕ). slice_index new.wrote disk ≤ slice_index l disk + repair_handed found note) settles.wrote
        (disks.handed told found (may_still found may) disk note at);
    unwritten = λ told none. disks.unwritten told (λ found may. none found (subst (λ (l : List (List ℕ)). MayRepair l found) settles.content may)) ∙ settles.wrote;
  }

  repairing_behind : (found : Found) (images : List (List ℕ)) (said : List ℕ) → IsRepairing found mid images said → IsRepairing found old images said
  repairing_behind found images said now = record {
    now = now.now;
    past = now.past;
    editable = now.editable;
    same = now.same;
    places = now.places;
    outside = subst (λ (l : List (List ℕ)). AreSameOutside found.labels l images) settles.content now.outside;
    answered = ⊎_elim (λ silent. inl (silent ∙ settles.quiet.said)) (λ opens. inr opens) now.answered;
  }

  pub stops_behind : length old.content ≡ length old.sizes → NothingPending old → Later mid new → EveryStopRepairs mid new → EveryStopRepairs old new
  stops_behind one_each pending later stops found may =
      moments_trans old mid new (IsRepairing found old) settles.later later
      (λ images said left. let m = settles.moments images said left in at_rest found old images said may (left_is_content old images one_each pending m.0) m.1)
      (λ images said left. repairing_behind found images said (stops found (may_still found may) images said left))

  pub since_behind : (failed : Type 0) → Later mid new → EveryStopRepairs mid new → EveryStopSinceRepair failed old new
  since_behind failed later stops found may = inr (record {
    time = mid.clock;
    not_before = settles.later.clock;
    until = λ images said left. ⊎_elim
        (λ sooner. inl (settles.moments images said sooner))
        (λ since. inr since)
        (later.nothing_else old.clock images said settles.later.clock left);
    since = λ images said left. repairing_behind found images said (stops found (may_still found may) images said left);
  })

-- disks that were only looked at are synced, as far as they were before
still_settles : (old mid : Seen) → Still old mid → Quiet old mid → Settles old mid
still_settles old mid still quiet = syncs_settles 0 old mid (still_syncs 0 old mid still quiet)

pub repairs_behind : (tells : Type 0) (old mid new : Seen) (status : Status) (P : Type 0) → (tells → length old.content ≡ length old.sizes) → NothingPending old → Looked old mid P
    → DoesRepair tells mid new status → DoesRepair tells old new status
repairs_behind tells old mid new status P one_each pending looked does = record {
  ends = ends_behind tells old mid new status (same_content old mid looked.still) looked.quiet.said (no_less old mid looked.still) (no_less_talk old mid looked.still) does.ends;
  silent = λ nothing. does.silent nothing ∙ looked.quiet.said;
  input = record { input = does.input.input ∙ looked.quiet.input; heard = does.input.heard ∙ looked.quiet.heard };
  disks = ∥∥₁_map₂ looked.still does.disks (λ (still : Still old mid) (disks : RepairsDisks tells mid new status). disks_behind tells old mid new status (still_settles old mid still looked.quiet) disks);
  stops = λ told. ∥∥₁_map₂ looked.still (∥∥₁_map₂ does.disks (does.stops told) (λ (disks : RepairsDisks tells mid new status) (stops : EveryStopRepairs mid new). (disks.later, stops)))
      (λ (still : Still old mid) (both : Later mid new × EveryStopRepairs mid new).
      stops_behind tells old mid new status (still_settles old mid still looked.quiet) (one_each told) pending both.0 both.1);
}

-- ---- something failed before anything was written

pub disk_failing : (old new : Seen) → DiskFailed old new → Failing old new DiskFault
disk_failing old new failed = record { none = λ has. has; no_usage = λ is. cc; causes = record { disk = λ is. failed; talk = λ is. absurd cc } }

pub memory_failing : (old new : Seen) → Failing old new NoMemory
memory_failing old new = record { none = λ has. has; no_usage = λ is. cc; causes = record { disk = λ is. absurd cc; talk = λ is. absurd cc } }

module _ (tells : Type 0) (old new : Seen) (status : Status) (fails : Failing old new status) where
  pub ends_failed : Quiet old new → Ends tells old new (IsRepairAnswer old.content) status
  ends_failed quiet = ends_silent fails quiet.said ([], quiet.said ∙ sym (append-nil old.said))

  module _ (settles : Settles old new) where
    pub disks_failed : RepairsDisks tells old new status
    disks_failed = record {
      later = settles.later;
      done = λ told is. absurd (fails.none (subst HasAnswer (sym is) tt));
      handed = λ told found may disk note at. subst (λ (l : List ℕ). slice_index l disk ≤ slice_index old.wrote disk + repair_handed found note) (sym settles.wrote) (omega arith);
      unwritten = λ told none. settles.wrote;
    }

    pub stops_failed : length old.content ≡ length old.sizes → NothingPending old → EveryStopRepairs old new
    stops_failed one_each pending found may images said left =
        let m = settles.moments images said left in at_rest found old images said may (left_is_content old images one_each pending m.0) m.1

  pub repairs_failed : (P : Type 0) → (tells → length old.content ≡ length old.sizes) → NothingPending old → Looked old new P → DoesRepair tells old new status
  repairs_failed P one_each pending looked = record {
    ends = ends_failed looked.quiet;
    silent = λ nothing. looked.quiet.said;
    input = record { input = looked.quiet.input; heard = looked.quiet.heard };
    disks = ∥∥₁_map looked.still (λ (still : Still old new). disks_failed (still_settles old new still looked.quiet));
    stops = λ told. ∥∥₁_map looked.still (λ (still : Still old new). stops_failed (still_settles old new still looked.quiet) (one_each told) pending);
  }

-- ---- it was refused

pub repairs_refused : (talks tells : Type 0) (old new : Seen) (refusal : Answer) (status : Status) → (tells → talks) → (tells → IsRepairAnswer old.content refusal) → (tells → (found : Found) → MayRepair old.content found → ⊥)
    → OnlyReads talks old new (λ answer. answer ≡ refusal) status → DoesRepair tells old new status
repairs_refused talks tells old new refusal status both is none says = record {
  ends = record {
    answers = λ told. answers_as old old new (λ answer. answer ≡ refusal) (IsRepairAnswer old.content) status refl
        (λ answer same. subst (IsRepairAnswer old.content) (sym same) (is told)) (says.ends.answers (both told));
    no_usage = says.ends.no_usage;
    causes = says.ends.causes;
  };
  silent = says.silent;
  input = says.input;
  disks = ∣ record {
    later = says.still.later;
    done = λ told is found may. absurd (none told found may);
    handed = λ told found may. absurd (none told found may);
    unwritten = λ told no. says.still.wrote;
  } ∣₁;
  stops = λ told. ∣ (λ found may. absurd (none told found may)) ∣₁;
}

-- ---- with the syncs that come first

-- the host that was looked at, taken out of what it stood in
pub looked_out : {A P : Type 0} (seen : A → Seen) (a : Seen) (x y : A) → y ≡ x → Looked a (seen x) P → Looked a (seen y) P
looked_out {A} {P} seen a x y same looked = subst (λ (h : A). Looked a (seen h) P) (sym same) looked

-- disks that were only looked at have nothing pending
pub pending_still : (a b : Seen) → ∥ Still a b ∥₁ → NothingPending a → NothingPending b
pending_still a b still pending = ∥∥₁_elim still (hlevel props) (λ (s : Still a b) disk lt bytes left.
    pending disk (subst (λ (l : List ℕ). disk < length l) s.later.sizes lt) bytes ((s.left disk bytes).0 left) ∙ ap (λ (l : List (List ℕ)). image l disk) (sym s.content))

-- What becomes of a host whose disks are synced and then repaired.
pub record Repairs (tells : Type 0) (old new : Seen) (status : Status) : Type 0 where
  pub ends : Ends tells old new (IsRepairAnswer old.content) status
  pub silent : SaysNothing status → new.said ≡ old.said
  pub input : SameInput old new
  pub disks : ∥ RepairsDisks tells old new status ∥₁
  pub stops : tells → NothingPending old → ∥ EveryStopRepairs old new ∥₁
  pub since : tells → ∥ EveryStopSinceRepair (status ≡ DiskFault) old new ∥₁

pub repairs_synced : (tells : Type 0) (old mid new : Seen) (status : Status) → (tells → length old.content ≡ length old.sizes) → Settles old mid → DoesRepair tells mid new status → Repairs tells old new status
repairs_synced tells old mid new status one_each settles does = record {
  ends = ends_behind tells old mid new status settles.content settles.quiet.said settles.later.disk_faults settles.later.talk_faults does.ends;
  silent = λ nothing. does.silent nothing ∙ settles.quiet.said;
  input = record { input = does.input.input ∙ settles.quiet.input; heard = does.input.heard ∙ settles.quiet.heard };
  disks = ∥∥₁_map does.disks (disks_behind tells old mid new status settles);
  stops = λ told pending. ∥∥₁_map₂ does.disks (does.stops told)
      (λ (disks : RepairsDisks tells mid new status) (stops : EveryStopRepairs mid new). stops_behind tells old mid new status settles (one_each told) pending disks.later stops);
  since = λ told. ∥∥₁_map₂ does.disks (does.stops told)
      (λ (disks : RepairsDisks tells mid new status) (stops : EveryStopRepairs mid new). since_behind tells old mid new status settles (status ≡ DiskFault) disks.later stops);
}

pub repairs_unsynced : (tells : Type 0) (old new : Seen) → (tells → length old.content ≡ length old.sizes) → Settles old new → DiskFailed old new → Repairs tells old new DiskFault
repairs_unsynced tells old new one_each settles failed = record {
  ends = ends_failed tells old new DiskFault fails settles.quiet;
  silent = λ nothing. settles.quiet.said;
  input = record { input = settles.quiet.input; heard = settles.quiet.heard };
  disks = ∣ disks_failed tells old new DiskFault fails settles ∣₁;
  stops = λ told pending. ∣ stops_failed tells old new DiskFault fails settles (one_each told) pending ∣₁;
  since = λ told. ∣ (λ found may. inl (refl, settles.moments)) ∣₁;
}
  where
    fails : Failing old new DiskFault
    fails = disk_failing old new failed

-- where no count rose, the answer is whole
pub repairs_complete : (tells : Type 0) (old new : Seen) (status : Status) → Repairs tells old new status → tells → NoFault old new → status ≢ NoMemory → Completes old new (IsRepairAnswer old.content) status
repairs_complete tells old new status whole told none memory =
    complete old new (IsRepairAnswer old.content) status (λ is. absurd (whole.ends.no_usage is)) (whole.ends.answers told) whole.ends.causes none memory
