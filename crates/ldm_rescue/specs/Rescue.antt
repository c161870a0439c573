-- What the job of a rescue answers: a refusal, or sectors of a volume with the ranges of lost ones.
use Rattle.std.specs.Prelude.{◌≡◌, ◌≢◌, ◌⊎◌, ℕ, ◌+◌, ◌≤◌, ◌++◌, ◌==◌, ◌||◌, nat_lt, List, [], codes, Option, Some, None, Result, Ok, Err, if◌then◌else◌}
use Rattle.ldm_host.specs.Seen.{Seen}
use Rattle.ldm_host.specs.Moves.{Begins, SameInput, Still}
use Rattle.ldm_host.specs.declared.host.DiskRange.{DiskRange}
use Rattle.ldm_records.specs.declared.types.Volume.{Volume}
use Rattle.ldm_group.specs.Looks.{volume_named}
use Rattle.ldm_places.specs.Layouts.{Layout}
use Rattle.ldm_places.specs.declared.shape.LayoutFault.{LayoutFault}
use Rattle.ldm_layout.specs.Volumes.{layout_of}
use Rattle.ldm_copy.specs.declared.fault.OpenFault.{OpenFault}
use Rattle.ldm_copy.specs.declared.found.Found.{Found}
use Rattle.ldm_found.specs.Opening.{IsGroupIn}
use Rattle.ldm_text.specs.Texts.{text_of_refusal}
use Rattle.ldm_words.specs.declared.job.Section.{Section}
use Rattle.ldm_words.specs.declared.status.Status.TheVariants.{Done, Refused, TalkFault, Usage}
use Rattle.ldm_look.specs.Opening.{text_of_open_fault}
use Rattle.ldm_look.specs.Runs.{Causes}
use Rattle.ldm_look.specs.Said.{HasAnswer, SaysNothing}
use Rattle.ldm_rescue.specs.declared.losses.Loss.{Loss}
use Rattle.ldm_rescue.specs.declared.rescuing.Rescue.{Rescue}
use Rattle.ldm_rescue.specs.Losses.{lost_in, AreRanges}
use Rattle.ldm_rescue.specs.Told.{AreTold}

-- what is said, which ranges are told, and how the rescue ends
pub record Outcome : Type 0 where
  pub text : List ℕ
  pub told : List Loss
  pub end : Rescue

-- the end where so many sectors were said, of which so many are lost
abbrev pub end_of : ℕ → ℕ → Rescue
end_of sectors lost = record { status = if lost == 0 then Done else Refused; totals = Some (record { sectors = sectors; lost = lost }) }

-- the refusal for this reason
abbrev pub refusal : List ℕ → Outcome
refusal reason = record { text = text_of_refusal reason; told = []; end = record { status = Refused; totals = None } }

-- the sectors that are asked for, where the volume has them: all, or those of a section
abbrev pub asked_section : ℕ → Option Section → Option Section
asked_section size None = Some (record { first = 0; count = size })
asked_section size (Some section) = if (section.count == 0) || nat_lt size (section.first + section.count) then None else Some section

-- All sectors of the section are said, after these reads failed.
pub record IsSaid (images : List (List ℕ)) (failed : List DiskRange) (found : Found) (l : Layout) (section : Section) (outcome : Outcome) : Type 0 where
  pub are : AreTold images failed found l section.first section.count outcome.text outcome.told
  pub ranges : AreRanges section.first (section.first + section.count) outcome.told
  pub end : outcome.end ≡ end_of section.count (lost_in outcome.told)

-- Some first sectors of the section are.
pub record IsBegun (images : List (List ℕ)) (failed : List DiskRange) (found : Found) (l : Layout) (section : Section) (outcome : Outcome) : Type 0 where
  pub count : ℕ
  pub few : count ≤ section.count
  pub are : AreTold images failed found l section.first count outcome.text outcome.told

-- an outcome that is one of the sectors that are asked for, or the refusal
abbrev pub OfAsked : (Section → Outcome → Type 0) → Option Section → Outcome → Type 0
OfAsked Is None outcome = outcome ≡ refusal (codes "bad range")
OfAsked Is (Some section) outcome = Is section outcome

-- by the volume's layout, which each volume of a group that was found has
abbrev pub OfLayout : (Layout → Section → Outcome → Type 0) → Option Section → Result Layout LayoutFault → Outcome → Type 0
OfLayout Is section (Ok l) outcome = OfAsked (Is l) (asked_section l.size section) outcome
OfLayout Is section (Err fault) outcome = ⊥

abbrev pub OfVolume : (Layout → Section → Outcome → Type 0) → Option Section → Found → Option Volume → Outcome → Type 0
OfVolume Is section found None outcome = outcome ≡ refusal (codes "no volume")
OfVolume Is section found (Some v) outcome = OfLayout Is section (layout_of found.db.records v) outcome

-- of the group, or the refusal for its first fault
abbrev pub OfGroup : (Found → Layout → Section → Outcome → Type 0) → List ℕ → Option Section → Result Found OpenFault → Outcome → Type 0
OfGroup Is name section (Ok found) outcome = OfVolume (Is found) section found (volume_named name found.db.records) outcome
OfGroup Is name section (Err fault) outcome = outcome ≡ refusal (text_of_open_fault fault)

-- of the group that the images hold
abbrev pub OfImages : (Found → Layout → Section → Outcome → Type 0) → List ℕ → Option Section → List (List ℕ) → Outcome → Type 0
OfImages Is name section images outcome = (group : Result Found OpenFault) × IsGroupIn images group × OfGroup Is name section group outcome

-- What is answered where a section of the volume of this name, or all of it, is to be rescued off these images, after these reads failed.
abbrev pub IsRescueAnswer : List ℕ → Option Section → List (List ℕ) → List DiskRange → Outcome → Type 0
IsRescueAnswer name section images failed outcome = OfImages (IsSaid images failed) name section images outcome

-- a front of that: the refusal, or some first sectors
abbrev pub IsRescueFront : List ℕ → Option Section → List (List ℕ) → List DiskRange → Outcome → Type 0
IsRescueFront name section images failed outcome = OfImages (IsBegun images failed) name section images outcome

-- this was said since the old state, these ranges were told, and the rescue ended so
pub record Yields (hears : Type 0) (old new : Seen) (before after : List Loss) (end : Rescue) (outcome : Outcome) : Type 0 where
  pub said : new.said ≡ old.said ++ outcome.text
  pub told : hears → after ≡ before ++ outcome.told
  pub ended : end ≡ outcome.end

-- How a rescue ends. Done and Refused are an outcome of the first kind, whole; after a fault of the talk, what was said is the beginning of
-- the text of one of the second kind. With any other status nothing was said or told.
pub record Rescues (tells hears : Type 0) (old new : Seen) (before after : List Loss) (IsOne IsFront : Outcome → Type 0) (end : Rescue) : Type 0 where
  pub answers : tells → HasAnswer end.status → (outcome : Outcome) × IsOne outcome × Yields hears old new before after end outcome
  pub front : tells → end.status ≡ TalkFault → (new.said ≡ old.said) ⊎ ((outcome : Outcome) × IsFront outcome × Begins new.said (old.said ++ outcome.text))
  pub silent : SaysNothing end.status → (new.said ≡ old.said) × (after ≡ before)
  pub no_totals : (HasAnswer end.status → ⊥) → end.totals ≡ None
  pub no_usage : end.status ≢ Usage
  pub causes : Causes old new end.status
  pub still : Still old new
  pub input : SameInput old new
