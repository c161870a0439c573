-- What `repair` answers, and what a stop leaves of it.
use Rattle.std.specs.Prelude.{◌≡◌, ◌⊎◌, ℕ, suc, ◌+◌, ◌*◌, ◌/◌, ◌≤◌, List, [], ◌∷◌, ◌++◌, codes, decimal, count_by, is_some, slice_index, slice_get, Option, Some, None, Ok, if◌then◌else◌}
use Rattle.ldm_host.specs.Seen.{Seen, Leaves}
use Rattle.ldm_host.specs.Moves.{AtEachMoment, Later}
use Rattle.ldm_label.specs.declared.LabelFault.{LabelFault}
use Rattle.ldm_group.specs.Database.{IsSameCore}
use Rattle.ldm_rules.specs.Disjoint.{HasDisjointPlaces}
use Rattle.ldm_copy.specs.declared.fault.OpenFault.{OpenFault}
use Rattle.ldm_copy.specs.declared.fault.OpenFault.TheVariants as faults
use Rattle.ldm_copy.specs.declared.found.Found.{Found}
use Rattle.ldm_copy.specs.declared.notes.Note.{Note}
use Rattle.ldm_found.specs.Labels.{AreSameOutside}
use Rattle.ldm_found.specs.Opening.{IsGroupIn}
use Rattle.ldm_init.specs.Images.{NothingPending}
use Rattle.ldm_store.specs.Kept.{IsCurrent, Opens}
use Rattle.ldm_store.specs.Turning.{AllHave}
use Rattle.ldm_store.specs.Healing.{is_behind, OnlyStill}
use Rattle.ldm_damage.specs.declared.damage.Damage.{Damage}
use Rattle.ldm_damage.specs.Views.{AreDamaged}
use Rattle.ldm_look.specs.Opening.{text_of_open_fault}
use Rattle.ldm_look.specs.Said.{Answer, refused}
use Rattle.ldm_look.specs.Looks.{IsGroupAnswer}
use Rattle.ldm_words.specs.declared.status.Status.{Status}
use Rattle.ldm_words.specs.declared.status.Status.TheVariants.{Done, DiskFault, NoMemory}
use Rattle.ldm_damage.specs.declared.error.DamageError.{DamageError}
use Rattle.ldm_damage.specs.declared.error.DamageError.TheVariants as errors
use Rattle.ldm_repair.specs.Closing.{IsGroupPast}

-- ---- the answer

-- the fault of the first label that is damaged, where the image in front has this number
abbrev pub label_at : ℕ → Option LabelFault → Option (ℕ × LabelFault) → Option (ℕ × LabelFault)
label_at image (Some fault) later = Some (image, fault)
label_at image None later = later

unfoldable pub damaged_from : ℕ → List Damage → Option (ℕ × LabelFault)
damaged_from image [] = None
damaged_from image (damage ∷ more) = label_at image damage.label (damaged_from (suc image) more)

-- the first image whose label is damaged, and its fault
abbrev pub damaged_label : List Damage → Option (ℕ × LabelFault)
damaged_label damages = damaged_from 0 damages

-- how many copies are damaged
abbrev pub damaged_copies : List Damage → ℕ
damaged_copies damages = count_by (λ damage. is_some damage.copy) damages

-- ok, the sequence of the group, and how many copies were damaged
abbrev pub text_of_repair : ℕ → ℕ → List ℕ
text_of_repair seq copies = codes "ok " ++ decimal seq ++ codes " repaired " ++ decimal copies ++ codes "\n"

-- that, or the refusal for what blocks editing
abbrev pub repaired_unless : Option OpenFault → List ℕ → Answer
repaired_unless None text = (text, Done)
repaired_unless (Some fault) text = refused (text_of_open_fault fault)

-- what is answered of the group past damage
abbrev pub repair_answer : ℕ → Found → Answer
repair_answer copies found = repaired_unless found.blocked (text_of_repair found.db.header.seq copies)

-- the refusal for a label that is damaged, or the answer of the group that the views hold
abbrev pub IsRepairPast : Option (ℕ × LabelFault) → List Damage → List (List ℕ) → Answer → Type 0
IsRepairPast (Some at) damages views answer = answer ≡ refused (text_of_open_fault (faults.Label at.0 at.1))
IsRepairPast None damages views answer = IsGroupAnswer (repair_answer (damaged_copies damages)) views answer

-- what is answered to `repair`
pub record IsRepairAnswer (images : List (List ℕ)) (answer : Answer) : Type 0 where
  pub damages : List Damage
  pub views : List (List ℕ)
  pub are : AreDamaged images damages views
  pub is : IsRepairPast (damaged_label damages) damages views answer

-- the status where it isn't known what is damaged
abbrev pub damage_status : DamageError → Status
damage_status errors.Disk = DiskFault
damage_status errors.NoMemory = NoMemory

-- ---- the disks

-- Each label of the images is good as it stands, and past damage they hold this group, which may be edited.
pub record MayRepair (images : List (List ℕ)) (found : Found) : Type 0 where
  pub damages : List Damage
  pub views : List (List ℕ)
  pub are : AreDamaged images damages views
  pub labels : damaged_label damages ≡ None
  pub is : IsGroupIn views (Ok found)
  pub editable : found.blocked ≡ None

-- At a moment of a repair. Past damage the images hold the group that was found, which may be edited. Each sector of a volume
-- there has its places, which no other has, and no byte outside the config areas is changed. Where something was said, the images open
-- as that group.
pub record IsRepairing (found : Found) (start : Seen) (images : List (List ℕ)) (said : List ℕ) : Type 0 where
  pub now : Found
  pub past : IsGroupPast images (Ok now)
  pub editable : now.blocked ≡ None
  pub same : IsSameCore now.db found.db
  pub places : HasDisjointPlaces now.db.records
  pub outside : AreSameOutside found.labels start.content images
  pub answered : (said ≡ start.said) ⊎ Opens images found.db

-- At every moment since the start that is so of whatever a stop may leave, where the images at the start can be repaired.
abbrev pub EveryStopRepairs : Seen → Seen → Type 0
EveryStopRepairs start host = (found : Found) → MayRepair start.content found → AtEachMoment start host (IsRepairing found start)

-- From some time on, the end of the syncs, whatever a stop may leave is so. Until then it leaves what it could leave at the
-- start, and nothing is said.
pub record RepairsFrom (found : Found) (start host : Seen) : Type 0 where
  pub time : ℕ
  pub not_before : start.clock ≤ time
  pub until : (images : List (List ℕ)) (said : List ℕ) → host.left_since start.clock images said
      → (Leaves start images × (said ≡ start.said)) ⊎ host.left_since time images said
  pub since : (images : List (List ℕ)) (said : List ℕ) → host.left_since time images said → IsRepairing found start images said

-- Where anything may be pending at the start, and the images can be repaired: there is such a time, or the syncs came to no end,
-- since something failed, and a stop leaves what it could leave at the start.
abbrev pub EveryStopSinceRepair : Type 0 → Seen → Seen → Type 0
EveryStopSinceRepair failed start host = (found : Found) → MayRepair start.content found → (failed × OnlyStill start host) ⊎ RepairsFrom found start host

-- The images open as the group that was found, each copy is open with it, and nothing is pending.
pub record HoldsRepaired (found : Found) (start host : Seen) : Type 0 where
  pub opens : Opens host.content found.db
  pub current : AllHave found.labels host.content (IsCurrent found.db)
  pub outside : AreSameOutside found.labels start.content host.content
  pub settled : NothingPending host

-- the most bytes that a disk is handed: those of a body of the group and its first byte thrice, where the copy is damaged, closed or of
-- a lower sequence
abbrev pub repair_handed : Found → Note → ℕ
repair_handed found note = if is_behind found.db.header.seq note then 512 * (found.db.header.last / 4) + 2 else 0

-- What is written by a repair.
pub record RepairsDisks (tells : Type 0) (old new : Seen) (status : Status) : Type 0 where
  pub later : Later old new
  pub done : tells → status ≡ Done → (found : Found) → MayRepair old.content found → HoldsRepaired found old new
  pub handed : tells → (found : Found) → MayRepair old.content found → (disk : ℕ) (note : Note) → slice_get found.notes disk ≡ Some note
      → slice_index new.wrote disk ≤ slice_index old.wrote disk + repair_handed found note
  pub unwritten : tells → ((found : Found) → MayRepair old.content found → ⊥) → new.wrote ≡ old.wrote
