-- Images between two groups, of which copies were damaged since. A stop in the middle of a command leaves each copy closed or open with
-- the group before the command or the one after it.
use Rattle.std.specs.Prelude.{◌≡◌, ◌⊎◌, ℕ, ◌<◌, List, length, slice_get, Some, None, Ok, Err}
use Rattle.ldm_host.specs.Seen.{image}
use Rattle.ldm_label.specs.declared.Label.{Label}
use Rattle.ldm_label.specs.LabelOf.{SameOutsideArea}
use Rattle.ldm_group.specs.Database.{Database, IsSameCore}
use Rattle.ldm_copy.specs.declared.answer.CopyState.{CopyState}
use Rattle.ldm_copy.specs.declared.answer.CopyState.TheVariants.{Closed, Valid}
use Rattle.ldm_copy.specs.declared.answer.CopyFault.{CopyFault}
use Rattle.ldm_copy.specs.declared.found.Found.{Found}
use Rattle.ldm_found.specs.Copies.{HasCopy, IsCopyIn}
use Rattle.ldm_found.specs.Gathers.{Gathers}
use Rattle.ldm_found.specs.Labels.{IsLabelOf}
use Rattle.ldm_store.specs.Kept.{IsNext, IsOneOf}
use Rattle.ldm_store.specs.Turning.{AllHave}
use Rattle.ldm_store.specs.Sessions.{IsEditable}
use Rattle.ldm_repair.specs.Closing.{IsGroupPast}

-- The config area of an image is damaged since: its copy has a fault now, or is closed, or is what it was.
pub record IsDamagedSince (label : Label) (before now : List ℕ) : Type 0 where
  pub outside : SameOutsideArea label before now
  pub copy : ((fault : CopyFault) × IsCopyIn (label, now) (Err fault)) ⊎ IsCopyIn (label, now) (Ok Closed) ⊎ ((copy : CopyState) × IsCopyIn (label, before) (Ok copy) × IsCopyIn (label, now) (Ok copy))

abbrev pub AreDamagedSince : List Label → List (List ℕ) → List (List ℕ) → Type 0
AreDamagedSince labels before now = (disk : ℕ) (label : Label) → slice_get labels disk ≡ Some label → IsDamagedSince label (image before disk) (image now disk)

-- the copy of an image is open, and has no fault
abbrev pub OneIsOpen : List Label → List (List ℕ) → Type 0
OneIsOpen labels images = (disk : ℕ) × (disk < length labels) × HasCopy labels images disk (λ copy. (db : Database) × (copy ≡ Valid db))

-- Where one open copy is left, such images hold past damage one of the two groups, which may be edited.
abbrev pub DamagedTurnsHoldOne : Type 0
DamagedTurnsHoldOne =
    (labels : List Label) (older newer : Database) (before now : List (List ℕ)) → Gathers IsLabelOf before (Ok labels) → IsEditable older labels → IsEditable newer labels
    → IsNext older newer → AllHave labels before (IsOneOf older newer) → length now ≡ length before → AreDamagedSince labels before now → OneIsOpen labels now
    → (found : Found) × IsGroupPast now (Ok found) × (found.blocked ≡ None) × (IsSameCore found.db older ⊎ IsSameCore found.db newer)
