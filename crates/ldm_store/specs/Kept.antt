-- Images that stand between an older and a newer group, which is the older or has the next sequence: whatever a stop
-- leaves of a command, or of the healing of copies.
use Rattle.std.specs.Prelude.{◌≡◌, ◌⊎◌, ℕ, ◌+◌, ◌<◌, List, length, Some, None, Ok, Err}
use Rattle.ldm_bytes.specs.Tables.{first_of}
use Rattle.ldm_host.specs.Seen.{Seen}
use Rattle.ldm_host.specs.Moves.{AtEachMoment}
use Rattle.ldm_label.specs.declared.Label.{Label}
use Rattle.ldm_group.specs.Database.{Database, IsSameCore}
use Rattle.ldm_copy.specs.declared.answer.CopyState.{CopyState}
use Rattle.ldm_copy.specs.declared.answer.CopyState.TheVariants.{Closed, Valid}
use Rattle.ldm_copy.specs.declared.fault.OpenFault.{OpenFault}
use Rattle.ldm_copy.specs.declared.found.Found.{Found}
use Rattle.ldm_found.specs.Copies.{HasCopy, IsKnown}
use Rattle.ldm_found.specs.Editing.{blocked_in}
use Rattle.ldm_found.specs.Labels.{AreSameOutside}
use Rattle.ldm_found.specs.Opening.{IsGroupIn, group_faults}

-- open, with that group
abbrev pub IsCurrent : Database → CopyState → Type 0
IsCurrent group Closed = ⊥
IsCurrent group (Valid db) = IsSameCore db group

-- closed, or open with one of the two groups
abbrev pub IsOneOf : Database → Database → CopyState → Type 0
IsOneOf older newer Closed = Unit {0}
IsOneOf older newer (Valid db) = IsSameCore db older ⊎ IsSameCore db newer

-- the newer is the older, or its sequence is one more
abbrev pub IsNext : Database → Database → Type 0
IsNext older newer = IsSameCore newer older ⊎ (newer.header.seq ≡ older.header.seq + 1)

-- Each copy is known, and one is open with one of the two groups.
pub record IsRecoverable (labels : List Label) (older newer : Database) (images : List (List ℕ)) : Type 0 where
  pub known : (disk : ℕ) → disk < length labels → HasCopy labels images disk (IsKnown older newer)
  pub one : (disk : ℕ) × (disk < length labels) × HasCopy labels images disk (λ copy. IsCurrent older copy ⊎ IsCurrent newer copy)

-- At a moment since the start: one of the two groups is found, and no byte outside the config areas is changed.
pub record IsKept (labels : List Label) (older newer : Database) (start : Seen) (images : List (List ℕ)) (said : List ℕ) : Type 0 where
  pub said_is : said ≡ start.said
  pub one_each : length images ≡ length labels
  pub outside : AreSameOutside labels start.content images
  pub recoverable : IsRecoverable labels older newer images

-- at each moment since the start
abbrev pub AlwaysKept : List Label → Database → Database → Seen → Seen → Type 0
AlwaysKept labels older newer start host = AtEachMoment start host (IsKept labels older newer start)

-- the group has no fault on disks with these labels, and may be edited
pub record MayEdit (db : Database) (labels : List Label) : Type 0 where
  pub faultless : first_of (group_faults db labels) ≡ None
  pub unblocked : blocked_in db labels ≡ None

-- the images are found as that group, which may be edited
pub record Opens (images : List (List ℕ)) (group : Database) : Type 0 where
  pub found : Found
  pub is : IsGroupIn images (Ok found)
  pub editable : found.blocked ≡ None
  pub same : IsSameCore found.db group

-- the images hold no group that may be edited
abbrev pub HoldsNone : List (List ℕ) → Type 0
HoldsNone images =
    ((fault : OpenFault) × IsGroupIn images (Err fault))
    ⊎ ((found : Found) × (fault : OpenFault) × IsGroupIn images (Ok found) × (found.blocked ≡ Some fault))

-- for this reason
abbrev pub HoldsNoneFor : OpenFault → List (List ℕ) → Type 0
HoldsNoneFor fault images =
    IsGroupIn images (Err fault) ⊎ ((found : Found) × IsGroupIn images (Ok found) × (found.blocked ≡ Some fault))

-- the images hold a group that may be edited
abbrev pub HoldsEditable : List (List ℕ) → Type 0
HoldsEditable images = (found : Found) × IsGroupIn images (Ok found) × (found.blocked ≡ None)
