-- The disks while one group takes the place of another.
use Rattle.std.specs.Prelude.{◌≡◌, ◌⊎◌, ℕ, ◌<◌, ◌≤◌, List, length, slice_get, Some}
use Rattle.ldm_host.specs.Seen.{Seen, image}
use Rattle.ldm_host.specs.Moves.{Settled, AtEachMoment}
use Rattle.ldm_label.specs.declared.Label.{Label}
use Rattle.ldm_group.specs.Database.{Database}
use Rattle.ldm_copy.specs.declared.answer.CopyState.{CopyState}
use Rattle.ldm_copy.specs.declared.answer.CopyState.TheVariants.{Valid}
use Rattle.ldm_body.specs.Body.{IsBodyOn}
use Rattle.ldm_found.specs.Copies.{HasCopy}
use Rattle.ldm_found.specs.Labels.{AreSameOutside}
use Rattle.ldm_store.specs.Kept.{IsCurrent, IsOneOf, AlwaysKept}

-- a body of the database for each of the disks with these labels
abbrev pub IsBodyOnEach : Database → List Label → List ℕ → Type 0
IsBodyOnEach db labels body = (disk : ℕ) (label : Label) → slice_get labels disk ≡ Some label → IsBodyOn db label body

-- a disk that has a label has no write pending
abbrev pub AllSettled : List Label → Seen → Type 0
AllSettled labels host = (disk : ℕ) → disk < length labels → Settled host disk

-- the copy on each disk is one that passes
abbrev pub AllHave : List Label → List (List ℕ) → (CopyState → Type 0) → Type 0
AllHave labels images Is = (disk : ℕ) → disk < length labels → HasCopy labels images disk Is

-- at each moment since the start each copy is closed, or open with one of the two groups
abbrev pub AlwaysOneOf : List Label → Database → Database → Seen → Seen → Type 0
AlwaysOneOf labels older newer start host = AtEachMoment start host (λ images said. AllHave labels images (IsOneOf older newer))

-- The copy on each disk is just that of the group, the carried bytes of its header among it, or the disk is as it was.
abbrev pub AreRewritten : List Label → Database → List (List ℕ) → List (List ℕ) → Type 0
AreRewritten labels group old new =
    (disk : ℕ) → disk < length labels → HasCopy labels new disk (λ copy. copy ≡ Valid group) ⊎ (image new disk ≡ image old disk)

-- The disks below a number are written.
pub record IsTurned (labels : List Label) (older newer : Database) (start host : Seen) (done : ℕ) : Type 0 where
  pub below : (disk : ℕ) → disk < done → HasCopy labels host.content disk (λ copy. copy ≡ Valid newer)
  pub above : (disk : ℕ) → done ≤ disk → disk < length labels → HasCopy labels host.content disk (IsCurrent older)
  pub outside : AreSameOutside labels start.content host.content
  pub always : AlwaysKept labels older newer start host
  pub copies : AlwaysOneOf labels older newer start host
