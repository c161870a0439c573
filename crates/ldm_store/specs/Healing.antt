-- What every stop of settling a group leaves.
use Rattle.std.specs.Prelude.{◌≡◌, ◌⊎◌, ℕ, ◌<◌, ◌≤◌, nat_lt, Bool, true, false, List, length, slice_index, slice_get, Some, None, Ok}
use Rattle.ldm_host.specs.Seen.{Seen, Leaves, image}
use Rattle.ldm_host.specs.Moves.{AtEachMoment}
use Rattle.ldm_label.specs.declared.Label.{Label}
use Rattle.ldm_group.specs.Database.{Database}
use Rattle.ldm_copy.specs.declared.answer.CopyState.{CopyState}
use Rattle.ldm_copy.specs.declared.found.Found.{Found}
use Rattle.ldm_copy.specs.declared.notes.Note.{Note}
use Rattle.ldm_copy.specs.declared.notes.Note.TheVariants as notes
use Rattle.ldm_found.specs.Copies.{IsCopyIn, note_of, HasCopy}
use Rattle.ldm_found.specs.Labels.{AreSameOutside}
use Rattle.ldm_found.specs.Opening.{IsGroupIn}
use Rattle.ldm_store.specs.Kept.{IsCurrent, IsKept, AlwaysKept, Opens}
use Rattle.ldm_store.specs.Turning.{AreRewritten}

-- the copy is closed, or of a lower sequence
abbrev pub is_behind : ℕ → Note → Bool
is_behind seq notes.Closed = true
is_behind seq (notes.Sequence held) = nat_lt held seq

-- this is noted of the copy
abbrev pub HasNote : Label → List ℕ → Note → Type 0
HasNote label image note = (copy : CopyState) × IsCopyIn (label, image) (Ok copy) × (note ≡ note_of copy)

-- The copies below a number are healed.
pub record IsHealed (labels : List Label) (group : Database) (start host : Seen) (done : ℕ) : Type 0 where
  pub below : (disk : ℕ) → disk < done → HasCopy labels host.content disk (IsCurrent group)
  pub above : (disk : ℕ) → done ≤ disk → disk < length labels → image host.content disk ≡ image start.content disk
  pub each : AreRewritten labels group start.content host.content
  pub outside : AreSameOutside labels start.content host.content
  pub always : AlwaysKept labels group group start host

-- a disk whose copy isn't behind is handed no byte
abbrev pub AreSpared : ℕ → List Note → List ℕ → List ℕ → Type 0
AreSpared seq notes before after = (disk : ℕ) (note : Note) → slice_get notes disk ≡ Some note → is_behind seq note ≡ false → slice_index after disk ≡ slice_index before disk

-- During the syncs, and while the group is looked for, a stop leaves what it could leave at the start.
abbrev pub OnlyStill : Seen → Seen → Type 0
OnlyStill start host = AtEachMoment start host (λ images said. Leaves start images × (said ≡ start.said))

-- From some time on, the end of the syncs, there is one group, that of the content at the start, which may be edited. Until
-- then a stop leaves what it could leave at the start. From then on it leaves images that hold the group, which open as it and
-- may be edited, and no byte outside the areas of the content is changed.
pub record OneGroup (start host : Seen) : Type 0 where
  pub time : ℕ
  pub found : Found
  pub not_before : start.clock ≤ time
  pub not_after : time ≤ host.clock
  pub is : IsGroupIn start.content (Ok found)
  pub editable : found.blocked ≡ None
  pub until : AtEachMoment start host (λ images said. (Leaves start images × (said ≡ start.said)) ⊎ host.left_since time images said)
  pub since : (images : List (List ℕ)) (said : List ℕ) → host.left_since time images said → IsKept found.labels found.db found.db start images said
  pub opens : (images : List (List ℕ)) (said : List ℕ) → host.left_since time images said → Opens images found.db
