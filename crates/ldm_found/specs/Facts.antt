-- What holds of a group that was found, whatever the host tells.
use Rattle.std.specs.Prelude.{◌≡◌, ℕ, List, length, slice_index, slice_get, Some}
use Rattle.ldm_label.specs.declared.Label.{Label}
use Rattle.ldm_label.specs.LabelOf.{Fits}
pub use Rattle.ldm_rules.specs.Facts.{IsSoundOn}
use Rattle.ldm_copy.specs.declared.found.Found.{Found}
use Rattle.ldm_found.specs.Editing.{blocked_in}

-- of a found group: there is a note for each label, and the reason that it may not be edited is the first
pub record IsSoundGroup (found : Found) : Type 0 where
  pub group : IsSoundOn found.db found.labels
  pub one_note : length found.notes ≡ length found.labels
  pub blocked_is : found.blocked ≡ blocked_in found.db found.labels

-- of labels on disks with so many sectors each: there is one for each disk, and it fits it
pub record LieOn (labels : List Label) (sizes : List ℕ) : Type 0 where
  pub one_label : length labels ≡ length sizes
  pub fits : (disk : ℕ) (label : Label) → slice_get labels disk ≡ Some label → Fits label (slice_index sizes disk)
