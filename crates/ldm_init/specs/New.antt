-- A new group, which its images are found to hold.
use Rattle.std.specs.Prelude.{◌≡◌, ℕ, ◌≤◌, nat_lt, false, List, map, length, slice_get, All, Some, None, Ok, if◌then◌else◌}
use Rattle.ldm_host.specs.Seen.{image}
use Rattle.ldm_label.specs.declared.Label.{Label}
use Rattle.ldm_group.specs.Database.{Database}
use Rattle.ldm_rules.specs.New.{IsNewOn}
use Rattle.ldm_copy.specs.Copy.{IsWritten}
use Rattle.ldm_copy.specs.declared.fault.OpenFault.TheVariants as faults
use Rattle.ldm_copy.specs.declared.notes.Note.TheVariants as notes
use Rattle.ldm_found.specs.Labels.{IsLabelOf, AreApart}
use Rattle.ldm_found.specs.Editing.{is_small, clashes, blocked_in}
use Rattle.ldm_found.specs.Opening.{found_with, IsGroupIn}

-- there is an image for each label, which it has, and its copy is that of the database
pub record HoldCopies (db : Database) (labels : List Label) (images : List (List ℕ)) : Type 0 where
  pub one_each : length images ≡ length labels
  pub labels_are : (disk : ℕ) (label : Label) → slice_get labels disk ≡ Some label → IsLabelOf (image images disk) (Ok label)
  pub copies_are : (disk : ℕ) (label : Label) → slice_get labels disk ≡ Some label → IsWritten label db (image images disk)

-- images of different disks that hold a new group are found as it
abbrev pub NewOpens : Type 0
NewOpens = (db : Database) (labels : List Label) (images : List (List ℕ)) → IsNewOn db.records labels → 1 ≤ length labels → AreApart labels
    → HoldCopies db labels images → IsGroupIn images (Ok (found_with db labels (map (λ _. notes.Sequence db.header.seq) labels)))

-- the area of the label has room for that last VBLK sequence, and is clear of the label
abbrev pub HasOwnArea : ℕ → Label → Type 0
HasOwnArea last label = (is_small last label ≡ false) × (clashes label ≡ false)

-- a new group may be edited, where there are two disks at least
abbrev pub NewIsEditable : Type 0
NewIsEditable = (db : Database) (labels : List Label) → IsNewOn db.records labels → All (HasOwnArea db.header.last) labels
    → blocked_in db labels ≡ (if nat_lt (length labels) 2 then Some faults.FewDisks else None)
