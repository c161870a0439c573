-- What the labels of all images say together.
use Rattle.std.specs.Prelude.{◌≡◌, ◌⊎◌, ℕ, ◌<◌, ◌≤◌, List, Option, Some, None, Result, slice_get}
use Rattle.ldm_host.specs.Seen.{image}
use Rattle.ldm_label.specs.declared.Label.{Label}
use Rattle.ldm_label.specs.declared.LabelFault.{LabelFault}
use Rattle.ldm_label.specs.LabelOf.{label_of, SameOutsideArea}
pub use Rattle.ldm_rules.specs.Facts.{AreOneDisk, AreApart, stranger}

-- the label of an image, or its first fault
abbrev pub IsLabelOf : List ℕ → Result Label LabelFault → Type 0
IsLabelOf image label = label_of image ≡ label

-- no two images are of one disk, or these are the first two: the first has the least number of all that a later image is
-- of one disk with, and the second the least of these
abbrev pub AreTwins : List Label → Option (ℕ × ℕ) → Type 0
AreTwins labels None = AreApart labels
AreTwins labels (Some pair) =
    AreOneDisk labels pair.0 pair.1
    × ((i j : ℕ) → AreOneDisk labels i j → (pair.0 < i) ⊎ ((pair.0 ≡ i) × (pair.1 ≤ j)))

-- no byte outside the config areas differs
abbrev pub AreSameOutside : List Label → List (List ℕ) → List (List ℕ) → Type 0
AreSameOutside labels old new = (disk : ℕ) (label : Label) → slice_get labels disk ≡ Some label → SameOutsideArea label (image old disk) (image new disk)
