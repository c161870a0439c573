-- What holds of every image that has a label. Editing a group writes in config areas alone, so by these laws it leaves the
-- labels as they are.
use Rattle.std.specs.Prelude.{◌≡◌, ℕ, ◌+◌, ◌≤◌, List, Ok}
use Rattle.ldm_label.specs.declared.Label.{Label}
use Rattle.ldm_label.specs.Fields.{sectors_of}
use Rattle.ldm_label.specs.LabelOf.{label_of, Fits, SameOutsideArea}
use Rattle.ldm_label.specs.Written.{HasLabel, IsWritable}
use Rattle.ldm_label.specs.WrittenGpt.{gpt_parts, HasParts, IsGptWritable}

-- No sector of the label lies in the config area: the area is behind the tables of contents in sectors 1 and 2 of the
-- database, and in front of copy 2 of the private header in sector 1856.
pub record IsClearOfLabel (label : Label) : Type 0 where
  pub behind : 3 ≤ label.area_start
  pub before : label.area_start + label.area_sectors ≤ 1856

-- the label of an image fits it
abbrev pub LabelsFit : Type 0
LabelsFit = (image : List ℕ) (label : Label) → label_of image ≡ Ok label → Fits label (sectors_of image)

-- an image that differs in such a config area alone has the same label
abbrev pub LabelsStay : Type 0
LabelsStay =
    (label : Label) (old new : List ℕ) → label_of old ≡ Ok label → IsClearOfLabel label
    → SameOutsideArea label old new → label_of new ≡ Ok label

-- an image that has the sectors of a label, which fits it, reads as that label
abbrev pub WrittenLabelsRead : Type 0
WrittenLabelsRead =
    (label : Label) (image : List ℕ) → HasLabel label image → Fits label (sectors_of image) → IsWritable label
    → label_of image ≡ Ok label

-- an image that differs in such a config area alone has the same sectors of the label
abbrev pub WrittenLabelsStay : Type 0
WrittenLabelsStay =
    (label : Label) (old new : List ℕ) → HasLabel label old → 7 ≤ label.config_start → IsClearOfLabel label
    → SameOutsideArea label old new → HasLabel label new

-- an image that has what is written of the label of a GPT disk, which fits it, reads as that label
abbrev pub WrittenGptsRead : Type 0
WrittenGptsRead =
    (label : Label) (image : List ℕ) → HasParts (gpt_parts label (sectors_of image)) image → Fits label (sectors_of image)
    → IsGptWritable label (sectors_of image) → label_of image ≡ Ok label
