-- The view of an image that passes over its copy of the database, where that is damaged.
use Rattle.std.specs.Prelude.{◌≡◌, ℕ, List, [], ◌∷◌, Option, Some, None, Result, Ok, Err}
use Rattle.ldm_label.specs.declared.Label.{Label}
use Rattle.ldm_label.specs.declared.LabelFault.{LabelFault}
use Rattle.ldm_copy.specs.declared.answer.CopyState.{CopyState}
use Rattle.ldm_copy.specs.declared.answer.CopyFault.{CopyFault}
use Rattle.ldm_copy.specs.Copy.{config_area, gate_at, IsCopyOf}
use Rattle.ldm_view.specs.Patches.{laid}

-- the copy in an area of so many sectors has this first fault, or it has none
abbrev pub IsFaultOfCopy : List ℕ → ℕ → Option CopyFault → Type 0
IsFaultOfCopy area sectors None = (state : CopyState) × IsCopyOf area sectors (Ok state)
IsFaultOfCopy area sectors (Some fault) = IsCopyOf area sectors (Err fault)

-- a copy that has a fault shows as closed: the first byte of its area is 0
abbrev pub shut_by : Option CopyFault → Label → List ℕ → List ℕ
shut_by None label image = image
shut_by (Some fault) label image = laid image (gate_at label) (0 ∷ [])

-- the fault of the copy that is passed over, and the view, of an image by its label
abbrev pub IsPassed : Result Label LabelFault → List ℕ → Option CopyFault → List ℕ → Type 0
IsPassed (Err fault) image passed view = (passed ≡ None) × (view ≡ image)
IsPassed (Ok label) image passed view = IsFaultOfCopy (config_area label image) label.area_sectors passed × (view ≡ shut_by passed label image)
