-- What the copies of the database on all images say together.
use Rattle.std.specs.Prelude.{◌≡◌, ◌⊎◌, ℕ, suc, ◌<◌, nat_lt, List, [], ◌∷◌, Option, Some, None, Result, Ok, slice_get, if◌then◌else◌}
use Rattle.std.specs.Option.{option_map}
use Rattle.ldm_host.specs.Seen.{image}
use Rattle.ldm_label.specs.declared.Label.{Label}
use Rattle.ldm_group.specs.Database.{Database, IsSameCore}
use Rattle.ldm_copy.specs.declared.answer.CopyState.{CopyState}
use Rattle.ldm_copy.specs.declared.answer.CopyState.TheVariants.{Closed, Valid}
use Rattle.ldm_copy.specs.declared.answer.CopyFault.{CopyFault}
use Rattle.ldm_copy.specs.Copy.{config_area, IsCopyOf}
use Rattle.ldm_copy.specs.declared.notes.Note.{Note}
use Rattle.ldm_copy.specs.declared.notes.Note.TheVariants as notes

-- the copy in the config area that the label of an image says, or its first fault
abbrev pub IsCopyIn : Label × List ℕ → Result CopyState CopyFault → Type 0
IsCopyIn image copy = IsCopyOf (config_area image.0 image.1) image.0.area_sectors copy

-- an open copy with a sequence that no later one passes, or the newest of the later ones
abbrev pub newer : CopyState → Option (ℕ × Database) → Option (ℕ × Database)
newer Closed later = later
newer (Valid db) None = Some (0, db)
newer (Valid db) (Some newest) = if nat_lt db.header.seq newest.1.header.seq then Some newest else Some (0, db)

-- the least image with the greatest sequence among the open copies, and its database
abbrev pub newest : List CopyState → Option (ℕ × Database)
newest [] = None
newest (copy ∷ copies) = newer copy (option_map (λ (at : ℕ × Database). (suc at.0, at.1)) (newest copies))

-- an open copy of the same sequence that isn't the same group
abbrev pub Disagrees : Database → CopyState → Type 0
Disagrees db Closed = ⊥
Disagrees db (Valid other) = (other.header.seq ≡ db.header.seq) × (IsSameCore other db → ⊥)

-- what is noted of an image
abbrev pub note_of : CopyState → Note
note_of Closed = notes.Closed
note_of (Valid db) = notes.Sequence db.header.seq

-- ---- disk by disk

-- the copy on the disk of this number is one that passes
abbrev pub HasCopy : List Label → List (List ℕ) → ℕ → (CopyState → Type 0) → Type 0
HasCopy labels images disk Is = (label : Label) × (slice_get labels disk ≡ Some label) × ((copy : CopyState) × IsCopyIn (label, image images disk) (Ok copy) × Is copy)

-- closed, or of a lower sequence, or one of the two groups
abbrev pub IsKnown : Database → Database → CopyState → Type 0
IsKnown older newer Closed = Unit {0}
IsKnown older newer (Valid db) = (db.header.seq < older.header.seq) ⊎ IsSameCore db older ⊎ IsSameCore db newer
