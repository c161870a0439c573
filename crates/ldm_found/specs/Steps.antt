-- What the steps of finding a group answer.
use Rattle.std.specs.Prelude.{◌≡◌, ℕ, ◌<◌, List, [], ◌∷◌, ◌++◌, map, zip, Option, Some, None, Result, Ok, Err}
use Rattle.std.specs.Option.{option_map}
use Rattle.ldm_copy.specs.Answers.{FitsHeader}
use Rattle.ldm_label.specs.declared.Label.{Label}
use Rattle.ldm_copy.specs.declared.answer.CopyState.{CopyState}
use Rattle.ldm_copy.specs.declared.answer.CopyState.TheVariants.{Closed, Valid}
use Rattle.ldm_copy.specs.declared.fault.OpenFault.{OpenFault}
use Rattle.ldm_copy.specs.declared.fault.OpenFault.TheVariants as faults
use Rattle.ldm_found.specs.declared.fault.OpenError.{OpenError}
use Rattle.ldm_found.specs.declared.fault.OpenError.TheVariants.{Fault, Disk, NoMemory}
use Rattle.ldm_copy.specs.declared.notes.Note.{Note}
use Rattle.ldm_copy.specs.declared.found.Found.{Found}
use Rattle.ldm_found.specs.declared.copies.Newest.{Newest}
use Rattle.ldm_found.specs.declared.copies.Copies.{Copies}
use Rattle.ldm_found.specs.Gathers.{Gathers, IsFirst}
use Rattle.ldm_found.specs.Labels.{IsLabelOf, AreApart}
use Rattle.ldm_found.specs.Copies.{IsCopyIn, newest, Disagrees, note_of}
use Rattle.ldm_found.specs.Opening.{group_faults, group_at, IsGroupIn, IsGroupOfDisks}

-- ---- labels

-- the label of the image of this number, or its fault
abbrev pub ReadsLabel : ℕ → List ℕ → Result Label OpenError → Type 0
ReadsLabel disk image (Ok label) = IsLabelOf image (Ok label)
ReadsLabel disk image (Err (Fault (faults.Label at fault))) = (at ≡ disk) × IsLabelOf image (Err fault)
ReadsLabel disk image (Err Disk) = Unit {0}
ReadsLabel disk image (Err NoMemory) = Unit {0}
ReadsLabel disk image (Err _) = ⊥

-- the labels of all images, or a fault, which is the first
abbrev pub ReadsLabels : List (List ℕ) → Result (List Label) OpenError → Type 0
ReadsLabels images (Ok labels) = Gathers IsLabelOf images (Ok labels)
ReadsLabels images (Err (Fault fault)) = IsGroupIn images (Err fault)
ReadsLabels images (Err Disk) = Unit {0}
ReadsLabels images (Err NoMemory) = Unit {0}

-- the labels of all images, no two of one disk, or a fault, which is the first
abbrev pub ReadsDisks : List (List ℕ) → Result (List Label) OpenError → Type 0
ReadsDisks images (Ok labels) = Gathers IsLabelOf images (Ok labels) × AreApart labels
ReadsDisks images (Err (Fault fault)) = IsGroupIn images (Err fault)
ReadsDisks images (Err Disk) = Unit {0}
ReadsDisks images (Err NoMemory) = Unit {0}

-- ---- copies

-- the copy on the image of this number, or its fault
abbrev pub ReadsCopy : ℕ → Label × List ℕ → Result CopyState OpenError → Type 0
ReadsCopy disk image (Ok copy) = IsCopyIn image (Ok copy)
ReadsCopy disk image (Err (Fault (faults.Copy at fault))) = (at ≡ disk) × IsCopyIn image (Err fault)
ReadsCopy disk image (Err Disk) = Unit {0}
ReadsCopy disk image (Err NoMemory) = Unit {0}
ReadsCopy disk image (Err _) = ⊥

-- the newest open copy, and the first other of its sequence
abbrev pub IsNewestOf : List CopyState → Option Newest → Type 0
IsNewestOf copies None = newest copies ≡ None
IsNewestOf copies (Some n) = (newest copies ≡ Some (n.image, n.db)) × IsFirst (Disagrees n.db) copies n.other

-- the newest of all copies, and their notes, or a fault, which is the first
abbrev pub ReadsCopies : List Label → List (List ℕ) → Result Copies OpenError → Type 0
ReadsCopies labels images (Ok read) =
    (copies : List CopyState) × Gathers IsCopyIn (zip labels images) (Ok copies)
    × IsNewestOf copies read.newest × (read.notes ≡ map note_of copies)
ReadsCopies labels images (Err (Fault fault)) = IsGroupOfDisks None images labels (Err fault)
ReadsCopies labels images (Err Disk) = Unit {0}
ReadsCopies labels images (Err NoMemory) = Unit {0}

-- One more copy, which an image has: of all so far this is the newest, and this the note of that one.
abbrev pub Adds : Label × List ℕ → List CopyState → Option Newest → Note → Type 0
Adds image copies newest note = (copy : CopyState) × IsCopyIn image (Ok copy) × IsNewestOf (copies ++ copy ∷ []) newest × (note ≡ note_of copy)

-- one more copy, that on the image of this number, or its fault
abbrev pub ReadsNext : ℕ → Label × List ℕ → List CopyState → Result (Option Newest × Note) OpenError → Type 0
ReadsNext disk image copies (Ok next) = Adds image copies next.0 next.1
ReadsNext disk image copies (Err error) = ReadsCopy disk image (Err error)

-- the newest of so many images, whose records fit its header
pub record IsAmong (images : ℕ) (newest : Newest) : Type 0 where
  pub within : newest.image < images
  pub room : FitsHeader newest.db

abbrev pub IsRoomy : CopyState → Type 0
IsRoomy Closed = Unit {0}
IsRoomy (Valid db) = FitsHeader db

-- ---- the group

-- no fault, or exactly this one, or want of memory
abbrev pub ChecksGroup : Result (Unit {0}) OpenError → Option OpenFault → Type 0
ChecksGroup (Ok _) fault = fault ≡ None
ChecksGroup (Err (Fault first)) fault = fault ≡ Some first
ChecksGroup (Err Disk) fault = ⊥
ChecksGroup (Err NoMemory) fault = Unit {0}

-- what is at fault with the newest copy: another group at its sequence, and then what its database says
abbrev pub newest_faults : Newest → List Label → List (Option OpenFault)
newest_faults n labels = option_map (faults.Split n.image) n.other ∷ group_faults n.db labels

-- the group of the newest copy
abbrev pub group_from : Option Newest → List Label → List Note → Result Found OpenFault
group_from None labels notes = Err faults.NoCopy
group_from (Some n) labels notes = group_at n.image n.db n.other labels notes

-- exactly this group or fault, or want of memory
abbrev pub GivesGroup : Result Found OpenError → Result Found OpenFault → Type 0
GivesGroup (Ok found) group = group ≡ Ok found
GivesGroup (Err (Fault fault)) group = group ≡ Err fault
GivesGroup (Err Disk) group = ⊥
GivesGroup (Err NoMemory) group = Unit {0}
