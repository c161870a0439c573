-- The group that images hold: the database with the greatest sequence among the open copies, or the first fault. The faults
-- are looked for in this order: each step comes only where the one before found none.
use Rattle.std.specs.Prelude.{◌≡◌, ℕ, List, [], ◌∷◌, map, zip, Option, Some, None, Result, Ok, Err}
use Rattle.std.specs.Option.{option_map}
use Rattle.ldm_bytes.specs.Tables.{first_of, unless}
use Rattle.ldm_group.specs.Database.{Database}
use Rattle.ldm_label.specs.declared.Label.{Label}
use Rattle.ldm_label.specs.declared.LabelFault.{LabelFault}
use Rattle.ldm_rules.specs.Table.{first_broken_rule}
use Rattle.ldm_copy.specs.declared.answer.CopyState.{CopyState}
use Rattle.ldm_copy.specs.declared.answer.CopyFault.{CopyFault}
use Rattle.ldm_copy.specs.declared.fault.OpenFault.{OpenFault}
use Rattle.ldm_copy.specs.declared.fault.OpenFault.TheVariants as faults
use Rattle.ldm_copy.specs.declared.notes.Note.{Note}
use Rattle.ldm_copy.specs.declared.found.Found.{Found}
use Rattle.ldm_found.specs.Gathers.{Gathers, IsFirst}
use Rattle.ldm_found.specs.Labels.{IsLabelOf, AreTwins, stranger}
use Rattle.ldm_found.specs.Copies.{IsCopyIn, newest, Disagrees, note_of}
use Rattle.ldm_found.specs.Editing.{blocked_in}

-- what the database says that is at fault with these labels: an image of a strange disk, and then a broken rule
unfoldable pub group_faults : Database → List Label → List (Option OpenFault)
group_faults db labels =
    option_map faults.Stranger (stranger db.records labels)
    ∷ option_map (λ broken. faults.Rule (record { rule = broken.0; id = broken.1 })) (first_broken_rule db.records labels)
    ∷ []

-- the group of this database, with the first reason that it may not be edited
abbrev pub found_with : Database → List Label → List Note → Found
found_with db labels notes = record { db = db; labels = labels; notes = notes; blocked = blocked_in db labels }

-- The newest database is that of an image; another image may have a different one at the same sequence.
abbrev pub group_at : ℕ → Database → Option ℕ → List Label → List Note → Result Found OpenFault
group_at image db (Some other) labels notes = Err (faults.Split image other)
group_at image db None labels notes = unless (first_of (group_faults db labels)) (found_with db labels notes)

-- the newest open copy, and no other of its sequence
abbrev pub IsNewestGroup : Option (ℕ × Database) → List CopyState → List Label → Result Found OpenFault → Type 0
IsNewestGroup None copies labels group = group ≡ Err faults.NoCopy
IsNewestGroup (Some at) copies labels group =
    (other : Option ℕ) × IsFirst (Disagrees at.1) copies other × (group ≡ group_at at.0 at.1 other labels (map note_of copies))

-- no open copy has a fault
abbrev pub IsGroupOfCopies : Result (List CopyState) (ℕ × CopyFault) → List Label → Result Found OpenFault → Type 0
IsGroupOfCopies (Err at) labels group = group ≡ Err (faults.Copy at.0 at.1)
IsGroupOfCopies (Ok copies) labels group = IsNewestGroup (newest copies) copies labels group

-- no two images are of one disk
abbrev pub IsGroupOfDisks : Option (ℕ × ℕ) → List (List ℕ) → List Label → Result Found OpenFault → Type 0
IsGroupOfDisks (Some pair) images labels group = group ≡ Err (faults.SameDisk pair.0 pair.1)
IsGroupOfDisks None images labels group =
    (copies : Result (List CopyState) (ℕ × CopyFault)) × Gathers IsCopyIn (zip labels images) copies × IsGroupOfCopies copies labels group

-- each image has a label
abbrev pub IsGroupOfLabels : Result (List Label) (ℕ × LabelFault) → List (List ℕ) → Result Found OpenFault → Type 0
IsGroupOfLabels (Err at) images group = group ≡ Err (faults.Label at.0 at.1)
IsGroupOfLabels (Ok labels) images group = (twins : Option (ℕ × ℕ)) × AreTwins labels twins × IsGroupOfDisks twins images labels group

-- the group that the images hold, or the first fault; there is one
abbrev pub IsGroupIn : List (List ℕ) → Result Found OpenFault → Type 0
IsGroupIn images group =
    (labels : Result (List Label) (ℕ × LabelFault)) × Gathers IsLabelOf images labels × IsGroupOfLabels labels images group
