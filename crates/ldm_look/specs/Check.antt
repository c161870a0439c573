-- The text that says what each image holds, and whether the group may be edited.
use Rattle.std.specs.Prelude.{ℕ, List, ◌++◌, flat_map, codes, decimal, Option, Some, None}
use Rattle.std.specs.List.{enumerate_from}
use Rattle.ldm_copy.specs.declared.fault.OpenFault.{OpenFault}
use Rattle.ldm_copy.specs.declared.notes.Note.{Note}
use Rattle.ldm_copy.specs.declared.notes.Note.TheVariants.{Closed, Sequence}
use Rattle.ldm_copy.specs.declared.found.Found.{Found}
use Rattle.ldm_look.specs.Opening.{text_of_open_fault}

-- image I sequence S, or image I closed
abbrev pub text_of_note : ℕ × Note → List ℕ
text_of_note (image, Closed) = codes "image " ++ decimal image ++ codes " closed\n"
text_of_note (image, Sequence seq) = codes "image " ++ decimal image ++ codes " sequence " ++ decimal seq ++ codes "\n"

-- ok: editable, or ok: not editable: FAULT
abbrev pub text_of_blocked : Option OpenFault → List ℕ
text_of_blocked None = codes "ok: editable\n"
text_of_blocked (Some fault) = codes "ok: not editable: " ++ text_of_open_fault fault ++ codes "\n"

-- a line for each image, and the last line
abbrev pub text_of_check : Found → List ℕ
text_of_check found = flat_map text_of_note (enumerate_from 0 found.notes) ++ text_of_blocked found.blocked
