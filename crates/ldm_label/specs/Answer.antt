-- The first fault of a table of faults, in the order of the table.
use Rattle.std.specs.Prelude.{◌≡◌, Bool, List, Result, Ok, Err}
use Rattle.ldm_bytes.specs.Tables.{first_fault, unless}
use Rattle.ldm_label.specs.declared.LabelFault.{LabelFault}
use Rattle.ldm_label.specs.declared.LabelError.{LabelError}
use Rattle.ldm_label.specs.declared.LabelError.TheVariants.{Fault, Disk}

-- A row is a fault, and whether it is there. The answer is the first fault that is there, else the value.
abbrev pub answer : {A : Type 0} → List (LabelFault × Bool) → A → Result A LabelFault
answer rows value = unless (first_fault rows) value

-- A call answers that, or that a call of the disk failed.
abbrev pub GivesUnlessDisk : {A : Type 0} → Result A LabelError → Result A LabelFault → Type 0
GivesUnlessDisk (Ok value) is = is ≡ Ok value
GivesUnlessDisk (Err (Fault fault)) is = is ≡ Err fault
GivesUnlessDisk (Err Disk) is = Unit {0}
