-- What looking for the group answers.
use Rattle.std.specs.Prelude.{Result, Ok, Err, List, ℕ}
use Rattle.ldm_found.specs.declared.fault.OpenError.{OpenError}
use Rattle.ldm_found.specs.declared.fault.OpenError.TheVariants.{Fault, Disk, NoMemory}
use Rattle.ldm_copy.specs.declared.found.Found.{Found}
use Rattle.ldm_found.specs.Opening.{IsGroupIn}

-- what was answered is the group, or its first fault, unless a call of a disk failed or memory ran out
abbrev pub FindsIn : List (List ℕ) → Result Found OpenError → Type 0
FindsIn images (Ok found) = IsGroupIn images (Ok found)
FindsIn images (Err (Fault fault)) = IsGroupIn images (Err fault)
FindsIn images (Err Disk) = Unit {0}
FindsIn images (Err NoMemory) = Unit {0}
