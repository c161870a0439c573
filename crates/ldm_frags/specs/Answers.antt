-- What is answered of blocks. Want of memory is left free.
use Rattle.std.specs.Prelude.{◌≡◌, ℕ, List, [], ◌∷◌, Option, Some, None, Result, Ok, Err}
use Rattle.std.specs.Global.{Vec}
use Rattle.ldm_frags.specs.declared.faults.FragFault.{FragFault}
use Rattle.ldm_frags.specs.declared.faults.FragError.{FragError}
use Rattle.ldm_frags.specs.declared.faults.FragError.TheVariants.{Fault, NoMemory}
use Rattle.ldm_frags.specs.declared.faults.Joined.{Joined}
use Rattle.ldm_frags.specs.Faults.{first_block_fault}
use Rattle.ldm_frags.specs.Joins.{Joins}

-- a list that is answered is joined, and a fault is the first
abbrev pub AnswersBlocks : List ℕ → Result (Vec Joined) FragError → Type 0
AnswersBlocks blocks (Ok list) = Joins blocks list.items
AnswersBlocks blocks (Err NoMemory) = Unit {0}
AnswersBlocks blocks (Err (Fault fault)) = first_block_fault blocks ≡ Some fault

-- the error is this fault, if there is one
abbrev pub IsFault : FragError → Option FragFault → Type 0
IsFault NoMemory found = Unit {0}
IsFault (Fault fault) found = found ≡ Some fault

-- what one block adds, as a list
abbrev pub list_of : Option Joined → List Joined
list_of None = []
list_of (Some joined) = joined ∷ []
