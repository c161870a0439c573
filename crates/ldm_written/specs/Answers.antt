-- What `join` and `split` answer. Want of memory is left free.
use Rattle.std.specs.Prelude.{◌≡◌, ℕ, ◌*◌, ◌<◌, ◌≤◌, List, Result, Ok, Err, length}
use Rattle.std.specs.Global.{Vec}
use Rattle.ldm_frags.specs.declared.faults.FragFault.{FragFault}
use Rattle.ldm_frags.specs.declared.faults.FragError.{FragError}
use Rattle.ldm_frags.specs.declared.faults.FragError.TheVariants.{Fault, NoMemory}
use Rattle.ldm_frags.specs.declared.faults.Joined.{Joined}
use Rattle.ldm_written.specs.declared.error.SplitError.{SplitError}
use Rattle.ldm_written.specs.declared.error.SplitError.TheVariants as split_errors
use Rattle.ldm_written.specs.Written.{Holds, laid_in_order}
use Rattle.ldm_vmdb.specs.Parts.{blocks_needed}

-- the answer is this list
abbrev pub GivesList : Result (Vec Joined) FragError → List Joined → Type 0
GivesList (Ok given) list = given.items ≡ list
GivesList (Err NoMemory) list = Unit {0}
GivesList (Err (Fault fault)) list = ⊥

-- the answer is this fault
abbrev pub Refuses : Result (Vec Joined) FragError → FragFault → Type 0
Refuses (Ok given) fault = ⊥
Refuses (Err NoMemory) fault = Unit {0}
Refuses (Err (Fault found)) fault = found ≡ fault

-- the blocks that were asked for, which hold the records of the payloads in their order, or no room, with how many are needed and how many there are
abbrev pub SplitAnswers : List (List ℕ) → ℕ → Result (List ℕ) SplitError → Type 0
SplitAnswers payloads blocks (Ok out) =
    (blocks_needed payloads ≤ blocks) × (length out ≡ 128 * blocks) × Holds out (laid_in_order 4 payloads)
SplitAnswers payloads blocks (Err split_errors.NoMemory) = Unit {0}
SplitAnswers payloads blocks (Err (split_errors.NoRoom need have)) =
    (need ≡ blocks_needed payloads) × (have ≡ blocks) × (blocks < blocks_needed payloads)
