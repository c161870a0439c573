-- What reading a copy answers.
use Rattle.std.specs.Prelude.{◌≡◌, ℕ, ◌*◌, ◌≤◌, List, Result, Ok, Err}
use Rattle.ldm_group.specs.Database.{Database}
pub use Rattle.ldm_group.specs.Room.{FitsHeader}
use Rattle.ldm_copy.specs.declared.answer.CopyState.{CopyState}
use Rattle.ldm_copy.specs.declared.answer.CopyState.TheVariants.{Closed, Valid}
use Rattle.ldm_copy.specs.declared.answer.CopyFault.{CopyFault}
use Rattle.ldm_copy.specs.declared.answer.CopyError.{CopyError}
use Rattle.ldm_copy.specs.declared.answer.CopyError.TheVariants.{Fault, Disk, NoMemory}
use Rattle.ldm_copy.specs.Copy.{IsCopyOf}

-- what was answered is the copy, unless a call of the disk failed or memory ran out
abbrev pub IsAnswer : List ℕ → ℕ → Result CopyState CopyError → Type 0
IsAnswer area sectors (Ok state) = IsCopyOf area sectors (Ok state)
IsAnswer area sectors (Err (Fault fault)) = IsCopyOf area sectors (Err fault)
IsAnswer area sectors (Err Disk) = Unit {0}
IsAnswer area sectors (Err NoMemory) = Unit {0}

-- this copy was answered, unless a call of the disk failed or memory ran out
abbrev pub AnswersCopy : Result CopyState CopyError → Result CopyState CopyFault → Type 0
AnswersCopy (Ok state) copy = copy ≡ Ok state
AnswersCopy (Err (Fault fault)) copy = copy ≡ Err fault
AnswersCopy (Err Disk) copy = Unit {0}
AnswersCopy (Err NoMemory) copy = Unit {0}

-- the last VBLK sequence lies in an area of so many sectors, and the records fit the header
pub record FitsArea (db : Database) (sectors : ℕ) : Type 0 where
  pub last : db.header.last ≤ 4 * sectors
  pub room : FitsHeader db

abbrev pub IsSoundState : ℕ → CopyState → Type 0
IsSoundState sectors Closed = Unit {0}
IsSoundState sectors (Valid db) = FitsArea db sectors
