-- Copies that hold the same groups, and answers that tell the same.
use Rattle.std.specs.Prelude.{◌≡◌, List, [], ◌∷◌, Result, Ok, Err}
use Rattle.ldm_group.specs.Database.{IsSameCore}
use Rattle.ldm_copy.specs.declared.answer.CopyState.{CopyState}
use Rattle.ldm_copy.specs.declared.answer.CopyState.TheVariants.{Closed, Valid}
use Rattle.ldm_copy.specs.declared.fault.OpenFault.{OpenFault}
use Rattle.ldm_copy.specs.declared.found.Found.{Found}

-- both are closed, or open with the same group
abbrev pub AreSameState : CopyState → CopyState → Type 0
AreSameState Closed Closed = Unit {0}
AreSameState (Valid a) (Valid b) = IsSameCore a b
AreSameState _ _ = ⊥

-- each copy and the one in its place are alike
abbrev pub AllAlike : List CopyState → List CopyState → Type 0
AllAlike [] [] = Unit {0}
AllAlike (x ∷ xs) (y ∷ ys) = AreSameState x y × AllAlike xs ys
AllAlike _ _ = ⊥

-- all but the carried bytes of the header is the same
pub record TellsSame (a b : Found) : Type 0 where
  pub core : IsSameCore a.db b.db
  pub labels : a.labels ≡ b.labels
  pub notes : a.notes ≡ b.notes
  pub blocked : a.blocked ≡ b.blocked

-- equal faults, or groups of which all but the carried bytes is equal
abbrev pub AnswerAlike : Result Found OpenFault → Result Found OpenFault → Type 0
AnswerAlike (Ok a) (Ok b) = TellsSame a b
AnswerAlike (Err f) (Err g) = f ≡ g
AnswerAlike _ _ = ⊥
