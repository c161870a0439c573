-- A walk along a list that ends at the first fault, and the first of a list that has a property.
use Rattle.std.specs.Prelude.{ℕ, zero, suc, List, [], ◌∷◌, Option, Some, None, Result, Ok, Err}

-- what each of a list is, or the first that has a fault, with its place
abbrev pub Gathers : {A B F : Type 0} → (A → Result B F → Type 0) → List A → Result (List B) (ℕ × F) → Type 0
Gathers Is [] (Ok []) = Unit {0}
Gathers {B = B} Is (a ∷ more) (Ok (b ∷ bs)) = Is a (Ok b) × Gathers Is more (Ok bs)
Gathers Is (a ∷ more) (Err (zero, fault)) = Is a (Err fault)
Gathers {B = B} Is (a ∷ more) (Err (suc place, fault)) = ((b : B) × Is a (Ok b)) × Gathers Is more (Err (place, fault))
Gathers Is _ _ = ⊥

-- the place of the first that has the property, or that none has it
abbrev pub IsFirst : {A : Type 0} → (A → Type 0) → List A → Option ℕ → Type 0
IsFirst Has [] None = Unit {0}
IsFirst Has (a ∷ more) None = (Has a → ⊥) × IsFirst Has more None
IsFirst Has (a ∷ more) (Some zero) = Has a
IsFirst Has (a ∷ more) (Some (suc place)) = (Has a → ⊥) × IsFirst Has more (Some place)
IsFirst Has [] (Some place) = ⊥
