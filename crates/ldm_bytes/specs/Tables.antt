-- The first fault of a table of faults, in the order of the table.
use Rattle.std.specs.Prelude.{Bool, List, [], ◌∷◌, if◌then◌else◌, Option, Some, None, Result, Ok, Err}

-- the first fault that is there: a row is a fault, and whether it is there
abbrev pub first_fault : {F : Type 0} → List (F × Bool) → Option F
first_fault [] = None
first_fault (row ∷ rest) = if row.1 then Some row.0 else first_fault rest

-- the first fault that is found: each row looks for its own
abbrev pub first_of : {F : Type 0} → List (Option F) → Option F
first_of [] = None
first_of (None ∷ rest) = first_of rest
first_of (Some fault ∷ rest) = Some fault

-- the fault, or the value where there is none
abbrev pub unless : {A F : Type 0} → Option F → A → Result A F
unless (Some fault) value = Err fault
unless None value = Ok value
