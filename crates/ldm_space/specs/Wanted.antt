-- The partitions that a command asks for, in the order of its words, and what they take.
use Rattle.std.specs.Prelude.{ℕ, ◌+◌, List, [], ◌∷◌, Option, Some, None, Result, Ok, Err}
use Rattle.std.specs.Option.{option_map}
pub use Rattle.ldm_space.specs.declared.placed.Wanted.{Wanted}
pub use Rattle.ldm_made.specs.declared.taken.Taken.{Taken}
use Rattle.ldm_space.specs.Free.{first_free_start}

-- the sectors that are wanted of a disk, from a start on
abbrev pub placing : Wanted → ℕ → Taken
placing w start = record { disk = w.disk; start = start; size = w.size }

-- the first fit of what is asked for, beside what is taken
abbrev pub first_fit : List Taken → Wanted → Option Taken
first_fit taken w = option_map (placing w) (first_free_start taken w.disk w.limit w.size)

-- one more in front
abbrev pub in_front : {T : Type 0} → T → Result (List T) ℕ → Result (List T) ℕ
in_front x (Ok more) = Ok (x ∷ more)
in_front x (Err place) = Err place

abbrev pub place_rest : ℕ → (Taken → Result (List Taken) ℕ) → Option Taken → Result (List Taken) ℕ
place_rest at rest None = Err at
place_rest at rest (Some spot) = in_front spot (rest spot)

-- what each takes: its first fit, where those before it are taken too; or the place of the first that finds none
abbrev pub placed : List Taken → ℕ → List Wanted → Result (List Taken) ℕ
placed taken at [] = Ok []
placed taken at (w ∷ more) = place_rest at (λ spot. placed (spot ∷ taken) (at + 1) more) (first_fit taken w)
