-- What a command asks of the disks that its words name.
use Rattle.std.specs.Prelude.{ℕ, ◌+◌, ◌-◌, ◌^◌, ◌==◌, ◌||◌, Bool, false, List, [], ◌∷◌, map, Option, Some, None, Result, Ok, Err, nat_lt}
use Rattle.std.specs.List.{list_any}
use Rattle.ldm_records.specs.declared.types.Record.{Record}
use Rattle.ldm_records.specs.declared.types.Disk.{Disk}
use Rattle.ldm_group.specs.Looks.{disk_named}
use Rattle.ldm_words.specs.declared.command.Piece.{Piece}
use Rattle.ldm_space.specs.declared.placed.Wanted.{Wanted}
use Rattle.ldm_space.specs.Wanted.{in_front}

abbrev pub ask : (ℕ → ℕ) → ℕ → ℕ → Option Disk → Result (List Wanted) ℕ → Result (List Wanted) ℕ
ask sectors at size None rest = Err at
ask sectors at size (Some d) rest = in_front (record { disk = d.head.id; limit = sectors d.head.id; size = size }) rest

-- what is asked of the disks of these names, so many sectors each, or the place of the first name that no disk has
abbrev pub asked_for : (ℕ → ℕ) → List Record → ℕ → List (List ℕ × ℕ) → Result (List Wanted) ℕ
asked_for sectors records at [] = Ok []
asked_for sectors records at (word ∷ more) = ask sectors at word.1 (disk_named word.0 records) (asked_for sectors records (at + 1) more)

-- the disk words of pieces, each with the sectors that it is asked for
abbrev pub words_by : List Piece → List (List ℕ × ℕ)
words_by pieces = map (λ p. (p.disk, p.len)) pieces

-- two are asked of one disk
abbrev pub has_twins : List Wanted → Bool
has_twins [] = false
has_twins (w ∷ more) = list_any (λ v. v.disk == w.disk) more || has_twins more

-- more than a number of the format says
abbrev pub is_much : ℕ → Bool
is_much n = nat_lt (2 ^ 64 - 1) n
