-- The unused blocks of a list.
use Rattle.std.specs.Prelude.{ℕ, ◌-◌, ◌==◌, Bool, List, filter}
use Rattle.ldm_frags.specs.Blocks.{count, parts, numbers_from}

abbrev pub is_free : List ℕ → ℕ → Bool
is_free blocks b = parts blocks (b - 4) == 0

-- the numbers of the unused blocks
abbrev pub free_numbers : List ℕ → List ℕ
free_numbers blocks = filter (is_free blocks) (numbers_from 4 (count blocks))
