-- The units that spell a name: one byte, or an escape of four.
use Rattle.std.specs.Prelude.{ℕ, ◌==◌, ◌&&◌, nat_le, List, length, get_or, if◌then◌else◌, Option, Some, None}
use Rattle.ldm_words.specs.Names.{plain_byte, escaped_value}

abbrev pub sized : ℕ → Option ℕ → Option (ℕ × ℕ)
sized n None = None
sized n (Some c) = Some (c, n)

-- the byte that is spelled at the front, and how many bytes spell it
abbrev pub unit_of : List ℕ → Option (ℕ × ℕ)
unit_of rest =
    if (get_or rest 0 0 == 92) && nat_le 4 (length rest) then sized 4 (escaped_value (get_or rest 1 0) (get_or rest 2 0) (get_or rest 3 0))
    else sized 1 (plain_byte (get_or rest 0 0))
