-- Bytes and big-endian numbers at plain offsets of a list of bytes.
use Rattle.std.specs.Prelude.{ℕ, ◌+◌, List, [], ◌∷◌, ◌++◌, length, take, drop}
use Rattle.byteorder.specs.Endian.{big_number}

-- the big-endian number in the 2, 4 or 8 bytes from that place on
abbrev pub u16_at : List ℕ → ℕ → ℕ
u16_at bytes at = big_number 2 (drop at bytes)

abbrev pub u32_at : List ℕ → ℕ → ℕ
u32_at bytes at = big_number 4 (drop at bytes)

abbrev pub u64_at : List ℕ → ℕ → ℕ
u64_at bytes at = big_number 8 (drop at bytes)

-- the old bytes, with these bytes in place of those that stood there
abbrev pub put : List ℕ → ℕ → List ℕ → List ℕ
put old at bytes = take at old ++ bytes ++ drop (at + length bytes) old

-- the old bytes, with each of these put at its offset
unfoldable pub put_each : List ℕ → List (ℕ × List ℕ) → List ℕ
put_each old [] = old
put_each old (field ∷ fields) = put_each (put old field.0 field.1) fields
