-- CRC-32 as IEEE 802.3 defines it: what is left when the bits of some bytes are divided by a polynomial. Of each byte the
-- lowest bit comes first, so the lowest bit of the remainder stands for its highest power of x.
use Rattle.std.specs.Prelude.{ℕ, zero, suc, ◌-◌, ◌/◌, ◌%◌, ◌^◌, ◌==◌, List, fold, bit_xor, if◌then◌else◌}

-- One step of the division multiplies the remainder by x. Where that makes a power of 32, the polynomial is taken away.
abbrev pub divided_once : ℕ → ℕ
divided_once r = if r % 2 == 1 then bit_xor (r / 2) 0xEDB88320 else r / 2

-- a number of steps
abbrev pub divided : ℕ → ℕ → ℕ
divided zero r = r
divided (suc n) r = divided n (divided_once r)

-- the remainder when a byte follows
unfoldable pub with_byte : ℕ → ℕ → ℕ
with_byte r byte = divided 8 (bit_xor r byte)

-- the remainder when these bytes follow
abbrev pub with_bytes : ℕ → List ℕ → ℕ
with_bytes r bytes = fold with_byte r bytes

-- The division begins with 32 ones, and the remainder is inverted in the end.
abbrev pub crc32 : List ℕ → ℕ
crc32 bytes = bit_xor (with_bytes (2 ^ 32 - 1) bytes) (2 ^ 32 - 1)
