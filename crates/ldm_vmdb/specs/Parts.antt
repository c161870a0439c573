-- How many blocks (VBLKs) payloads take, of which each holds 112 bytes.
use Rattle.std.specs.Prelude.{ℕ, ◌+◌, ◌/◌, ◌≤◌, List, length, sum_by}

-- how many blocks n bytes take: n / 112 rounded up
abbrev pub parts_of : ℕ → ℕ
parts_of n = (n + 111) / 112

-- a payload that a record may have: 1 to 448 bytes, which take 1 to 4 blocks
abbrev pub IsSized : List ℕ → Type 0
IsSized bytes = (1 ≤ length bytes) × (length bytes ≤ 448)

-- how many blocks the payloads take together
abbrev pub blocks_needed : List (List ℕ) → ℕ
blocks_needed payloads = sum_by (λ bytes. parts_of (length bytes)) payloads
