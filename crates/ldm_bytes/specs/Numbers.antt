-- Variable numbers and variable texts, as the records of the database spell them.
use Rattle.std.specs.Prelude.{◌≡◌, ℕ, ◌^◌, ◌≤◌, ◌<◌, List, [], ◌∷◌, length, take, drop, slice_index, Option, Some, None, nat_lt, if◌then◌else◌}
use Rattle.byteorder.specs.Endian.{big_number, big_bytes}

-- each number of the list is a byte
abbrev pub IsBytes : List ℕ → Type 0
IsBytes w = (k : ℕ) → slice_index w k < 256

-- w spells the number v: a length byte n of 0 to 8, and then n bytes whose value to base 256 is v
abbrev pub IsNumber : ℕ → List ℕ → Type 0
IsNumber v [] = ⊥
IsNumber v (n ∷ bytes) = (n ≤ 8) × (length bytes ≡ n) × (v ≡ big_number n bytes)

-- w spells the text t: its length, at most 255, as one byte, and then t
abbrev pub IsText : List ℕ → List ℕ → Type 0
IsText t w = (length t ≤ 255) × (w ≡ length t ∷ t)

-- the fewest bytes that hold v, and at least one
abbrev pub width : ℕ → ℕ
width v =
    if nat_lt v (2 ^ 8) then 1
    else if nat_lt v (2 ^ 16) then 2
    else if nat_lt v (2 ^ 24) then 3
    else if nat_lt v (2 ^ 32) then 4
    else if nat_lt v (2 ^ 40) then 5
    else if nat_lt v (2 ^ 48) then 6
    else if nat_lt v (2 ^ 56) then 7
    else 8

-- the spelling of v that is written
unfoldable pub own_number : ℕ → List ℕ
own_number v = width v ∷ big_bytes (width v) v

-- the number at the front of the bytes, and the bytes after it
unfoldable pub number_at : List ℕ → Option (ℕ × List ℕ)
number_at [] = None
number_at (n ∷ bytes) =
    if nat_lt 8 n then None
    else if nat_lt (length bytes) n then None
    else Some (big_number n bytes, drop n bytes)

-- the text at the front of the bytes, and the bytes after it
unfoldable pub text_at : List ℕ → Option (List ℕ × List ℕ)
text_at [] = None
text_at (n ∷ bytes) = if nat_lt (length bytes) n then None else Some (take n bytes, drop n bytes)

-- what a function returned, seen by view, is what reading gives
abbrev pub Reads : {X Y : Type 0} → (X → Y) → Option X → Option Y → Type 0
Reads view None read = read ≡ None
Reads view (Some x) read = read ≡ Some (view x)
