-- How a NAME is written.
use Rattle.std.specs.Prelude.{◌≡◌, ℕ, ◌+◌, ◌*◌, ◌-◌, ◌/◌, ◌%◌, ◌<◌, ◌≤◌, ◌==◌, ◌&&◌, ◌||◌, not, nat_le, nat_lt, Bool, List, [], ◌∷◌, All, length, flat_map, codes, bytes_eq, if◌then◌else◌, Option, Some, None}
use Rattle.ldm_words.specs.Numbers.{is_digit}

-- a lower-case hexadecimal digit, and its value
abbrev pub is_hex : ℕ → Bool
is_hex c = is_digit c || (nat_le 97 c && nat_le c 102)

abbrev pub hex_value : ℕ → ℕ
hex_value c = if nat_le 97 c then c - 87 else c - 48

-- a byte that stands for itself: 0x21 to 0x7E, but the backslash
abbrev pub is_plain : ℕ → Bool
is_plain c = nat_le 0x21 c && (nat_le c 0x7E && not (c == 92))

abbrev pub plain_byte : ℕ → Option ℕ
plain_byte c = if is_plain c then Some c else None

-- the byte that a backslash and these three stand for: an x and two digits
abbrev pub escaped_value : ℕ → ℕ → ℕ → Option ℕ
escaped_value x a b = if (x == 120) && (is_hex a && is_hex b) then Some (16 * hex_value a + hex_value b) else None

infixr 20 ◌before◌
-- one byte in front of the others, where both can be read
abbrev pub ◌before◌ : Option ℕ → Option (List ℕ) → Option (List ℕ)
None before cs = None
(Some c) before None = None
(Some c) before (Some cs) = Some (c ∷ cs)

-- the bytes that are spelled, each by itself or by an escape
unfoldable pub spelled : List ℕ → Option (List ℕ)
spelled [] = Some []
spelled (c ∷ x ∷ a ∷ b ∷ rest) = if c == 92 then escaped_value x a b before spelled rest else plain_byte c before spelled (x ∷ a ∷ b ∷ rest)
spelled (c ∷ rest) = plain_byte c before spelled rest

abbrev pub at_most : ℕ → Option (List ℕ) → Option (List ℕ)
at_most n None = None
at_most n (Some bytes) = if nat_le (length bytes) n then Some bytes else None

-- the name that the word is, if it is one: \e is the empty name
unfoldable pub name_of : List ℕ → Option (List ℕ)
name_of word =
    if length word == 0 then None
    else if bytes_eq word (codes "\\e") then Some []
    else at_most 255 (spelled word)

-- ---- how a name is said

abbrev pub hex_digit : ℕ → ℕ
hex_digit d = if nat_lt d 10 then 48 + d else 87 + d

-- two lower-case hexadecimal digits
abbrev pub hex_byte : ℕ → List ℕ
hex_byte c = hex_digit (c / 16) ∷ hex_digit (c % 16) ∷ []

-- a byte of a name: itself, or \xHH
abbrev pub esc_byte : ℕ → List ℕ
esc_byte c = if is_plain c then c ∷ [] else 92 ∷ 120 ∷ hex_byte c

-- a name; the empty name is \e
abbrev pub esc : List ℕ → List ℕ
esc [] = codes "\\e"
esc (c ∷ cs) = flat_map esc_byte (c ∷ cs)

-- what is said of a name of up to 255 bytes is a word that reads as the name
abbrev pub NamesReadBack : Type 0
NamesReadBack = (name : List ℕ) → All (λ c. c < 256) name → length name ≤ 255 → name_of (esc name) ≡ Some name
