-- The fields of a record, one after the other: their values, what each may be, and how they are spelled.
use Rattle.std.specs.Prelude.{◌≡◌, ℕ, ◌+◌, ◌^◌, ◌<◌, ◌≤◌, Bool, true, false, List, [], ◌∷◌, ◌++◌, length}
use Rattle.byteorder.specs.Endian.{big_bytes}
use Rattle.ldm_bytes.specs.Guid.{IsGuidText, own_guid}
use Rattle.ldm_bytes.specs.Numbers.{IsNumber, IsText, own_number}

-- the value of a field: fixed bytes, a number in so many bytes, a GUID that is written as a text,
-- a variable number, a variable text, or nothing
pub data Value : Type 0 where
  Fixed : List ℕ → Value
  Wide : ℕ → ℕ → Value
  GuidText : ℕ → Value
  Number : ℕ → Value
  Text : List ℕ → Value
  Absent : Value

-- what a field may be: so many fixed bytes, a number in so many bytes, the text of a GUID, a variable
-- number, a variable text, or one of these that is there exactly where a flag is set
pub data FieldKind : Type 0 where
  FixedKind : ℕ → FieldKind
  WideKind : ℕ → FieldKind
  GuidKind : FieldKind
  NumberKind : FieldKind
  TextKind : FieldKind
  When : Bool → FieldKind → FieldKind

abbrev pub HasKind : FieldKind → Value → Type 0
HasKind (FixedKind n) (Fixed bytes) = length bytes ≡ n
HasKind (WideKind n) (Wide m v) = (m ≡ n) × (v < 256 ^ n)
HasKind GuidKind (GuidText v) = v < 2 ^ 128
HasKind NumberKind (Number v) = v < 2 ^ 64
HasKind TextKind (Text t) = length t ≤ 255
HasKind (When true k) x = HasKind k x
HasKind (When false k) Absent = Unit {0}
HasKind _ _ = ⊥

-- the values are of these kinds, each of its own
abbrev pub HasKinds : List FieldKind → List Value → Type 0
HasKinds [] [] = Unit {0}
HasKinds (k ∷ ks) (x ∷ xs) = HasKind k x × HasKinds ks xs
HasKinds _ _ = ⊥

-- w spells the value
abbrev pub SpellsValue : Value → List ℕ → Type 0
SpellsValue (Fixed bytes) w = w ≡ bytes
SpellsValue (Wide n v) w = w ≡ big_bytes n v
SpellsValue (GuidText v) w = (t : List ℕ) × IsText t w × IsGuidText v t
SpellsValue (Number v) w = IsNumber v w
SpellsValue (Text t) w = IsText t w
SpellsValue Absent w = w ≡ []

-- w spells the values in their order
abbrev pub SpellsValues : List Value → List ℕ → Type 0
SpellsValues [] w = w ≡ []
SpellsValues (x ∷ xs) w = (a : List ℕ) × (b : List ℕ) × SpellsValue x a × SpellsValues xs b × (w ≡ a ++ b)

-- the spelling that is written: numbers with the fewest bytes, GUID texts in lower case
abbrev pub own_value : Value → List ℕ
own_value (Fixed bytes) = bytes
own_value (Wide n v) = big_bytes n v
own_value (GuidText v) = 36 ∷ own_guid v
own_value (Number v) = own_number v
own_value (Text t) = length t ∷ t
own_value Absent = []

abbrev pub own_values : List Value → List ℕ
own_values [] = []
own_values (x ∷ xs) = own_value x ++ own_values xs

-- the length of that spelling
abbrev pub value_len : Value → ℕ
value_len (Fixed bytes) = length bytes
value_len (Wide n v) = n
value_len (GuidText v) = 37
value_len (Number v) = length (own_number v)
value_len (Text t) = length t + 1
value_len Absent = 0

abbrev pub values_len : List Value → ℕ
values_len [] = 0
values_len (x ∷ xs) = value_len x + values_len xs
