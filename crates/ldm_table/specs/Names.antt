-- Names of devices, and how they are escaped.
use Rattle.std.specs.Prelude.{ℕ, ◌==◌, ◌&&◌, ◌||◌, nat_le, Bool, List, [], ◌∷◌, ◌++◌, flat_map, codes, if◌then◌else◌}
use Rattle.std.specs.List.{list_any}
use Rattle.ldm_records.specs.declared.types.Volume.{Volume}
use Rattle.ldm_words.specs.Names.{hex_byte}

-- ---- names

-- the bytes that a name of a device may have as they are: letters, digits and #+-.:=@_
abbrev pub is_letter : ℕ → Bool
is_letter c = (nat_le 48 c && nat_le c 57) || ((nat_le 65 c && nat_le c 90) || (nat_le 97 c && nat_le c 122))

abbrev pub is_listed : ℕ → Bool
is_listed c = is_letter c || list_any (λ d. c == d) (codes "#+-.:=@_")

-- each other byte as \x and two digits
abbrev pub mangled_byte : ℕ → List ℕ
mangled_byte c = if is_listed c then c ∷ [] else 92 ∷ 120 ∷ hex_byte c

abbrev pub mangled : List ℕ → List ℕ
mangled name = flat_map mangled_byte name

-- a word, the group and the name
unfoldable pub device_name : List ℕ → List ℕ → List ℕ → List ℕ
device_name word group name = (word ++ mangled group) ++ (codes "_" ++ mangled name)

-- of a partition, and of a volume
abbrev pub part_device : List ℕ → List ℕ → List ℕ
part_device group name = device_name (codes "ldm_part_") group name

abbrev pub volume_name : List ℕ → Volume → List ℕ
volume_name group v = device_name (codes "ldm_vol_") group v.head.name

-- ---- escapes

-- a comma, a semicolon and a backslash stand behind a backslash
abbrev pub escaped_byte : ℕ → List ℕ
escaped_byte c = if list_any (λ d. c == d) (codes ",;\\") then 92 ∷ c ∷ [] else c ∷ []

abbrev pub escaped : List ℕ → List ℕ
escaped text = flat_map escaped_byte text

-- in an argument of a target each backslash is two, before these are escaped
abbrev pub argument_byte : ℕ → List ℕ
argument_byte c = if c == 92 then codes "\\\\\\\\" else escaped_byte c

abbrev pub argument : List ℕ → List ℕ
argument word = flat_map argument_byte word
