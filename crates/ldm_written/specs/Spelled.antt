-- Fields that can be spelled: the length of a text takes one byte.
use Rattle.std.specs.Prelude.{◌≤◌, List, [], ◌∷◌, length}
use Rattle.ldm_records.specs.Values.{Value, Text}

-- a text is at most 255 long
abbrev pub IsShort : Value → Type 0
IsShort (Text t) = length t ≤ 255
IsShort _ = Unit {0}

abbrev pub AreShort : List Value → Type 0
AreShort [] = Unit {0}
AreShort (x ∷ xs) = IsShort x × AreShort xs
