-- GUID texts: 36 characters, 32 hexadecimal digits of either case with hyphens at the places 8, 13, 18 and 23.
use Rattle.std.specs.Prelude.{◌≡◌, ℕ, List, Option, Some, None}
use Rattle.byteorder.specs.Endian.{big_number, big_bytes}
use Rattle.uuid.specs.Text.{parsed_hyphenated, hyphenated_text, lower}

abbrev pub guid_number : Option (List ℕ) → Option ℕ
guid_number None = None
guid_number (Some bytes) = Some (big_number 16 bytes)

-- the GUID that the text stands for, as a number of 128 bits; nothing where it is no GUID text
unfoldable pub guid_of : List ℕ → Option ℕ
guid_of text = guid_number (parsed_hyphenated text)

-- the text stands for this GUID
abbrev pub IsGuidText : ℕ → List ℕ → Type 0
IsGuidText guid text = guid_of text ≡ Some guid

-- the text that is written for a GUID, in lower case
unfoldable pub own_guid : ℕ → List ℕ
own_guid guid = hyphenated_text lower (big_bytes 16 guid)
