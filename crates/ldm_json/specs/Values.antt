-- The JSON values that are said, and the text of one: no space, and a newline behind it. An object has its members in the order
-- in which they are listed.
use Rattle.std.specs.Prelude.{ℕ, List, [], ◌∷◌, ◌++◌, ◌&&◌, nat_le, flat_map, codes, decimal, Option, Some, None, if◌then◌else◌}
use Rattle.std.specs.Option.{option_map}
use Rattle.std.specs.Borrow.{Bor}
use Rattle.json.specs.Token.{Token}
use Rattle.json.specs.Token as token
use Rattle.json.specs.Json.{Json, null, boolean, number, string, array, object, Items, no_items, item, Members, no_members, member}
use Rattle.json.specs.Tree.{json_tokens}
use Rattle.json.specs.Print.{print}
use Rattle.ldm_bytes.specs.Guid.{own_guid}
use Rattle.ldm_words.specs.Names.{hex_byte, esc}
use Rattle.ldm_json.specs.declared.scalar.Scalar.{Scalar}
use Rattle.ldm_json.specs.declared.scalar.Scalar.TheVariants as scalars

-- ---- values

abbrev pub number_json : ℕ → Json
number_json n = number (decimal n)

-- null, where it isn't known
abbrev pub maybe_json : Option ℕ → Json
maybe_json None = null
maybe_json (Some n) = number_json n

-- a text as it is, or null where there is none
abbrev pub maybe_text_json : Option (List ℕ) → Json
maybe_text_json None = null
maybe_text_json (Some text) = string text

-- a name, as it is written on a command line
abbrev pub name_json : List ℕ → Json
name_json name = string (esc name)

abbrev pub maybe_name_json : Option (List ℕ) → Json
maybe_name_json None = null
maybe_name_json (Some name) = name_json name

-- a byte of a text: itself, or \xHH where it is no visible ASCII character or space
abbrev pub said_byte : ℕ → List ℕ
said_byte c = if nat_le 0x20 c && nat_le c 0x7E then c ∷ [] else 92 ∷ 120 ∷ hex_byte c

abbrev pub said : List ℕ → List ℕ
said text = flat_map said_byte text

abbrev pub said_json : List ℕ → Json
said_json text = string (said text)

abbrev pub guid_json : ℕ → Json
guid_json guid = string (own_guid guid)

-- a key and a value
abbrev pub Member : Type 0
Member = List ℕ × Json

abbrev pub json_members : List Member → Members
json_members [] = no_members
json_members (m ∷ ms) = member m.0 m.1 (json_members ms)

abbrev pub json_items : List Json → Items
json_items [] = no_items
json_items (j ∷ js) = item j (json_items js)

abbrev pub json_object : List Member → Json
json_object ms = object (json_members ms)

abbrev pub json_array : List Json → Json
json_array js = array (json_items js)

-- what is said: the text of the value, on a line
abbrev pub line_of_json : Json → List ℕ
line_of_json j = print (json_tokens j) ++ codes "\n"

-- ---- what writes them

abbrev pub json_of : Scalar → Json
json_of (scalars.Number n) = number_json n
json_of (scalars.Maybe n) = maybe_json n
json_of (scalars.Word word) = string word.now
json_of (scalars.MaybeWord word) = maybe_text_json (option_map (λ w. w.now) word)
json_of (scalars.Said text) = said_json text.now
json_of (scalars.Name name) = name_json name.now
json_of (scalars.MaybeName name) = maybe_name_json (option_map (λ n. n.now) name)
json_of (scalars.Guid guid) = guid_json guid
json_of (scalars.Flag flag) = boolean flag
json_of scalars.Null = null

-- a key and a value without parts
abbrev pub Field : Type 0
Field = Bor (List ℕ) × Scalar

abbrev pub json_member : Field → Member
json_member field = (field.0.now, json_of field.1)

-- the tokens of a key and a value without parts
abbrev pub field_tokens : Field → List Token
field_tokens field = token.key field.0.now ∷ json_tokens (json_of field.1)

-- the tokens that begin an object with these members and an array of this key
abbrev pub opening : List Field → List ℕ → List Token
opening fields key = token.begin_object ∷ (flat_map field_tokens fields ++ (token.key key ∷ token.begin_array ∷ []))

-- those that end an array and begin the next
abbrev pub then_array : List ℕ → List Token
then_array key = token.end_array ∷ token.key key ∷ token.begin_array ∷ []

-- those that end an array and its object
abbrev pub closing : List Token
closing = token.end_array ∷ token.end_object ∷ []
