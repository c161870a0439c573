-- How a NUMBER is written.
use Rattle.std.specs.Prelude.{ℕ, ◌^◌, ◌&&◌, nat_lt, nat_le, Bool, List, length, if◌then◌else◌, Option, Some, None}
use Rattle.std.specs.List.{list_all}
use Rattle.std.specs.Str.Parse.{digits_value}

abbrev pub is_digit : ℕ → Bool
is_digit c = nat_le 48 c && nat_le c 57

-- 1 to 20 decimal digits, of a value below 2 ^ 64
unfoldable pub is_number : List ℕ → Bool
is_number word = nat_lt 0 (length word) && (nat_le (length word) 20 && (list_all is_digit word && nat_lt (digits_value 10 word) (2 ^ 64)))

-- the number that the word is, if it is one
unfoldable pub number_of : List ℕ → Option ℕ
number_of word = if is_number word then Some (digits_value 10 word) else None
