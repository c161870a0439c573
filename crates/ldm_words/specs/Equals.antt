-- Where the last = of a token stands.
use Rattle.std.specs.Prelude.{◌≡◌, ℕ, ◌+◌, ◌<◌, true, false, List, length, take, drop, Option, Some, None}
use Rattle.std.specs.List.{list_any, before_last, after_last}
use Rattle.ldm_words.specs.Commands.{is_equals}

pub record IsPlaceOfEquals (token : List ℕ) (place : ℕ) : Type 0 where
  pub inside : place < length token
  pub any : list_any is_equals token ≡ true
  pub before : before_last is_equals token ≡ take place token
  pub after : after_last is_equals token ≡ drop (place + 1) token

abbrev pub IsLastEquals : List ℕ → Option ℕ → Type 0
IsLastEquals token None = list_any is_equals token ≡ false
IsLastEquals token (Some place) = IsPlaceOfEquals token place
