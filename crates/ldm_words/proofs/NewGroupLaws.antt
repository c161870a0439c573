-- What the words of a new group leave.
use Rattle.std.proofs.Common.{◌≡◌, ◌≢◌, ℕ, ◌≤◌, ◌&&◌, true, List, [], ◌∷◌, length, All, IfSome, arith, Option, Some, None}
use Rattle.std.specs.Prelude.{nat_le}
use Rattle.std.specs.List.{list_all}
use Rattle.std.proofs.lemmas.Option.{IfSome_then}
use Rattle.std.proofs.lemmas.Bool.{and_parts}
use Rattle.std.proofs.lemmas.Bool.Decides.{nat_tests}
use Rattle.std.proofs.lemmas.List.Elements.{All-nil, All-cons}
use Rattle.ldm_bytes.specs.Guid.{guid_of}
use Rattle.ldm_words.specs.Commands.{each, many}
use Rattle.ldm_words.specs.NewGroup.{is_not_zero, is_group_name, new_group_name}
use Rattle.ldm_words.proofs.LimitLaws.{where_so, within, any_one, are_read}

pub record IsGroupName (name : List ℕ) : Type 0 where
  pub named : 1 ≤ length name
  pub short : length name ≤ 30
  pub no_zero : All (λ c. c ≢ 0) name

none_zero : (name : List ℕ) → list_all is_not_zero name ≡ true → All (λ c. c ≢ 0) name
none_zero [] is = All-nil (λ c. c ≢ 0)
none_zero (c ∷ cs) is =
    let parts = and_parts (is_not_zero c) (list_all is_not_zero cs) is in
    All-cons (λ c. c ≢ 0) c cs (grind (arith, nat_tests, parts.0)) (none_zero cs parts.1)

pub is_new_group_name : (o : Option (List ℕ)) → IfSome (new_group_name o) IsGroupName
is_new_group_name None = tt
is_new_group_name (Some name) = where_so IsGroupName (is_group_name name) (Some name) (λ is.
    let parts = and_parts (nat_le 1 (length name) && nat_le (length name) 30) (list_all is_not_zero name) is in
    let ends = and_parts (nat_le 1 (length name)) (nat_le (length name) 30) parts.0 in
    record { named = within 1 (length name) ends.0; short = within (length name) 30 ends.1; no_zero = none_zero name parts.1 })

-- as many as there are tokens, 2 to 64
pub record AreGuids (count : ℕ) (guids : List ℕ) : Type 0 where
  pub count_is : length guids ≡ count
  pub some : 2 ≤ length guids
  pub few : length guids ≤ 64

pub are_guids : (tokens : List (List ℕ)) → IfSome (many 2 guid_of tokens) (AreGuids (length tokens))
are_guids tokens =
    where_so (AreGuids (length tokens)) (nat_le 2 (length tokens) && nat_le (length tokens) 64) (each guid_of tokens) (λ is.
    let parts = and_parts (nat_le 2 (length tokens)) (nat_le (length tokens) 64) is in
    let some = within 2 (length tokens) parts.0 in
    let few = within (length tokens) 64 parts.1 in
    IfSome_then (each guid_of tokens) (are_read (λ _. Unit {0}) guid_of (λ token. any_one (guid_of token)) tokens) (λ guids are.
    record { count_is = are.count_is; some = omega (arith, are.count_is, some); few = omega (arith, are.count_is, few) }))
