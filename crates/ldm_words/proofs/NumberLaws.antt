-- Digits are text, and what parsing them gives.
use Rattle.std.proofs.Common.{◌≡◌, ℕ, ◌<◌, ◌≤◌, ◌^◌, Bool, true, false, cond, ◌&&◌, List, length, refl, ◌∙◌, ap, arith, rules, Some, None, Result, Ok, Err, Bor}
use Rattle.std.specs.Prelude.{nat_lt, nat_le}
use Rattle.std.specs.List.{list_all}
use Rattle.std.specs.Result.{result_ok, MatchResult, OkIff}
use Rattle.std.specs.Str.{IsUtf8}
use Rattle.std.specs.Str.Parse.{digits_value, ParsesUnsigned}
use Rattle.std.proofs.lemmas.Str.{IsUtf8-from_ascii}
use Rattle.std.proofs.lemmas.Fmt.{IsAscii-from_digits}
use Rattle.std.proofs.lemmas.Str.Parse.{IsNumeralModel, numerals_by_value, parse_digits}
use Rattle.std.proofs.lemmas.Bool.Decides.{nat_tests}
use Rattle.ldm_words.specs.Numbers.{is_digit, is_number, number_of}

own : IsNumeralModel (λ ds. list_all is_digit ds ≡ true) (digits_value 10)
own = numerals_by_value _ (search rules)

digits_are_text : (word : List ℕ) → list_all is_digit word ≡ true → IsUtf8 word
digits_are_text word digits = IsUtf8-from_ascii word (IsAscii-from_digits word (own.to word digits))

-- the text of a word is that word
pub text_is : {E : Type 0} (read : Result (Bor (List ℕ)) E) (text : Bor (List ℕ)) (word : List ℕ) (Refused : E → Type 0)
    → MatchResult read (λ s. (s.now ≡ word) × IsUtf8 word) Refused → Some text ≡ result_ok read → text.now ≡ word
text_is (Ok s) text word Refused reads is =
    let same : text ≡ s = cc in
    ap (λ (t : Bor (List ℕ)). t.now) same ∙ reads.0
text_is (Err e) text word Refused reads is = absurd cc

-- digits are always text
pub digits_read : {E : Type 0} (read : Result (Bor (List ℕ)) E) (word : List ℕ) (Told : E → Type 0)
    → MatchResult read (λ s. (s.now ≡ word) × IsUtf8 word) (λ e. ¬ IsUtf8 word × Told e) → None ≡ result_ok read → list_all is_digit word ≡ true → ⊥
digits_read (Ok s) word Told reads is digits = absurd cc
digits_read (Err e) word Told reads is digits = reads.0 (digits_are_text word digits)

large_is : (value : ℕ) → (value < 2 ^ 64 → ⊥) → nat_lt value (2 ^ 64) ≡ false
large_is value not_small = grind (arith, nat_tests, not_small)

-- where the first three tests pass, the last decides
last_test : (some few digits small : Bool) (value : ℕ) → some ≡ true → few ≡ true → digits ≡ true → cond small (Some value) None ≡ cond (some && (few && (digits && small))) (Some value) None
last_test some few digits small value a b c = rw (a, b, c) refl

-- what parsing at most 20 digits gives is the number
pub parsed : {E : Type 0} (word : List ℕ) (result : Result ℕ E) → list_all is_digit word ≡ true → 0 < length word → length word ≤ 20 → ParsesUnsigned 64 10 word result
    → result_ok result ≡ number_of word
unfolding number_of is_number
parsed word result digits some few parses =
    by_result result (parse_digits own 64 word result parses digits)
    ∙ last_test (nat_lt 0 (length word)) (nat_le (length word) 20) (list_all is_digit word) (nat_lt (digits_value 10 word) (2 ^ 64)) (digits_value 10 word) (grind (arith, nat_tests)) (grind (arith, nat_tests)) digits
  where
    by_result : {E : Type 0} (result : Result ℕ E) → OkIff result ((0 < length word) × (digits_value 10 word < 2 ^ 64)) (digits_value 10 word)
        → result_ok result ≡ cond (nat_lt (digits_value 10 word) (2 ^ 64)) (Some (digits_value 10 word)) None
    by_result (Ok value) is =
        let small : nat_lt (digits_value 10 word) (2 ^ 64) ≡ true = grind (arith, nat_tests, is.0.1) in
        rw small (ap Some is.1)
    by_result (Err e) isnt =
        let large : nat_lt (digits_value 10 word) (2 ^ 64) ≡ false = large_is (digits_value 10 word) (λ small. isnt (some, small)) in
        rw large refl
