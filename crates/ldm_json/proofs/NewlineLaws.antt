-- How many newlines the text of a JSON value has: those of its numbers, since a string has each as an escape.
use Rattle.std.proofs.Common.{arith, ◌≡◌, ◌∙◌, ℕ, ◌+◌, ◌/◌, ◌%◌, ◌==◌, ◌&&◌, nat_lt, Bool, true, false, cond, List, [], ◌∷◌, ◌++◌, refl, ap}
use Rattle.std.specs.Prelude.{count_by}
use Rattle.std.specs.List.{sum_by}
use Rattle.std.specs.Char.{digit_char}
use Rattle.std.proofs.lemmas.Bool.Decides.{nat_tests}
use Rattle.std.proofs.lemmas.List.Sums.{sum_by-append, sum_by-cons}
use Rattle.json.specs.Token.{Token, key, string, number, boolean}
use Rattle.json.specs.Print.{escape_letter, escape_byte, escape, quoted, token_text, begins, ends, separator, print_from}

abbrev pub newlines : List ℕ → ℕ
newlines text = count_by (λ b. b == 0x0A) text

both_parts : (x y : List ℕ) → newlines (x ++ y) ≡ newlines x + newlines y
both_parts x y = sum_by-append (λ (b : ℕ). cond (b == 0x0A) 1 0) x y

one : (c : ℕ) → (c == 0x0A) ≡ false → newlines (c ∷ []) ≡ 0
one c other = ap (λ (b : Bool). 0 + cond b 1 0) other

-- ---- a byte of a string

digit_is_other : (d : ℕ) → (digit_char d == 0x0A) ≡ false
digit_is_other d = go (nat_lt d 10)
  where
    go : (low : Bool) → (cond low (48 + d) (87 + d) == 0x0A) ≡ false
    go true = grind (arith, nat_tests)
    go false = grind (arith, nat_tests)

letter_is_other : (x : ℕ) → (escape_letter x == 0x0A) ≡ false
letter_is_other x = grind (arith, nat_tests)

escape_ends : (x : ℕ) → newlines (escape_byte x) ≡ 0
unfolding escape_byte
escape_ends x = go (nat_lt 0 (escape_letter x)) (nat_lt x 32) refl refl
  where
    go : (short control : Bool) → nat_lt 0 (escape_letter x) ≡ short → nat_lt x 32 ≡ control
        → newlines (cond short (92 ∷ escape_letter x ∷ []) (cond control (92 ∷ 117 ∷ 48 ∷ 48 ∷ digit_char (x / 16) ∷ digit_char (x % 16) ∷ []) (x ∷ []))) ≡ 0
    go true control a b = one (escape_letter x) (letter_is_other x)
    go false true a b =
        both_parts (digit_char (x / 16) ∷ []) (digit_char (x % 16) ∷ []) ∙ omega (arith, one (digit_char (x / 16)) (digit_is_other (x / 16)), one (digit_char (x % 16)) (digit_is_other (x % 16)))
    go false false a b = one x (grind (arith, nat_tests, b))

escaped_ends : (s : List ℕ) → newlines (escape s) ≡ 0
escaped_ends [] = refl
escaped_ends (x ∷ s) = both_parts (escape_byte x) (escape s) ∙ omega (arith, escape_ends x, escaped_ends s)

quoted_ends : (s : List ℕ) → newlines (quoted s) ≡ 0
quoted_ends s = both_parts (escape s) (34 ∷ []) ∙ omega (arith, escaped_ends s)

-- ---- tokens

-- the newlines of a token, where it is a number
abbrev pub number_newlines : Token → ℕ
number_newlines (number s) = newlines s
number_newlines t = 0

token_ends : (t : Token) → newlines (token_text t) ≡ number_newlines t
token_ends (key s) = both_parts (quoted s) (58 ∷ []) ∙ omega (arith, quoted_ends s)
token_ends (string s) = quoted_ends s
token_ends (boolean true) = refl
token_ends (boolean false) = refl
token_ends t = refl

separator_ends : (after : Bool) (t : Token) → newlines (separator after t) ≡ 0
separator_ends after t = go (after && begins t)
  where
    go : (b : Bool) → newlines (cond b (44 ∷ []) []) ≡ 0
    go true = refl
    go false = refl

pub print_newlines : (after : Bool) (ts : List Token) → newlines (print_from after ts) ≡ sum_by number_newlines ts
unfolding print_from
print_newlines after [] = refl
print_newlines after (t ∷ ts) =
    both_parts (separator after t) (token_text t ++ print_from (ends t) ts)
    ∙ omega (arith, sum_by-cons number_newlines t ts, separator_ends after t, both_parts (token_text t) (print_from (ends t) ts), token_ends t, print_newlines (ends t) ts)
