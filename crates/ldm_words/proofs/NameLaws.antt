-- What is said of a name reads as the name.
use Rattle.std.proofs.Common.{◌≡◌, ℕ, ◌+◌, ◌*◌, ◌/◌, ◌%◌, ◌<◌, ◌≤◌, ◌==◌, ◌&&◌, not, Bool, true, false, cond, List, [], ◌∷◌, ◌++◌, length, flat_map, codes, bytes_eq, nat_le, refl, ap, ◌∙◌, arith, Option, Some, None}
use Rattle.std.specs.List.{All}
use Rattle.std.proofs.lemmas.Bool.{and_parts}
use Rattle.std.proofs.lemmas.Bool.Decides.{nat_tests}
use Rattle.std.proofs.lemmas.List.Elements.{All-tail}
use Rattle.ldm_words.specs.Names.{is_hex, hex_value, hex_digit, hex_byte, is_plain, plain_byte, escaped_value, ◌before◌, spelled, at_most, name_of, esc_byte, esc}

-- ---- one byte

hex_is : (d : ℕ) → d < 16 → is_hex (hex_digit d) ≡ true
hex_is d lt = grind (arith, nat_tests)

hex_back : (d : ℕ) → d < 16 → hex_value (hex_digit d) ≡ d
hex_back d lt = grind (arith, nat_tests)

escaped_back : (c : ℕ) → c < 256 → escaped_value 120 (hex_digit (c / 16)) (hex_digit (c % 16)) ≡ Some c
escaped_back c lt =
    let high : c / 16 < 16 = omega arith in
    let low : c % 16 < 16 = omega arith in
    let whole : 16 * hex_value (hex_digit (c / 16)) + hex_value (hex_digit (c % 16)) ≡ c = omega (arith, hex_back (c / 16) high, hex_back (c % 16) low) in
    let both : (is_hex (hex_digit (c / 16)) && is_hex (hex_digit (c % 16))) ≡ true = ap (λ b. b && is_hex (hex_digit (c % 16))) (hex_is (c / 16) high) ∙ hex_is (c % 16) low in
    ap (λ b. cond b (Some (16 * hex_value (hex_digit (c / 16)) + hex_value (hex_digit (c % 16)))) None) both ∙ ap (λ (n : ℕ). Some n) whole

-- a byte that stands for itself is no backslash
no_backslash : (c : ℕ) → is_plain c ≡ true → (c == 92) ≡ false
no_backslash c h = go (c == 92) (and_parts (nat_le c 0x7E) (not (c == 92)) (and_parts (nat_le 0x21 c) (nat_le c 0x7E && not (c == 92)) h).1).1
  where
    go : (b : Bool) → not b ≡ true → b ≡ false
    go true e = absurd cc
    go false e = refl

plain_step : (c : ℕ) (rest : List ℕ) → (c == 92) ≡ false → spelled (c ∷ rest) ≡ (plain_byte c before spelled rest)
unfolding spelled
plain_step c [] h = refl
plain_step c (x ∷ []) h = refl
plain_step c (x ∷ a ∷ []) h = refl
plain_step c (x ∷ a ∷ b ∷ rest) h = ap (λ t. cond t (escaped_value x a b before spelled rest) (plain_byte c before spelled (x ∷ a ∷ b ∷ rest))) h

escape_step : (a b : ℕ) (rest : List ℕ) → spelled (92 ∷ 120 ∷ a ∷ b ∷ rest) ≡ (escaped_value 120 a b before spelled rest)
unfolding spelled
escape_step a b rest = refl

byte_back : (c : ℕ) (rest : List ℕ) → c < 256 → spelled (esc_byte c ++ rest) ≡ (Some c before spelled rest)
byte_back c rest lt = go (is_plain c) refl
  where
    go : (b : Bool) → is_plain c ≡ b → spelled (cond b (c ∷ []) (92 ∷ 120 ∷ hex_byte c) ++ rest) ≡ (Some c before spelled rest)
    go true is = plain_step c rest (no_backslash c is) ∙ ap (λ t. cond t (Some c) None before spelled rest) is
    go false is = escape_step (hex_digit (c / 16)) (hex_digit (c % 16)) rest ∙ ap (λ (o : Option ℕ). o before spelled rest) (escaped_back c lt)

-- ---- all of them

bytes_back : (cs : List ℕ) → All (λ c. c < 256) cs → spelled (flat_map esc_byte cs) ≡ Some cs
unfolding spelled
bytes_back [] small = refl
bytes_back (c ∷ cs) small =
    byte_back c (flat_map esc_byte cs) (small 0 c (omega arith)) ∙ ap (λ (o : Option (List ℕ)). Some c before o) (bytes_back cs (All-tail (λ b. b < 256) c cs small))

some_zero : (n : ℕ) → 0 < n → (n == 0) ≡ false
some_zero n lt = grind (arith, nat_tests)

-- it is no word for the empty name, and not empty
not_empty : (c : ℕ) (rest : List ℕ) → ((length (esc_byte c ++ rest) == 0) ≡ false) × (bytes_eq (esc_byte c ++ rest) (codes "\\e") ≡ false)
not_empty c rest = go (is_plain c) refl
  where
    go : (b : Bool) → is_plain c ≡ b → ((length (cond b (c ∷ []) (92 ∷ 120 ∷ hex_byte c) ++ rest) == 0) ≡ false) × (bytes_eq (cond b (c ∷ []) (92 ∷ 120 ∷ hex_byte c) ++ rest) (codes "\\e") ≡ false)
    go true is = (some_zero (length (c ∷ rest)) (omega arith), ap (λ t. t && bytes_eq rest (101 ∷ [])) (no_backslash c is))
    go false is = (some_zero (length (92 ∷ 120 ∷ hex_byte c ++ rest)) (omega arith), refl)

short : (n : ℕ) → n ≤ 255 → nat_le n 255 ≡ true
short n le = grind (arith, nat_tests)

pub names_back : (name : List ℕ) → All (λ c. c < 256) name → length name ≤ 255 → name_of (esc name) ≡ Some name
unfolding name_of
names_back [] small le = refl
names_back (c ∷ cs) small le =
    let word = flat_map esc_byte (c ∷ cs) in
    let other = not_empty c (flat_map esc_byte cs) in
    ap (λ t. cond t None (cond (bytes_eq word (codes "\\e")) (Some []) (at_most 255 (spelled word)))) other.0
    ∙ ap (λ t. cond t (Some []) (at_most 255 (spelled word))) other.1
    ∙ ap (λ (o : Option (List ℕ)). at_most 255 o) (bytes_back (c ∷ cs) small)
    ∙ ap (λ t. cond t (Some (c ∷ cs)) None) (short (length (c ∷ cs)) le)
