-- How what is spelled goes on, unit by unit.
use Rattle.std.proofs.Common.{append_assoc, ◌&&◌, ◌≡◌, ℕ, ◌+◌, ◌-◌, take, ◌<◌, ◌≤◌, List, [], ◌∷◌, ◌++◌, length, drop, refl, sym, ◌∙◌, ap, arith, Bool, true, false, cond, Option, Some, None}
use Rattle.std.specs.Prelude.{nat_eq, nat_le}
use Rattle.std.proofs.lemmas.Bool.Decides.{nat_tests}
use Rattle.std.proofs.lemmas.List.{drop-drop, drop_all, take_all, append-nil, length-drop}
use Rattle.ldm_words.specs.Names.{spelled, ◌before◌, plain_byte, escaped_value}
use Rattle.ldm_words.specs.Units.{unit_of, sized}

-- the front, and then what is there
abbrev pub onto : List ℕ → Option (List ℕ) → Option (List ℕ)
onto front None = None
onto front (Some rest) = Some (front ++ rest)

-- the byte of a unit, and what is spelled after it
abbrev pub go_on : Option (ℕ × ℕ) → List ℕ → Option (List ℕ)
go_on None word = None
go_on (Some unit) word = Some unit.0 before spelled (drop unit.1 word)

sized_goes : (n : ℕ) (o : Option ℕ) (word : List ℕ) → go_on (sized n o) word ≡ o before spelled (drop n word)
sized_goes n None word = refl
sized_goes n (Some c) word = refl

short : (t : Bool) (o e : Option ℕ) (word : List ℕ) (rest : Option (List ℕ)) → rest ≡ spelled (drop 1 word) → (o before rest) ≡ go_on (cond (t && false) (sized 4 e) (sized 1 o)) word
short true o e word rest is = rw is (sym (sized_goes 1 o word))
short false o e word rest is = rw is (sym (sized_goes 1 o word))

four : (t l : Bool) (o e : Option ℕ) (word : List ℕ) (far rest : Option (List ℕ)) → l ≡ true → far ≡ spelled (drop 4 word) → rest ≡ spelled (drop 1 word)
    → cond t (e before far) (o before rest) ≡ go_on (cond (t && l) (sized 4 e) (sized 1 o)) word
four true true o e word far rest l f r = rw f (sym (sized_goes 4 e word))
four true false o e word far rest l f r = absurd cc
four false l o e word far rest is f r = rw r (sym (sized_goes 1 o word))

long : (n : ℕ) → 4 ≤ n → nat_le 4 n ≡ true
long n le = grind (arith, nat_tests)

-- the first unit, and then the rest
pub spelled_step : (word : List ℕ) → 0 < length word → spelled word ≡ go_on (unit_of word) word
unfolding spelled
spelled_step [] some = absurd (omega arith)
spelled_step (c ∷ []) some = short (nat_eq c 92) (plain_byte c) (escaped_value 0 0 0) (c ∷ []) (spelled []) refl
spelled_step (c ∷ x ∷ []) some = short (nat_eq c 92) (plain_byte c) (escaped_value x 0 0) (c ∷ x ∷ []) (spelled (x ∷ [])) refl
spelled_step (c ∷ x ∷ a ∷ []) some = short (nat_eq c 92) (plain_byte c) (escaped_value x a 0) (c ∷ x ∷ a ∷ []) (spelled (x ∷ a ∷ [])) refl
spelled_step (c ∷ x ∷ a ∷ b ∷ rest) some =
    let le : 4 ≤ length (c ∷ x ∷ a ∷ b ∷ rest) = omega arith in
    four (nat_eq c 92) (nat_le 4 (length (c ∷ x ∷ a ∷ b ∷ rest))) (plain_byte c) (escaped_value x a b) (c ∷ x ∷ a ∷ b ∷ rest) (spelled rest) (spelled (x ∷ a ∷ b ∷ rest)) (long (length (c ∷ x ∷ a ∷ b ∷ rest)) le) refl refl

pub onto_push : (front : List ℕ) (c : ℕ) (rest : Option (List ℕ)) → onto (front ++ c ∷ []) rest ≡ onto front (Some c before rest)
onto_push front c None = refl
onto_push front c (Some cs) = ap Some (append_assoc front (c ∷ []) cs)

-- the front that is read, and the unit after it
pub one_more : (front word : List ℕ) (at c n : ℕ) → at < length word → Some (c, n) ≡ unit_of (drop at word) → onto front (spelled (drop at word)) ≡ onto (front ++ c ∷ []) (spelled (drop (at + n) word))
one_more front word at c n lt is =
    let some : 0 < length (drop at word) = omega (arith, length-drop at word) in
    ap (onto front) (spelled_step (drop at word) some ∙ ap (λ u. go_on u (drop at word)) (sym is))
    ∙ sym (onto_push front c (spelled (drop n (drop at word))))
    ∙ ap (λ (l : List ℕ). onto (front ++ c ∷ []) (spelled l)) (drop-drop n at word)

pub none_more : (front word : List ℕ) (at : ℕ) → at < length word → None ≡ unit_of (drop at word) → None ≡ onto front (spelled (drop at word))
none_more front word at lt is =
    let some : 0 < length (drop at word) = omega (arith, length-drop at word) in
    sym (ap (onto front) (spelled_step (drop at word) some ∙ ap (λ u. go_on u (drop at word)) (sym is)))

pub at_end : (front word : List ℕ) (at : ℕ) → length word ≤ at → Some front ≡ onto front (spelled (drop at word))
unfolding spelled
at_end front word at le = rw (drop_all at word le) (ap Some (sym (append-nil front)))

pub whole_tail : (at : ℕ) (word : List ℕ) → take (length word - at) (drop at word) ≡ drop at word
whole_tail at word = take_all (length word - at) (drop at word) (omega (arith, length-drop at word))

pub tail_unit : (at : ℕ) (word : List ℕ) (u : Option (ℕ × ℕ)) → u ≡ unit_of (take (length word - at) (drop at word)) → u ≡ unit_of (drop at word)
tail_unit at word u is = is ∙ ap unit_of (whole_tail at word)
