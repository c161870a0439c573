-- A GUID that is written is read.
use Rattle.std.proofs.Common.{◌≡◌, ◌≢◌, ℕ, zero, suc, ◌^◌, ◌<◌, Bool, true, false, cond, eqb, List, [], length, get_or, Option, Some, None, refl, sym, ap, ◌∙◌, arith, inl, inr, ◌∷◌, ◌+◌, ◌*◌, ◌-◌}
use Rattle.std.specs.Int.{w128, from_be_bytes, to_be_bytes}
use Rattle.byteorder.specs.Endian.{big_number, big_bytes}
use Rattle.byteorder.specs.Numbers.{big_number-reads_back, big_from-lt}
use Rattle.std.proofs.lemmas.List.{append-nil, get_or_append_left, get_or-append_right}
use Rattle.std.proofs.lemmas.List.Elements.{All-from_recursion}
use Rattle.std.specs.List.{AllByRecursion, list_all}
use Rattle.std.proofs.lemmas.Bool.{ne_eqb, cases_lt}
use Rattle.std.proofs.lemmas.Bool.Decides.{nat_tests}
use Rattle.std.specs.Prelude.{◌&&◌, ◌==◌, slice_index}
use Rattle.uuid.specs.Text.{parsed, parsed_hyphenated, hyphenated_text, lower, parsed_simple, is_hex_digit, value_of, by_index, byte_of_digits, digits_of, has_hyphens}
use Rattle.uuid.proofs.TextLemmas.{by_index_length}
use Rattle.uuid.proofs.RoundTrips.{parses_hyphenated_text}
use Rattle.ldm_bytes.specs.Guid.{guid_number, guid_of, own_guid}

pub of_36 : (t : List ℕ) → length t ≡ 36 → parsed t ≡ parsed_hyphenated t
of_36 t e = rw e refl

pub not_36 : (t : List ℕ) → length t ≢ 36 → guid_of t ≡ None
unfolding guid_of
not_36 t h = let e : eqb (length t) 36 ≡ false = ne_eqb _ _ h in rw e refl

pub number_is : (bytes : List ℕ) → from_be_bytes w128 bytes ≡ big_number 16 bytes
number_is bytes = omega arith

some : ℕ → Option ℕ
some v = Some v

bytes_small : (n x : ℕ) → AllByRecursion (λ b. b < 256) (big_bytes n x)
bytes_small zero x = tt
bytes_small (suc zero) x = (omega arith, tt)
bytes_small (suc (suc n)) x = (omega arith, bytes_small (suc n) x)

pub read_is : (t bytes : List ℕ) (v : ℕ) → length t ≡ 36 → Some bytes ≡ parsed t → v ≡ from_be_bytes w128 bytes → Some v ≡ guid_of t
unfolding guid_of some
read_is t bytes v len p e =
    let h : Some bytes ≡ parsed_hyphenated t = p ∙ of_36 t len in
    ap some (e ∙ number_is bytes) ∙ ap guid_number h

no_value : (o : Option (List ℕ)) → ((u : List ℕ) × (o ≡ Some u) → ⊥) → None ≡ guid_number o
no_value None h = refl
no_value (Some u) h = absurd (h (u, refl))

pub none_is : (t : List ℕ) → length t ≡ 36 → ((u : List ℕ) × (parsed t ≡ Some u) → ⊥) → None ≡ guid_of t
unfolding guid_of
none_is t len h = no_value (parsed_hyphenated t) (λ w. h (w.0, of_36 t len ∙ w.1))

-- what was written is read again
pub guid_again : (v : ℕ) → v < 2 ^ 128 → guid_of (own_guid v) ≡ Some v
unfolding guid_of own_guid some
guid_again v lt =
    let back : big_number 16 (big_bytes 16 v) ≡ v = ap (big_number 16) (sym (append-nil (big_bytes 16 v))) ∙ big_number-reads_back 16 v [] lt in
    let parsed-is : parsed_hyphenated (hyphenated_text lower (big_bytes 16 v)) ≡ Some (big_bytes 16 v) = sym (parses_hyphenated_text lower (big_bytes 16 v) (inl refl) refl (All-from_recursion (λ b. b < 256) (big_bytes 16 v) (bytes_small 16 v))) in
    let number : guid_number (parsed_hyphenated (hyphenated_text lower (big_bytes 16 v))) ≡ Some (big_number 16 (big_bytes 16 v)) = ap guid_number parsed-is in
    number ∙ ap some back

pub own_len : (bytes : List ℕ) → length (hyphenated_text lower bytes) ≡ 36
own_len bytes = by_index_length 36 _

pub own_is : (v : ℕ) (bytes : List ℕ) → bytes ≡ to_be_bytes w128 v → hyphenated_text lower bytes ≡ own_guid v
unfolding own_guid
own_is v bytes e = ap (hyphenated_text lower) e

-- ---- a GUID fits 128 bits

both_of : (a b : Bool) → (a && b) ≡ true → (a ≡ true) × (b ≡ true)
both_of true b e = (refl, e)
both_of false b e = absurd cc

guard_yes : (b : Bool) (x y : List ℕ) → cond b (Some x) None ≡ Some y → (b ≡ true) × (x ≡ y)
guard_yes true x y e = (refl, cc)
guard_yes false x y e = absurd cc

guard_in : (b : Bool) (o : Option (List ℕ)) (y : List ℕ) → cond b o None ≡ Some y → o ≡ Some y
guard_in true o y e = e
guard_in false o y e = absurd cc

number_some : (o : Option (List ℕ)) (v : ℕ) → guid_number o ≡ Some v → (bytes : List ℕ) × (o ≡ Some bytes) × (big_number 16 bytes ≡ v)
number_some None v e = absurd cc
number_some (Some bytes) v e = (bytes, refl, cc)

value_small : (c : ℕ) → is_hex_digit c ≡ true → value_of c < 16
value_small c h = grind (arith, nat_tests)

value_of_none : value_of 0 < 16
value_of_none = omega arith

digit_small : (hex : List ℕ) (i : ℕ) → list_all is_hex_digit hex ≡ true → value_of (slice_index hex i) < 16
digit_small [] i h = value_of_none
digit_small (c ∷ hex) zero h = value_small c (both_of (is_hex_digit c) (list_all is_hex_digit hex) h).0
digit_small (c ∷ hex) (suc i) h = digit_small hex i (both_of (is_hex_digit c) (list_all is_hex_digit hex) h).1

by_index_small : (n : ℕ) (f : ℕ → ℕ) → ((j : ℕ) → f j < 256) → (i : ℕ) → get_or (by_index n f) i 0 < 256
unfolding by_index
by_index_small zero f h i = omega arith
by_index_small (suc n) f h i =
    elim (cases_lt i (length (by_index n f))) [
      | inl lt ↦ rw (get_or_append_left (by_index n f) (f n ∷ []) 0 i lt) (by_index_small n f h i)
      | inr le ↦ rw (get_or-append_right (by_index n f) (f n ∷ []) (length (by_index n f)) i 0 refl le) (one_small (i - length (by_index n f)))
    ]
  where
    one_small : (k : ℕ) → get_or (f n ∷ []) k 0 < 256
    one_small zero = h n
    one_small (suc k) = omega arith

some_simple : (hex bytes : List ℕ) → parsed_simple hex ≡ Some bytes → (i : ℕ) → get_or bytes i 0 < 256
some_simple hex bytes e i =
    let g = guard_yes ((length hex == 32) && list_all is_hex_digit hex) (by_index 16 (byte_of_digits hex)) bytes e in
    let all = (both_of (length hex == 32) (list_all is_hex_digit hex) g.0).1 in
    rw (← g.1) (by_index_small 16 (byte_of_digits hex) (λ j. omega (arith, digit_small hex (2 * j) all, digit_small hex (2 * j + 1) all)) i)

pub guid_small : (t : List ℕ) (v : ℕ) → guid_of t ≡ Some v → v < 2 ^ 128
unfolding guid_of
guid_small t v e =
    let n = number_some (parsed_hyphenated t) v e in
    let s = guard_in ((length t == 36) && has_hyphens t) (parsed_simple (digits_of t)) n.0 n.1 in
    rw (← n.2) (big_from-lt 0 16 n.0 (some_simple (digits_of t) n.0 s))

pub own_guid-len : (v : ℕ) → length (own_guid v) ≡ 36
unfolding own_guid
own_guid-len v = own_len (big_bytes 16 v)
