-- A number that is read is spelled so, and one that is spelled is read.
use Rattle.std.proofs.Common.{◌≡◌, ℕ, suc, get_or, ◌+◌, ◌^◌, ◌<◌, ◌≤◌, Bool, true, false, cond, ltb, List, [], ◌∷◌, ◌++◌, ◌-◌, length, take, drop, Option, Some, None, refl, sym, ap, ◌∙◌, append_assoc, arith, inl, inr, set}
use Rattle.std.proofs.Math.Nat.{pow-le-pow_right}
use Rattle.std.proofs.lemmas.Bool.{ltb-false, le-ltb, lt-ltb, cases_lt}
use Rattle.std.proofs.lemmas.List.{take_at, drop_at, take-append-drop, length-append, length-take, length-drop, take_rest, drop-drop, append-nil, take_more_set, drop-set-lt, get_or-drop}
use Rattle.byteorder.specs.Endian.{big_number, big_bytes}
use Rattle.byteorder.specs.Numbers.{big_from-append, big_number-reads_back, length-bytes_high_first, big_from-take, big_from-lt}
use Rattle.ldm_bytes.specs.Places.{put}
use Rattle.ldm_bytes.specs.Numbers.{IsNumber, width, own_number, number_at, text_at}

-- a test that did not fail
pub guard_some : {A : Type 0} (b : Bool) (x : Option A) (y : A) → cond b None x ≡ Some y → (b ≡ false) × (x ≡ Some y)
guard_some true x y e = absurd cc
guard_some false x y e = (refl, e)

pub some_is : {A : Type 0} (x y : A) → Some x ≡ Some y → x ≡ y
some_is x y e = cc

-- the parts of an equation between pairs
pub pair_0 : {A B : Type 0} (x y : A × B) → Some x ≡ Some y → x.0 ≡ y.0
pair_0 {A = A} {B = B} x y e = ap (λ (p : A × B). p.0) (some_is x y e)

pub pair_1 : {A B : Type 0} (x y : A × B) → Some x ≡ Some y → x.1 ≡ y.1
pair_1 {A = A} {B = B} x y e = ap (λ (p : A × B). p.1) (some_is x y e)

pub number_takes : (bytes : List ℕ) (v : ℕ) (rest : List ℕ) → number_at bytes ≡ Some (v, rest) → (w : List ℕ) × IsNumber v w × (bytes ≡ w ++ rest)
unfolding number_at
number_takes [] v rest e = absurd cc
number_takes (n ∷ bytes) v rest e =
    let a = guard_some (ltb 8 n) (cond (ltb (length bytes) n) None (Some (big_number n bytes, drop n bytes))) (v, rest) e in
    let b = guard_some (ltb (length bytes) n) (Some (big_number n bytes, drop n bytes)) (v, rest) a.1 in
    let few : n ≤ 8 = ltb-false _ _ a.0 in
    let long : n ≤ length bytes = ltb-false _ _ b.0 in
    let v-is : big_number n bytes ≡ v = pair_0 (big_number n bytes, drop n bytes) (v, rest) b.1 in
    let rest-is : drop n bytes ≡ rest = pair_1 (big_number n bytes, drop n bytes) (v, rest) b.1 in
    let len : length (take n bytes) ≡ n = omega (arith, length-take n bytes) in
    let same : big_number n (take n bytes) ≡ big_number n bytes = big_from-take 0 n n bytes (omega arith) in
    (n ∷ take n bytes, (few, len, sym v-is ∙ sym same), rw (← rest-is) (ap (λ (r : List ℕ). n ∷ r) (sym (take-append-drop n bytes))))

pub number_again : (v : ℕ) (w rest : List ℕ) → IsNumber v w → number_at (w ++ rest) ≡ Some (v, rest)
unfolding number_at
number_again v [] rest h = absurd h
number_again v (n ∷ bytes) rest h =
    let few : ltb 8 n ≡ false = le-ltb _ _ h.0 in
    let long : ltb (length (bytes ++ rest)) n ≡ false = le-ltb _ _ (omega (arith, length-append bytes rest, h.1)) in
    let value : big_number n (bytes ++ rest) ≡ v = big_from-append n bytes rest (omega (arith, h.1)) ∙ sym h.2 in
    rw (few, long, value, drop_at bytes rest n h.1) refl

pub text_takes : (bytes t rest : List ℕ) → text_at bytes ≡ Some (t, rest) → bytes ≡ (length t ∷ t) ++ rest
unfolding text_at
text_takes [] t rest e = absurd cc
text_takes (n ∷ bytes) t rest e =
    let b = guard_some (ltb (length bytes) n) (Some (take n bytes, drop n bytes)) (t, rest) e in
    let long : n ≤ length bytes = ltb-false _ _ b.0 in
    let t-is : take n bytes ≡ t = pair_0 (take n bytes, drop n bytes) (t, rest) b.1 in
    let rest-is : drop n bytes ≡ rest = pair_1 (take n bytes, drop n bytes) (t, rest) b.1 in
    let len : length (take n bytes) ≡ n = omega (arith, length-take n bytes) in
    rw (← t-is, ← rest-is, len) (ap (λ (r : List ℕ). n ∷ r) (sym (take-append-drop n bytes)))

pub text_again : (t rest : List ℕ) → text_at ((length t ∷ t) ++ rest) ≡ Some (t, rest)
unfolding text_at
text_again t rest =
    let long : ltb (length (t ++ rest)) (length t) ≡ false = le-ltb _ _ (omega (arith, length-append t rest)) in
    rw (long, take_at t rest (length t) refl, drop_at t rest (length t) refl) refl

-- ---- by places

-- what stands from a place on is w and a rest, which begins at the next place
pub next_place : (bytes w rest : List ℕ) (at : ℕ) → at < length bytes → drop at bytes ≡ w ++ rest
    → (length rest ≤ length bytes) × (length bytes - length rest ≡ at + length w) × (drop at bytes ≡ w ++ drop (length bytes - length rest) bytes)
next_place bytes w rest at lt e =
    let len : length bytes - at ≡ length w + length rest = sym (length-drop at bytes) ∙ ap length e ∙ length-append w rest in
    let next : length bytes - length rest ≡ at + length w = omega arith in
    let tail : drop (at + length w) bytes ≡ rest = sym (drop-drop (length w) at bytes) ∙ ap (drop (length w)) e ∙ drop_at w rest (length w) refl in
    (omega arith, next, rw (next, tail) e)

pub number_place : (bytes : List ℕ) (at v : ℕ) (rest : List ℕ) → at < length bytes → number_at (take (length bytes - at) (drop at bytes)) ≡ Some (v, rest)
    → (length rest ≤ length bytes) × ((w : List ℕ) × IsNumber v w × (length bytes - length rest ≡ at + length w) × (drop at bytes ≡ w ++ drop (length bytes - length rest) bytes))
number_place bytes at v rest lt e =
    let t = number_takes (drop at bytes) v rest (ap number_at (sym (take_rest bytes at)) ∙ e) in
    let n = next_place bytes t.0 rest at lt t.2 in
    (n.0, (t.0, t.1, n.1, n.2))

pub number_only : (bytes : List ℕ) (at : ℕ) (read : Option (ℕ × List ℕ)) → number_at (take (length bytes - at) (drop at bytes)) ≡ read
    → (v : ℕ) (w z : List ℕ) → IsNumber v w → drop at bytes ≡ w ++ z → read ≡ Some (v, z)
number_only bytes at read e v w z h d =
    sym e ∙ ap number_at (take_rest bytes at ∙ d) ∙ number_again v w z h

-- ---- the own spelling

pub own_len : (v : ℕ) → length (own_number v) ≡ width v + 1
unfolding own_number
own_len v = omega (arith, length-bytes_high_first (width v) v)

pub own_is : (v : ℕ) → own_number v ≡ width v ∷ big_bytes (width v) v
unfolding own_number
own_is v = refl

-- r bytes hold v
abbrev Holds : ℕ → ℕ → Type 0
Holds v r = (v < 256 ^ r) × (r ≤ 8) × (1 ≤ r)

pick : (v bound n r : ℕ) → (v < bound → Holds v n) → (bound ≤ v → Holds v r) → Holds v (cond (ltb v bound) n r)
pick v bound n r f g =
    elim (cases_lt v bound) [ inl lt ↦ rw (lt-ltb v bound lt) (f lt) | inr le ↦ rw (le-ltb v bound le) (g le) ]

pub width_fits : (v : ℕ) → v < 2 ^ 64 → (v < 256 ^ width v) × (width v ≤ 8) × (1 ≤ width v)
width_fits v lt =
    pick v (2 ^ 8) 1 _ (λ h. (h, omega arith, omega arith)) (λ _.
    pick v (2 ^ 16) 2 _ (λ h. (h, omega arith, omega arith)) (λ _.
    pick v (2 ^ 24) 3 _ (λ h. (h, omega arith, omega arith)) (λ _.
    pick v (2 ^ 32) 4 _ (λ h. (h, omega arith, omega arith)) (λ _.
    pick v (2 ^ 40) 5 _ (λ h. (h, omega arith, omega arith)) (λ _.
    pick v (2 ^ 48) 6 _ (λ h. (h, omega arith, omega arith)) (λ _.
    pick v (2 ^ 56) 7 8 (λ h. (h, omega arith, omega arith)) (λ _. (lt, omega arith, omega arith))))))))

-- no number below v's width holds v
pub width_fewest : (v n : ℕ) → 1 ≤ n → v < 256 ^ n → width v ≤ n
width_fewest v n some fits =
    below v (2 ^ 8) 1 _ n (λ h. some) (λ h1.
    below v (2 ^ 16) 2 _ n (λ h. more v 1 n h1 fits) (λ h2.
    below v (2 ^ 24) 3 _ n (λ h. more v 2 n h2 fits) (λ h3.
    below v (2 ^ 32) 4 _ n (λ h. more v 3 n h3 fits) (λ h4.
    below v (2 ^ 40) 5 _ n (λ h. more v 4 n h4 fits) (λ h5.
    below v (2 ^ 48) 6 _ n (λ h. more v 5 n h5 fits) (λ h6.
    below v (2 ^ 56) 7 8 n (λ h. more v 6 n h6 fits) (λ h7. more v 7 n h7 fits)))))))
  where
    below : (v bound w r n : ℕ) → (v < bound → w ≤ n) → (bound ≤ v → r ≤ n) → cond (ltb v bound) w r ≤ n
    below v bound w r n f g =
        elim (cases_lt v bound) [ inl lt ↦ rw (lt-ltb v bound lt) (f lt) | inr le ↦ rw (le-ltb v bound le) (g le) ]

    more : (v k n : ℕ) → 256 ^ k ≤ v → v < 256 ^ n → k + 1 ≤ n
    more v k n low fits =
        elim (cases_lt k n) [ inl lt ↦ omega (arith, lt) | inr le ↦ let grows : 256 ^ n ≤ 256 ^ k = pow-le-pow_right {n = 256} (omega arith) le in absurd (omega arith) ]

pub own_number-is_number : (v : ℕ) → v < 2 ^ 64 → IsNumber v (own_number v)
unfolding own_number
own_number-is_number v lt =
    let f = width_fits v lt in
    let len : length (big_bytes (width v) v) ≡ width v = length-bytes_high_first (width v) v in
    let back : big_number (width v) (big_bytes (width v) v ++ []) ≡ v = big_number-reads_back (width v) v [] f.0 in
    (f.1, len, sym back ∙ ap (big_number (width v)) (append-nil (big_bytes (width v) v)))

-- a byte and the bytes after it, written one after the other
pub number_written : (xs : List ℕ) (at v : ℕ) (ys : List ℕ) → at + length (own_number v) ≤ length xs
    → ys ≡ put (set xs at (width v)) (at + 1) (big_bytes (width v) v)
    → ys ≡ put xs at (own_number v)
unfolding own_number
number_written xs at v ys le e =
    let len : length (big_bytes (width v) v) ≡ width v = length-bytes_high_first (width v) v in
    let front : take (at + 1) (set xs at (width v)) ≡ take at xs ++ width v ∷ [] = take_more_set xs at (width v) (omega arith) in
    let tail : drop (at + 1 + length (big_bytes (width v) v)) (set xs at (width v)) ≡ drop (at + 1 + length (big_bytes (width v) v)) xs = drop-set-lt (at + 1 + length (big_bytes (width v) v)) xs at (width v) (omega arith) in
    let n : at + 1 + length (big_bytes (width v) v) ≡ at + suc (length (big_bytes (width v) v)) = omega arith in
    let joined : ys ≡ (take at xs ++ width v ∷ []) ++ big_bytes (width v) v ++ drop (at + 1 + length (big_bytes (width v) v)) xs = e ∙ ap (λ (r : List ℕ). r ++ big_bytes (width v) v ++ drop (at + 1 + length (big_bytes (width v) v)) (set xs at (width v))) front ∙ ap (λ (r : List ℕ). (take at xs ++ width v ∷ []) ++ big_bytes (width v) v ++ r) tail in
    joined ∙ ap (λ (r : List ℕ). r ++ drop (at + 1 + length (big_bytes (width v) v)) xs) (append_assoc (take at xs) (width v ∷ []) (big_bytes (width v) v)) ∙ ap (λ (k : ℕ). take at xs ++ (width v ∷ big_bytes (width v) v) ++ drop k xs) n

-- no other spelling of v has fewer bytes behind its length byte, if it has one
pub own_fewest : (v : ℕ) (w : List ℕ) → IsNumber v w → 2 ≤ length w → ((k : ℕ) → get_or w k 0 < 256) → width v + 1 ≤ length w
own_fewest v [] h long small = absurd h
own_fewest v (n ∷ bytes) h long small =
    let len : length bytes ≡ n = h.1 in
    let fits : v < 256 ^ n = rw h.2 (big_from-lt 0 n bytes (λ k. small (suc k))) in
    let least : width v ≤ n = width_fewest v n (omega arith) fits in
    omega arith

pub text_place : (bytes : List ℕ) (at : ℕ) (t rest : List ℕ) → at < length bytes → text_at (take (length bytes - at) (drop at bytes)) ≡ Some (t, rest)
    → (length rest ≤ length bytes) × (length bytes - length rest ≡ at + 1 + length t) × (drop at bytes ≡ (length t ∷ t) ++ drop (length bytes - length rest) bytes)
text_place bytes at t rest lt e =
    let d = text_takes (drop at bytes) t rest (ap text_at (sym (take_rest bytes at)) ∙ e) in
    let n = next_place bytes (length t ∷ t) rest at lt d in
    (n.0, n.1 ∙ omega arith, n.2)

pub text_only : (bytes : List ℕ) (at : ℕ) (read : Option (List ℕ × List ℕ)) → text_at (take (length bytes - at) (drop at bytes)) ≡ read
    → (t z : List ℕ) → drop at bytes ≡ (length t ∷ t) ++ z → read ≡ Some (t, z)
text_only bytes at read e t z d =
    sym e ∙ ap text_at (take_rest bytes at ∙ d) ∙ text_again t z

-- where bytes are below 256, a text is below 256 long
pub text_small : (bytes : List ℕ) (at : ℕ) (t z : List ℕ) → get_or bytes (at + 0) 0 < 256 → drop at bytes ≡ (length t ∷ t) ++ z → length t ≤ 255
text_small bytes at t z fits d =
    let e : get_or (drop at bytes) 0 0 ≡ length t = ap (λ (r : List ℕ). get_or r 0 0) d in
    let f : get_or (drop at bytes) 0 0 ≡ get_or bytes (at + 0) 0 = get_or-drop at bytes 0 0 in
    omega arith
