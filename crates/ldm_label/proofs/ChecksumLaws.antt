-- Lists of bytes, and that a checksum of them has 32 bits.
use Rattle.std.proofs.Common.{◌≡◌, inl, inr, Bool, true, false, cond, ◌&&◌, map, ℕ, zero, suc, ◌+◌, ◌-◌, ◌/◌, ◌%◌, ◌^◌, ◌<◌, ◌≤◌, List, [], ◌∷◌, length, take, drop, get_or, replicate, slice_range, refl, sym, ◌∙◌, ap, subst, arith}
use Rattle.std.specs.Prelude.{nat_lt, nat_eq, bit_xor}
use Rattle.std.specs.Int.{byte_at, bytes_low_first, bytes_high_first}
use Rattle.std.specs.List.{list_all}
use Rattle.std.proofs.lemmas.Nat.{mod_below, xor_of_32}
use Rattle.std.proofs.lemmas.Bool.{cases_lt}
use Rattle.std.proofs.lemmas.Bool.Decides.{nat_tests}
use Rattle.uuid.specs.Parts.{swap_fields}
use Rattle.ldm_bytes.specs.Places.{put, put_each}
use Rattle.ldm_bytes.proofs.PlaceLaws.{length-put, get_or-put_outside, get_or-put_inside}
use Rattle.ldm_bytes.proofs.PutLaws.{InOrder}
use Rattle.ldm_crc32.specs.Crc32.{crc32, divided_once, divided, with_byte, with_bytes}

-- each number of the list is a byte
abbrev pub AreBytes : List ℕ → Type 0
AreBytes xs = (k : ℕ) → get_or xs k 0 < 256

none_small : AreBytes []
none_small k = omega arith

cons_small : (x : ℕ) (xs : List ℕ) → x < 256 → AreBytes xs → AreBytes (x ∷ xs)
cons_small x xs first rest zero = first
cons_small x xs first rest (suc k) = rest k

byte_small : (i n : ℕ) → byte_at i n < 256
byte_small zero n = mod_below n 256 (omega arith)
byte_small (suc i) n = mod_below (n / 256 ^ suc i) 256 (omega arith)

pub low_small : (i k n : ℕ) → AreBytes (bytes_low_first i k n)
low_small i zero n = none_small
low_small i (suc k) n = cons_small (byte_at i n) (bytes_low_first (suc i) k n) (byte_small i n) (low_small (suc i) k n)

pub high_small : (k n : ℕ) → AreBytes (bytes_high_first k n)
high_small zero n = none_small
high_small (suc k) n = cons_small (byte_at k n) (bytes_high_first k n) (byte_small k n) (high_small k n)

pub zeros_small : (n : ℕ) → AreBytes (replicate n 0)
zeros_small zero = none_small
zeros_small (suc n) = cons_small 0 (replicate n 0) (omega arith) (zeros_small n)

first_of_two : (x : ℕ) (rest : Bool) → (nat_lt x 256 && rest) ≡ true → (x < 256) × (rest ≡ true)
first_of_two x rest e = both (nat_lt x 256) e refl
  where
    both : (b : Bool) → (b && rest) ≡ true → nat_lt x 256 ≡ b → (x < 256) × (rest ≡ true)
    both true h is = (grind (arith, nat_tests), h)
    both false h is = absurd cc

pub constant_small : (xs : List ℕ) → list_all (λ x. nat_lt x 256) xs ≡ true → AreBytes xs
constant_small [] e = none_small
constant_small (x ∷ xs) e = let parts = first_of_two x (list_all (λ y. nat_lt y 256) xs) e in cons_small x xs parts.0 (constant_small xs parts.1)

picked_small : (xs places : List ℕ) → AreBytes xs → AreBytes (map (λ i. get_or xs i 0) places)
picked_small xs [] h = none_small
picked_small xs (i ∷ places) h = cons_small (get_or xs i 0) (map (λ j. get_or xs j 0) places) (h i) (picked_small xs places h)

pub swapped_small : (xs : List ℕ) → AreBytes xs → AreBytes (swap_fields xs)
swapped_small xs h = picked_small xs (3 ∷ 2 ∷ 1 ∷ 0 ∷ 5 ∷ 4 ∷ 7 ∷ 6 ∷ 8 ∷ 9 ∷ 10 ∷ 11 ∷ 12 ∷ 13 ∷ 14 ∷ 15 ∷ []) h

take_small : (n : ℕ) (xs : List ℕ) → AreBytes xs → AreBytes (take n xs)
take_small zero xs h = none_small
take_small (suc n) [] h = none_small
take_small (suc n) (x ∷ xs) h = cons_small x (take n xs) (h 0) (take_small n xs (λ k. h (suc k)))

drop_small : (n : ℕ) (xs : List ℕ) → AreBytes xs → AreBytes (drop n xs)
drop_small zero xs h = h
drop_small (suc n) [] h = none_small
drop_small (suc n) (x ∷ xs) h = drop_small n xs (λ k. h (suc k))

pub range_small : (xs : List ℕ) (a b : ℕ) → AreBytes xs → AreBytes (slice_range xs a b)
range_small xs a b h = take_small (b - a) (drop a xs) (drop_small a xs h)

put_small : (old : List ℕ) (at : ℕ) (bytes : List ℕ) → at + length bytes ≤ length old → AreBytes old → AreBytes bytes → AreBytes (put old at bytes)
put_small old at bytes fits h new k =
    elim (cases_lt k at) [
      | inl lt ↦ subst (λ (n : ℕ). n < 256) (sym (get_or-put_outside old at bytes k fits (inl lt))) (h k)
      | inr ge ↦ elim (cases_lt k (at + length bytes)) [
        | inl lt ↦ subst (λ (n : ℕ). n < 256) (sym (inside ge lt)) (new (k - at))
        | inr behind ↦ subst (λ (n : ℕ). n < 256) (sym (get_or-put_outside old at bytes k fits (inr behind))) (h k)
      ]
    ]
  where
    inside : at ≤ k → k < at + length bytes → get_or (put old at bytes) k 0 ≡ get_or bytes (k - at) 0
    inside ge lt = ap (λ (j : ℕ). get_or (put old at bytes) j 0) (omega arith) ∙ get_or-put_inside old at bytes (k - at) fits (omega arith)

-- the bytes of each field are such
abbrev pub AllBytes : List (ℕ × List ℕ) → Type 0
AllBytes [] = Unit {0}
AllBytes (field ∷ fields) = AreBytes field.1 × AllBytes fields

ends_inside : (from size : ℕ) (fields : List (ℕ × List ℕ)) → InOrder from size fields → from ≤ size
ends_inside from size [] order = order
ends_inside from size (field ∷ fields) order =
    let rest = ends_inside (field.0 + length field.1) size fields order.1 in
    let first = order.0 in
    omega arith

pub each_small : (old : List ℕ) (from : ℕ) (fields : List (ℕ × List ℕ)) → InOrder from (length old) fields → AreBytes old → AllBytes fields → AreBytes (put_each old fields)
unfolding put_each
each_small old from [] order h new = h
each_small old from (field ∷ fields) order h new =
    let fits = ends_inside (field.0 + length field.1) (length old) fields order.1 in
    each_small (put old field.0 field.1) (field.0 + length field.1) fields
    (subst (λ (n : ℕ). InOrder (field.0 + length field.1) n fields) (sym (length-put old field.0 field.1 fits)) order.1)
    (put_small old field.0 field.1 fits h new.0) new.1

-- ---- the checksum

either_below : (b : Bool) (x y n : ℕ) → x < n → y < n → cond b x y < n
either_below true x y n p q = p
either_below false x y n p q = q

once_below : (r : ℕ) → r < 2 ^ 32 → divided_once r < 2 ^ 32
once_below r h =
    let half : r / 2 < 2 ^ 32 = omega arith in
    either_below (nat_eq (r % 2) 1) (bit_xor (r / 2) 0xEDB88320) (r / 2) (2 ^ 32) (xor_of_32 (r / 2) 0xEDB88320 half (omega arith)) half

divided_below : (n r : ℕ) → r < 2 ^ 32 → divided n r < 2 ^ 32
divided_below zero r h = h
divided_below (suc n) r h = divided_below n (divided_once r) (once_below r h)

byte_below : (r byte : ℕ) → r < 2 ^ 32 → byte < 256 → with_byte r byte < 2 ^ 32
unfolding with_byte
byte_below r byte h small = divided_below 8 (bit_xor r byte) (xor_of_32 r byte h (omega arith))

bytes_below : (r : ℕ) (xs : List ℕ) → r < 2 ^ 32 → AreBytes xs → with_bytes r xs < 2 ^ 32
bytes_below r [] h small = h
bytes_below r (x ∷ xs) h small = bytes_below (with_byte r x) xs (byte_below r x h (small 0)) (λ k. small (suc k))

-- The checksum of bytes has 32 bits.
pub crc_below : (xs : List ℕ) → AreBytes xs → crc32 xs < 2 ^ 32
crc_below xs small = xor_of_32 (with_bytes (2 ^ 32 - 1) xs) (2 ^ 32 - 1) (bytes_below (2 ^ 32 - 1) xs (omega arith) small) (omega arith)
