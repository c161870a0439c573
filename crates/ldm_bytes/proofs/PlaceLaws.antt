-- Bytes that were put into a list, and bytes and numbers read from it at plain offsets.
use Rattle.std.proofs.Common.{◌≡◌, ◌⊎◌, inl, inr, ℕ, zero, suc, ◌+◌, ◌-◌, ◌*◌, ◌^◌, ◌<◌, ◌≤◌, List, ◌++◌, length, take, drop, get_or, slice_range, refl, sym, ◌∙◌, ap, arith, append_assoc, length-append, length-take, length-drop}
use Rattle.std.proofs.lemmas.List.{get_or-take, get_or-drop, get_or_append_left, get_or-append_right, drop_at, take_at, drop-drop, take-append-drop}
use Rattle.std.proofs.lemmas.Grind.{same_number_lists}
use Rattle.byteorder.specs.Endian.{big_from, big_number, big_bytes}
use Rattle.ldm_bytes.specs.Places.{put}
use Rattle.ldm_bytes.proofs.BigLaws.{big_back}

pub length-put : (old : List ℕ) (at : ℕ) (bytes : List ℕ) → at + length bytes ≤ length old → length (put old at bytes) ≡ length old
length-put old at bytes fits =
    omega (arith, length-append (take at old ++ bytes) (drop (at + length bytes) old), length-append (take at old) bytes, length-take at old, length-drop (at + length bytes) old)

front : (old : List ℕ) (at : ℕ) (bytes : List ℕ) → at + length bytes ≤ length old → length (take at old ++ bytes) ≡ at + length bytes
front old at bytes fits = omega (arith, length-append (take at old) bytes, length-take at old)

-- the bytes outside the place stay
pub get_or-put_outside : (old : List ℕ) (at : ℕ) (bytes : List ℕ) (k : ℕ) → at + length bytes ≤ length old → (k < at) ⊎ (at + length bytes ≤ k)
    → get_or (put old at bytes) k 0 ≡ get_or old k 0
get_or-put_outside old at bytes k fits (inl before) =
    let len : length (take at old) ≡ at = omega (arith, length-take at old) in
    get_or_append_left (take at old ++ bytes) (drop (at + length bytes) old) 0 k (omega (arith, front old at bytes fits))
    ∙ get_or_append_left (take at old) bytes 0 k (omega arith)
    ∙ get_or-take at old k 0 before
get_or-put_outside old at bytes k fits (inr behind) =
    let n : ℕ = at + length bytes in
    get_or-append_right (take at old ++ bytes) (drop n old) n k 0 (front old at bytes fits) behind
    ∙ get_or-drop n old (k - n) 0
    ∙ ap (λ (j : ℕ). get_or old j 0) (omega arith)

-- the bytes at the place are those that were put
pub get_or-put_inside : (old : List ℕ) (at : ℕ) (bytes : List ℕ) (k : ℕ) → at + length bytes ≤ length old → k < length bytes
    → get_or (put old at bytes) (at + k) 0 ≡ get_or bytes k 0
get_or-put_inside old at bytes k fits lt =
    let len : length (take at old) ≡ at = omega (arith, length-take at old) in
    get_or_append_left (take at old ++ bytes) (drop (at + length bytes) old) 0 (at + k) (omega (arith, front old at bytes fits))
    ∙ get_or-append_right (take at old) bytes at (at + k) 0 len (omega arith)
    ∙ ap (λ (j : ℕ). get_or bytes j 0) (omega arith)

-- what stands from the place on begins with what was put
pub drop-put : (old : List ℕ) (at : ℕ) (bytes : List ℕ) → at + length bytes ≤ length old → drop at (put old at bytes) ≡ bytes ++ drop (at + length bytes) old
drop-put old at bytes fits =
    ap (drop at) (append_assoc (take at old) bytes (drop (at + length bytes) old))
    ∙ drop_at (take at old) (bytes ++ drop (at + length bytes) old) at (omega (arith, length-take at old))

-- a number depends on its bytes alone
same_from : (i n : ℕ) (xs ys : List ℕ) → ((k : ℕ) → i ≤ k → k < i + n → get_or xs k 0 ≡ get_or ys k 0) → big_from i n xs ≡ big_from i n ys
same_from i zero xs ys same = refl
same_from i (suc n) xs ys same =
    let here : get_or xs i 0 ≡ get_or ys i 0 = same i (omega arith) (omega arith) in
    let others : big_from (suc i) n xs ≡ big_from (suc i) n ys = same_from (suc i) n xs ys (λ k from to. same k (omega arith) (omega arith)) in
    ap (λ (b : ℕ). b * 256 ^ n + big_from (suc i) n xs) here ∙ ap (λ (r : ℕ). get_or ys i 0 * 256 ^ n + r) others

pub same_number_at : (xs ys : List ℕ) (at n : ℕ) → ((k : ℕ) → at ≤ k → k < at + n → get_or xs k 0 ≡ get_or ys k 0)
    → big_number n (drop at xs) ≡ big_number n (drop at ys)
same_number_at xs ys at n same =
    same_from 0 n (drop at xs) (drop at ys) (λ k from to. get_or-drop at xs k 0 ∙ same (at + k) (omega arith) (omega arith) ∙ sym (get_or-drop at ys k 0))

-- lists of one length whose bytes in a range are alike have one range
pub same_range : (xs ys : List ℕ) (from to : ℕ) → length xs ≡ length ys → ((k : ℕ) → from ≤ k → k < to → get_or xs k 0 ≡ get_or ys k 0)
    → slice_range xs from to ≡ slice_range ys from to
same_range xs ys from to size same =
    same_number_lists (slice_range xs from to) (slice_range ys from to)
    (omega (arith, length-take (to - from) (drop from xs), length-drop from xs, length-take (to - from) (drop from ys), length-drop from ys))
    (λ k lt.
    let near : k < to - from = omega (arith, length-take (to - from) (drop from xs)) in
    get_or-take (to - from) (drop from xs) k 0 near ∙ get_or-drop from xs k 0
    ∙ same (from + k) (omega arith) (omega arith)
    ∙ sym (get_or-take (to - from) (drop from ys) k 0 near ∙ get_or-drop from ys k 0))

-- bytes that are put behind one another
pub put-put : (old : List ℕ) (at : ℕ) (first second : List ℕ) → at + length first ≤ length old
    → put (put old at first) (at + length first) second ≡ put old at (first ++ second)
put-put old at first second fits =
    let n : ℕ = at + length first in
    let len = front old at first fits in
    let before : take n (put old at first) ≡ take at old ++ first = take_at (take at old ++ first) (drop n old) n len in
    let behind : drop (n + length second) (put old at first) ≡ drop (at + length (first ++ second)) old =
    sym (drop-drop (length second) n (put old at first))
    ∙ ap (drop (length second)) (drop_at (take at old ++ first) (drop n old) n len)
    ∙ drop-drop (length second) n old
    ∙ ap (λ (k : ℕ). drop k old) (omega (arith, length-append first second)) in
    ap (λ (r : List ℕ). r ++ second ++ drop (n + length second) (put old at first)) before
    ∙ ap (λ (r : List ℕ). (take at old ++ first) ++ second ++ r) behind
    ∙ ap (λ (r : List ℕ). r ++ drop (at + length (first ++ second)) old) (append_assoc (take at old) first second)
