-- Lists of parts in their order: sorts by a number, and the part of a list with one number.
use Rattle.std.proofs.Common.{◌≡◌, ℕ, ◌≤◌, List, [], ◌∷◌, length, get_or, take, drop, ◌-◌, refl, ap, ◌∙◌, arith, zero, suc, ◌<◌, ◌==◌, ◌&&◌, not, inl, inr, Bool, true, false, cond, sym, subst, leb, ltb}
use Rattle.std.proofs.lemmas.Grind.{common_steps}
use Rattle.ldm_layout.specs.Parts.{insert_by, in_rising}
use Rattle.std.proofs.lemmas.Bool.{cases_lt, cases_Bool, eq-eqb, ne_eqb, eqb-true, cond-true, cond-false, leb-true, leb-false}
use Rattle.std.specs.List.{filter, slice_range}
use Rattle.std.specs.List.Sorted.{IsNonDecreasingBy, IsStableByKey, IsPartitionPoint}
use Rattle.std.specs.Ordering.{is_lt, nat_cmp}
use Rattle.std.proofs.lemmas.List.Elements.{filter_agree}
use Rattle.ldm_places.specs.declared.extent.Extent.{Extent}

-- ---- A stable sort by a number gives one list: it doesn't fall, and keeps the order of those of one number.

-- the elements of one number
abbrev pub of_number : {X : Type 0} → (X → ℕ) → ℕ → List X → List X
of_number n k xs = filter (λ x. n x == k) xs

pub number_yes : {X : Type 0} (n : X → ℕ) (k : ℕ) (x : X) (xs : List X) → n x ≡ k → of_number n k (x ∷ xs) ≡ x ∷ of_number n k xs
number_yes n k x xs h = cond-true (n x == k) _ _ (eq-eqb (n x) k h)

pub number_no : {X : Type 0} (n : X → ℕ) (k : ℕ) (x : X) (xs : List X) → (n x ≡ k → ⊥) → of_number n k (x ∷ xs) ≡ of_number n k xs
number_no n k x xs h = cond-false (n x == k) _ _ (ne_eqb (n x) k h)

tail_rises : {X : Type 0} (n : X → ℕ) (x : X) (xs : List X) → IsNonDecreasingBy n (x ∷ xs) → IsNonDecreasingBy n xs
tail_rises n x xs up i j d le lt = up (suc i) (suc j) d (omega arith) (omega arith)

-- where all are above a number, none is of it
none_of : {X : Type 0} (n : X → ℕ) (k : ℕ) (xs : List X) → ((i : ℕ) (d : X) → i < length xs → k < n (get_or xs i d)) → of_number n k xs ≡ []
none_of n k [] above = refl
none_of n k (x ∷ xs) above =
    let high : k < n x = above 0 x (omega arith) in
    number_no n k x xs (λ e. omega arith) ∙ none_of n k xs (λ i d h. above (suc i) d (omega arith))

none_below : {X : Type 0} (n : X → ℕ) (k : ℕ) (x : X) (xs : List X) → IsNonDecreasingBy n (x ∷ xs) → k < n x → of_number n k (x ∷ xs) ≡ []
none_below n k x xs up h = none_of n k (x ∷ xs) (λ i d lt. let first : n x ≤ n (get_or (x ∷ xs) i d) = up 0 i d (omega arith) lt in omega arith)

-- a list that rises begins with no greater number than a list with the same elements of each number
first_least : {X : Type 0} (n : X → ℕ) (x y : X) (xs ys : List X) → IsNonDecreasingBy n (x ∷ xs) → of_number n (n y) (x ∷ xs) ≡ of_number n (n y) (y ∷ ys) → n x ≤ n y
first_least n x y xs ys up same = grind (arith, cases_lt, none_below, number_yes)

pub same_sorted : {X : Type 0} (n : X → ℕ) (xs ys : List X) → IsNonDecreasingBy n xs → IsNonDecreasingBy n ys → ((k : ℕ) → of_number n k xs ≡ of_number n k ys) → xs ≡ ys
same_sorted n [] [] up vp same = refl
same_sorted n [] (y ∷ ys) up vp same = absurd (let some = number_yes n (n y) y ys refl in let e = same (n y) in cc)
same_sorted n (x ∷ xs) [] up vp same = absurd (let some = number_yes n (n x) x xs refl in let e = same (n x) in cc)
same_sorted {X} n (x ∷ xs) (y ∷ ys) up vp same =
    let le : n x ≤ n y = first_least n x y xs ys up (same (n y)) in
    let ge : n y ≤ n x = first_least n y x ys xs vp (sym (same (n x))) in
    let one : n y ≡ n x = omega arith in
    let heads : x ∷ of_number n (n x) xs ≡ y ∷ of_number n (n x) ys = sym (number_yes n (n x) x xs refl) ∙ (same (n x) ∙ number_yes n (n x) y ys one) in
    let first : x ≡ y = cc in
    ap (λ (z : X). z ∷ xs) first ∙ ap (λ (zs : List X). y ∷ zs) (same_sorted n xs ys (tail_rises n x xs up) (tail_rises n y ys vp) (λ k. rest k one heads (same k)))
  where
    rest : (k : ℕ) → n y ≡ n x → x ∷ of_number n (n x) xs ≡ y ∷ of_number n (n x) ys → of_number n k (x ∷ xs) ≡ of_number n k (y ∷ ys) → of_number n k xs ≡ of_number n k ys
    rest k one heads e = elim (cases_Bool (n x == k)) [
      | inl is ↦ (let at : n x ≡ k = eqb-true (n x) k is in
          let tails : of_number n (n x) xs ≡ of_number n (n x) ys = cc in
          subst (λ (m : ℕ). of_number n m xs ≡ of_number n m ys) at tails)
      | inr not ↦ (let ey : (n y == k) ≡ false = ap (λ m. m == k) one ∙ not in
          sym (cond-false (n x == k) (x ∷ of_number n k xs) (of_number n k xs) not) ∙ (e ∙ cond-false (n y == k) (y ∷ of_number n k ys) (of_number n k ys) ey))
    ]

-- ---- the sort of the definitions

insert_numbers : (n : Extent → ℕ) (k : ℕ) (e : Extent) (fs : List Extent) → of_number n k (insert_by n e fs) ≡ of_number n k (e ∷ fs)
insert_numbers n k e [] = refl
insert_numbers n k e (f ∷ fs) = go (leb (n e) (n f)) refl (insert_numbers n k e fs)
  where
    go : (b : Bool) → leb (n e) (n f) ≡ b → of_number n k (insert_by n e fs) ≡ of_number n k (e ∷ fs) → of_number n k (cond b (e ∷ (f ∷ fs)) (f ∷ insert_by n e fs)) ≡ of_number n k (e ∷ (f ∷ fs))
    go true le ih = refl
    go false lt ih = (let above : n f < n e = leb-false (n e) (n f) lt in elim (cases_Bool (n f == k)) [
      | inl at ↦ (let here : n f ≡ k = eqb-true (n f) k at in
          number_yes n k f (insert_by n e fs) here ∙ (ap (λ (zs : List Extent). f ∷ zs) (ih ∙ number_no n k e fs (λ h. omega arith))
          ∙ (sym (number_yes n k f fs here) ∙ sym (number_no n k e (f ∷ fs) (λ h. omega arith)))))
      | inr off ↦ (cond-false (n f == k) (f ∷ of_number n k (insert_by n e fs)) (of_number n k (insert_by n e fs)) off
          ∙ (ih ∙ ap (λ (zs : List Extent). cond (n e == k) (e ∷ zs) zs) (sym (cond-false (n f == k) (f ∷ of_number n k fs) (of_number n k fs) off))))
    ])

pub rising_numbers : (n : Extent → ℕ) (k : ℕ) (es : List Extent) → of_number n k (in_rising n es) ≡ of_number n k es
rising_numbers n k [] = refl
rising_numbers n k (e ∷ es) = insert_numbers n k e (in_rising n es) ∙ ap (λ (zs : List Extent). cond (n e == k) (e ∷ zs) zs) (rising_numbers n k es)

-- each element is at least a number
abbrev pub AtLeast : (Extent → ℕ) → ℕ → List Extent → Type 0
AtLeast n k [] = Unit {0}
AtLeast n k (e ∷ es) = (k ≤ n e) × AtLeast n k es

-- each element is at most those after it
abbrev pub Climbs : (Extent → ℕ) → List Extent → Type 0
Climbs n [] = Unit {0}
Climbs n (e ∷ es) = AtLeast n (n e) es × Climbs n es

at_least_lower : (n : Extent → ℕ) (k m : ℕ) (es : List Extent) → k ≤ m → AtLeast n m es → AtLeast n k es
at_least_lower n k m [] le h = tt
at_least_lower n k m (e ∷ es) le h = (let here : m ≤ n e = h.0 in omega arith, at_least_lower n k m es le h.1)

insert_least : (n : Extent → ℕ) (k : ℕ) (e : Extent) (fs : List Extent) → k ≤ n e → AtLeast n k fs → AtLeast n k (insert_by n e fs)
insert_least n k e [] le h = (le, tt)
insert_least n k e (f ∷ fs) le h = elim (leb (n e) (n f)) as (λ b. AtLeast n k (cond b (e ∷ (f ∷ fs)) (f ∷ insert_by n e fs))) [
  | true ↦ (le, h)
  | false ↦ (h.0, insert_least n k e fs le h.1)
]

insert_climbs : (n : Extent → ℕ) (e : Extent) (fs : List Extent) → Climbs n fs → Climbs n (insert_by n e fs)
insert_climbs n e [] h = (tt, tt)
insert_climbs n e (f ∷ fs) h = go (leb (n e) (n f)) refl (insert_climbs n e fs h.1)
  where
    go : (b : Bool) → leb (n e) (n f) ≡ b → Climbs n (insert_by n e fs) → Climbs n (cond b (e ∷ (f ∷ fs)) (f ∷ insert_by n e fs))
    go true is ih = (let le : n e ≤ n f = leb-true (n e) (n f) is in ((le, at_least_lower n (n e) (n f) fs le h.0), h))
    go false is ih = (let lt : n f < n e = leb-false (n e) (n f) is in (insert_least n (n f) e fs (omega arith) h.0, ih))

pub rising_climbs : (n : Extent → ℕ) (es : List Extent) → Climbs n (in_rising n es)
rising_climbs n [] = tt
rising_climbs n (e ∷ es) = insert_climbs n e (in_rising n es) (rising_climbs n es)

least_at : (n : Extent → ℕ) (k : ℕ) (es : List Extent) (i : ℕ) (d : Extent) → AtLeast n k es → i < length es → k ≤ n (get_or es i d)
least_at n k [] i d h lt = absurd (omega arith)
least_at n k (e ∷ es) zero d h lt = h.0
least_at n k (e ∷ es) (suc i) d h lt = least_at n k es i d h.1 (omega arith)

pub climbs_rises : (n : Extent → ℕ) (es : List Extent) → Climbs n es → IsNonDecreasingBy n es
climbs_rises n [] h i j d le lt = absurd (omega arith)
climbs_rises n (e ∷ es) h zero zero d le lt = omega arith
climbs_rises n (e ∷ es) h zero (suc j) d le lt = least_at n (n e) es j d h.0 (omega arith)
climbs_rises n (e ∷ es) h (suc i) zero d le lt = absurd (omega arith)
climbs_rises n (e ∷ es) h (suc i) (suc j) d le lt = climbs_rises n es h.1 i j d (omega arith) (omega arith)

-- a list that a stable sort gave is the one of the definitions
pub stable_is : (n : Extent → ℕ) (xs ys : List Extent) → IsNonDecreasingBy n ys → ((k : ℕ) → of_number n k ys ≡ of_number n k xs) → ys ≡ in_rising n xs
stable_is n xs ys up same = same_sorted n ys (in_rising n xs) up (climbs_rises n (in_rising n xs) (rising_climbs n xs)) (λ k. same k ∙ sym (rising_numbers n k xs))

-- ---- what a sort by a key says

ties_number : (a b k : ℕ) → a ≡ k → (b == k) ≡ (not (is_lt (nat_cmp a b)) && not (is_lt (nat_cmp b a)))
ties_number a b k e = grind (arith, common_steps)

-- where some element has each number, a stable sort keeps the elements of each number
pub stable_numbers : {X : Type 0} (n : X → ℕ) (s : ℕ → X) → ((k : ℕ) → n (s k) ≡ k) → (xs ys : List X) → IsStableByKey n nat_cmp xs ys → (k : ℕ) → of_number n k ys ≡ of_number n k xs
stable_numbers {X} n s has xs ys stable k =
    let agree : (z : X) → (n z == k) ≡ (not (is_lt (nat_cmp (n (s k)) (n z))) && not (is_lt (nat_cmp (n z) (n (s k))))) = λ z. ties_number (n (s k)) (n z) k (has k) in
    filter_agree (λ z. n z == k) (λ z. not (is_lt (nat_cmp (n (s k)) (n z))) && not (is_lt (nat_cmp (n z) (n (s k))))) agree ys
    ∙ (stable (s k) ∙ sym (filter_agree (λ z. n z == k) (λ z. not (is_lt (nat_cmp (n (s k)) (n z))) && not (is_lt (nat_cmp (n z) (n (s k))))) agree xs))

-- ---- In a list that doesn't fall, those of one number stand side by side, between two places.

-- below the first place the numbers are lower than q, from the second on they are higher, and between them they are q
pub record IsRange {X : Type 0} (n : X → ℕ) (q : ℕ) (xs : List X) (i j : ℕ) : Type 0 where
  pub ends : j ≤ length xs
  pub starts : i ≤ length xs
  pub low : (k : ℕ) (d : X) → k < i → n (get_or xs k d) < q
  pub not_low : (k : ℕ) (d : X) → i ≤ k → k < length xs → q ≤ n (get_or xs k d)
  pub not_high : (k : ℕ) (d : X) → k < j → n (get_or xs k d) ≤ q
  pub high : (k : ℕ) (d : X) → j ≤ k → k < length xs → q < n (get_or xs k d)

pub range_of_points : {X : Type 0} (n : X → ℕ) (q : ℕ) (xs : List X) (i j : ℕ) → i ≤ length xs → j ≤ length xs
    → IsPartitionPoint (λ y. ltb (n y) q ≡ true) (λ y. ltb (n y) q ≡ false) xs i
    → IsPartitionPoint (λ y. leb (n y) q ≡ true) (λ y. leb (n y) q ≡ false) xs j → IsRange n q xs i j
range_of_points n q xs i j hi hj p r = grind (arith, common_steps)

pub range_order : {X : Type 0} (n : X → ℕ) (q : ℕ) (xs : List X) (d : X) (i j : ℕ) → IsRange n q xs i j → i ≤ j
range_order n q xs d i j r = elim (cases_lt j i) [
  | inl lt ↦ absurd (let below : n (get_or xs j d) < q = r.low j d lt in
      let within : j < length xs = (let s : i ≤ length xs = r.starts in omega arith) in
      let above : q < n (get_or xs j d) = r.high j d (omega arith) within in omega arith)
  | inr le ↦ le
]

tail_range : {X : Type 0} (n : X → ℕ) (q : ℕ) (x : X) (xs : List X) (i j a b : ℕ) → a ≡ i - 1
    → b ≡ j - 1 → IsRange n q (x ∷ xs) i j → IsRange n q xs a b
tail_range n q x xs i j a b e f r = let starts = r.starts in let ends = r.ends in record {
  ends = omega arith;
  starts = omega arith;
  low = λ k d h. r.low (suc k) d (omega arith);
  not_low = λ k d le h. r.not_low (suc k) d (omega arith) (omega arith);
  not_high = λ k d h. r.not_high (suc k) d (omega arith);
  high = λ k d le h. r.high (suc k) d (omega arith) (omega arith);
}

take_by : {X : Type 0} (a b : ℕ) (xs : List X) → a ≡ b → take a xs ≡ take b xs
take_by a b xs e = ap (λ m. take m xs) e

pub range_is : {X : Type 0} (n : X → ℕ) (q : ℕ) (xs : List X) (i j : ℕ) → IsRange n q xs i j → slice_range xs i j ≡ of_number n q xs
range_is n q [] i j r = (let hi : i ≤ 0 = r.starts in let hj : j ≤ 0 = r.ends in
    let zi : i ≡ 0 = omega arith in let zj : j ≡ 0 = omega arith in
    ap (λ a. take (j - a) (drop a [])) zi ∙ ap (λ b. take (b - 0) []) zj)
range_is n q (x ∷ xs) zero zero r =
    let above : q < n x = r.high 0 x (omega arith) (omega arith) in
    range_is n q xs 0 0 (tail_range n q x xs 0 0 0 0 (omega arith) (omega arith) r)
    ∙ sym (number_no n q x xs (λ e. omega arith))
range_is n q (x ∷ xs) (suc i) zero r =
    absurd (let below : n x < q = r.low 0 x (omega arith) in let above : q < n x = r.high 0 x (omega arith) (omega arith) in omega arith)
range_is n q (x ∷ xs) zero (suc j) r =
    let here : n x ≡ q = (let ge : q ≤ n x = r.not_low 0 x (omega arith) (omega arith) in let le : n x ≤ q = r.not_high 0 x (omega arith) in omega arith) in
    let more : suc j - 0 ≡ suc (j - 0) = omega arith in
    take_by (suc j - 0) (suc (j - 0)) (x ∷ xs) more
    ∙ (ap (λ ys. x ∷ ys)
    (range_is n q xs 0 j (tail_range n q x xs 0 (suc j) 0 j (omega arith) (omega arith) r))
    ∙ sym (number_yes n q x xs here))
range_is n q (x ∷ xs) (suc i) (suc j) r =
    let below : n x < q = r.low 0 x (omega arith) in
    let gap : suc j - suc i ≡ j - i = omega arith in
    take_by (suc j - suc i) (j - i) (drop i xs) gap
    ∙ (range_is n q xs i j (tail_range n q x xs (suc i) (suc j) i j (omega arith) (omega arith) r)
    ∙ sym (number_no n q x xs (λ e. omega arith)))
