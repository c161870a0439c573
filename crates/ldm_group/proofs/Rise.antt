-- A list that doesn't fall rises where neighbours differ; where they don't, the first such are the least that are there twice.
use Rattle.std.proofs.Common.{◌≡◌, ◌≢◌, ℕ, zero, suc, ◌+◌, ◌-◌, ◌<◌, ◌≤◌, ◌==◌, ◌⊎◌, inl, inr, Bool, true, false, cond, List, [], ◌∷◌, length, get_or, refl, ap, subst, ◌∙◌, arith, count_by}
use Rattle.std.proofs.lemmas.Bool.{cases_lt}
use Rattle.std.proofs.lemmas.List.Sums.{sum_by-cons}
use Rattle.std.specs.List.{AllAdjacentBelow, AllPairs}
use Rattle.std.specs.List.Sorted.{IsNonDecreasingBy}

-- the two cases of a test
pub tested : (b : Bool) → (b ≡ true) ⊎ (b ≡ false)
tested true = inl refl
tested false = inr refl

-- in a list with neighbours that differ, each is below the next
pub strictly : {X : Type 0} (n : X → ℕ) (xs : List X) → IsNonDecreasingBy n xs → AllAdjacentBelow (λ a b. n a ≢ n b) xs (length xs) → AllPairs (λ a b. n a < n b) xs
strictly n xs up apart i j d lt within =
    let before : n (get_or xs i d) ≤ n (get_or xs (j - 1) d) = up i (j - 1) d (omega arith) (omega arith) in
    let next : n (get_or xs (j - 1) d) ≤ n (get_or xs j d) = up (j - 1) j d (omega arith) within in
    let e : j - 1 + 1 ≡ j = omega arith in
    let P : ℕ → Type 0 = λ k. k < length xs → n (get_or xs (j - 1) d) ≢ n (get_or xs k d) in
    let here : n (get_or xs (j - 1) d) ≢ n (get_or xs j d) = subst P e (apart (j - 1) d) within in
    omega arith

-- a count, by its first element
pub count_yes : {X : Type 0} (p : X → Bool) (x : X) (xs : List X) → p x ≡ true → count_by p (x ∷ xs) ≡ 1 + count_by p xs
count_yes p x xs h = sum_by-cons (λ y. cond (p y) 1 0) x xs ∙ ap (λ b. cond b 1 0 + count_by p xs) h

pub count_no : {X : Type 0} (p : X → Bool) (x : X) (xs : List X) → p x ≡ false → count_by p (x ∷ xs) ≡ 0 + count_by p xs
count_no p x xs h = sum_by-cons (λ y. cond (p y) 1 0) x xs ∙ ap (λ b. cond b 1 0 + count_by p xs) h

-- one element passes where one is counted
pub one_place : {X : Type 0} (p : X → Bool) (xs : List X) (d : X) → 1 ≤ count_by p xs → (j : ℕ) × (j < length xs) × (p (get_or xs j d) ≡ true)
one_place p [] d h = absurd (omega arith)
one_place p (x ∷ xs) d h = elim (tested (p x)) [
  | inl holds ↦ (0, omega arith, holds)
  | inr fails ↦ (let less : 1 ≤ count_by p xs = omega (arith, h, count_no p x xs fails) in
      let rest : (j : ℕ) × (j < length xs) × (p (get_or xs j d) ≡ true) = one_place p xs d less in
      (suc rest.0, omega arith, rest.2))
]

-- two elements pass where two are counted
pub two_places : {X : Type 0} (p : X → Bool) (xs : List X) (d : X) → 2 ≤ count_by p xs
    → (i : ℕ) × (j : ℕ) × (i < j) × (j < length xs) × (p (get_or xs i d) ≡ true) × (p (get_or xs j d) ≡ true)
two_places p [] d h = absurd (omega arith)
two_places p (x ∷ xs) d h = elim (tested (p x)) [
  | inl holds ↦ (let fewer : 1 ≤ count_by p xs = omega (arith, h, count_yes p x xs holds) in
      let rest : (j : ℕ) × (j < length xs) × (p (get_or xs j d) ≡ true) = one_place p xs d fewer in
      (0, suc rest.0, omega arith, omega arith, holds, rest.2))
  | inr fails ↦ (let less : 2 ≤ count_by p xs = omega (arith, h, count_no p x xs fails) in
      let rest : (i : ℕ) × (j : ℕ) × (i < j) × (j < length xs) × (p (get_or xs i d) ≡ true) × (p (get_or xs j d) ≡ true) = two_places p xs d less in
      (suc rest.0, suc rest.1, omega arith, omega arith, rest.4, rest.5))
]

pub counted_one : {X : Type 0} (p : X → Bool) (xs : List X) (d : X) (j : ℕ) → j < length xs → p (get_or xs j d) ≡ true → 1 ≤ count_by p xs
counted_one p [] d j h holds = absurd (omega arith)
counted_one p (x ∷ xs) d zero h holds = omega (arith, count_yes p x xs holds)
counted_one p (x ∷ xs) d (suc j) h holds =
    let rest : 1 ≤ count_by p xs = counted_one p xs d j (omega arith) holds in
    elim (tested (p x)) [ inl a ↦ omega (arith, count_yes p x xs a) | inr a ↦ omega (arith, count_no p x xs a) ]

pub counted_two : {X : Type 0} (p : X → Bool) (xs : List X) (d : X) (i j : ℕ) → i < j → j < length xs → p (get_or xs i d) ≡ true → p (get_or xs j d) ≡ true → 2 ≤ count_by p xs
counted_two p [] d i j lt h a b = absurd (omega arith)
counted_two p (x ∷ xs) d i zero lt h a b = absurd (omega arith)
counted_two p (x ∷ xs) d zero (suc j) lt h a b =
    let rest : 1 ≤ count_by p xs = counted_one p xs d j (omega arith) b in omega (arith, count_yes p x xs a)
counted_two p (x ∷ xs) d (suc i) (suc j) lt h a b =
    let rest : 2 ≤ count_by p xs = counted_two p xs d i j (omega arith) (omega arith) a b in
    elim (tested (p x)) [ inl y ↦ omega (arith, count_yes p x xs y) | inr y ↦ omega (arith, count_no p x xs y) ]

pub eqb-eq : (a b : ℕ) → (a == b) ≡ true → a ≡ b
eqb-eq a b h = grind arith

-- of a list that doesn't fall, whose neighbours below a place differ, nothing is there twice that is less than what stands at the place
pub least_twice : {X : Type 0} (n : X → ℕ) (xs : List X) (d : X) (at : ℕ) → IsNonDecreasingBy n xs → AllAdjacentBelow (λ a b. n a ≢ n b) xs at → at < length xs
    → (m : ℕ) → 2 ≤ count_by (λ x. n x == m) xs → n (get_or xs at d) ≤ m
least_twice n xs d at up apart within m twice =
    let two = two_places (λ x. n x == m) xs d twice in
    let one_m : n (get_or xs two.0 d) ≡ m = eqb-eq _ _ two.4 in
    let two_m : n (get_or xs two.1 d) ≡ m = eqb-eq _ _ two.5 in
    let low : n (get_or xs two.0 d) ≤ n (get_or xs (two.0 + 1) d) = up two.0 (two.0 + 1) d (omega arith) (omega arith) in
    let high : n (get_or xs (two.0 + 1) d) ≤ n (get_or xs two.1 d) = up (two.0 + 1) two.1 d (omega arith) two.3 in
    let same : n (get_or xs two.0 d) ≡ n (get_or xs (two.0 + 1) d) = omega arith in
    elim (cases_lt (two.0 + 1) at) [
      | inl lt ↦ absurd (apart two.0 d lt same)
      | inr le ↦ (let from : n (get_or xs at d) ≤ n (get_or xs (two.0 + 1) d) = up at (two.0 + 1) d le (omega arith) in omega arith)
    ]
