-- Tests of the numbers below a bound.
use Rattle.std.proofs.Common.{◌≡◌, ◌⊎◌, ℕ, zero, suc, ◌+◌, ◌<◌, ◌≤◌, Bool, true, false, List, [], ◌∷◌, ◌++◌, Option, Some, None, is_some, refl, sym, ap, ◌∙◌, arith, inl, inr, add-one}
use Rattle.std.specs.List.{flat_map}
use Rattle.std.proofs.lemmas.Bool.{cases_lt, cases_Bool, and_parts, and_from, or_parts, or_from, or_left, or_right, false_from_ne_true, false≢true}
use Rattle.std.proofs.lemmas.List.{flat_map_more}
use Rattle.ldm_frags.specs.declared.faults.FragFault.{FragFault}
use Rattle.ldm_frags.specs.Faults.{or_else, first_below}
use Rattle.ldm_frags.specs.Groups.{first_passing}
use Rattle.ldm_frags.specs.Blocks.{numbers_from, some_below, all_below, least_below}

-- one number more
pub numbers_push : (a n : ℕ) → numbers_from a (n + 1) ≡ numbers_from a n ++ (a + n) ∷ []
numbers_push a n = ap (numbers_from a) (add-one n) ∙ go a n
  where
    go : (a n : ℕ) → numbers_from a (suc n) ≡ numbers_from a n ++ (a + n) ∷ []
    go a zero = ap (λ (m : ℕ). m ∷ []) (omega arith)
    go a (suc n) = ap (λ (r : List ℕ). a ∷ r) (go (a + 1) n ∙ ap (λ (m : ℕ). numbers_from (a + 1) n ++ m ∷ []) (omega arith))

-- what one number more adds
pub flat_map_below : {X : Type 0} (f : ℕ → List X) (n : ℕ) → flat_map f (numbers_from 0 (n + 1)) ≡ flat_map f (numbers_from 0 n) ++ f n
flat_map_below f n =
    ap (flat_map f) (numbers_push 0 n ∙ ap (λ (m : ℕ). numbers_from 0 n ++ m ∷ []) (omega arith)) ∙ sym (flat_map_more f [] (numbers_from 0 n) n)

-- what agrees below a number adds the same
pub flat_map_same : {X : Type 0} (f g : ℕ → List X) (n : ℕ) → ((k : ℕ) → k < n → f k ≡ g k)
    → flat_map f (numbers_from 0 n) ≡ flat_map g (numbers_from 0 n)
flat_map_same {X} f g n same = go 0 n (λ k low lt. same k (omega arith))
  where
    go : (a n : ℕ) → ((k : ℕ) → a ≤ k → k < a + n → f k ≡ g k)
        → flat_map f (numbers_from a n) ≡ flat_map g (numbers_from a n)
    go a zero same = refl
    go a (suc n) same =
        rw (
          same a (omega arith) (omega arith),
          go (a + 1) n (λ k low lt. same k (omega arith) (omega arith)),
        ) refl

last : (k n : ℕ) → k < suc n → (k < n) ⊎ (k ≡ n)
last k n lt = elim (cases_lt k n) [ inl below ↦ inl below | inr above ↦ inr (omega arith) ]

-- ---- where one passes, some passes; where each passes, all do

pub some_there : (n k : ℕ) (p : ℕ → Bool) → k < n → p k ≡ true → some_below n p ≡ true
some_there zero k p lt e = absurd (omega arith)
some_there (suc n) k p lt e = elim (last k n lt) [
  | inl below ↦ or_left (some_below n p) (p n) (some_there n k p below e)
  | inr same ↦ or_right (some_below n p) (p n) (ap p (sym same) ∙ e)
]

pub none_there : (n k : ℕ) (p : ℕ → Bool) → k < n → some_below n p ≡ false → p k ≡ false
none_there n k p lt e = false_from_ne_true (p k) (λ is. false≢true (sym e ∙ some_there n k p lt is))

pub none_from : (n : ℕ) (p : ℕ → Bool) → ((k : ℕ) → k < n → p k ≡ false) → some_below n p ≡ false
none_from zero p h = refl
none_from (suc n) p h =
    or_from (some_below n p) (p n) (none_from n p (λ k lt. h k (omega arith))) (h n (omega arith))

pub all_there : (n k : ℕ) (p : ℕ → Bool) → k < n → all_below n p ≡ true → p k ≡ true
all_there zero k p lt e = absurd (omega arith)
all_there (suc n) k p lt e = let both = and_parts (all_below n p) (p n) e in elim (last k n lt) [
  | inl below ↦ all_there n k p below both.0
  | inr same ↦ ap p same ∙ both.1
]

pub not_all : (n k : ℕ) (p : ℕ → Bool) → k < n → p k ≡ false → all_below n p ≡ false
not_all n k p lt e =
    false_from_ne_true (all_below n p) (λ all. false≢true (sym e ∙ all_there n k p lt all))

pub all_from : (n : ℕ) (p : ℕ → Bool) → ((k : ℕ) → k < n → p k ≡ true) → all_below n p ≡ true
all_from zero p h = refl
all_from (suc n) p h =
    and_from (all_below n p) (p n) (all_from n p (λ k lt. h k (omega arith))) (h n (omega arith))

pub all_more : (n : ℕ) (p : ℕ → Bool) → all_below n p ≡ true → p n ≡ true → all_below (n + 1) p ≡ true
all_more n p before here = rw (add-one, before, here) refl

pub some_more : (n : ℕ) (p : ℕ → Bool) → p n ≡ false → some_below (n + 1) p ≡ some_below n p
some_more n p e =
    elim (cases_Bool (some_below n p)) [
      | inl some ↦ rw (add-one, some)
      | inr none ↦ rw (add-one, none, e)
    ]

-- ---- the least that passes, if one does

pub least_none : (n : ℕ) (p : ℕ → Bool) → some_below n p ≡ false → least_below n p ≡ n
least_none zero p e = refl
least_none (suc n) p e = let both = or_parts (some_below n p) (p n) e in rw (both.0, both.1) refl

pub least_is : (n k : ℕ) (p : ℕ → Bool) → k < n → some_below k p ≡ false → p k ≡ true → least_below n p ≡ k
least_is zero k p lt none e = absurd (omega arith)
least_is (suc n) k p lt none e = elim (last k n lt) [
  | inl below ↦ rw (some_there n k p below e) (least_is n k p below none e)
  | inr same ↦ rw (← same) (rw (none, e) refl)
]

-- it is below the bound, and passes
pub least_passes : (n : ℕ) (p : ℕ → Bool) → some_below n p ≡ true → (least_below n p < n) × (p (least_below n p) ≡ true)
least_passes zero p e = absurd cc
least_passes (suc n) p e = elim (cases_Bool (some_below n p)) [
  | inl some ↦ let rest = least_passes n p some in rw some (omega (arith, rest.0), rest.1)
  | inr none ↦ let here : p n ≡ true = rw none at e in rw (none, here) (omega arith, here)
]

pub passing_skip : (n : ℕ) (p : ℕ → Bool) → p n ≡ false → first_passing (n + 1) p ≡ first_passing n p
passing_skip n p e =
    elim (cases_Bool (some_below n p)) [
      | inl some ↦ rw (add-one, some)
      | inr none ↦ rw (add-one, none, e)
    ]

pub passing_here : (n : ℕ) (p : ℕ → Bool) → p n ≡ true → some_below n p ≡ false → first_passing (n + 1) p ≡ Some n
passing_here n p e none = rw (add-one, none, e) refl

pub passing_some : (n : ℕ) (p : ℕ → Bool) → is_some (first_passing n p) ≡ some_below n p
passing_some n p = elim (cases_Bool (some_below n p)) [ inl some ↦ rw some | inr none ↦ rw none ]

pub passing_least : (n k : ℕ) (p : ℕ → Bool) → first_passing n p ≡ Some k → least_below n p ≡ k
passing_least n k p e = elim (cases_Bool (some_below n p)) [
  | inl some ↦ let h : Some (least_below n p) ≡ Some k = rw some at e in cc
  | inr none ↦ let h : None ≡ Some k = rw none at e in absurd cc
]

pub passing_past : (n : ℕ) (p : ℕ → Bool) → first_passing n p ≡ None → least_below n p ≡ n
passing_past n p e = elim (cases_Bool (some_below n p)) [
  | inl some ↦ let h : Some (least_below n p) ≡ None = rw some at e in absurd cc
  | inr none ↦ least_none n p none
]

-- ---- the first fault

pub or_none : (a b : Option FragFault) → or_else a b ≡ None → (a ≡ None) × (b ≡ None)
or_none None b e = (refl, e)
or_none (Some f) b e = absurd cc

pub faultless_below : (n k : ℕ) (fault : ℕ → Option FragFault) → first_below n fault ≡ None → k < n → fault k ≡ None
faultless_below zero k fault e lt = absurd (omega arith)
faultless_below (suc n) k fault e lt =
    let both = or_none (first_below n fault) (fault n) e in
    elim (last k n lt) [
      | inl below ↦ faultless_below n k fault both.0 below
      | inr same ↦ ap fault same ∙ both.1
    ]

pub faultless_from : (n : ℕ) (fault : ℕ → Option FragFault) → ((k : ℕ) → k < n → fault k ≡ None) → first_below n fault ≡ None
faultless_from zero fault h = refl
faultless_from (suc n) fault h =
    rw (faultless_from n fault (λ k lt. h k (omega arith)), h n (omega arith)) refl

-- the first of the numbers below n with a fault
pub first_there : (n k : ℕ) (fault : ℕ → Option FragFault) (f : FragFault) → k < n → first_below k fault ≡ None → fault k ≡ Some f → first_below n fault ≡ Some f
first_there zero k fault f lt none e = absurd (omega arith)
first_there (suc n) k fault f lt none e = elim (last k n lt) [
  | inl below ↦ rw (first_there n k fault f below none e) refl
  | inr same ↦ rw (← same) (rw (none, e) refl)
]

-- ---- tests and faults that agree below the bound

pub some_same : (n : ℕ) (p q : ℕ → Bool) → ((j : ℕ) → j < n → p j ≡ q j) → some_below n p ≡ some_below n q
some_same zero p q h = refl
some_same (suc n) p q h = rw (some_same n p q (λ j lt. h j (omega arith)), h n (omega arith)) refl

pub all_same : (n : ℕ) (p q : ℕ → Bool) → ((j : ℕ) → j < n → p j ≡ q j) → all_below n p ≡ all_below n q
all_same zero p q h = refl
all_same (suc n) p q h = rw (all_same n p q (λ j lt. h j (omega arith)), h n (omega arith)) refl

pub least_same : (n : ℕ) (p q : ℕ → Bool) → ((j : ℕ) → j < n → p j ≡ q j) → least_below n p ≡ least_below n q
least_same zero p q h = refl
least_same (suc n) p q h =
    let before = λ (j : ℕ) (lt : j < n). h j (omega arith) in
    rw (some_same n p q before, least_same n p q before, h n (omega arith)) refl

pub first_same : (n : ℕ) (f g : ℕ → Option FragFault) → ((j : ℕ) → j < n → f j ≡ g j)
    → first_below n f ≡ first_below n g
first_same zero f g h = refl
first_same (suc n) f g h = rw (first_same n f g (λ j lt. h j (omega arith)), h n (omega arith)) refl
