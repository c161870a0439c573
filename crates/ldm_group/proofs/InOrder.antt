-- Records in order: the same records, and rising where no two have one place.
use Rattle.std.proofs.Common.{◌≡◌, ◌≢◌, ℕ, suc, ◌<◌, ◌≤◌, ◌==◌, ◌⊎◌, true, false, List, [], ◌∷◌, ◌++◌, get_or, max, refl, sym, subst, arith, Bool, Contains, fold}
use Rattle.std.specs.Prelude.{nat_le, if◌then◌else◌}
use Rattle.std.specs.List.{All, AllPairs}
use Rattle.std.specs.List.Sorted.{IsPermutation}
use Rattle.std.proofs.lemmas.Bool.{leb-true, leb-false, eqb-true}
use Rattle.std.proofs.lemmas.List.Elements.{All-head, All-tail, All-cons, All-append, All-contains, Contains-get_or, Contains-append_left, Contains-append_right, Contains-append_cases}
use Rattle.std.proofs.lemmas.List.Kept.{AllPairs-cons}
use Rattle.std.proofs.lemmas.List.Sorted.{IsPermutation-refl, IsPermutation-cons, IsPermutation-trans, IsPermutation-middle, IsPermutation-sym, All-permutation, Contains-permutation}
use Rattle.ldm_records.specs.declared.types.Record.{Record}
use Rattle.ldm_group.specs.Order.{place, place_of, id_of, count_at, Rising, IsLeastTwice, insert, in_order}
use Rattle.ldm_group.specs.Looks.{max_id}
use Rattle.ldm_group.proofs.Rise.{two_places}
use Rattle.ldm_group.proofs.OrderLaws.{count_kept}
use Rattle.ldm_group.proofs.OneOrder.{one_rising}

-- ---- pairs of a list

pub pairs_first : {X : Type 0} (R : X → X → Type 0) (x : X) (xs : List X) → AllPairs R (x ∷ xs) → All (R x) xs
pairs_first R x xs up k d lt = up 0 (suc k) d (omega arith) (omega arith)

pub pairs_rest : {X : Type 0} (R : X → X → Type 0) (x : X) (xs : List X) → AllPairs R (x ∷ xs) → AllPairs R xs
pairs_rest R x xs up i j d lt within = up (suc i) (suc j) d (omega arith) (omega arith)

-- ---- one more

pub insert_same : (r : Record) (xs : List Record) → IsPermutation (r ∷ xs) (insert r xs)
insert_same r [] = IsPermutation-refl (r ∷ [])
insert_same r (s ∷ rest) =
    elim (nat_le (place_of r) (place_of s)) as (λ (b : Bool). IsPermutation (r ∷ (s ∷ rest)) (if b then r ∷ (s ∷ rest) else s ∷ insert r rest)) [
      | true ↦ IsPermutation-refl (r ∷ (s ∷ rest))
      | false ↦ IsPermutation-trans (r ∷ (s ∷ rest)) (s ∷ (r ∷ rest)) (s ∷ insert r rest) (IsPermutation-middle (r ∷ []) s rest)
          (IsPermutation-cons s (r ∷ rest) (insert r rest) (insert_same r rest))
    ]

abbrev Below : Record → Record → Type 0
Below a b = place_of a < place_of b

abbrev Apart : Record → Record → Type 0
Apart a b = place_of a ≢ place_of b

insert_rises : (r : Record) (xs : List Record) → All (Apart r) xs → Rising xs → Rising (insert r xs)
insert_rises r [] apart up = λ i j d lt within. absurd (omega arith)
insert_rises r (s ∷ rest) differ up = by (nat_le (place_of r) (place_of s)) refl (insert_rises r rest (All-tail (Apart r) s rest differ) (pairs_rest Below s rest up))
  where
    other : place_of r ≢ place_of s
    other = All-head (Apart r) s rest differ

    by : (b : Bool) → nat_le (place_of r) (place_of s) ≡ b → Rising (insert r rest) → Rising (if b then r ∷ (s ∷ rest) else s ∷ insert r rest)
    by true e later =
        let le : place_of r ≤ place_of s = leb-true _ _ e in
        let apart : place_of r ≢ place_of s = other in
        let lt : place_of r < place_of s = omega arith in
        AllPairs-cons Below r (s ∷ rest) (All-cons (Below r) s rest lt (λ k d within. let above : place_of s < place_of (get_or rest k d) = pairs_first Below s rest up k d within in omega arith)) up
    by false e later =
        let lt : place_of s < place_of r = leb-false _ _ e in
        AllPairs-cons Below s (insert r rest) (All-permutation (Below s) (r ∷ rest) (insert r rest) (insert_same r rest) (All-cons (Below s) r rest lt (pairs_first Below s rest up))) later

-- ---- all of them

pub in_order_same : (xs : List Record) → IsPermutation xs (in_order xs)
unfolding in_order
in_order_same [] = IsPermutation-refl []
in_order_same (r ∷ xs) = IsPermutation-trans (r ∷ xs) (r ∷ in_order xs) (insert r (in_order xs)) (IsPermutation-cons r xs (in_order xs) (in_order_same xs)) (insert_same r (in_order xs))

pub in_order_rises : (xs : List Record) → AllPairs (λ a b. place_of a ≢ place_of b) xs → Rising (in_order xs)
unfolding in_order
in_order_rises [] apart = λ i j d lt within. absurd (omega arith)
in_order_rises (r ∷ xs) apart =
    insert_rises r (in_order xs) (All-permutation (Apart r) xs (in_order xs) (in_order_same xs) (pairs_first Apart r xs apart)) (in_order_rises xs (pairs_rest Apart r xs apart))

-- ---- ids

top_above : (xs : List Record) (top : ℕ) → (top ≤ fold (λ m r. max m (id_of r)) top xs) × All (λ r. id_of r ≤ fold (λ m s. max m (id_of s)) top xs) xs
top_above [] top = (omega arith, λ k d lt. absurd (omega arith))
top_above (r ∷ xs) top =
    let rest = top_above xs (max top (id_of r)) in
    (let low = rest.0 in omega arith, All-cons (λ s. id_of s ≤ fold (λ m q. max m (id_of q)) (max top (id_of r)) xs) r xs (let low = rest.0 in omega arith) rest.1)

-- each id is at most the greatest
pub max_above : (xs : List Record) (r : Record) → Contains xs r → id_of r ≤ max_id xs
max_above xs r there = All-contains (λ s. id_of s ≤ max_id xs) xs r (top_above xs 0).1 there

-- ---- those that stay and those that are made, in order

pub pairs_append : {X : Type 0} (R : X → X → Type 0) (xs ys : List X) → AllPairs R xs → AllPairs R ys → ((x y : X) → Contains xs x → Contains ys y → R x y) → AllPairs R (xs ++ ys)
pairs_append R [] ys up vp cross = vp
pairs_append R (x ∷ xs) ys up vp cross =
    AllPairs-cons R x (xs ++ ys)
    (All-append (R x) xs ys (pairs_first R x xs up) (λ k d lt. cross x (get_or ys k d) (0, omega arith, refl) (Contains-get_or ys k d lt)))
    (pairs_append R xs ys (pairs_rest R x xs up) vp (λ y z at. cross y z (suc at.0, (let lt = at.1 in omega arith), at.2)))

-- the places differ, so the order rises
pub next_rises : (stay made : List Record) → Rising stay → Rising made → ((r s : Record) → Contains stay r → Contains made s → place_of r ≢ place_of s) → Rising (in_order (stay ++ made))
next_rises stay made up vp cross = in_order_rises (stay ++ made) (pairs_append Apart stay made (apart stay up) (apart made vp) cross)
  where
    apart : (xs : List Record) → Rising xs → AllPairs Apart xs
    apart xs rise i j d lt within = λ e. (let below : place_of (get_or xs i d) < place_of (get_or xs j d) = rise i j d lt within in omega arith)

-- a record of the next stays or is made, and back
pub member_next : (stay made : List Record) (r : Record) → Contains (in_order (stay ++ made)) r → Contains stay r ⊎ Contains made r
member_next stay made r there =
    Contains-append_cases stay made r (Contains-permutation (in_order (stay ++ made)) (stay ++ made) r (IsPermutation-sym (stay ++ made) (in_order (stay ++ made)) (in_order_same (stay ++ made))) there)

pub stays_next : (stay made : List Record) (r : Record) → Contains stay r → Contains (in_order (stay ++ made)) r
stays_next stay made r there = Contains-permutation (stay ++ made) (in_order (stay ++ made)) r (in_order_same (stay ++ made)) (Contains-append_left stay made r there)

pub made_next : (stay made : List Record) (r : Record) → Contains made r → Contains (in_order (stay ++ made)) r
made_next stay made r there = Contains-permutation (stay ++ made) (in_order (stay ++ made)) r (in_order_same (stay ++ made)) (Contains-append_right stay made r there)

-- another rising order of them is the same, as the database that is made of them has
pub one_next : (xs ys : List Record) → IsPermutation xs ys → Rising ys → Rising (in_order xs) → ys ≡ in_order xs
one_next xs ys same up vp = one_rising xs ys (in_order xs) same (in_order_same xs) up vp

-- no two of a rising list have one place
pub one_place : (n : ℕ) (rs : List Record) → Rising rs → 2 ≤ count_at n rs → ⊥
one_place n [] rise two = omega arith
one_place n (r ∷ rs) rise two =
    let at = two_places (λ (s : Record). place_of s == n) (r ∷ rs) r two in
    let below : place_of (get_or (r ∷ rs) at.0 r) < place_of (get_or (r ∷ rs) at.1 r) = rise at.0 at.1 r at.2 at.3 in
    let one = eqb-true _ _ at.4 in
    let other = eqb-true _ _ at.5 in
    omega arith

pub never_twice : (xs : List Record) (kind id : ℕ) → Rising (in_order xs) → IsLeastTwice xs kind id → ⊥
never_twice xs kind id up twice = one_place (place kind id) (in_order xs) up
    (subst (λ (n : ℕ). 2 ≤ n) (sym (count_kept (place kind id) xs (in_order xs) (in_order_same xs))) twice.twice)
