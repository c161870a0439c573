-- What is found twice in the sorted records is had twice, and is the least.
use Rattle.std.proofs.Common.{◌≡◌, ℕ, ◌-◌, ◌≤◌, ◌==◌, List, get_or, ap, sym, subst, ◌∙◌, arith, eq-eqb, cond, true}
use Rattle.std.specs.List.Sorted.{IsNonDecreasingBy, IsPermutation}
use Rattle.std.proofs.lemmas.List.{get_or_default}
use Rattle.std.proofs.lemmas.List.Sorted.{sum_by-IsPermutation}
use Rattle.ldm_records.specs.declared.types.Record.{Record}
use Rattle.ldm_group.specs.Order.{kind_of, id_of, place_of, place, count_at, IsFirstTwice, IsLeastTwice}
use Rattle.ldm_group.proofs.Rise.{least_twice, counted_two}

pub count_kept : (n : ℕ) (xs ys : List Record) → IsPermutation xs ys → count_at n ys ≡ count_at n xs
count_kept n xs ys h = sum_by-IsPermutation (λ r. cond (place_of r == n) 1 0) xs ys h

placed : (r : Record) (kind id : ℕ) → kind ≡ kind_of r → id ≡ id_of r → place_of r ≡ place kind id
unfolding place_of
placed r kind id k i = ap (λ n. place n (id_of r)) (sym k) ∙ ap (λ n. place kind n) (sym i)

pub found_twice : (xs ys : List Record) (at kind id : ℕ) (one two : Record) → IsPermutation xs ys → IsNonDecreasingBy place_of ys → IsFirstTwice ys at
    → one ≡ get_or ys at one → two ≡ get_or ys at two → kind ≡ kind_of one → id ≡ id_of two → IsLeastTwice xs kind id
found_twice xs ys at kind id one two perm up first at_one at_two k i =
    let same : one ≡ two = at_one ∙ (get_or_default ys at one two first.within ∙ sym at_two) in
    let here : place_of (get_or ys at one) ≡ place kind id = placed (get_or ys at one) kind id (k ∙ ap kind_of at_one) (i ∙ ap id_of (sym same ∙ at_one)) in
    let pass : (place_of (get_or ys at one) == place kind id) ≡ true = eq-eqb _ _ here in
    let prior : (place_of (get_or ys (at - 1) one) == place kind id) ≡ true = eq-eqb _ _ (first.same one ∙ here) in
    let two_there : 2 ≤ count_at (place kind id) ys =
    counted_two (λ r. place_of r == place kind id) ys one (at - 1) at (let a = first.above in omega arith) first.within prior pass in
    let P : ℕ → Type 0 = λ n. 2 ≤ n in
    record {
      twice = subst P (count_kept (place kind id) xs ys perm) two_there;
      least = λ n h. (let low : place_of (get_or ys at one) ≤ n = least_twice place_of ys one at up first.before first.within n (subst P (sym (count_kept n xs ys perm)) h) in omega (arith, low, here));
    }
