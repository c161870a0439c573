-- The last = of a token, found from its end.
use Rattle.std.proofs.Common.{◌≡◌, ◌≢◌, ℕ, ◌+◌, ◌-◌, ◌<◌, ◌≤◌, not, Bool, true, false, List, length, take, drop, get_or, ◌∙◌, ap, arith}
use Rattle.std.specs.List.{list_any, suffix_len}
use Rattle.std.proofs.lemmas.Bool.Decides.{nat_tests}
use Rattle.std.proofs.lemmas.List.Folds.{list_any_at, list_any_none}
use Rattle.std.proofs.lemmas.List.Elements.{All-from_get_or}
use Rattle.std.proofs.lemmas.List.Sums.{suffix_len_is}
use Rattle.ldm_words.specs.Commands.{is_equals}
use Rattle.ldm_words.specs.Equals.{IsPlaceOfEquals}

another : (c : ℕ) → c ≢ 61 → is_equals c ≡ false
another c isnt = grind (arith, nat_tests)

same : (c : ℕ) → c ≡ 61 → is_equals c ≡ true
same c is = grind (arith, nat_tests)

pub none_there : (token : List ℕ) → ((k : ℕ) → k < length token → get_or token k 0 ≢ 61) → list_any is_equals token ≡ false
none_there token none = list_any_none is_equals token (All-from_get_or (λ c. is_equals c ≡ false) token 0 (λ k lt. another (get_or token k 0) (none k lt)))

pub last_at : (token : List ℕ) (at : ℕ) → 0 < at → at ≤ length token → get_or token (at - 1) 0 ≡ 61 → ((k : ℕ) → at ≤ k → k < length token → get_or token k 0 ≢ 61)
    → IsPlaceOfEquals token (at - 1)
last_at token at some le is none =
    let other : ℕ → Bool = λ c. not (is_equals c) in
    let suffix : suffix_len other token ≡ length token - at =
    suffix_len_is other token at 0 le (λ k ge lt. ap not (another (get_or token k 0) (none k ge lt))) (λ _. ap not (same (get_or token (at - 1) 0) is)) in
    let front : length token - (length token - at) - 1 ≡ at - 1 = omega arith in
    let back : length token - (length token - at) ≡ at - 1 + 1 = omega arith in
    record {
      inside = omega arith;
      any = list_any_at is_equals token (at - 1) 0 (omega arith) (same (get_or token (at - 1) 0) is);
      before = ap (λ (n : ℕ). take (length token - n - 1) token) suffix ∙ ap (λ (n : ℕ). take n token) front;
      after = ap (λ (n : ℕ). drop (length token - n) token) suffix ∙ ap (λ (n : ℕ). drop n token) back;
    }
