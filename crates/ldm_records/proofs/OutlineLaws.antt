-- Absent fields behind the others change neither the length of the own spelling nor which record it is.
use Rattle.std.proofs.Common.{◌≡◌, ℕ, zero, suc, ◌-◌, ◌+◌, List, [], ◌∷◌, ◌++◌, length, take, refl, sym, ap, ◌∙◌, arith}
use Rattle.std.specs.Prelude.{replicate}
use Rattle.std.proofs.lemmas.List.{take_at}
use Rattle.ldm_records.specs.Values.{Value, Absent, FieldKind, HasKinds, values_len}
use Rattle.ldm_records.specs.Plain.{Plain, IsRecord, body_len}
use Rattle.ldm_records.specs.Outlines.{padded, filled_plain}

absent_len : (n : ℕ) → values_len (replicate n Absent) ≡ 0
absent_len zero = refl
absent_len (suc n) = omega (arith, absent_len n)

more_len : (xs : List Value) (n : ℕ) → values_len (xs ++ replicate n Absent) ≡ values_len xs
more_len [] n = absent_len n
more_len (x ∷ xs) n = omega (arith, more_len xs n)

filled_len : (xs : List Value) → values_len (padded xs) ≡ values_len xs
filled_len xs = more_len xs (15 - length xs)

-- the body that is listed is as long
pub listed_len : (p q : Plain) → q ≡ filled_plain p → values_len q.fields + length q.tail ≡ body_len p
listed_len p q e =
    ap (λ (x : Plain). values_len x.fields + length x.tail) e ∙ ap (λ (n : ℕ). n + length p.tail) (filled_len p.fields)

kinds_len : (ks : List FieldKind) (xs : List Value) → HasKinds ks xs → length ks ≡ length xs
kinds_len [] [] h = refl
kinds_len (k ∷ ks) (x ∷ xs) h = omega (arith, kinds_len ks xs h.1)
kinds_len _ _ h = absurd h

front : (xs : List Value) (n : ℕ) → length xs ≡ n → take n (padded xs) ≡ xs
front xs n len = take_at xs (replicate (15 - length xs) Absent) n len

-- records of one type and the same flags have as many fields
pub one_filled : (p q : Plain) → IsRecord p → IsRecord q → filled_plain p ≡ filled_plain q → p ≡ q
one_filled p q s t e =
    let mark : p.mark ≡ q.mark = ap (λ (x : Plain). x.mark) e in
    let flags : p.flags ≡ q.flags = ap (λ (x : Plain). x.flags) e in
    let type : p.type ≡ q.type = ap (λ (x : Plain). x.type) e in
    let tail : p.tail ≡ q.tail = ap (λ (x : Plain). x.tail) e in
    let kinds : s.kinds ≡ t.kinds = (let known = s.known in let others = t.known in cc) in
    let len : length p.fields ≡ length q.fields = sym (kinds_len s.kinds p.fields s.fields) ∙ ap length kinds ∙ kinds_len t.kinds q.fields t.fields in
    let fields : p.fields ≡ q.fields =
    sym (front p.fields (length q.fields) len) ∙ ap (λ (x : Plain). take (length q.fields) x.fields) e ∙ front q.fields (length q.fields) refl in
    λ i. record { mark = mark i; flags = flags i; type = type i; fields = fields i; tail = tail i }
