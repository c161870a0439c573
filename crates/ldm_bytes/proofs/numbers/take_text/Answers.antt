use Rattle.std.proofs.Common.{◌≡◌, ◌+◌, ◌-◌, ◌∷◌, ◌++◌, List, ℕ, length, ap, ◌∙◌, arith, sym, refl}
use Rattle.ldm_bytes.proofs.NumberLaws.{text_place, text_only, text_small, next_place, pair_1}
use Rattle.ldm_bytes.proofs.numbers.take_text.Goals as goal

pub returns-in_err-rest-clause-only : goal.returns-in_err-rest-clause-only
returns-in_err-rest-clause-only c = λ t w z is d.
    let at_t = d ∙ ap (λ (l : List ℕ). l ++ z) is.1 in
    absurd (let e = text_only c.args.bytes.now c.args.at _ c.in_err-rest.ensures.exact t z at_t in cc)

pub overflow_sub-result : goal.overflow_sub-result
overflow_sub-result c = (text_place c.args.bytes.now c.args.at c.in_ok-rest.field-0-0.now c.in_ok-rest.rest.now c.if-at-bytes.false c.in_ok-rest.ensures.exact).0

pub returns-clause-found : goal.returns-clause-found
returns-clause-found c =
    let text = c.in_ok-rest.field-0-0.now in
    let t = text_place c.args.bytes.now c.args.at text c.in_ok-rest.rest.now c.if-at-bytes.false c.in_ok-rest.ensures.exact in
    let small = text_small c.args.bytes.now c.args.at text _ (omega (arith, c.type_inv.bytes (c.args.at + 0))) t.2 in
    (text, length text ∷ text, (small, refl), refl, t.1 ∙ omega arith, t.2)

pub returns-clause-only : goal.returns-clause-only
returns-clause-only c = λ t w z is d.
    let at_t = d ∙ ap (λ (l : List ℕ). l ++ z) is.1 in
    let e = text_only c.args.bytes.now c.args.at _ c.in_ok-rest.ensures.exact t z at_t in
    let n = next_place c.args.bytes.now (length t ∷ t) z c.args.at c.if-at-bytes.false at_t in
    let len : length c.in_ok-rest.rest.now ≡ length z = ap length (pair_1 _ _ e) in
    let place : length c.args.bytes.now - length c.in_ok-rest.rest.now ≡ c.args.at + length w = ap (λ (k : ℕ). length c.args.bytes.now - k) len ∙ n.1 ∙ ap (λ (l : List ℕ). c.args.at + length l) (sym is.1) in
    rw place refl
