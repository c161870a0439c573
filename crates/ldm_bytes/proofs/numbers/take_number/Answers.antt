use Rattle.std.proofs.Common.{◌≡◌, ◌+◌, ◌-◌, ℕ, length, ap, ◌∙◌, refl}
use Rattle.ldm_bytes.proofs.NumberLaws.{number_place, number_only, next_place, pair_0, pair_1}
use Rattle.ldm_bytes.proofs.numbers.take_number.Goals as goal

pub returns-in_err-value-clause-only : goal.returns-in_err-value-clause-only
returns-in_err-value-clause-only c = λ v w z h d. absurd (let e = number_only c.args.bytes.now c.args.at _ c.in_err-value.ensures v w z h d in cc)

pub overflow_sub-result : goal.overflow_sub-result
overflow_sub-result c = (number_place c.args.bytes.now c.args.at c.in_ok-value.value c.in_ok-value.rest.now c.if-at-bytes.false c.in_ok-value.ensures).0

pub returns-clause-found : goal.returns-clause-found
returns-clause-found c = (number_place c.args.bytes.now c.args.at c.in_ok-value.value c.in_ok-value.rest.now c.if-at-bytes.false c.in_ok-value.ensures).1

pub returns-clause-only : goal.returns-clause-only
returns-clause-only c = λ v w z h d.
    let e = number_only c.args.bytes.now c.args.at _ c.in_ok-value.ensures v w z h d in
    let n = next_place c.args.bytes.now w z c.args.at c.if-at-bytes.false d in
    let v-is : c.in_ok-value.value ≡ v = pair_0 _ _ e in
    let len : length c.in_ok-value.rest.now ≡ length z = ap length (pair_1 _ _ e) in
    let place : length c.args.bytes.now - length c.in_ok-value.rest.now ≡ c.args.at + length w = ap (λ (k : ℕ). length c.args.bytes.now - k) len ∙ n.1 in
    rw (v-is, place) refl
