use Rattle.std.proofs.Common.{ℕ, ◌+◌, ◌*◌, ◌≤◌, List, length, ap, subst, arith}
use Rattle.ldm_changed.proofs.NextLaws.{few_area}
use Rattle.ldm_changed.proofs.change.next_body.Goals as goal

pub returns-clause-most : goal.returns-clause-most
returns-clause-most c =
    let it = c.in_ok-bytes.ensures.next in
    let size = ap (λ (l : List ℕ). length l) c.new.ensures in
    omega (arith, size, few_area c.in_ok-bytes.bytes c.in_ok-bytes.numbers it.apart it.change.within it.change.some)

pub returns-clause-added : goal.returns-clause-added
returns-clause-added c = λ n low high. c.in_ok-bytes.ensures.next.added n low (subst (λ (l : List ℕ). 128 * n + 128 ≤ length l) c.new.ensures high)
