use Rattle.std.proofs.Common.{ℕ, ◌≤◌, ap, ◌∙◌, arith}
use Rattle.ldm_dump.specs.Sources.{is_lost, lost_before, lost_sectors}
use Rattle.ldm_dump.proofs.CountLaws.{count_few, lost_turns, turns_few}
use Rattle.ldm_dump.proofs.losing.lost_in_turns.Goals as goal

pub returns-then-from-turn : goal.returns-then-from-turn
unfolding lost_sectors
returns-then-from-turn c = c.lost_before.ensures ∙ ap (λ (n : ℕ). lost_before c.args.found.now c.args.plan.now n) c.size-size.ensures

pub overflow_mul-result : goal.overflow_mul-result
overflow_mul-result c =
    let few = turns_few c.args.found.now c.args.plan.now c.requires (c.columns.ensures.columned c.requires) c.size-size.result c.from.result c.columns.result c.lost_before-2.result
    (c.from.ensures ∙ c.chunk.ensures.is) c.columns.ensures.count c.lost_before-2.ensures in
    omega (arith, few)

pub overflow_add-result : goal.overflow_add-result
overflow_add-result c =
    let all = lost_turns c.args.found.now c.args.plan.now c.requires (c.columns.ensures.columned c.requires) c.size-size.result c.from.result c.columns.result c.lost_before-2.result
    c.lost_before-3.result (c.from.ensures ∙ c.chunk.ensures.is) c.columns.ensures.count c.lost_before-2.ensures c.lost_before-3.ensures in
    let few : lost_before c.args.found.now c.args.plan.now c.size-size.result ≤ c.size-size.result = count_few (is_lost c.args.found.now c.args.plan.now) 0 c.size-size.result in
    omega (arith, all, few)

pub returns : goal.returns
unfolding lost_sectors
returns c =
    lost_turns c.args.found.now c.args.plan.now c.requires (c.columns.ensures.columned c.requires) c.size-size.result c.from.result c.columns.result c.lost_before-2.result
    c.lost_before-3.result (c.from.ensures ∙ c.chunk.ensures.is) c.columns.ensures.count c.lost_before-2.ensures c.lost_before-3.ensures
    ∙ ap (λ (n : ℕ). lost_before c.args.found.now c.args.plan.now n) c.size-size.ensures
