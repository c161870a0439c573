use Rattle.std.proofs.Common.{ap, ◌≤◌, ◌∙◌, length, arith}
use Rattle.std.proofs.lemmas.List.{at_drop_all}
use Rattle.ldm_space.proofs.GapLaws.{longest_of, largest_is}
use Rattle.ldm_space.proofs.gaps.FreeMap.largest.Goals as goal

pub returns : goal.returns
returns c = λ taken disk size are.
    let gaps = c.args.self.now in
    let all : length gaps ≤ c.loop-gap.gap-index = omega (arith, ap length c.gaps-gap-items.ensures, c.loop-gap-test.false) in
    (omega (arith, c.loop-gap.invariant, at_drop_all longest_of gaps c.loop-gap.gap-index all)) ∙ largest_is gaps taken disk size are
