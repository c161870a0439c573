use Rattle.std.specs.List.{AllAdjacentBelow}
use Rattle.ldm_group.specs.Order.{Differ}
use Rattle.ldm_group.proofs.order.first_twice.Given as goal

abbrev pub invariant-loop-at : goal.invariant-loop-at
invariant-loop-at l = AllAdjacentBelow Differ l.records l.at
