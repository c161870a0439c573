use Rattle.std.proofs.Common.{◌≡◌}
use Rattle.std.specs.Prelude.{filter}
use Rattle.ldm_frags.specs.Blocks.{numbers_from}
use Rattle.ldm_changed.specs.Plan.{block_differs}
use Rattle.ldm_changed.proofs.planning.changed.Given as goal

abbrev pub invariant-loop-k : goal.invariant-loop-k
invariant-loop-k l = l.numbers.items ≡ filter (block_differs l.old l.new) (numbers_from 4 l.k)
