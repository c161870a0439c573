use Rattle.std.proofs.Common.{◌≡◌}
use Rattle.std.specs.Prelude.{filter}
use Rattle.ldm_frags.specs.Blocks.{numbers_from}
use Rattle.ldm_written.specs.Free.{is_free}
use Rattle.ldm_changed.proofs.planning.free_blocks.Given as goal

abbrev pub invariant-loop-k : goal.invariant-loop-k
invariant-loop-k l = l.numbers.items ≡ filter (is_free l.out) (numbers_from 4 l.k)
