use Rattle.std.proofs.Common.{◌≡◌}
use Rattle.ldm_frags.specs.Joins.{entries}
use Rattle.ldm_frags.specs.Kept.{blocks_of}
use Rattle.ldm_frags.proofs.joining.all_entries.Given as goal

abbrev pub invariant-loop-k : goal.invariant-loop-k
invariant-loop-k l = l.out.items ≡ entries (blocks_of l.pieces) l.k
