use Rattle.std.proofs.Common.{◌≡◌}
use Rattle.ldm_frags.specs.Joins.{gathered}
use Rattle.ldm_frags.specs.Kept.{blocks_of}
use Rattle.ldm_frags.proofs.joining.gather.Given as goal

abbrev pub invariant-loop-part : goal.invariant-loop-part
invariant-loop-part l = l.out.items ≡ gathered (blocks_of l.pieces) l.number l.part
