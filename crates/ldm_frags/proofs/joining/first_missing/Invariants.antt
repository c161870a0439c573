use Rattle.std.proofs.Common.{◌≡◌, None}
use Rattle.ldm_frags.specs.Faults.{first_below, missing_fault}
use Rattle.ldm_frags.specs.Kept.{blocks_of}
use Rattle.ldm_frags.proofs.joining.first_missing.Given as goal

abbrev pub invariant-loop-k : goal.invariant-loop-k
invariant-loop-k l = first_below l.k (missing_fault (blocks_of l.pieces)) ≡ None
