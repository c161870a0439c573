use Rattle.std.proofs.Common.{◌<◌, ℕ, slice_index}
use Rattle.ldm_written.specs.Written.{IsInUse}
use Rattle.ldm_body.proofs.finding.are_in_use.Given as goal

abbrev pub invariant-loop-k : goal.invariant-loop-k
invariant-loop-k l = (j : ℕ) → j < l.k → IsInUse l.blocks (slice_index l.numbers j)
