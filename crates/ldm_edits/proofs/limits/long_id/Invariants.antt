use Rattle.std.proofs.Common.{◌≡◌, take}
use Rattle.ldm_edits.specs.Changes.{long_id}
use Rattle.ldm_edits.proofs.limits.long_id.Given as goal

abbrev pub invariant-loop-r : goal.invariant-loop-r
invariant-loop-r l = l.least ≡ long_id (take l.r-index l.records)
