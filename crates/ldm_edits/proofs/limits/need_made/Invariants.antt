use Rattle.std.proofs.Common.{◌≡◌, ◌≤◌, ◌*◌, take}
use Rattle.ldm_edits.proofs.Common.{need_of}
use Rattle.ldm_edits.proofs.limits.need_made.Given as goal

abbrev pub invariant-loop-r : goal.invariant-loop-r
invariant-loop-r l = (l.need ≡ need_of (take l.r-index l.made)) × (l.need ≤ 4 * l.r-index)
