use Rattle.std.proofs.Common.{◌≡◌, ◌≤◌, ◌*◌, take, not, filter}
use Rattle.ldm_edits.proofs.Common.{need_of}
use Rattle.ldm_edits.specs.Staying.{leaves}
use Rattle.ldm_edits.proofs.limits.need_staying.Given as goal

abbrev pub invariant-loop-r : goal.invariant-loop-r
invariant-loop-r l = (l.need ≡ need_of (filter (λ r. not (leaves l.leaving l.db.records r)) (take l.r-index l.r-items))) × (l.need ≤ 4 * l.r-index)
