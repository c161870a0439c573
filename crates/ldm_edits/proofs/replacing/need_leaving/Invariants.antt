use Rattle.std.proofs.Common.{◌≡◌, ◌≤◌, ◌*◌, take, filter}
use Rattle.ldm_edits.proofs.Common.{need_of}
use Rattle.ldm_edits.specs.Staying.{leaves}
use Rattle.ldm_edits.proofs.replacing.need_leaving.Given as goal

abbrev pub invariant-loop-r : goal.invariant-loop-r
invariant-loop-r l = (l.need ≡ need_of (filter (λ r. leaves l.leaving l.own.records r) (take l.r-index l.records))) × (l.need ≤ 4 * l.r-index)
