use Rattle.std.proofs.Common.{◌≡◌, take, not, filter}
use Rattle.ldm_edits.specs.Staying.{leaves}
use Rattle.ldm_edits.proofs.leaving.stay.Given as goal

abbrev pub invariant-loop-r : goal.invariant-loop-r
invariant-loop-r l = l.records.items ≡ filter (λ r. not (leaves l.leaving l.db.records r)) (take l.r-index l.r-items)
