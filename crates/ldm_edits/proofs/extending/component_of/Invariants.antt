use Rattle.std.proofs.Common.{◌≡◌, drop, find}
use Rattle.ldm_edits.proofs.Common.{is_child}
use Rattle.ldm_edits.proofs.extending.component_of.Given as goal

abbrev pub invariant-loop-r : goal.invariant-loop-r
invariant-loop-r l = find (is_child 3 l.volume) l.db.records ≡ find (is_child 3 l.volume) (drop l.r-index l.r-items)
