use Rattle.std.proofs.Common.{◌≡◌, ◌++◌, take, filter}
use Rattle.ldm_edits.specs.Staying.{belongs}
use Rattle.ldm_edits.proofs.owning.push_own.Given as goal

abbrev pub invariant-loop-r : goal.invariant-loop-r
invariant-loop-r l = l.own.items ≡ l.initial.own.items ++ filter (belongs l.volume l.components) (take l.r-index l.records)
