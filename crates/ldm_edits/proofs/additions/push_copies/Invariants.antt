use Rattle.std.proofs.Common.{◌≡◌, ◌++◌, take}
use Rattle.ldm_edits.proofs.additions.push_copies.Given as goal

abbrev pub invariant-loop-r : goal.invariant-loop-r
invariant-loop-r l = l.records.items ≡ l.initial.records.items ++ take l.r-index l.more
