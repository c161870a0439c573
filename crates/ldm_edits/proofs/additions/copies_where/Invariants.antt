use Rattle.std.proofs.Common.{◌≡◌, take, filter}
use Rattle.ldm_edits.specs.Replacing.{stands_in}
use Rattle.ldm_edits.proofs.additions.copies_where.Given as goal

abbrev pub invariant-loop-r : goal.invariant-loop-r
invariant-loop-r l = l.copies.items ≡ filter (stands_in l.fn.front) (take l.r-index l.fn.records)
