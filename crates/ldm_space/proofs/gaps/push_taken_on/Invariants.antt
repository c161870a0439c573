use Rattle.std.proofs.Common.{◌≡◌, ◌++◌, take}
use Rattle.std.specs.List.{filter_map}
use Rattle.ldm_space.specs.Gaps.{taken_on}
use Rattle.ldm_space.proofs.gaps.push_taken_on.Given as goal

abbrev pub invariant-loop-r : goal.invariant-loop-r
invariant-loop-r l = l.taken.items ≡ l.fn.taken.items ++ filter_map (taken_on l.disk) (take l.r-index l.records)
