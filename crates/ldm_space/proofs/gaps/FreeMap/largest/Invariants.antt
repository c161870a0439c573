use Rattle.std.proofs.Common.{◌≡◌, max, drop}
use Rattle.ldm_space.proofs.GapLaws.{longest_of}
use Rattle.ldm_space.proofs.gaps.FreeMap.largest.Given as goal

abbrev pub invariant-loop-gap : goal.invariant-loop-gap
invariant-loop-gap l = max l.largest (longest_of (drop l.gap-index l.self)) ≡ longest_of l.self
