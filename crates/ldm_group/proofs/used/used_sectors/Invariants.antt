use Rattle.std.proofs.Common.{unwrap_or, nat_eq}
use Rattle.indexmap.specs.IndexMap as map
use Rattle.ldm_group.proofs.UsedLaws.{Sums}
use Rattle.ldm_group.proofs.used.used_sectors.Given as goal

abbrev pub invariant-loop-r : goal.invariant-loop-r
invariant-loop-r l = Sums (λ disk. unwrap_or (map.get nat_eq l.used disk) 0) l.records l.r-index
