use Rattle.std.proofs.Common.{take}
use Rattle.std.specs.List.{filter_map}
use Rattle.ldm_rules.specs.Rules.{group_id}
use Rattle.ldm_rules.proofs.FirstLaws.{Seen}
use Rattle.ldm_rules.proofs.single.not_one_group.Given as goal

abbrev pub invariant-loop-r : goal.invariant-loop-r
invariant-loop-r l = Seen l.found (filter_map group_id (take l.r-index l.r-items))
