use Rattle.std.proofs.Common.{◌≡◌, true, is_some}
use Rattle.std.specs.Ordering.{nat_cmp}
use Rattle.std.specs.BTreeMap.{get}
use Rattle.ldm_frags.specs.Blocks.{all_below}
use Rattle.ldm_frags.specs.Groups.{part_place}
use Rattle.ldm_frags.proofs.groups.has_all.Given as goal

abbrev pub invariant-loop-part : goal.invariant-loop-part
invariant-loop-part l = all_below l.part (λ p. is_some (part_place (get nat_cmp l.groups l.number) p)) ≡ true
