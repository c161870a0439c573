use Rattle.std.proofs.Common.{◌≡◌, take, false}
use Rattle.std.specs.List.{list_any}
use Rattle.ldm_table.specs.Faults.{is_long_member}
use Rattle.ldm_table.proofs.faults.is_one_long.Given as goal

abbrev pub invariant-loop-member : goal.invariant-loop-member
invariant-loop-member l = list_any is_long_member (take l.member-index l.members) ≡ false
