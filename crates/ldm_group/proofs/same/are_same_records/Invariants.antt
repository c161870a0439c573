use Rattle.std.proofs.Common.{◌≡◌, take}
use Rattle.ldm_group.proofs.same.are_same_records.Given as goal

abbrev pub invariant-loop-i : goal.invariant-loop-i
invariant-loop-i l = take l.i l.records ≡ take l.i l.others
