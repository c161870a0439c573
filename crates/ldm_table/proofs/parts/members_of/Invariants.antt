use Rattle.std.proofs.Common.{◌≡◌, map}
use Rattle.std.specs.List.{range_with_len}
use Rattle.ldm_table.specs.Tables.{member_at}
use Rattle.ldm_table.proofs.parts.members_of.Given as goal

abbrev pub invariant-columns : goal.invariant-columns
invariant-columns g l = l.members.items ≡ map (member_at l.found l.plan) (range_with_len 0 l.column)
