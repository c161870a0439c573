use Rattle.std.proofs.Common.{◌≡◌, ◌++◌, take}
use Rattle.std.specs.Prelude.{flat_map}
use Rattle.ldm_table.specs.Spelling.{text_of_member}
use Rattle.ldm_table.proofs.lines.push_members.Given as goal

abbrev pub invariant-loop-member : goal.invariant-loop-member
invariant-loop-member l = l.text ≡ l.fn.text ++ flat_map text_of_member (take l.member-index l.members)
