use Rattle.std.proofs.Common.{◌++◌, codes, decimal, length, flat_map}
use Rattle.ldm_dump.proofs.ReadLaws.{on_ok}
use Rattle.ldm_table.specs.Spelling.{text_of_target, text_of_member}
use Rattle.ldm_table.proofs.LineLaws.{three_parts}
use Rattle.ldm_table.proofs.lines.push_array.Goals as goal

pub returns : goal.returns
unfolding text_of_target
returns c =
    on_ok c.push_members.result _ _ c.push_members.ensures
    (λ e. three_parts c.args.text.now (codes " raid raid5_ls 2 " ++ decimal c.args.chunk) (codes " nosync " ++ decimal (length c.args.members.now)) (flat_map text_of_member c.args.members.now) _ _ _
    c.in_ok-push_number.ensures c.in_ok-push_number-2.ensures e)
