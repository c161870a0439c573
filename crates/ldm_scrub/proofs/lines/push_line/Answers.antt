use Rattle.std.proofs.Common.{arith}
use Rattle.ldm_dump.proofs.RunLaws.{chunk_is}
use Rattle.ldm_scrub.proofs.CompareLaws.{untiled, line_row, line_other, other_shape}
use Rattle.ldm_scrub.proofs.lines.push_line.Goals as goal

pub returns-in-Raid5-clause-is : goal.returns-in-Raid5-clause-is
returns-in-Raid5-clause-is c = grind (arith, chunk_is, untiled, line_row)

pub returns-in_default : goal.returns-in_default
returns-in_default c = grind (arith, line_other, other_shape)
