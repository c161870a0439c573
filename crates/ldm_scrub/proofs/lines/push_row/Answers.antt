use Rattle.std.proofs.Common.{arith, append_assoc}
use Rattle.ldm_scrub.specs.Lines.{text_of_failing}
use Rattle.ldm_scrub.proofs.lines.push_row.Goals as goal

pub returns-clause-is : goal.returns-clause-is
unfolding text_of_failing
returns-clause-is c = grind (arith, append_assoc)
