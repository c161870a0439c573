use Rattle.std.proofs.Common.{arith, append_assoc}
use Rattle.ldm_scrub.specs.Lines.{counts_line}
use Rattle.ldm_scrub.proofs.lines.push_end_text.Goals as goal

pub returns-clause-is : goal.returns-clause-is
unfolding counts_line
returns-clause-is c = grind (arith, append_assoc)
