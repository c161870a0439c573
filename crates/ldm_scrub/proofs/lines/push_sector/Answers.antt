use Rattle.std.proofs.Common.{arith, append_assoc}
use Rattle.ldm_scrub.specs.Lines.{text_of_differing}
use Rattle.ldm_scrub.proofs.lines.push_sector.Goals as goal

pub returns-clause-is : goal.returns-clause-is
unfolding text_of_differing
returns-clause-is c = grind (arith, append_assoc)
