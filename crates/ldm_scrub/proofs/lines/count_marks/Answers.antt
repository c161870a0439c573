use Rattle.std.proofs.Common.{arith}
use Rattle.ldm_scrub.proofs.CompareLaws.{count_one}
use Rattle.ldm_scrub.proofs.lines.count_marks.Goals as goal

pub marks-preserved : goal.marks-preserved
marks-preserved c = grind (arith, count_one)
