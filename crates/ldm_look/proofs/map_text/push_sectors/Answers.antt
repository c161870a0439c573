use Rattle.std.proofs.Common.{arith}
use Rattle.ldm_look.proofs.MapLaws.{numbers_more}
use Rattle.ldm_look.proofs.map_text.push_sectors.Goals as goal

pub loop-step-preserved : goal.loop-step-preserved
loop-step-preserved c = grind (arith, numbers_more)
