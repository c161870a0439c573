use Rattle.std.proofs.Common.{arith}
use Rattle.ldm_look.proofs.MapLaws.{numbers_more}
use Rattle.ldm_look.proofs.map_text.push_copies.Goals as goal

pub loop-copy-preserved : goal.loop-copy-preserved
loop-copy-preserved c = grind (arith, numbers_more)
