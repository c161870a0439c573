use Rattle.std.proofs.Common.{arith}
use Rattle.std.proofs.lemmas.Grind.{common_steps}
use Rattle.ldm_memory.proofs.made.copies.Goals as goal

pub loop-image-preserved : goal.loop-image-preserved
loop-image-preserved c = grind (arith, common_steps)
