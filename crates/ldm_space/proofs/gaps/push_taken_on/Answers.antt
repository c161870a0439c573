use Rattle.std.proofs.Common.{arith}
use Rattle.std.proofs.lemmas.Grind.{common_steps}
use Rattle.std.proofs.lemmas.List.Elements.{filter_map-append}
use Rattle.ldm_space.proofs.gaps.push_taken_on.Goals as goal

pub loop-r-preserved : goal.loop-r-preserved
loop-r-preserved c = grind (arith, common_steps, filter_map-append)
