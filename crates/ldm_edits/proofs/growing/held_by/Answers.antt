use Rattle.std.proofs.Common.{arith}
use Rattle.std.proofs.lemmas.Grind.{common_steps}
use Rattle.std.proofs.lemmas.List.Elements.{filter-append, filter_map-append}
use Rattle.ldm_edits.proofs.growing.held_by.Goals as goal

pub loop-r-preserved : goal.loop-r-preserved
loop-r-preserved c = record {
  sum = grind (arith, common_steps, filter-append, filter_map-append);
  low = grind (arith, common_steps);
}
