use Rattle.std.proofs.Common.{arith}
use Rattle.std.proofs.lemmas.List.{append-nil}
use Rattle.ldm_table.proofs.LineLaws.{no_stretches}
use Rattle.ldm_table.proofs.lines.push_rest.Goals as goal

pub returns-else-first-size : goal.returns-else-first-size
returns-else-first-size g c = grind (arith, no_stretches, append-nil)
