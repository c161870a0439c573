use Rattle.std.proofs.Common.{arith}
use Rattle.std.proofs.lemmas.List.{append-nil}
use Rattle.ldm_table.proofs.lines.push_rows.Goals as goal

pub returns-then-whole_rows-eq0 : goal.returns-then-whole_rows-eq0
returns-then-whole_rows-eq0 g c = grind (arith, append-nil)
