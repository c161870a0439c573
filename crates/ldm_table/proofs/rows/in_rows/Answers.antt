use Rattle.std.proofs.Common.{arith, sym, ◌∙◌}
use Rattle.ldm_table.proofs.VolumeLaws.{no_rows, whole_of}
use Rattle.ldm_table.proofs.rows.in_rows.Goals as goal

pub returns-then-row-eq0-clause-is : goal.returns-then-row-eq0-clause-is
returns-then-row-eq0-clause-is c = sym (no_rows c.args.plan.now (sym c.row_sectors-row.ensures ∙ c.if-row-eq0.true))

pub returns-else-row-eq0-clause-is : goal.returns-else-row-eq0-clause-is
returns-else-row-eq0-clause-is c = grind (arith, whole_of)
