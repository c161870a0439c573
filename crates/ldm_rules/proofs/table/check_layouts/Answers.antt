use Rattle.std.proofs.Common.{◌∙◌}
use Rattle.ldm_rules.proofs.table.check_layouts.Goals as goal

pub returns : goal.returns
returns c = c.first_fault.ensures c.args.db.now.records (c.as_slice.ensures.value ∙ c.in_ok-faults.ensures)
