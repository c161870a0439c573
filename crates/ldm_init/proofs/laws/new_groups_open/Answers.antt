use Rattle.ldm_init.proofs.NewLaws.{new_opens, new_editable}
use Rattle.ldm_init.proofs.laws.new_groups_open.Goals as goal

pub returns-clause-opens : goal.returns-clause-opens
returns-clause-opens c = new_opens

pub returns-clause-editable : goal.returns-clause-editable
returns-clause-editable c = new_editable
