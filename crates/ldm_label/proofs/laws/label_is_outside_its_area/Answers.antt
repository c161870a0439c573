use Rattle.ldm_label.proofs.OkLaws.{label_fits, label_stays}
use Rattle.ldm_label.proofs.laws.label_is_outside_its_area.Goals as goal

pub returns-clause-fit : goal.returns-clause-fit
returns-clause-fit c = label_fits

pub returns-clause-stay : goal.returns-clause-stay
returns-clause-stay c = λ label old new is clear same. label_stays label old new is clear.behind clear.before same
