use Rattle.std.proofs.Common.{sym, ◌∙◌, Some, None}
use Rattle.ldm_layout.proofs.VolumeLaws.{fault_is}
use Rattle.ldm_layout.proofs.faulty.fault_at.Goals as goal

pub returns-in-Some : goal.returns-in-Some
returns-in-Some c = λ records lists. fault_is c.args.parts.now records c.args.r.now c.in-Volume.v (Some c.in-Some.fault) c.in-Volume.is lists (sym c.in-Some.is ∙ c.in_ok-fault.ensures)

pub returns-in-None : goal.returns-in-None
returns-in-None c = λ records lists. fault_is c.args.parts.now records c.args.r.now c.in-Volume.v None c.in-Volume.is lists (sym c.in-None.is ∙ c.in_ok-fault.ensures)
