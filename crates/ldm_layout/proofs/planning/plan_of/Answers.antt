use Rattle.std.proofs.Common.{arith}
use Rattle.ldm_layout.proofs.VolumeLaws.{plan_of_draft}
use Rattle.ldm_layout.proofs.planning.plan_of.Goals as goal

pub from_draft-requires : goal.from_draft-requires
from_draft-requires c = grind (arith, plan_of_draft)
