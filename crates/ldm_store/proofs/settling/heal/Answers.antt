use Rattle.std.proofs.Common.{arith}
use Rattle.ldm_body.proofs.RewriteLaws.{rewrites_most}
use Rattle.ldm_store.proofs.settling.heal.Goals as goal

pub returns-in-Closed : goal.returns-in-Closed
returns-in-Closed g c = rewrites_most _ (omega arith) c.refill.ensures
