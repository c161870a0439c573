use Rattle.std.proofs.Common.{subst}
use Rattle.ldm_body.specs.Body.{IsBodyOf}
use Rattle.ldm_body.proofs.body.Body.as_slice.Goals as goal

pub returns-clause-body : goal.returns-clause-body
returns-clause-body c = (c.self.invariant.db, subst (IsBodyOf c.self.invariant.db) c.self.view_is c.self.invariant.body)
