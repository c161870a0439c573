use Rattle.std.proofs.Common.{◌≡◌, Bool, Result, Ok, Err, IfOk, false, sym, ◌∙◌}
use Rattle.ldm_body.specs.declared.bodies.BodyError.{BodyError}
use Rattle.ldm_store.proofs.sharing.keeps_body.Goals as goal

both : (r : Result Bool BodyError) (P Q : Type 0) → Q → IfOk r (λ b. b ≡ false → P) → IfOk r (λ b. b ≡ false → Q × P)
both (Ok b) P Q q f = λ no. (q, f no)
both (Err e) P Q q f = f

pub returns-clause-no : goal.returns-clause-no
returns-clause-no g c tells = both c.has_body.result _ _ (sym c.is_behind.ensures ∙ c.if-is_behind.false) (c.has_body.ensures.no tells)
