use Rattle.std.proofs.Common.{◌≡◌, ◌∙◌, refl, sym, subst, Result, IfOk}
use Rattle.ldm_bytes.specs.declared.bytes.NoMemory.{NoMemory}
use Rattle.ldm_edits.specs.declared.batch.Turn.{Turn as Verdict}
use Rattle.ldm_edits.proofs.batching.answered.Goals as goal

pub returns-in-Ok-Hold-clause-is : goal.returns-in-Ok-Hold-clause-is
returns-in-Ok-Hold-clause-is c = λ verdict is.
    let same = subst (λ (r : Result Verdict NoMemory). IfOk r (λ turn. turn ≡ verdict)) c.in-Ok-Hold.is is in
    (c.in-Ok-Hold.held, sym same ∙ c.in-Ok-Hold.field-0-is, refl)
