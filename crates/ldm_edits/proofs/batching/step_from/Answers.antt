use Rattle.std.proofs.Common.{◌≡◌, subst, IfOk}
use Rattle.ldm_edits.proofs.Common.{Database}
use Rattle.ldm_edits.specs.declared.stepping.Outcome.TheVariants.{Next}
use Rattle.ldm_edits.specs.Steps.{Keeps}
use Rattle.ldm_edits.proofs.batching.step_from.Goals as goal

pub returns-clause-keeps : goal.returns-clause-keeps
returns-clause-keeps c =
    subst
    (λ (d : Database). IfOk c.step.result (λ outcome. (next : Database) → outcome ≡ Next next → Keeps c.args.labels.now d next))
    c.in_ok-db.ensures c.step.ensures.keeps
