use Rattle.std.proofs.Common.{ap, subst, Result, Some}
use Rattle.ldm_edits.proofs.Common.{Database}
use Rattle.ldm_edits.specs.declared.error.StepError.{StepError}
use Rattle.ldm_edits.specs.declared.reply.Refusal.{Refusal}
use Rattle.ldm_edits.specs.Drafts.{Drafted}
use Rattle.ldm_edits.specs.Additions.{HoldsAs}
use Rattle.ldm_edits.specs.Steps.{held_at, next_of}
use Rattle.ldm_edits.proofs.batching.hold_change.Goals as goal

pub returns-in-Ok-clause-is : goal.returns-in-Ok-clause-is
returns-in-Ok-clause-is c =
    let step : Result Database Refusal = next_of c.args.draft.db c.args.labels.now c.args.command.now in
    let held = subst (λ (r : Result Unit StepError). HoldsAs c.args.draft (c.change-draft.result.0, r) step) c.in-Ok.is c.change-draft.ensures in
    (_, ap (held_at c.args.draft.db.header.seq) held.1, ap (λ (d : Drafted). Some d) held.3)
