use Rattle.std.proofs.Common.{◌≡◌, ◌∙◌, ap, subst, refl, Option, Ok}
use Rattle.std.proofs.lemmas.Result.{IfOk-at_ok}
use Rattle.ldm_group.specs.Database.{Database}
use Rattle.ldm_edits.specs.Drafts.{Drafted}
use Rattle.ldm_edits.specs.Steps.{AnswersTo, Keeps, verdict_of}
use Rattle.ldm_edits.specs.declared.batch.Answer.{Answer}
use Rattle.ldm_edits.specs.declared.batch.Answer.TheVariants as answers
use Rattle.ldm_store.specs.Sessions.{Edited, StepsFrom}
use Rattle.ldm_store.proofs.ApplyLaws.{steps_from}
use Rattle.ldm_store.proofs.session.Session.turned.Goals as goal

pub returns-in-Ok-Next-clause-is : goal.returns-in-Ok-Next-clause-is
returns-in-Ok-Next-clause-is c =
    let session = c.self.inside in
    let command = c.args.command.now in
    let next = c.in-Ok-Next.next in
    let answer = c.in-Ok-Next.is ∙ ap Ok c.in-Ok-Next.field-0-is in
    let step = IfOk-at_ok (λ a. AnswersTo (verdict_of session.labels session.db session.draft command) session.draft a c.take_turn-draft.result.0) answer c.take_turn-draft.ensures.is in
    let keeps = IfOk-at_ok (λ (a : Answer). (n : Database) → a ≡ answers.Next n → Keeps session.labels session.db n) answer c.take_turn-draft.ensures.keeps next refl in (
      subst (λ (s : Edited). StepsFrom s.group command next) c.self.view_is (steps_from _ command next c.self.invariant.editable step.0 keeps),
      ap (λ (draft : Option Drafted). record { group = record { db = session.db; labels = session.labels; draft = draft }; body = session.body }) step.1 ∙ c.self.view_is,
    )
