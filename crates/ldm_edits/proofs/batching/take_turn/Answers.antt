use Rattle.std.proofs.Common.{◌≡◌, ◌∙◌, sym, subst, Option, None, Some, IfOk}
use Rattle.ldm_edits.specs.declared.batch.Turn.{Turn as Verdict}
use Rattle.ldm_edits.specs.Drafts.{Drafted}
use Rattle.ldm_edits.specs.Steps.{AnswersTo, IsDraftOf, verdict_of}
use Rattle.ldm_edits.proofs.LimitLaws.{IsGiven}
use Rattle.ldm_edits.proofs.BatchLaws.{answered_draft, answered_kept, change_drafted, held_verdict, no_draft}
use Rattle.ldm_edits.proofs.batching.take_turn.Goals as goal

pub returns-in_default-clause-keeps : goal.returns-in_default-clause-keeps
returns-in_default-clause-keeps c =
    answered_kept c.args.labels.now c.args.db.now None c.answered.result.0 c.turn.result c.answered.result.1 c.turn.ensures.keeps c.answered.ensures.is

pub returns-in_default-clause-drafted : goal.returns-in_default-clause-drafted
returns-in_default-clause-drafted c =
    answered_draft c.args.labels.now c.args.db.now None c.answered.result.0 c.turn.result c.answered.result.1
    (no_draft c.args.labels.now c.args.db.now) c.turn.ensures.keeps c.answered.ensures.is
    c.answered.ensures.unchanged

pub turn-turned-requires-clause-draft : goal.turn-turned-requires-clause-draft
turn-turned-requires-clause-draft c = λ d is. c.requires.draft d (c.in-Some.is ∙ is)

pub returns-in-Begin-clause-is : goal.returns-in-Begin-clause-is
returns-in-Begin-clause-is c =
    subst (λ (o : Option Drafted). IfOk c.answered-in-Begin.result.1
    (λ answer. AnswersTo (verdict_of c.args.labels.now c.args.db.now o c.args.command.now) o answer
    c.answered-in-Begin.result.0))
    (sym c.in-Some.is)
    (c.answered-in-Begin.ensures.is (verdict_of c.args.labels.now c.args.db.now (Some c.in-Some.draft)
    c.args.command.now) c.turn-turned.ensures.is)

pub returns-in-Begin-clause-keeps : goal.returns-in-Begin-clause-keeps
returns-in-Begin-clause-keeps c =
    answered_kept c.args.labels.now c.args.db.now (Some c.in-Some.draft) c.answered-in-Begin.result.0
    c.turn-turned.result c.answered-in-Begin.result.1 c.turn-turned.ensures.keeps
    c.answered-in-Begin.ensures.is

pub returns-in-Begin-clause-drafted : goal.returns-in-Begin-clause-drafted
returns-in-Begin-clause-drafted c =
    answered_draft c.args.labels.now c.args.db.now (Some c.in-Some.draft) c.answered-in-Begin.result.0
    c.turn-turned.result c.answered-in-Begin.result.1
    (subst (λ (o : Option Drafted). (d : Drafted) → o ≡ Some d → IsDraftOf c.args.labels.now c.args.db.now d) c.in-Some.is
    c.requires.draft) c.turn-turned.ensures.keeps
    c.answered-in-Begin.ensures.is c.answered-in-Begin.ensures.unchanged

pub returns-in_default-command-clause-is : goal.returns-in_default-command-clause-is
returns-in_default-command-clause-is c =
    let draft : Drafted = c.in-Some.draft in
    let of : IsDraftOf c.args.labels.now c.args.db.now draft = c.requires.draft draft c.in-Some.is in
    subst (λ (o : Option Drafted). IfOk c.hold_change.result.1
    (λ answer. AnswersTo (verdict_of c.args.labels.now c.args.db.now o c.args.command.now) o answer c.hold_change.result.0))
    (sym c.in-Some.is)
    (subst (λ (v : Verdict). IfOk c.hold_change.result.1 (λ answer. AnswersTo v (Some draft) answer c.hold_change.result.0))
    (held_verdict c.args.labels.now c.args.db.now draft c.args.command.now c.in_default-command.not-Begin c.in_default-command.not-Commit
    c.in_default-command.not-Cancel of) c.hold_change.ensures.is)

pub returns-in_default-command-clause-drafted : goal.returns-in_default-command-clause-drafted
returns-in_default-command-clause-drafted c =
    let draft : Drafted = c.in-Some.draft in
    let of : IsDraftOf c.args.labels.now c.args.db.now draft = c.requires.draft draft c.in-Some.is in
    let types = c.types_hold-in_default-command.ensures in
    let low = c.types_hold.ensures.low in
    let given : IsGiven draft.db c.args.labels.now = record { up = types.rising; low = low; sound = of.sound; small = types.last } in
    change_drafted c.args.labels.now c.args.db.now draft c.args.command.now c.hold_change.result.1 c.hold_change.result.0 of given
    c.requires.limits c.hold_change.ensures.is c.hold_change.ensures.unchanged c.hold_change.ensures.unspent
