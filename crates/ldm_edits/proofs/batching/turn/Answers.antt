use Rattle.std.proofs.Common.{◌∙◌, ap, sym, arith, option_copied, ℕ}
use Rattle.ldm_edits.proofs.Common.{Command}
use Rattle.ldm_edits.specs.Steps.{committed, verdict_of}
use Rattle.ldm_edits.proofs.BatchLaws.{begun_kept, committed_kept, change_verdict, if_ok_as}
use Rattle.ldm_edits.proofs.batching.turn.Goals as goal

pub commit-requires : goal.commit-requires
commit-requires c x is filled =
    let low = (c.requires.draft x is).unspent filled in
    let same = c.seq_of.ensures.is in
    omega arith

pub returns-in-Begin-clause-is : goal.returns-in-Begin-clause-is
unfolding verdict_of
returns-in-Begin-clause-is c =
    if_ok_as c.begin.result _ _ (ap (λ (x : Command). verdict_of c.args.labels.now c.args.db.now (option_copied c.args.draft) x) (sym c.in-Begin.is)) c.begin.ensures

pub returns-in-Begin-clause-keeps : goal.returns-in-Begin-clause-keeps
returns-in-Begin-clause-keeps c = begun_kept c.args.labels.now c.args.db.now (option_copied c.args.draft) c.begin.result c.requires.sound c.begin.ensures

pub returns-in-Commit-clause-is : goal.returns-in-Commit-clause-is
unfolding verdict_of
returns-in-Commit-clause-is c =
    if_ok_as c.commit.result _ _
    (ap (λ (n : ℕ). committed n (option_copied c.args.draft)) c.seq_of.ensures.is ∙ ap (λ (x : Command). verdict_of c.args.labels.now c.args.db.now (option_copied c.args.draft) x) (sym c.in-Commit.is)) c.commit.ensures

pub returns-in-Commit-clause-keeps : goal.returns-in-Commit-clause-keeps
returns-in-Commit-clause-keeps c = committed_kept c.args.labels.now c.args.db.now (option_copied c.args.draft) c.seq_of.result c.commit.result c.requires.draft c.seq_of.ensures.is c.commit.ensures

pub returns-in-Cancel-clause-is : goal.returns-in-Cancel-clause-is
unfolding verdict_of
returns-in-Cancel-clause-is c = c.cancel.ensures ∙ ap (λ (x : Command). verdict_of c.args.labels.now c.args.db.now (option_copied c.args.draft) x) (sym c.in-Cancel.is)

pub returns-in_default-clause-is : goal.returns-in_default-clause-is
returns-in_default-clause-is c =
    if_ok_as c.change.result _ _
    (change_verdict c.args.labels.now c.args.db.now (option_copied c.args.draft) c.args.command.now c.in_default.not-Begin c.in_default.not-Commit c.in_default.not-Cancel) c.change.ensures.is
