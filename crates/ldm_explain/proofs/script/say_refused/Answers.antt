use Rattle.std.proofs.Common.{sym, subst}
use Rattle.ldm_group.specs.Database.{Database}
use Rattle.ldm_rules.specs.Facts.{IsSoundOn}
use Rattle.ldm_explain.proofs.script.say_refused.Goals as goal

-- what the batch holds is as sound as the group
pub say_refusal-requires-in-Some : goal.say_refusal-requires-in-Some
say_refusal-requires-in-Some c =
    subst (λ (db : Database). IsSoundOn db c.args.labels.now) (sym c.in_ok-held-in-Some.ensures) (c.requires.draft c.in-Some.draft c.in-Some.is).sound
