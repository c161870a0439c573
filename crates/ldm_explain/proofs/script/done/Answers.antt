use Rattle.std.proofs.Common.{◌≡◌}
use Rattle.std.proofs.lemmas.Result.{IfOk-at_ok}
use Rattle.ldm_group.specs.Database.{Database}
use Rattle.ldm_edits.specs.declared.batch.Answer.{Answer}
use Rattle.ldm_edits.specs.declared.batch.Answer.TheVariants.{Next}
use Rattle.ldm_edits.specs.Steps.{Keeps}
use Rattle.ldm_explain.proofs.script.done.Goals as goal

pub returns-in-Next : goal.returns-in-Next
returns-in-Next c =
    let keeps = λ (answer : Answer). (next : Database) → answer ≡ Next next → Keeps c.args.labels.now c.args.db next in
    record {
      sound = (IfOk-at_ok keeps c.in_ok-next.was c.take_turn-held.ensures.keeps c.in-Next.next c.in-Next.is).sound;
      areas = c.requires.good.areas;
      draft = λ draft there. absurd (cc there);
    }
