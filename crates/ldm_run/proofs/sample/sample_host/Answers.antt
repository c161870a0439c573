use Rattle.std.proofs.Common.{sym, subst, ◌∙◌, ⊎_elim}
use Rattle.ldm_words.specs.declared.status.Status.{Status}
use Rattle.ldm_look.specs.Said.{HasAnswer}
use Rattle.ldm_run.proofs.SampleLaws.{sampled, holds_now}
use Rattle.ldm_run.proofs.sample.sample_host.Goals as goal

pub returns-in-Done : goal.returns-in-Done
returns-in-Done c =
    let starts = c.in_ok-host.ensures.starts in
    let has : HasAnswer c.edit.result = ⊎_elim (λ e. subst (λ (s : Status). HasAnswer s) (sym e) tt) (λ e. subst (λ (s : Status). HasAnswer s) (sym e) tt) c.in-Done.is in
    sampled c.edit.new.host starts.1 c.in_ok-host.ensures.short c.edit.ensures has (sym c.dry.ensures ∙ c.if-dry-eq0.true) (holds_now c.in_ok-host.host)
