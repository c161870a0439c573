use Rattle.std.proofs.Common.{refl, sym, subst}
use Rattle.ldm_host.proofs.Relations.{looks_itself}
use Rattle.ldm_words.specs.declared.job.Job.TheVariants.{Sample}
use Rattle.ldm_words.specs.declared.status.Status.TheVariants.{NoMemory}
use Rattle.ldm_look.specs.Said.{Answer}
use Rattle.ldm_run.specs.Sample.{IsSampleAnswer}
use Rattle.ldm_run.proofs.JobLaws.{reads_job}
use Rattle.ldm_run.proofs.Saying.{failing, says_as}
use Rattle.ldm_look.proofs.EndLaws.{says_nothing}
use Rattle.ldm_run.proofs.sample.sample.Goals as goal

pub returns-in-Err : goal.returns-in-Err
returns-in-Err g c =
    let host = c.args.host.now in
    reads_job (Sample c.args.seed) refl (says_nothing (failing (g.H.Host.seen host) (g.H.Host.seen host) NoMemory tt) (looks_itself (g.H.Host.seen host) (g.met.H.Host.counts_now host) (g.met.H.Host.only_now host)))

pub returns-in-Ok : goal.returns-in-Ok
returns-in-Ok g c =
    reads_job (Sample c.args.seed) refl (says_as (c.say_made.ensures.says c.in-Ok.text refl) g.met.H.Host.tells_both
    (λ tells answer e. subst (λ (a : Answer). IsSampleAnswer c.args.seed a) (sym e) c.in-Ok.ensures))
