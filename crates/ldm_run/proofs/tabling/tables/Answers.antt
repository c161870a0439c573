use Rattle.std.proofs.Common.{refl, Ok, ◌∙◌}
use Rattle.ldm_words.specs.declared.job.Job.TheVariants.{Tables}
use Rattle.ldm_run.specs.Tabling.{tables_answer}
use Rattle.ldm_run.proofs.JobLaws.{reads_job}
use Rattle.ldm_look.proofs.EndLaws.{says_first}
use Rattle.ldm_run.proofs.tabling.tables.Goals as goal

pub returns-in-Err : goal.returns-in-Err
returns-in-Err g c = reads_job (Tables c.args.words.now) refl (c.in-Err.ensures.fault (tables_answer c.args.words.now))

pub returns : goal.returns
returns g c =
    let found = c.in-Ok.found in
    reads_job (Tables c.args.words.now) refl (says_first (c.say_made.ensures.says c.in-Ok-all_tabled.text refl) c.in-Ok.ensures.looks g.met.H.Host.tells_both
    (λ tells answer e. (Ok found, c.in-Ok.ensures.found tells, e ∙ c.in-Ok-all_tabled.ensures.is)))
