use Rattle.std.proofs.Common.{refl, ℕ, List, Ok, ap, ◌∙◌}
use Rattle.ldm_words.specs.declared.job.Job.TheVariants.{Table}
use Rattle.ldm_run.specs.Tabling.{table_answer}
use Rattle.ldm_run.proofs.JobLaws.{reads_job}
use Rattle.ldm_look.proofs.EndLaws.{says_first}
use Rattle.ldm_run.proofs.tabling.table.Goals as goal

pub returns-in-Err : goal.returns-in-Err
returns-in-Err g c = reads_job (Table c.args.name.now c.args.words.now) refl (c.in-Err.ensures.fault (table_answer c.args.name.now c.args.words.now))

pub returns : goal.returns
returns g c =
    let found = c.in-Ok.found in
    let is = c.in-Ok-tabled.ensures.is ∙ ap (λ (n : List ℕ). table_answer n c.args.words.now found) c.as_slice.ensures in
    reads_job (Table c.args.name.now c.args.words.now) refl (says_first (c.say_made.ensures.says c.in-Ok-tabled.text refl) c.in-Ok.ensures.looks g.met.H.Host.tells_both
    (λ tells answer e. (Ok found, c.in-Ok.ensures.found tells, e ∙ is)))
