use Rattle.std.proofs.Common.{[], codes, decimal, ◌++◌, Some, None, ◌∙◌}
use Rattle.ldm_text.specs.Texts.{text_of_refusal}
use Rattle.ldm_run.proofs.AnswerLaws.{section_of_lost}
use Rattle.ldm_run.proofs.Saying.{says_as, says_at_once}
use Rattle.ldm_words.specs.declared.job.Job.TheVariants.{Dump}
use Rattle.ldm_run.proofs.WholeLaws.{breaks_silent, silent_whole}
use Rattle.ldm_run.proofs.dump.dump_section.Goals as goal

pub returns-in-Some-clause-says : goal.returns-in-Some-clause-says
returns-in-Some-clause-says g c =
    let images = (g.H.Host.seen c.args.host.now).content in
    let sector = c.in-Some.sector in
    let is = section_of_lost images c.args.found.now c.args.plan.now c.args.section (Some sector) c.in-Some.ensures in
    says_at_once tt (says_as (c.say_made.ensures.says (text_of_refusal ((codes "sector " ++ decimal sector) ++ codes " is lost")) c.lost_refusal.ensures) g.met.H.Host.tells_both
    (λ tells answer e. e ∙ is))

pub returns-in-None-clause-says : goal.returns-in-None-clause-says
returns-in-None-clause-says g c =
    let images = (g.H.Host.seen c.args.host.now).content in
    let is = section_of_lost images c.args.found.now c.args.plan.now c.args.section None c.in-None.ensures in
    says_as c.dump_sound.ensures.says (λ told. told) (λ told answer e. e ∙ is)

pub returns-in-Some-clause-whole : goal.returns-in-Some-clause-whole
returns-in-Some-clause-whole g c told breaks =
    silent_whole (Dump [] None) (g.H.Host.seen c.args.host.now) (g.H.Host.seen c.say_made.new.host) ((c.say_made.ensures.says (text_of_refusal ((codes "sector " ++ decimal c.in-Some.sector) ++ codes " is lost")) c.lost_refusal.ensures).silent (breaks_silent c.say_made.result breaks))
