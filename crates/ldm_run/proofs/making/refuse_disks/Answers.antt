use Rattle.ldm_text.specs.Texts.{text_of_refusal}
use Rattle.ldm_run.specs.Making.{text_of_init_fault}
use Rattle.ldm_run.proofs.making.refuse_disks.Goals as goal

pub returns : goal.returns
returns g c = c.say_made.ensures.says (text_of_refusal (text_of_init_fault c.args.fault)) c.init_refusal-line.ensures
