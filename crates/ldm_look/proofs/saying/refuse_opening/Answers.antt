use Rattle.ldm_text.specs.Texts.{text_of_refusal}
use Rattle.ldm_look.specs.Opening.{text_of_open_fault}
use Rattle.ldm_look.proofs.saying.refuse_opening.Goals as goal

pub returns : goal.returns
returns g c = c.say_made.ensures.says (text_of_refusal (text_of_open_fault c.args.fault.now)) c.opening_refusal-line.ensures
