use Rattle.ldm_look.specs.Looks.{said_fault}
use Rattle.ldm_look.proofs.saying.refuse.Goals as goal

pub returns : goal.returns
returns g c = c.say_made.ensures.says (said_fault c.args.format.now c.args.fault.now) c.said_fault-text.ensures
