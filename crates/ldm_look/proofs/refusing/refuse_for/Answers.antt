use Rattle.ldm_look.specs.Refusals.{said_reason}
use Rattle.ldm_look.proofs.refusing.refuse_for.Goals as goal

pub returns-clause-says : goal.returns-clause-says
returns-clause-says g c = c.say_made.ensures.says (said_reason c.args.format.now c.args.kind.now c.args.id c.args.reason.now) c.text_for-text.ensures
