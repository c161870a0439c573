use Rattle.std.proofs.Common.{Ok}
use Rattle.ldm_look.specs.Looks.{said_group, show_answer}
use Rattle.ldm_look.proofs.EndLaws.{says_first}
use Rattle.ldm_look.proofs.looking.show.Goals as goal

pub returns-in-Err : goal.returns-in-Err
returns-in-Err g c = c.in-Err.ensures.fault (show_answer c.args.format.now)

pub returns-in-Ok : goal.returns-in-Ok
returns-in-Ok g c =
    says_first (c.say_made.ensures.says (said_group c.args.format.now c.in-Ok.found) c.said_group.ensures) c.in-Ok.ensures.looks g.met.H.Host.tells_both
    (λ tells answer e. (Ok c.in-Ok.found, c.in-Ok.ensures.found tells, e))
