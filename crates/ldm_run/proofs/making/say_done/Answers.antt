use Rattle.std.proofs.Common.{rules}
use Rattle.ldm_look.proofs.EndLaws.{talk_failed}
use Rattle.ldm_run.proofs.making.say_done.Goals as goal

pub returns-in-Err-clause-says : goal.returns-in-Err-clause-says
returns-in-Err-clause-says g c =
    let front = c.say.ensures.front in
    talk_failed front.0 front.1 (search rules) c.say.ensures.still (record { input = c.say.ensures.input; heard = c.say.ensures.heard })
