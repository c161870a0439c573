use Rattle.std.proofs.Common.{◌∙◌, refl}
use Rattle.ldm_host.proofs.Relations.{still_itself}
use Rattle.ldm_replies.specs.ReplyJson.{said_reply}
use Rattle.ldm_run.proofs.Saying.{reply_part}
use Rattle.ldm_run.proofs.replying.say_reply.Goals as goal

pub returns-in_default-clause-says : goal.returns-in_default-clause-says
returns-in_default-clause-says g c =
    let host = c.args.host.now in
    record {
      front = (said_reply c.args.format.now (c.args.number, c.args.reply.now), refl);
      still = still_itself (g.H.Host.seen host) (g.met.H.Host.counts_now host) (g.met.H.Host.only_now host);
      input = record { input = refl; heard = refl };
    }

pub returns-in-Ok-say-clause-says : goal.returns-in-Ok-say-clause-says
returns-in-Ok-say-clause-says g c =
    let say = c.say.ensures in
    reply_part c.args.number c.args.reply.now say.front.0 (c.as_slice.ensures ∙ c.in-Ok.ensures) say.front.1 say.still (record { input = say.input; heard = say.heard })

pub returns-clause-says : goal.returns-clause-says
returns-clause-says g c =
    let say = c.say.ensures in
    reply_part c.args.number c.args.reply.now say.front.0 (c.as_slice.ensures ∙ c.in-Ok.ensures) say.front.1 say.still (record { input = say.input; heard = say.heard })
