use Rattle.std.proofs.Common.{◌++◌, ℕ, List, subst, rules}
use Rattle.ldm_host.specs.Moves.{Begins}
use Rattle.ldm_host.proofs.Relations.{still_trans}
use Rattle.ldm_dump.specs.Bytes.{bytes_of_sectors}
use Rattle.ldm_dump.proofs.ByteLaws.{begins_of, begins_all}
use Rattle.ldm_dump.proofs.dumping.say_many.Goals as goal

pub returns-in-Ok-say-clause-still : goal.returns-in-Ok-say-clause-still
returns-in-Ok-say-clause-still g c = still_trans _ _ _ c.in-Ok.ensures.looks.still c.in-Ok-say.ensures.still

pub returns-in-Err-clause-still : goal.returns-in-Err-clause-still
returns-in-Err-clause-still g c = still_trans _ _ _ c.in-Ok.ensures.looks.still c.in-Err.ensures.still

pub returns-in-Err-clause-front : goal.returns-in-Err-clause-front
returns-in-Err-clause-front g c tells =
    let old = g.H.Host.seen c.args.host.now in
    let n = c.in-Ok.count in
    let text = bytes_of_sectors old.content c.args.found.now c.args.plan.now c.args.sector n in
    (n, c.in-Ok.ensures.fits, subst (λ (s : List ℕ). Begins (g.H.Host.seen c.say.new.self).said (s ++ text)) c.in-Ok.ensures.looks.quiet.said (begins_of _ _ _ _ (c.in-Ok.ensures.bytes tells) c.in-Err.ensures.front))

pub returns-in-Ok-say-clause-front : goal.returns-in-Ok-say-clause-front
returns-in-Ok-say-clause-front g c tells = (c.in-Ok.count, c.in-Ok.ensures.fits, begins_all _ _ (search rules))
