use Rattle.std.proofs.Common.{refl}
use Rattle.ldm_words.specs.declared.status.Status.TheVariants.{NoMemory}
use Rattle.ldm_host.proofs.Relations.{looks_itself}
use Rattle.ldm_rescue.proofs.EndLaws.{no_memory, rescues_nothing, rescues_all, rescues_part}
use Rattle.ldm_rescue.proofs.rescuing.rescue_section.Goals as goal

pub returns-in_default : goal.returns-in_default
returns-in_default g c =
    let host = g.H.Host.seen c.args.host.now in
    rescues_nothing NoMemory c.ended.result c.ended.ensures (no_memory host host) (looks_itself host (g.met.H.Host.counts_now c.args.host.now) (g.met.H.Host.only_now c.args.host.now))

pub returns-in_default-vec : goal.returns-in_default-vec
returns-in_default-vec g c =
    let host = g.H.Host.seen c.args.host.now in
    rescues_nothing NoMemory c.ended-in_default-vec.result c.ended-in_default-vec.ensures (no_memory host host) (looks_itself host (g.met.H.Host.counts_now c.args.host.now) (g.met.H.Host.only_now c.args.host.now))

pub returns-in-Ok-rescue_sectors : goal.returns-in-Ok-rescue_sectors
returns-in-Ok-rescue_sectors g c =
    let made = c.in-Ok-rescue_sectors.ensures in
    rescues_all c.in-Ok-rescue_sectors.lost c.end_of.result c.end_of.ensures made.said made.still made.input

pub returns : goal.returns
returns g c =
    let made = c.in-Err.ensures in
    rescues_part c.ended-in-Err.result c.ended-in-Err.ensures (λ tells. made.front tells refl) (made.talk refl) made.still made.input
