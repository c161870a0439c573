use Rattle.std.proofs.Common.{codes, refl, sym}
use Rattle.ldm_host.proofs.Relations.{looks_itself}
use Rattle.ldm_text.specs.Texts.{text_of_refusal}
use Rattle.ldm_words.specs.declared.status.Status.TheVariants.{NoMemory}
use Rattle.ldm_host.specs.Failed.{failed_since}
use Rattle.ldm_rescue.specs.Rescue.{refusal, IsSaid, IsBegun}
use Rattle.ldm_rescue.proofs.EndLaws.{no_memory, rescues_nothing, rescues_refusal, rescues_as, of_no_volume, of_volume}
use Rattle.ldm_rescue.proofs.rescuing.rescue_found.Goals as goal

pub returns-in_default : goal.returns-in_default
returns-in_default g c =
    let old = g.H.Host.seen c.args.host.now in
    let failed = failed_since old (g.H.Host.seen c.say_made.new.host) in
    let none = sym c.in_default.ensures.is in
    rescues_refusal (codes "no volume") c.say_made.result c.ended.result c.ended.ensures
    (λ told. of_no_volume (IsSaid old.content failed) c.args.name.now c.args.section c.args.found.now (refusal (codes "no volume")) none refl)
    (λ told. of_no_volume (IsBegun old.content failed) c.args.name.now c.args.section c.args.found.now (refusal (codes "no volume")) none refl)
    g.met.H.Host.tells_both
    (c.say_made.ensures.says (text_of_refusal (codes "no volume")) c.refusal_text-line.ensures)

pub returns-in_default-sound_plan : goal.returns-in_default-sound_plan
returns-in_default-sound_plan g c =
    let host = g.H.Host.seen c.args.host.now in
    rescues_nothing NoMemory c.ended-in_default-sound_plan.result c.ended-in_default-sound_plan.ensures (no_memory host host)
    (looks_itself host (g.met.H.Host.counts_now c.args.host.now) (g.met.H.Host.only_now c.args.host.now))

-- the volume's sectors lie on the images
pub rescue_plan-requires : goal.rescue_plan-requires
rescue_plan-requires g c =
    c.volumes_lie_on_images.ensures.volumes c.args.found.now _ c.in-Some.volume.now c.in-Ok.plan c.requires.sound c.requires.lies (record { there = c.in-Some.ensures.there; layout = c.in-Ok.ensures.is })

pub returns : goal.returns
returns g c =
    let old = g.H.Host.seen c.args.host.now in
    let failed = failed_since old (g.H.Host.seen c.rescue_plan.new.host) in
    let named = sym c.in-Some.ensures.is in
    rescues_as
    (λ o is. of_volume (IsSaid old.content failed) c.args.name.now c.args.section c.args.found.now c.in-Some.volume.now c.in-Ok.plan o named c.in-Ok.ensures.is is)
    (λ o is. of_volume (IsBegun old.content failed) c.args.name.now c.args.section c.args.found.now c.in-Some.volume.now c.in-Ok.plan o named c.in-Ok.ensures.is is)
    c.rescue_plan.ensures
