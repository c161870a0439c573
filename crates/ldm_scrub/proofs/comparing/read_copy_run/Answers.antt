use Rattle.std.proofs.Common.{length, Some, sym, ◌∙◌}
use Rattle.ldm_host.proofs.Relations.{looks_itself, looks_as}
use Rattle.ldm_places.specs.Layouts.{place_in}
use Rattle.ldm_dump.proofs.ReadLaws.{list_of}
use Rattle.ldm_scrub.proofs.CompareLaws.{copy_bytes}
use Rattle.ldm_scrub.proofs.comparing.read_copy_run.Goals as goal

pub spot_of-requires : goal.spot_of-requires
spot_of-requires g c = λ s is. c.requires.lies.copies c.args.sector c.args.copy s c.requires.within c.requires.copied
    (list_of c.args.found.now (place_in c.args.plan.now c.args.sector c.args.copy) c.place.result (Some s) c.place.ensures is)

pub read_spot-requires : goal.read_spot-requires
read_spot-requires g c =
    copy_bytes (g.H.Host.seen c.args.host.now).sizes c.args.found.now c.args.plan.now c.args.sector c.args.copy c.args.run (length c.args.out.now) c.in-Some.spot
    c.requires.lies c.requires.run c.requires.copied c.requires.room
    (list_of c.args.found.now (place_in c.args.plan.now c.args.sector c.args.copy) c.place.result (Some c.in-Some.spot) c.place.ensures (sym c.spot_of.ensures ∙ c.in-Some.is))

pub returns-in-None-clause-looks : goal.returns-in-None-clause-looks
returns-in-None-clause-looks g c =
    looks_as (looks_itself (g.H.Host.seen c.args.host.now) (g.met.H.Host.counts_now c.args.host.now) (g.met.H.Host.only_now c.args.host.now)) (λ is. absurd (cc is))
