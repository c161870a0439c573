use Rattle.std.proofs.Common.{Some, sym, ◌∙◌}
use Rattle.ldm_host.proofs.Relations.{looks_itself, looks_as}
use Rattle.ldm_places.specs.Columns.{column_in}
use Rattle.ldm_dump.proofs.ReadLaws.{list_of}
use Rattle.ldm_scrub.proofs.comparing.join_column.Goals as goal

pub spot_of-requires : goal.spot_of-requires
spot_of-requires g c = λ s is. c.requires.lies c.args.sector c.args.column s c.requires.within c.requires.raid5
    (list_of c.args.found.now (column_in c.args.plan.now c.args.sector c.args.column) c.column.result (Some s) c.column.ensures is)

pub join_spot-requires-clause-has : goal.join_spot-requires-clause-has
join_spot-requires-clause-has g c =
    c.requires.has c.in-Some.spot
    (list_of c.args.found.now (column_in c.args.plan.now c.args.sector c.args.column) c.column.result (Some c.in-Some.spot) c.column.ensures (sym c.spot_of.ensures ∙ c.in-Some.is))

pub returns-in-None-clause-looks : goal.returns-in-None-clause-looks
returns-in-None-clause-looks g c =
    looks_as (looks_itself (g.H.Host.seen c.args.host.now) (g.met.H.Host.counts_now c.args.host.now) (g.met.H.Host.only_now c.args.host.now)) (λ is. absurd (cc is))
