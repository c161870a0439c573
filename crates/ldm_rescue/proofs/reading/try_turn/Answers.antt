use Rattle.std.proofs.Common.{ℕ, sym, subst, refl, arith, length}
use Rattle.ldm_rescue.specs.Rescued.{source_in, source_spots, FailedOn}
use Rattle.ldm_host.specs.Failed.{failed_since}
use Rattle.ldm_rescue.proofs.SourceLaws.{source_has, together_one}
use Rattle.ldm_rescue.proofs.RescueLaws.{tried_ok, tried_err}
use Rattle.ldm_rescue.proofs.reading.try_turn.Goals as goal

pub read_source-requires-clause-has : goal.read_source-requires-clause-has
read_source-requires-clause-has g c s part =
    let found = c.args.found.now in
    let l = c.args.plan.now in
    source_has found l (g.H.Host.seen c.args.host.now).sizes c.requires.lies c.args.sector 1 c.args.turn (length c.args.out.now) (source_spots found l c.args.sector c.in-Some.source) s
    (together_one l c.args.sector c.requires.within) (omega (arith, c.requires.size)) (sym c.in-Some.ensures.is) part

pub returns-in-Ok-clause-tried : goal.returns-in-Ok-clause-tried
returns-in-Ok-clause-tried g c tells =
    let found = c.args.found.now in
    let l = c.args.plan.now in
    tried_ok (g.H.Host.seen c.args.host.now).content (failed_since (g.H.Host.seen c.args.host.now) (g.H.Host.seen c.read_source.new.host)) (source_in found l c.args.sector c.args.turn) c.read_source.new.out
    (source_spots found l c.args.sector c.in-Some.source) c.in-Some.ensures.is (omega (arith, c.requires.size, c.read_source.auto.out))
    (λ j lt. c.in-Ok.ensures.bytes tells j (omega (arith, lt, c.requires.size)))

pub returns-in-Err-clause-tried : goal.returns-in-Err-clause-tried
returns-in-Err-clause-tried g c tells =
    let found = c.args.found.now in
    let l = c.args.plan.now in
    let old = g.H.Host.seen c.args.host.now in
    let new = g.H.Host.seen c.read_source.new.host in
    let spots = source_spots found l c.args.sector c.in-Some.source in
    tried_err old.content (failed_since old new) (source_in found l c.args.sector c.args.turn) c.read_source.new.out
    spots old.failed new.failed c.in-Err.image c.in-Some.ensures.is refl
    (subst (λ (n : ℕ). FailedOn spots n old.failed new.failed c.in-Err.image) c.requires.size (c.in-Err.ensures.failed tells))
