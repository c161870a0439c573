use Rattle.std.proofs.Common.{ap, sym, arith, List}
use Rattle.std.specs.List.{slice_get}
use Rattle.ldm_dump.specs.declared.spots.Spot.{Spot}
use Rattle.ldm_rescue.proofs.SourceLaws.{first_by, none_by, none_at_all}
use Rattle.ldm_rescue.proofs.sources.first_source.Goals as goal

pub returns-then-is_some-clause-is : goal.returns-then-is_some-clause-is
returns-then-is_some-clause-is g c =
    first_by c.args.found.now c.args.plan.now c.args.sector c.turns.turn c.source_in-source.result c.turns.invariant (omega (arith, c.turns-turn-end.ensures, c.turns-test.true))
    c.source_in-source.ensures.is c.if-is_some.ensures

pub turns-preserved : goal.turns-preserved
turns-preserved g c =
    none_by c.args.found.now c.args.plan.now c.args.sector c.turns.turn c.source_in-source.result c.turns.invariant c.source_in-source.ensures.is c.if-is_some.ensures

pub returns-clause-is : goal.returns-clause-is
returns-clause-is g c =
    sym (ap (λ (s : List (List Spot)). slice_get s 0)
    (none_at_all c.args.found.now c.args.plan.now c.args.sector c.turns.turn (omega (arith, c.turns-turn-end.ensures, c.turns-test.false, c.turns.auto.turn-end)) c.turns.invariant))
