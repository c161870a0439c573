use Rattle.std.proofs.Common.{◌≡◌, sym, ap, ◌∙◌, Option, Some}
use Rattle.ldm_places.specs.declared.shape.Place.{Place}
use Rattle.ldm_dump.specs.Sources.{is_here, spot_at, copy_spot}
use Rattle.ldm_dump.proofs.ReadLaws.{copy_there, here_spot}
use Rattle.ldm_table.proofs.VolumeLaws.{run_stretch}
use Rattle.ldm_table.proofs.stretch.stretch_at.Goals as goal

pub place-requires-clause-copied : goal.place-requires-clause-copied
place-requires-clause-copied g c = (copy_there c.args.found.now c.args.plan.now c.args.sector c.in-Some.copy (sym c.in-Some.is ∙ c.run_at-run.ensures.copy_is)).0

pub spot_of-requires : goal.spot_of-requires
spot_of-requires g c = λ s is. c.requires.lies.copies c.args.sector c.in-Some.copy s c.requires.within
    (copy_there c.args.found.now c.args.plan.now c.args.sector c.in-Some.copy (sym c.in-Some.is ∙ c.run_at-run.ensures.copy_is)).0
    (ap (λ (p : Option Place). spot_at c.args.found.now p) c.place.ensures ∙ is)

pub unreachable-requires-in_default-spot_of : goal.unreachable-requires-in_default-spot_of
unreachable-requires-in_default-spot_of g c =
    here_spot c.args.found.now c.place.result
    (sym (ap (λ (p : Option Place). is_here c.args.found.now p) c.place.ensures) ∙ (copy_there c.args.found.now c.args.plan.now c.args.sector c.in-Some.copy (sym c.in-Some.is ∙ c.run_at-run.ensures.copy_is)).1)
    (sym c.spot_of.ensures ∙ c.in_default-spot_of.is)

pub returns : goal.returns
returns g c =
    let spot : copy_spot c.args.found.now c.args.plan.now c.args.sector c.in-Some.copy ≡ Some c.in-Some-spot_of.spot =
    ap (λ (p : Option Place). spot_at c.args.found.now p) c.place.ensures ∙ (sym c.spot_of.ensures ∙ c.in-Some-spot_of.is) in
    run_stretch c.args.found.now c.args.plan.now c.args.sector c.in-Some.copy c.run_at-run.result c.in-Some-spot_of.spot c.run_at-run.ensures c.in-Some.is spot
