use Rattle.std.proofs.Common.{◌≡◌, [], ◌∷◌, length, sym, ap, ◌∙◌, Option, Some}
use Rattle.ldm_places.specs.declared.shape.Place.{Place}
use Rattle.ldm_dump.specs.Sources.{is_here, spot_at, copy_spot, other_spot, other_spots}
use Rattle.ldm_dump.proofs.ReadLaws.{on_ok, copy_there, here_spot, copy_sources, made_raid5, made_sources, bytes_as, run_bytes}
use Rattle.ldm_dump.proofs.reading.read_run.Goals as goal

pub place-requires-clause-copied : goal.place-requires-clause-copied
place-requires-clause-copied g c = (copy_there c.args.found.now c.args.plan.now c.args.sector c.in-Some.copy (sym c.in-Some.is ∙ c.requires.run.copy_is)).0

pub spot_of-requires : goal.spot_of-requires
spot_of-requires g c = λ s is. c.requires.lies.copies c.args.sector c.in-Some.copy s c.requires.within
    (copy_there c.args.found.now c.args.plan.now c.args.sector c.in-Some.copy (sym c.in-Some.is ∙ c.requires.run.copy_is)).0
    (ap (λ (p : Option Place). spot_at c.args.found.now p) c.place.ensures ∙ is)

pub read_spot-requires : goal.read_spot-requires
read_spot-requires g c =
    let found = c.args.found.now in
    let l = c.args.plan.now in
    let there = copy_there found l c.args.sector c.in-Some.copy (sym c.in-Some.is ∙ c.requires.run.copy_is) in
    let spot : copy_spot found l c.args.sector c.in-Some.copy ≡ Some c.in-Some-spot_of.spot =
    ap (λ (p : Option Place). spot_at found p) c.place.ensures ∙ (sym c.spot_of.ensures ∙ c.in-Some-spot_of.is) in
    run_bytes (g.H.Host.seen c.args.host.now).sizes (λ y. copy_spot found l y c.in-Some.copy) c.args.sector c.args.run.now.sectors l.size (length c.args.out.now) c.in-Some-spot_of.spot
    (λ y t lt is. c.requires.lies.copies y c.in-Some.copy t lt there.0 is)
    (λ i lt. c.requires.run.copies i c.in-Some.copy lt c.in-Some.is)
    spot c.requires.run.some c.requires.run.within c.requires.room

pub unreachable-requires : goal.unreachable-requires
unreachable-requires g c =
    here_spot c.args.found.now c.place.result
    (sym (ap (λ (p : Option Place). is_here c.args.found.now p) c.place.ensures) ∙ (copy_there c.args.found.now c.args.plan.now c.args.sector c.in-Some.copy (sym c.in-Some.is ∙ c.requires.run.copy_is)).1)
    (sym c.spot_of.ensures ∙ c.in-None-spot_of.is)

pub rebuild-requires-clause-raid5 : goal.rebuild-requires-clause-raid5
rebuild-requires-clause-raid5 g c = made_raid5 c.args.found.now c.args.plan.now c.args.sector (sym c.in-None.is ∙ c.requires.run.copy_is) c.requires.kept

pub rebuild-requires-clause-has : goal.rebuild-requires-clause-has
rebuild-requires-clause-has g c =
    let found = c.args.found.now in
    let l = c.args.plan.now in
    let raid5 = made_raid5 found l c.args.sector (sym c.in-None.is ∙ c.requires.run.copy_is) c.requires.kept in
    λ column s is. run_bytes (g.H.Host.seen c.args.host.now).sizes (λ y. other_spot found l y column) c.args.sector c.args.run.now.sectors l.size (length c.args.out.now) s
    (λ y t lt at. c.requires.lies.columns y column t lt raid5 at)
    (λ i lt. c.requires.run.columns i column lt raid5)
    is c.requires.run.some c.requires.run.within c.requires.room

pub returns-in-Some-spot_of-clause-bytes : goal.returns-in-Some-spot_of-clause-bytes
returns-in-Some-spot_of-clause-bytes g c tells =
    let found = c.args.found.now in
    let l = c.args.plan.now in
    let spot : copy_spot found l c.args.sector c.in-Some.copy ≡ Some c.in-Some-spot_of.spot =
    ap (λ (p : Option Place). spot_at found p) c.place.ensures ∙ (sym c.spot_of.ensures ∙ c.in-Some-spot_of.is) in
    on_ok c.read_spot.result _ _ (c.read_spot.ensures.bytes tells)
    (λ bytes spots is j lt. bytes_as (g.H.Host.seen c.args.host.now).content found l c.args.sector (c.in-Some-spot_of.spot ∷ []) spots c.read_spot.new.out (length c.args.out.now)
    (copy_sources found l c.args.sector c.in-Some.copy c.in-Some-spot_of.spot (sym c.in-Some.is ∙ c.requires.run.copy_is) spot) is bytes j lt)

pub returns-in-None-clause-bytes : goal.returns-in-None-clause-bytes
returns-in-None-clause-bytes g c tells =
    on_ok c.rebuild.result _ _ (c.rebuild.ensures.bytes tells)
    (λ bytes spots is j lt. bytes_as (g.H.Host.seen c.args.host.now).content c.args.found.now c.args.plan.now c.args.sector (other_spots c.args.found.now c.args.plan.now c.args.sector) spots c.rebuild.new.out (length c.args.out.now)
    (made_sources c.args.found.now c.args.plan.now c.args.sector (sym c.in-None.is ∙ c.requires.run.copy_is) c.requires.kept) is bytes j lt)
