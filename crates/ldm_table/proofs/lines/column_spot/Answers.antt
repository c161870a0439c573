use Rattle.std.proofs.Common.{◌*◌, ap, ◌∙◌, Option, arith}
use Rattle.ldm_places.specs.declared.shape.Place.{Place}
use Rattle.ldm_dump.specs.Sources.{spot_at}
use Rattle.ldm_table.proofs.VolumeLaws.{stripe_begins, stripe_first, one_copy}
use Rattle.ldm_table.proofs.lines.column_spot.Goals as goal
use Rattle.ldm_dump.proofs.RunLaws.{chunk_is}

pub prove-unreachable-requires : goal.prove-unreachable-requires
prove-unreachable-requires g c = (let count = c.columns.ensures.count in omega (arith, count))

pub prove-unreachable-requires-2 : goal.prove-unreachable-requires-2
prove-unreachable-requires-2 g c = grind (arith, stripe_begins)

pub spot_of-requires : goal.spot_of-requires
spot_of-requires g c = λ s is.
    let within = c.if-prove-2.false in
    c.requires.lies.copies (c.from.result * c.args.column) 0 s (omega (arith, within)) (one_copy c.args.plan.now c.requires.stripe) (ap (λ (p : Option Place). spot_at c.args.found.now p) c.place.ensures ∙ is)

pub returns : goal.returns
returns g c = grind (arith, chunk_is, stripe_first)
