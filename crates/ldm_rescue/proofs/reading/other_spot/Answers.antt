use Rattle.std.proofs.Common.{sym, ◌∙◌, ap, Option}
use Rattle.ldm_places.specs.declared.shape.Place.{Place}
use Rattle.ldm_dump.specs.Sources.{spot_at}
use Rattle.ldm_dump.proofs.ReadLaws.{other_is}
use Rattle.ldm_rescue.proofs.reading.other_spot.Goals as goal

pub spot_of-requires : goal.spot_of-requires
spot_of-requires g c = λ s is. c.requires.lies.columns c.args.sector c.args.column s c.requires.within c.requires.raid5
    (sym (other_is c.args.found.now c.args.plan.now c.args.sector c.args.column (λ e. c.if-column-own_column.false (e ∙ sym c.own_column.ensures.is)))
    ∙ (ap (λ (p : Option Place). spot_at c.args.found.now p) c.column.ensures ∙ is))
