use Rattle.std.proofs.Common.{sym, ap, ◌∙◌, Option}
use Rattle.ldm_places.specs.declared.shape.Place.{Place}
use Rattle.ldm_dump.specs.Sources.{spot_at}
use Rattle.ldm_rescue.proofs.sources.copy_spot.Goals as goal

pub spot_of-requires : goal.spot_of-requires
spot_of-requires g c = λ s is. c.requires.lies.copies c.args.sector c.args.copy s c.requires.within c.requires.copied
    (ap (λ (p : Option Place). spot_at c.args.found.now p) c.place.ensures ∙ is)

pub returns : goal.returns
returns g c = c.spot_of.ensures ∙ sym (ap (λ (p : Option Place). spot_at c.args.found.now p) c.place.ensures)
