use Rattle.std.proofs.Common.{◌∙◌, ap, sym}
use Rattle.ldm_places.specs.declared.places.Plan.TheInside.{Inside}
use Rattle.ldm_places.proofs.SpotLaws.{stretch_there}
use Rattle.ldm_places.proofs.places.Plan.stretch.Goals as goal

pub returns : goal.returns
returns c = stretch_there c.args.sector c.args.copy c.plex_stretch-piece.result c.min.result c.plex.result.now
    (sym c.self.view_is ∙ ap (λ (p : Inside). p.draft) (sym c.self-inside.view_is))
    c.plex.ensures.there c.requires.within c.plex_stretch-piece.ensures.some c.plex_stretch-piece.ensures.spots c.plex_stretch-piece.ensures.chunk c.min.ensures
