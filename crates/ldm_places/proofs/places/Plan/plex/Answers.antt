use Rattle.std.proofs.Common.{◌≡◌, ◌<◌, List, length, get_or, Some, rules, arith, sym, ap, ◌∙◌, subst}
use Rattle.ldm_places.proofs.SpotLaws.{plex_of_plan}
use Rattle.ldm_places.specs.Plans.{IsPlan, IsPlexOf}
use Rattle.ldm_places.specs.Layouts.{Layout}
use Rattle.ldm_places.specs.declared.extent.Extent.{Extent}
use Rattle.ldm_places.proofs.places.Plan.plex.Goals as goal
use Rattle.std.proofs.lemmas.Option.{slice_get-get_or}

pub returns : goal.returns
returns c =
    let l = c.args.self.now in
    let plan : IsPlan l = search rules in
    let within : c.args.copy < length l.plexes = omega (arith, plan.copies, c.requires) in
    let first = c.index-plexes-copy.result in
    let plexes = c.plexes-plexes.ensures ∙ ap (λ (x : Layout). x.plexes) c.self.view_is in
    let is : c.as_slice.result.now ≡ get_or l.plexes c.args.copy first =
    c.as_slice.ensures ∙ (c.index-plexes-copy.is ∙ ap (λ (ps : List (List Extent)). get_or ps c.args.copy first) plexes) in
    record {
      there = slice_get-get_or l.plexes c.args.copy first within ∙ ap (λ (es : List Extent). Some es) (sym is);
      holds = subst (λ (es : List Extent). IsPlexOf l es) (sym is) (plex_of_plan l c.args.copy first plan within);
    }
