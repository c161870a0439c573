use Rattle.std.proofs.Common.{◌∙◌, ℕ, List, slice_index, sym, ap, subst}
use Rattle.ldm_label.specs.LabelOf.{Fits}
use Rattle.ldm_view.proofs.ViewLaws.{shows_as}
use Rattle.ldm_damage.specs.Passing.{shut_by}
use Rattle.ldm_damage.proofs.LookLaws.{same_sizes}
use Rattle.ldm_damage.proofs.passing.pass_copy.Goals as goal

pub shut-requires-clause-fits : goal.shut-requires-clause-fits
shut-requires-clause-fits g c =
    subst (λ (l : List ℕ). Fits c.args.label.now (slice_index l c.args.disk))
    (sym (same_sizes (g.H.Host.seen c.args.under.host) (g.H.Host.seen c.copy_shown-under.result.0.host) c.copy_shown-under.ensures.looked.still)) c.requires.fits

pub returns-in-Ok-shut-clause-here : goal.returns-in-Ok-shut-clause-here
returns-in-Ok-shut-clause-here g c i =
    c.in-Ok-shut.ensures.here i
    ∙ ap (shut_by c.in-Ok.fault c.args.label.now) (shows_as c.args.under.patches.items c.copy_shown-under.result.0.patches.items c.args.disk i c.copy_shown-under.ensures.same)

pub returns-in-Ok-shut-clause-others : goal.returns-in-Ok-shut-clause-others
returns-in-Ok-shut-clause-others g c d i ne =
    c.in-Ok-shut.ensures.others d i ne ∙ shows_as c.args.under.patches.items c.copy_shown-under.result.0.patches.items d i c.copy_shown-under.ensures.same
