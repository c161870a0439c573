use Rattle.std.proofs.Common.{◌≡◌, ◌<◌, ◌∙◌, ℕ, List, length, slice_index, IfOk, sym, ap, subst}
use Rattle.ldm_host.specs.Seen.{image}
use Rattle.ldm_label.specs.Answer.{GivesUnlessDisk}
use Rattle.ldm_label.specs.LabelOf.{label_of, Fits}
use Rattle.ldm_view.specs.Patches.{patched, shown}
use Rattle.ldm_view.specs.PatchLaws.{image_shown}
use Rattle.ldm_view.proofs.ViewLaws.{shows_as}
use Rattle.ldm_damage.proofs.labels.label_in.Goals as goal

pub returns-in-Ok-clause-is : goal.returns-in-Ok-clause-is
returns-in-Ok-clause-is g c tells =
    let view = c.in-Ok.view in
    let old = (g.H.Host.seen c.args.under.host).content in
    let now = (g.H.Host.seen view.host).content in
    let same : now ≡ old = ap (λ (h : g.row.H.Denot). (g.H.Host.seen h).content) c.in-Ok.ensures.host in
    let lt : c.args.disk < length now = subst (λ (h : g.row.H.Denot). c.args.disk < length (g.H.Host.seen h).content) (sym c.in-Ok.ensures.host)
    (subst (λ (n : ℕ). c.args.disk < n) (sym (g.met.H.Host.one_each tells c.args.under.host)) c.requires.disk) in
    let is : image (shown view.patches.items now) c.args.disk ≡ patched g.S.Start.patches c.args.disk (image old c.args.disk) =
    image_shown view.patches.items c.args.disk now lt ∙ shows_as g.S.Start.patches view.patches.items c.args.disk (image now c.args.disk) view.fixed ∙ ap (λ (l : List (List ℕ)). patched g.S.Start.patches c.args.disk (image l c.args.disk)) same in
    c.outcome.ensures.is (label_of (patched g.S.Start.patches c.args.disk (image old c.args.disk)))
    (subst (λ (l : List ℕ). GivesUnlessDisk c.read_label-read.result (label_of l)) is (c.read_label-read.ensures.is tells))

pub returns-in-Ok-clause-fits : goal.returns-in-Ok-clause-fits
returns-in-Ok-clause-fits g c =
    c.outcome.ensures.fits (slice_index (g.H.Host.seen c.args.under.host).sizes c.args.disk)
    (subst (λ (h : g.row.H.Denot). IfOk c.read_label-read.result (λ l. Fits l (slice_index (g.H.Host.seen h).sizes c.args.disk))) c.in-Ok.ensures.host c.read_label-read.ensures.fits)
