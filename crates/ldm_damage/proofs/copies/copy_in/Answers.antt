use Rattle.std.proofs.Common.{◌≡◌, ◌<◌, ◌∙◌, ℕ, List, length, sym, ap, subst}
use Rattle.ldm_host.specs.Seen.{image}
use Rattle.ldm_copy.specs.Copy.{config_area}
use Rattle.ldm_copy.specs.Answers.{IsAnswer}
use Rattle.ldm_view.specs.Patches.{patched, shown}
use Rattle.ldm_view.specs.PatchLaws.{image_shown}
use Rattle.ldm_view.proofs.ViewLaws.{shows_as}
use Rattle.ldm_damage.proofs.copies.copy_in.Goals as goal

pub returns-in-Ok-clause-is : goal.returns-in-Ok-clause-is
returns-in-Ok-clause-is g c tells =
    let view = c.in-Ok.view in
    let label = c.args.label.now in
    let old = (g.H.Host.seen c.args.under.host).content in
    let now = (g.H.Host.seen view.host).content in
    let same : now ≡ old = ap (λ (h : g.row.H.Denot). (g.H.Host.seen h).content) c.in-Ok.ensures.host in
    let lt : c.args.disk < length now = subst (λ (h : g.row.H.Denot). c.args.disk < length (g.H.Host.seen h).content) (sym c.in-Ok.ensures.host)
    (subst (λ (n : ℕ). c.args.disk < n) (sym (g.met.H.Host.one_each tells c.args.under.host)) c.requires.disk) in
    let is : image (shown view.patches.items now) c.args.disk ≡ patched g.S.Start.patches c.args.disk (image old c.args.disk) =
    image_shown view.patches.items c.args.disk now lt ∙ shows_as g.S.Start.patches view.patches.items c.args.disk (image now c.args.disk) view.fixed ∙ ap (λ (l : List (List ℕ)). patched g.S.Start.patches c.args.disk (image l c.args.disk)) same in
    c.fault_of.ensures.is (config_area label (patched g.S.Start.patches c.args.disk (image old c.args.disk))) label.area_sectors
    (subst (λ (l : List ℕ). IsAnswer (config_area label l) label.area_sectors c.read_copy-read.result) is (c.read_copy-read.ensures.found tells))
