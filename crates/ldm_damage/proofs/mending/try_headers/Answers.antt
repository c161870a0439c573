use Rattle.std.proofs.Common.{◌∙◌, ◌*◌, ◌-◌, ℕ, List, [], ◌∷◌, Option, None, Ok, IfOk, IfSome, slice_index, sym, ap, subst}
use Rattle.ldm_host.specs.Seen.{image}
use Rattle.ldm_label.specs.declared.Label.{Label}
use Rattle.ldm_label.specs.Fields.{sector}
use Rattle.ldm_label.specs.LabelOf.{Fits}
use Rattle.ldm_view.specs.Patches.{laid, patched}
use Rattle.ldm_damage.specs.Trying.{IsTried}
use Rattle.ldm_damage.proofs.LookLaws.{same_sizes, same_content, looked_then, ok_at, ok_map}
use Rattle.ldm_damage.proofs.PatchingLaws.{adds_then}
use Rattle.ldm_damage.proofs.TryLaws.{two_tries}
use Rattle.ldm_damage.proofs.mending.try_headers.Goals as goal

pub returns-in-None-clause-is : goal.returns-in-None-clause-is
returns-in-None-clause-is g c tells =
    let disk = c.args.disk in
    let n = c.sectors-sectors.result in
    let mid = c.try_header-under.result.0 in
    let next = c.try_header.result.0 in
    let whole = image (g.H.Host.seen c.args.under.host).content disk in
    let before = patched c.args.under.patches.items disk whole in
    let same = same_content (g.H.Host.seen c.args.under.host) (g.H.Host.seen mid.host) c.try_header-under.ensures.looked.still in
    let first = ok_at c.try_header-under.result.1 (λ (found : Option Label). IsTried (laid before (512 * 6) (sector whole (n - 1)) ∷ []) before found (patched mid.patches.items disk whole))
    None (c.in-Ok.is ∙ ap (λ (l : Option Label). Ok l) c.in-None.is) (c.try_header-under.ensures.is tells) in
    let second = subst (λ (l : List (List ℕ)). IfOk c.try_header.result.1 (λ (found : Option Label).
    IsTried (laid (patched mid.patches.items disk (image l disk)) (512 * 6) (sector (image l disk) (n - 192)) ∷ []) (patched mid.patches.items disk (image l disk)) found (patched next.patches.items disk (image l disk))))
    same (c.try_header.ensures.is tells) in
    ok_map c.try_header.result.1 _ _ (λ found tried.
    two_tries before (patched mid.patches.items disk whole) whole n found (patched next.patches.items disk whole)
    (c.sectors-sectors.ensures.size ∙ sym (g.met.H.Host.lengths tells c.args.under.host disk c.requires.disk)) first tried) second

pub returns-in-None-clause-fits : goal.returns-in-None-clause-fits
returns-in-None-clause-fits g c =
    subst (λ (l : List ℕ). IfOk c.try_header.result.1 (λ (found : Option Label). IfSome found (λ (label : Label). Fits label (slice_index l c.args.disk))))
    (same_sizes (g.H.Host.seen c.args.under.host) (g.H.Host.seen c.try_header-under.result.0.host) c.try_header-under.ensures.looked.still) c.try_header.ensures.fits

pub returns-in-None-clause-adds : goal.returns-in-None-clause-adds
returns-in-None-clause-adds g c =
    adds_then c.args.disk c.args.under.patches.items c.try_header-under.result.0.patches.items c.try_header.result.0.patches.items c.try_header-under.ensures.adds c.try_header.ensures.adds

pub returns-in-None-clause-looked : goal.returns-in-None-clause-looked
returns-in-None-clause-looked g c =
    looked_then (g.H.Host.seen c.args.under.host) (g.H.Host.seen c.try_header-under.result.0.host) (g.H.Host.seen c.try_header.result.0.host) _ _ _
    c.try_header-under.ensures.looked c.try_header.ensures.looked (λ failed. failed)
