use Rattle.std.proofs.Common.{◌≡◌, ◌∙◌, ◌<◌, ◌≤◌, ℕ, List, [], Option, Ok, Err, IfOk, IsErrOf, IfSome, length, slice_index, sym, ap, subst, if◌then◌else◌}
use Rattle.ldm_host.specs.Seen.{image}
use Rattle.ldm_label.specs.declared.Label.{Label}
use Rattle.ldm_label.specs.LabelOf.{label_of, Fits}
use Rattle.ldm_view.specs.Patches.{patched}
use Rattle.ldm_view.proofs.ViewLaws.{shows_as}
use Rattle.ldm_damage.specs.declared.error.DamageError.TheVariants.{Disk}
use Rattle.ldm_damage.specs.Looked.{Looked}
use Rattle.ldm_damage.specs.Mending.{lacks_header, header_tries, with_mbr}
use Rattle.ldm_damage.specs.Trying.{IsTried, headed}
use Rattle.ldm_damage.proofs.LookLaws.{same_sizes, same_content, looked_then, ok_map, read_of}
use Rattle.ldm_damage.proofs.PatchingLaws.{adds_same, adds_then}
use Rattle.ldm_damage.proofs.TryLaws.{tried_first, tried_rest}
use Rattle.ldm_damage.proofs.mending.try_label.Goals as goal

pub returns-in-Err-found-clause-adds : goal.returns-in-Err-found-clause-adds
returns-in-Err-found-clause-adds g c =
    adds_same c.args.disk c.args.under.patches.items c.show_mbr.new.under.patches.items c.label_shown-under.result.0.patches.items c.show_mbr.ensures.adds c.label_shown-under.ensures.same

pub try_lacking-requires-clause-disk : goal.try_lacking-requires-clause-disk
try_lacking-requires-clause-disk g c =
    let sizes = same_sizes (g.H.Host.seen c.show_mbr.new.under.host) (g.H.Host.seen c.label_shown-under.result.0.host) c.label_shown-under.ensures.looked.still
    ∙ ap (λ (h : g.row.H.Denot). (g.H.Host.seen h).sizes) c.show_mbr.ensures.host in
    subst (λ (l : List ℕ). c.args.disk < length l) (sym sizes) c.requires.disk

pub try_lacking-requires-clause-room : goal.try_lacking-requires-clause-room
try_lacking-requires-clause-room g c =
    let sizes = same_sizes (g.H.Host.seen c.show_mbr.new.under.host) (g.H.Host.seen c.label_shown-under.result.0.host) c.label_shown-under.ensures.looked.still
    ∙ ap (λ (h : g.row.H.Denot). (g.H.Host.seen h).sizes) c.show_mbr.ensures.host in
    subst (λ (l : List ℕ). 2055 ≤ slice_index l c.args.disk) (sym sizes) c.requires.room

pub returns-in-Ok-label-clause-is : goal.returns-in-Ok-label-clause-is
returns-in-Ok-label-clause-is g c tells =
    let disk = c.args.disk in
    let mid = c.show_mbr.new.under in
    let whole = image (g.H.Host.seen c.args.under.host).content disk in
    let here : patched mid.patches.items disk whole ≡ with_mbr whole = c.in_default.ensures.here whole ∙ ap with_mbr (c.requires.plain whole) in
    let seen : patched mid.patches.items disk (image (g.H.Host.seen mid.host).content disk) ≡ with_mbr whole =
    ap (λ (h : g.row.H.Denot). patched mid.patches.items disk (image (g.H.Host.seen h).content disk)) c.show_mbr.ensures.host ∙ here in
    tried_first (with_mbr whole) (if lacks_header (label_of (with_mbr whole)) then header_tries whole else []) (with_mbr whole) (patched c.label_shown-under.result.0.patches.items disk whole) c.in-Ok-label.label
    (shows_as mid.patches.items c.label_shown-under.result.0.patches.items disk whole c.label_shown-under.ensures.same ∙ here)
    (read_of c.label_shown-under.result.1 c.in-Ok.label (Ok c.in-Ok-label.label) (with_mbr whole) _ c.in-Ok.is c.in-Ok-label.is seen (c.label_shown-under.ensures.is tells))

pub returns-in-Ok-label-clause-adds : goal.returns-in-Ok-label-clause-adds
returns-in-Ok-label-clause-adds g c =
    adds_same c.args.disk c.args.under.patches.items c.show_mbr.new.under.patches.items c.label_shown-under.result.0.patches.items c.show_mbr.ensures.adds c.label_shown-under.ensures.same

pub returns-in-Err-label-clause-is : goal.returns-in-Err-label-clause-is
returns-in-Err-label-clause-is g c tells =
    let disk = c.args.disk in
    let mid = c.show_mbr.new.under in
    let next = c.label_shown-under.result.0 in
    let last = c.try_lacking.result.0 in
    let fault = c.in-Err-label.fault in
    let whole = image (g.H.Host.seen c.args.under.host).content disk in
    let here : patched mid.patches.items disk whole ≡ with_mbr whole = c.in_default.ensures.here whole ∙ ap with_mbr (c.requires.plain whole) in
    let seen : patched mid.patches.items disk (image (g.H.Host.seen mid.host).content disk) ≡ with_mbr whole =
    ap (λ (h : g.row.H.Denot). patched mid.patches.items disk (image (g.H.Host.seen h).content disk)) c.show_mbr.ensures.host ∙ here in
    let same = same_content (g.H.Host.seen mid.host) (g.H.Host.seen next.host) c.label_shown-under.ensures.looked.still
    ∙ ap (λ (h : g.row.H.Denot). (g.H.Host.seen h).content) c.show_mbr.ensures.host in
    let tried = subst (λ (l : List (List ℕ)). IfOk c.try_lacking.result.1 (λ (found : Option Label).
    IsTried (if lacks_header (Err fault) then headed (patched next.patches.items disk (image l disk)) (image l disk) else []) (patched next.patches.items disk (image l disk)) found (patched last.patches.items disk (image l disk))))
    same (c.try_lacking.ensures.is tells) in
    ok_map c.try_lacking.result.1 _ _ (λ found rest.
    tried_rest whole (patched next.patches.items disk whole) (patched last.patches.items disk whole) fault found
    (shows_as mid.patches.items next.patches.items disk whole c.label_shown-under.ensures.same ∙ here)
    (read_of c.label_shown-under.result.1 c.in-Ok.label (Err fault) (with_mbr whole) _ c.in-Ok.is c.in-Err-label.is seen (c.label_shown-under.ensures.is tells)) rest) tried

pub returns-in-Err-label-clause-fits : goal.returns-in-Err-label-clause-fits
returns-in-Err-label-clause-fits g c =
    let sizes = same_sizes (g.H.Host.seen c.show_mbr.new.under.host) (g.H.Host.seen c.label_shown-under.result.0.host) c.label_shown-under.ensures.looked.still
    ∙ ap (λ (h : g.row.H.Denot). (g.H.Host.seen h).sizes) c.show_mbr.ensures.host in
    subst (λ (l : List ℕ). IfOk c.try_lacking.result.1 (λ (found : Option Label). IfSome found (λ (label : Label). Fits label (slice_index l c.args.disk)))) sizes c.try_lacking.ensures.fits

pub returns-in-Err-label-clause-adds : goal.returns-in-Err-label-clause-adds
returns-in-Err-label-clause-adds g c =
    adds_then c.args.disk c.args.under.patches.items c.label_shown-under.result.0.patches.items c.try_lacking.result.0.patches.items
    (adds_same c.args.disk c.args.under.patches.items c.show_mbr.new.under.patches.items c.label_shown-under.result.0.patches.items c.show_mbr.ensures.adds c.label_shown-under.ensures.same)
    c.try_lacking.ensures.adds

pub returns-in-Err-label-clause-looked : goal.returns-in-Err-label-clause-looked
returns-in-Err-label-clause-looked g c =
    subst (λ (h : g.row.H.Denot). Looked (g.H.Host.seen h) (g.H.Host.seen c.try_lacking.result.0.host) (IsErrOf c.try_lacking.result.1 Disk)) c.show_mbr.ensures.host
    (looked_then (g.H.Host.seen c.show_mbr.new.under.host) (g.H.Host.seen c.label_shown-under.result.0.host) (g.H.Host.seen c.try_lacking.result.0.host) _ _ _
    c.label_shown-under.ensures.looked c.try_lacking.ensures.looked (λ failed. failed))
