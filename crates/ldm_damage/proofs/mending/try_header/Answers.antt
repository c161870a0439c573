use Rattle.std.proofs.Common.{◌≡◌, ◌∙◌, ◌*◌, ℕ, List, [], None, Ok, Err, sym, ap, subst, is_ok}
use Rattle.ldm_host.specs.Seen.{image}
use Rattle.ldm_label.specs.Fields.{sector}
use Rattle.ldm_view.specs.Patches.{laid, patched}
use Rattle.ldm_view.proofs.ViewLaws.{shows_as}
use Rattle.ldm_damage.specs.Looked.{Looked}
use Rattle.ldm_damage.proofs.LookLaws.{looked_as, looked_then, err_of, read_of}
use Rattle.ldm_damage.proofs.PatchingLaws.{adds_none, adds_same, left_same}
use Rattle.ldm_damage.proofs.TryLaws.{tried_first, tried_next, tried_none}
use Rattle.ldm_damage.proofs.mending.try_header.Goals as goal

pub returns-in-Ok-label-clause-is : goal.returns-in-Ok-label-clause-is
returns-in-Ok-label-clause-is g c tells =
    let disk = c.args.disk in
    let mid = c.show_header.new.under in
    let whole = image (g.H.Host.seen c.args.under.host).content disk in
    let before = patched c.args.under.patches.items disk whole in
    let view = laid before (512 * 6) (sector whole c.args.from) in
    let here : patched mid.patches.items disk whole ≡ view = c.in_default.ensures.here tells whole in
    let seen : patched mid.patches.items disk (image (g.H.Host.seen mid.host).content disk) ≡ view =
    ap (λ (l : List (List ℕ)). patched mid.patches.items disk (image l disk)) c.show_header.ensures.looks.still.content ∙ here in
    tried_first view [] before (patched c.label_shown-under.result.0.patches.items disk whole) c.in-Ok-label.label
    (shows_as mid.patches.items c.label_shown-under.result.0.patches.items disk whole c.label_shown-under.ensures.same ∙ here)
    (read_of c.label_shown-under.result.1 c.in-Ok.label (Ok c.in-Ok-label.label) view _ c.in-Ok.is c.in-Ok-label.is seen (c.label_shown-under.ensures.is tells))

pub returns-in-Ok-label-clause-adds : goal.returns-in-Ok-label-clause-adds
returns-in-Ok-label-clause-adds g c =
    adds_same c.args.disk c.args.under.patches.items c.show_header.new.under.patches.items c.label_shown-under.result.0.patches.items c.show_header.ensures.adds c.label_shown-under.ensures.same

pub returns-in-Ok-label-clause-looked : goal.returns-in-Ok-label-clause-looked
returns-in-Ok-label-clause-looked g c =
    looked_then (g.H.Host.seen c.args.under.host) (g.H.Host.seen c.show_header.new.under.host) (g.H.Host.seen c.label_shown-under.result.0.host) _ _ _
    (looked_as _ _ _ c.show_header.ensures.looks) c.label_shown-under.ensures.looked (λ failed. absurd (cc failed))

pub returns-in-Err-label-clause-is : goal.returns-in-Err-label-clause-is
returns-in-Err-label-clause-is g c tells =
    let disk = c.args.disk in
    let mid = c.show_header.new.under in
    let whole = image (g.H.Host.seen c.args.under.host).content disk in
    let before = patched c.args.under.patches.items disk whole in
    let view = laid before (512 * 6) (sector whole c.args.from) in
    let here : patched mid.patches.items disk whole ≡ view = c.in_default.ensures.here tells whole in
    let seen : patched mid.patches.items disk (image (g.H.Host.seen mid.host).content disk) ≡ view =
    ap (λ (l : List (List ℕ)). patched mid.patches.items disk (image l disk)) c.show_header.ensures.looks.still.content ∙ here in
    let off = left_same disk c.args.under.patches.items mid.patches.items c.label_shown-under.result.0.patches.items c.keep.new.self.patches.items c.len-patches.result
    c.show_header.ensures.adds c.label_shown-under.ensures.same (c.len-patches.ensures ∙ c.args.under.patches.ok.0) c.keep.ensures.kept in
    tried_next view [] before None (patched c.keep.new.self.patches.items disk whole)
    (ap is_ok (read_of c.label_shown-under.result.1 c.in-Ok.label (Err c.in-Err-label.field-0) view _ c.in-Ok.is c.in-Err-label.is seen (c.label_shown-under.ensures.is tells)))
    (tried_none before (patched c.keep.new.self.patches.items disk whole) (shows_as c.args.under.patches.items c.keep.new.self.patches.items disk whole off))

pub returns-in-Err-label-clause-adds : goal.returns-in-Err-label-clause-adds
returns-in-Err-label-clause-adds g c =
    adds_none c.args.disk c.args.under.patches.items c.keep.new.self.patches.items
    (left_same c.args.disk c.args.under.patches.items c.show_header.new.under.patches.items c.label_shown-under.result.0.patches.items c.keep.new.self.patches.items c.len-patches.result
    c.show_header.ensures.adds c.label_shown-under.ensures.same (c.len-patches.ensures ∙ c.args.under.patches.ok.0) c.keep.ensures.kept)

pub returns-in-Err-label-clause-looked : goal.returns-in-Err-label-clause-looked
returns-in-Err-label-clause-looked g c =
    subst (λ (h : g.row.H.Denot). Looked (g.H.Host.seen c.args.under.host) (g.H.Host.seen h) _) (sym c.keep.ensures.host)
    (looked_then (g.H.Host.seen c.args.under.host) (g.H.Host.seen c.show_header.new.under.host) (g.H.Host.seen c.label_shown-under.result.0.host) _ _ _
    (looked_as _ _ _ c.show_header.ensures.looks) c.label_shown-under.ensures.looked (λ failed. absurd (cc failed)))

pub returns-in-Err-found-clause-adds : goal.returns-in-Err-found-clause-adds
returns-in-Err-found-clause-adds g c =
    adds_same c.args.disk c.args.under.patches.items c.show_header.new.under.patches.items c.label_shown-under.result.0.patches.items c.show_header.ensures.adds c.label_shown-under.ensures.same

pub returns-in-Err-found-clause-looked : goal.returns-in-Err-found-clause-looked
returns-in-Err-found-clause-looked g c =
    looked_then (g.H.Host.seen c.args.under.host) (g.H.Host.seen c.show_header.new.under.host) (g.H.Host.seen c.label_shown-under.result.0.host) _ _ _
    (looked_as _ _ _ c.show_header.ensures.looks) c.label_shown-under.ensures.looked (λ failed. err_of c.label_shown-under.result.1 c.in-Err-found.error c.in-Err-found.is failed)
