use Rattle.std.proofs.Common.{◌≡◌, ◌∙◌, ◌<◌, ℕ, List, None, Ok, Err, IfOk, length, slice_index, refl, sym, subst}
use Rattle.ldm_host.specs.Seen.{image}
use Rattle.ldm_label.specs.declared.Label.{Label}
use Rattle.ldm_label.specs.LabelOf.{label_of, Fits}
use Rattle.ldm_view.specs.Patches.{patched}
use Rattle.ldm_view.proofs.ViewLaws.{shows_as}
use Rattle.ldm_damage.specs.declared.mending.Mended.{Mended}
use Rattle.ldm_damage.specs.Trying.{IsMended}
use Rattle.ldm_damage.proofs.LookLaws.{same_sizes, same_content, looked_then, ok_map, read_of}
use Rattle.ldm_damage.proofs.TryLaws.{stays_labelled}
use Rattle.ldm_damage.proofs.mending.mend.Goals as goal

pub returns-in-Ok-label-clause-is : goal.returns-in-Ok-label-clause-is
returns-in-Ok-label-clause-is g c tells =
    let disk = c.args.disk in
    let whole = image (g.H.Host.seen c.args.under.host).content disk in
    let label = c.in-Ok-label.label in
    stays_labelled whole (patched c.label_shown-under.result.0.patches.items disk whole) (record { label = Ok label; fault = None }) label
    (shows_as c.args.under.patches.items c.label_shown-under.result.0.patches.items disk whole c.label_shown-under.ensures.same ∙ c.requires.plain whole)
    (read_of c.label_shown-under.result.1 c.in-Ok.label (Ok label) whole _ c.in-Ok.is c.in-Ok-label.is (c.requires.plain whole) (c.label_shown-under.ensures.is tells))
    refl refl

pub returns-in-Ok-label-clause-others : goal.returns-in-Ok-label-clause-others
returns-in-Ok-label-clause-others g c d i ne = shows_as c.args.under.patches.items c.label_shown-under.result.0.patches.items d i c.label_shown-under.ensures.same

pub mend_fault-requires-clause-disk : goal.mend_fault-requires-clause-disk
mend_fault-requires-clause-disk g c =
    subst (λ (l : List ℕ). c.args.disk < length l) (sym (same_sizes (g.H.Host.seen c.args.under.host) (g.H.Host.seen c.label_shown-under.result.0.host) c.label_shown-under.ensures.looked.still)) c.requires.disk

pub mend_fault-requires-clause-plain : goal.mend_fault-requires-clause-plain
mend_fault-requires-clause-plain g c i = shows_as c.args.under.patches.items c.label_shown-under.result.0.patches.items c.args.disk i c.label_shown-under.ensures.same ∙ c.requires.plain i

pub returns-in-Err-label-clause-is : goal.returns-in-Err-label-clause-is
returns-in-Err-label-clause-is g c tells =
    let disk = c.args.disk in
    let fault = c.in-Err-label.fault in
    let last = c.mend_fault.result.0 in
    let whole = image (g.H.Host.seen c.args.under.host).content disk in
    let same = same_content (g.H.Host.seen c.args.under.host) (g.H.Host.seen c.label_shown-under.result.0.host) c.label_shown-under.ensures.looked.still in
    ok_map c.mend_fault.result.1 _ _ (λ m is. is (read_of c.label_shown-under.result.1 c.in-Ok.label (Err fault) whole _ c.in-Ok.is c.in-Err-label.is (c.requires.plain whole) (c.label_shown-under.ensures.is tells)))
    (subst (λ (l : List (List ℕ)). IfOk c.mend_fault.result.1 (λ (m : Mended). label_of (image l disk) ≡ Err fault → IsMended (image l disk) m (patched last.patches.items disk (image l disk)))) same (c.mend_fault.ensures.is tells))

pub returns-in-Err-label-clause-fits : goal.returns-in-Err-label-clause-fits
returns-in-Err-label-clause-fits g c =
    subst (λ (l : List ℕ). IfOk c.mend_fault.result.1 (λ (m : Mended). IfOk m.label (λ (label : Label). Fits label (slice_index l c.args.disk))))
    (same_sizes (g.H.Host.seen c.args.under.host) (g.H.Host.seen c.label_shown-under.result.0.host) c.label_shown-under.ensures.looked.still) c.mend_fault.ensures.fits

pub returns-in-Err-label-clause-others : goal.returns-in-Err-label-clause-others
returns-in-Err-label-clause-others g c =
    ok_map c.mend_fault.result.1 _ _ (λ m others d i ne. others d i ne ∙ shows_as c.args.under.patches.items c.label_shown-under.result.0.patches.items d i c.label_shown-under.ensures.same) c.mend_fault.ensures.others

pub returns-in-Err-label-clause-looked : goal.returns-in-Err-label-clause-looked
returns-in-Err-label-clause-looked g c =
    looked_then (g.H.Host.seen c.args.under.host) (g.H.Host.seen c.label_shown-under.result.0.host) (g.H.Host.seen c.mend_fault.result.0.host) _ _ _
    c.label_shown-under.ensures.looked c.mend_fault.ensures.looked (λ failed. failed)
