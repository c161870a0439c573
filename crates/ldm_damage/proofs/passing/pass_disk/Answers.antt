use Rattle.std.proofs.Common.{◌∙◌, ◌<◌, ℕ, List, length, slice_index, IfOk, sym, subst}
use Rattle.ldm_host.specs.Seen.{image}
use Rattle.ldm_label.specs.declared.Label.{Label}
use Rattle.ldm_label.specs.LabelOf.{Fits}
use Rattle.ldm_copy.specs.Copy.{config_area}
use Rattle.ldm_view.specs.Patches.{patched}
use Rattle.ldm_damage.specs.declared.damage.Damage.{Damage}
use Rattle.ldm_damage.specs.declared.mending.Mended.{Mended}
use Rattle.ldm_damage.specs.Passing.{IsFaultOfCopy}
use Rattle.ldm_damage.specs.Trying.{IsMended}
use Rattle.ldm_damage.proofs.LookLaws.{same_sizes, same_content, looked_then, ok_at, ok_map}
use Rattle.ldm_damage.proofs.TryLaws.{damage_passed, damage_unlabelled}
use Rattle.ldm_damage.proofs.passing.pass_disk.Goals as goal

pub pass_copy-requires-clause-disk : goal.pass_copy-requires-clause-disk
pass_copy-requires-clause-disk g c =
    subst (λ (l : List ℕ). c.args.disk < length l) (sym (same_sizes (g.H.Host.seen c.args.under.host) (g.H.Host.seen c.mend-under.result.0.host) c.mend-under.ensures.looked.still)) c.requires.disk

pub pass_copy-requires-clause-fits : goal.pass_copy-requires-clause-fits
pass_copy-requires-clause-fits g c =
    let fits = ok_at c.mend-under.result.1 (λ (m : Mended). IfOk m.label (λ (l : Label). Fits l (slice_index (g.H.Host.seen c.args.under.host).sizes c.args.disk))) c.in-Ok.mended c.in-Ok.is c.mend-under.ensures.fits in
    let here = ok_at c.in-Ok.mended.label (λ (l : Label). Fits l (slice_index (g.H.Host.seen c.args.under.host).sizes c.args.disk)) c.in-Ok-read.label c.in-Ok-read.is fits in
    subst (λ (l : List ℕ). Fits c.in-Ok-read.label (slice_index l c.args.disk))
    (sym (same_sizes (g.H.Host.seen c.args.under.host) (g.H.Host.seen c.mend-under.result.0.host) c.mend-under.ensures.looked.still)) here

pub returns-in-Ok-read-clause-is : goal.returns-in-Ok-read-clause-is
returns-in-Ok-read-clause-is g c tells =
    let label = c.in-Ok-read.label in
    let disk = c.args.disk in
    let next = c.mend-under.result.0 in
    let last = c.pass_copy.result.0 in
    let whole = image (g.H.Host.seen c.args.under.host).content disk in
    let content = same_content (g.H.Host.seen c.args.under.host) (g.H.Host.seen next.host) c.mend-under.ensures.looked.still in
    let is = ok_at c.mend-under.result.1 (λ (m : Mended). IsMended whole m (patched next.patches.items disk whole)) c.in-Ok.mended c.in-Ok.is (c.mend-under.ensures.is tells) in
    let fault = subst (λ (l : List (List ℕ)). IfOk c.pass_copy.result.1 (λ (damage : Damage). IsFaultOfCopy (config_area label (patched next.patches.items disk (image l disk))) label.area_sectors damage.copy))
    content (c.pass_copy.ensures.is tells) in
    damage_passed c.pass_copy.result.1 whole (patched next.patches.items disk whole) (patched last.patches.items disk whole) c.in-Ok.mended label is c.in-Ok-read.is
    c.pass_copy.ensures.label fault (ok_map c.pass_copy.result.1 _ _ (λ damage here. here whole) c.pass_copy.ensures.here)

pub returns-in-Ok-read-clause-others : goal.returns-in-Ok-read-clause-others
returns-in-Ok-read-clause-others g c =
    let before = ok_at c.mend-under.result.1 _ c.in-Ok.mended c.in-Ok.is c.mend-under.ensures.others in
    ok_map c.pass_copy.result.1 _ _ (λ damage others d i ne. others d i ne ∙ before d i ne) c.pass_copy.ensures.others

pub returns-in-Ok-read-clause-looked : goal.returns-in-Ok-read-clause-looked
returns-in-Ok-read-clause-looked g c =
    looked_then (g.H.Host.seen c.args.under.host) (g.H.Host.seen c.mend-under.result.0.host) (g.H.Host.seen c.pass_copy.result.0.host) _ _ _ c.mend-under.ensures.looked c.pass_copy.ensures.looked (λ failed. failed)

pub returns-in-Err-read-clause-is : goal.returns-in-Err-read-clause-is
returns-in-Err-read-clause-is g c tells =
    let next = c.mend-under.result.0 in
    let whole = image (g.H.Host.seen c.args.under.host).content c.args.disk in
    let is = ok_at c.mend-under.result.1 (λ (m : Mended). IsMended whole m (patched next.patches.items c.args.disk whole)) c.in-Ok.mended c.in-Ok.is (c.mend-under.ensures.is tells) in
    damage_unlabelled whole (patched next.patches.items c.args.disk whole) c.in-Ok.mended c.in-Err-read.field-0 is c.in-Err-read.is

pub returns-in-Err-read-clause-others : goal.returns-in-Err-read-clause-others
returns-in-Err-read-clause-others g c = ok_at c.mend-under.result.1 _ c.in-Ok.mended c.in-Ok.is c.mend-under.ensures.others
