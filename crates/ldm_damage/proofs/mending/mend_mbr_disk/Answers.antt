use Rattle.std.proofs.Common.{◌∙◌, Option, Some, None, Ok, Err, IsErrOf, refl, sym, ap, subst}
use Rattle.ldm_host.specs.Seen.{image}
use Rattle.ldm_label.specs.declared.Label.{Label}
use Rattle.ldm_view.specs.Patches.{patched}
use Rattle.ldm_view.proofs.ViewLaws.{shows_as}
use Rattle.ldm_damage.specs.declared.error.DamageError.{DamageError}
use Rattle.ldm_damage.specs.declared.error.DamageError.TheVariants.{Disk}
use Rattle.ldm_damage.specs.declared.mending.Mended.{Mended}
use Rattle.ldm_damage.specs.Looked.{Looked}
use Rattle.ldm_damage.specs.Mending.{tries, with_mbr}
use Rattle.ldm_damage.specs.Trying.{IsTried}
use Rattle.ldm_damage.proofs.LookLaws.{ok_at, looked_on}
use Rattle.ldm_damage.proofs.PatchingLaws.{left_off}
use Rattle.ldm_damage.proofs.TryLaws.{stays_unmended, is_mended}
use Rattle.ldm_damage.proofs.mending.mend_mbr_disk.Goals as goal

pub returns-in-Some-clause-is : goal.returns-in-Some-clause-is
returns-in-Some-clause-is g c tells is mbr =
    let disk = c.args.disk in
    let next = c.try_label-under.result.0 in
    let label = c.in-Some.label in
    let whole = image (g.H.Host.seen c.args.under.host).content disk in
    let tried = ok_at c.try_label-under.result.1 (λ (found : Option Label). IsTried (tries whole) (with_mbr whole) found (patched next.patches.items disk whole))
    (Some label) (c.in-Ok.is ∙ ap (λ (l : Option Label). Ok l) c.in-Some.is) (c.try_label-under.ensures.is tells) in
    is_mended whole (with_mbr whole) (patched next.patches.items disk whole) (record { label = Ok label; fault = Some c.args.fault }) c.args.fault label
    mbr is tried refl refl

pub returns-in-Some-clause-others : goal.returns-in-Some-clause-others
returns-in-Some-clause-others g c = c.try_label-under.ensures.adds.others

pub returns-in-None-clause-is : goal.returns-in-None-clause-is
returns-in-None-clause-is g c tells is mbr =
    let disk = c.args.disk in
    let next = c.try_label-under.result.0 in
    let whole = image (g.H.Host.seen c.args.under.host).content disk in
    let tried = ok_at c.try_label-under.result.1 (λ (found : Option Label). IsTried (tries whole) (with_mbr whole) found (patched next.patches.items disk whole))
    None (c.in-Ok.is ∙ ap (λ (l : Option Label). Ok l) c.in-None.is) (c.try_label-under.ensures.is tells) in
    let off = left_off disk c.args.under.patches.items next.patches.items c.keep.new.self.patches.items c.len-patches.result c.try_label-under.ensures.adds (c.len-patches.ensures ∙ c.args.under.patches.ok.0) c.keep.ensures.kept in
    stays_unmended whole (with_mbr whole) (patched next.patches.items disk whole) (patched c.keep.new.self.patches.items disk whole) (record { label = Err c.args.fault; fault = None }) c.args.fault
    (shows_as c.args.under.patches.items c.keep.new.self.patches.items disk whole off ∙ c.requires.plain whole)
    mbr is tried refl refl

pub returns-in-None-clause-others : goal.returns-in-None-clause-others
returns-in-None-clause-others g c d i ne =
    shows_as c.args.under.patches.items c.keep.new.self.patches.items d i
    (left_off c.args.disk c.args.under.patches.items c.try_label-under.result.0.patches.items c.keep.new.self.patches.items c.len-patches.result c.try_label-under.ensures.adds
    (c.len-patches.ensures ∙ c.args.under.patches.ok.0) c.keep.ensures.kept)

pub returns-in-None-clause-looked : goal.returns-in-None-clause-looked
returns-in-None-clause-looked g c =
    let left : Mended = record { label = Err c.args.fault; fault = None } in
    subst (λ (h : g.row.H.Denot). Looked (g.H.Host.seen c.args.under.host) (g.H.Host.seen h) (IsErrOf {T = Mended} {E = DamageError} (Ok left) Disk)) (sym c.keep.ensures.host)
    (looked_on _ _ _ _ c.try_label-under.ensures.looked (λ (failed : IsErrOf {T = Mended} {E = DamageError} (Ok left) Disk). absurd (cc failed)))
