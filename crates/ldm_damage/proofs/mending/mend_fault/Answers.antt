use Rattle.std.proofs.Common.{◌≡◌, ◌∙◌, ◌<◌, ◌≤◌, ◌||◌, ℕ, List, None, Err, Bool, true, false, nat_lt, IfOk, refl, sym, ap, subst, arith}
use Rattle.std.proofs.lemmas.Bool.Decides.{nat_tests}
use Rattle.ldm_host.specs.Seen.{image}
use Rattle.ldm_label.specs.Fields.{sectors_of, sector, is_protective}
use Rattle.ldm_label.specs.LabelOf.{label_of}
use Rattle.ldm_view.specs.declared.patch.Patch.{Patch}
use Rattle.ldm_view.specs.Patches.{patched}
use Rattle.ldm_damage.specs.declared.mending.Mended.{Mended}
use Rattle.ldm_damage.specs.Mending.{is_left}
use Rattle.ldm_damage.specs.Trying.{IsMended}
use Rattle.ldm_damage.proofs.LookLaws.{ok_map, looked_as, looked_then}
use Rattle.ldm_damage.proofs.TryLaws.{stays_left}
use Rattle.ldm_damage.proofs.mending.mend_fault.Goals as goal

short_left : (n m : ℕ) (b : Bool) → n ≡ m → n < 2055 → (nat_lt m 2055 || b) ≡ true
short_left n m b same lt =
    let few : nat_lt m 2055 ≡ true = grind (arith, nat_tests) in
    ap (λ (few : Bool). few || b) few

by_mbr : (n m : ℕ) (b : Bool) → n ≡ m → 2055 ≤ n → (nat_lt m 2055 || b) ≡ b
by_mbr n m b same le =
    let many : nat_lt m 2055 ≡ false = grind (arith, nat_tests) in
    ap (λ (few : Bool). few || b) many

pub returns-then-sectors-lt2055-clause-is : goal.returns-then-sectors-lt2055-clause-is
returns-then-sectors-lt2055-clause-is g c tells is =
    let disk = c.args.disk in
    let whole = image (g.H.Host.seen c.args.under.host).content disk in
    let size = c.sectors-sectors.ensures.size ∙ sym (g.met.H.Host.lengths tells c.args.under.host disk c.requires.disk) in
    stays_left whole (patched c.args.under.patches.items disk whole) (record { label = Err c.args.fault; fault = None }) c.args.fault (c.requires.plain whole)
    (short_left c.sectors-sectors.result (sectors_of whole) (is_protective (sector whole 0)) size c.if-sectors-lt2055.true) is refl refl

pub returns-in-Ok-true-clause-is : goal.returns-in-Ok-true-clause-is
returns-in-Ok-true-clause-is g c tells is =
    let disk = c.args.disk in
    let whole = image (g.H.Host.seen c.args.under.host).content disk in
    let size = c.sectors-sectors.ensures.size ∙ sym (g.met.H.Host.lengths tells c.args.under.host disk c.requires.disk) in
    let protective : is_protective (sector whole 0) ≡ true = sym (c.in-Ok-true.ensures.is tells) ∙ c.in-Ok-true.field-0-test in
    stays_left whole (patched c.has_protective_mbr.new.under.patches.items disk whole) (record { label = Err c.args.fault; fault = None }) c.args.fault
    (ap (λ (l : List Patch). patched l disk whole) c.has_protective_mbr.ensures.patches ∙ c.requires.plain whole)
    (by_mbr c.sectors-sectors.result (sectors_of whole) (is_protective (sector whole 0)) size c.if-sectors-lt2055.false ∙ protective) is refl refl

pub returns-in-Ok-false-clause-is : goal.returns-in-Ok-false-clause-is
returns-in-Ok-false-clause-is g c tells =
    let disk = c.args.disk in
    let whole = image (g.H.Host.seen c.args.under.host).content disk in
    let last = c.mend_mbr_disk.result.0 in
    let size = c.sectors-sectors.ensures.size ∙ sym (g.met.H.Host.lengths tells c.args.under.host disk c.requires.disk) in
    let plain : is_protective (sector whole 0) ≡ false = sym (c.in-Ok-false.ensures.is tells) ∙ c.in-Ok-false.field-0-test in
    let tried = by_mbr c.sectors-sectors.result (sectors_of whole) (is_protective (sector whole 0)) size c.if-sectors-lt2055.false ∙ plain in
    ok_map c.mend_mbr_disk.result.1 _ _ (λ m mends is. mends is tried)
    (subst (λ (l : List (List ℕ)). IfOk c.mend_mbr_disk.result.1 (λ (m : Mended). label_of (image l disk) ≡ Err c.args.fault → is_left (image l disk) ≡ false
    → IsMended (image l disk) m (patched last.patches.items disk (image l disk))))
    c.has_protective_mbr.ensures.looks.still.content (c.mend_mbr_disk.ensures.is tells))

pub returns-in-Ok-false-clause-looked : goal.returns-in-Ok-false-clause-looked
returns-in-Ok-false-clause-looked g c =
    let old = g.H.Host.seen c.args.under.host in
    let mid = g.H.Host.seen c.has_protective_mbr.new.under.host in
    looked_then old mid (g.H.Host.seen c.mend_mbr_disk.result.0.host) _ _ _ (looked_as old mid _ c.has_protective_mbr.ensures.looks) c.mend_mbr_disk.ensures.looked
    (λ failed. failed)
