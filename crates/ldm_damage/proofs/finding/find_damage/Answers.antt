use Rattle.std.proofs.Common.{◌≡◌, ◌≢◌, ◌∙◌, ◌<◌, ◌++◌, ◌∷◌, [], ℕ, List, length, length-append, get_or, rules, inl, inr, refl, sym, ap, subst, arith}
use Rattle.std.proofs.lemmas.Bool.{cases_eq}
use Rattle.std.proofs.lemmas.List.{get_or_append_left}
use Rattle.ldm_host.specs.Seen.{image}
use Rattle.ldm_host.proofs.Relations.{still_itself}
use Rattle.ldm_damage.specs.declared.damage.Damage.{Damage}
use Rattle.ldm_view.specs.declared.patch.Patch.{Patch}
use Rattle.ldm_view.specs.declared.patched.Patched.{Patched}
use Rattle.ldm_view.specs.Patches.{patched}
use Rattle.ldm_view.specs.PatchLaws.{length-shown, image_shown}
use Rattle.ldm_view.proofs.PatchedLaws.{patched_none}
use Rattle.ldm_damage.specs.Looked.{Looked}
use Rattle.ldm_damage.specs.Views.{IsDamage, no_damage}
use Rattle.ldm_damage.proofs.LookLaws.{same_sizes, same_content, looked_then, ok_at, last_of_more}
use Rattle.ldm_damage.proofs.finding.find_damage.Goals as goal

pub loop-disk-init : goal.loop-disk-init
loop-disk-init g c =
    let host = c.args.host in
    let still = still_itself (g.H.Host.seen host) (g.met.H.Host.counts_now host) (g.met.H.Host.only_now host) in
    let itself : Looked (g.H.Host.seen host) (g.H.Host.seen host) ⊥ = record { still = ∣ still ∣₁; quiet = record { said = refl; heard = refl; input = refl }; cause = λ failed. absurd failed } in
    record {
      looked = subst (λ (h : g.row.H.Denot). Looked (g.H.Host.seen host) (g.H.Host.seen h) ⊥) (sym c.new-under.ensures.host) itself;
      one_damage = ap length c.new-damages.ensures.items;
      none = λ d i le. ap (λ (l : List Patch). patched l d i) c.new-under.ensures.none ∙ patched_none d i;
      each = λ tells d lt. absurd (omega arith);
    }

pub pass_disk-next-requires-clause-disk : goal.pass_disk-next-requires-clause-disk
pass_disk-next-requires-clause-disk g c =
    let sizes = same_sizes (g.H.Host.seen c.args.host) (g.H.Host.seen c.loop-disk.under.host) c.loop-disk.invariant.looked.still in
    let first = ap (λ (h : g.row.H.Denot). length (g.H.Host.seen h).sizes) c.new-under.ensures.host in
    omega (arith, ap length sizes, first, c.disks-disk-end.ensures, c.loop-disk-test.true)

pub pass_disk-next-requires-clause-plain : goal.pass_disk-next-requires-clause-plain
pass_disk-next-requires-clause-plain g c i = c.loop-disk.invariant.none c.loop-disk.disk i (omega arith)

pub returns-in-Err-clause-looked : goal.returns-in-Err-clause-looked
returns-in-Err-clause-looked g c =
    looked_then (g.H.Host.seen c.args.host) (g.H.Host.seen c.loop-disk.under.host) (g.H.Host.seen c.pass_disk-next.result.0.host) _ _ _ c.loop-disk.invariant.looked c.pass_disk-next.ensures.looked
    (λ is. c.in-Err.ensures.disk (search rules))

pub loop-disk-preserved : goal.loop-disk-preserved
loop-disk-preserved g c = record {
  looked = looked_then (g.H.Host.seen c.args.host) (g.H.Host.seen c.loop-disk.under.host) (g.H.Host.seen next.host) _ _ _ c.loop-disk.invariant.looked c.pass_disk-next.ensures.looked (λ failed. absurd failed);
  one_damage = omega (arith, ap length items, length-append {A = Damage}, c.loop-disk.invariant.one_damage);
  none = λ d i le. others d i (λ is. omega arith) ∙ c.loop-disk.invariant.none d i (omega arith);
  each = λ tells d lt. elim (cases_eq d disk) [
    | inl is ↦ subst (λ (k : ℕ). IsDamage (image content k) (get_or c.note.new.damages.items k no_damage) (patched next.patches.items k (image content k))) (sym is) (here tells)
    | inr ne ↦ before tells d (omega arith) ne
  ];
}
  where
    disk : ℕ
    disk = c.loop-disk.disk

    next : Patched g.row.H.Denot g.H.Host
    next = c.pass_disk-next.result.0

    content : List (List ℕ)
    content = (g.H.Host.seen c.args.host).content

    now : List (List ℕ)
    now = (g.H.Host.seen c.loop-disk.under.host).content

    damage : Damage
    damage = c.in_default.ensures.found.0

    items : c.note.new.damages.items ≡ c.loop-disk.damages.items ++ damage ∷ []
    items = ok_at c.pass_disk-next.result.1 (λ f. c.note.new.damages.items ≡ c.loop-disk.damages.items ++ f ∷ []) damage c.in_default.ensures.found.1 c.in_default.ensures.noted

    others : (d : ℕ) (i : List ℕ) → d ≢ disk → patched next.patches.items d i ≡ patched c.loop-disk.under.patches.items d i
    others = ok_at c.pass_disk-next.result.1 (λ f. (d : ℕ) (i : List ℕ) → d ≢ disk → patched next.patches.items d i ≡ patched c.loop-disk.under.patches.items d i) damage c.in_default.ensures.found.1 c.pass_disk-next.ensures.others

    here : g.H.Host.tells_disks → IsDamage (image content disk) (get_or c.note.new.damages.items disk no_damage) (patched next.patches.items disk (image content disk))
    here tells =
        let is = ok_at c.pass_disk-next.result.1 (λ f. IsDamage (image now disk) f (patched next.patches.items disk (image now disk))) damage c.in_default.ensures.found.1 (c.pass_disk-next.ensures.is tells) in
        let same = same_content (g.H.Host.seen c.args.host) (g.H.Host.seen c.loop-disk.under.host) c.loop-disk.invariant.looked.still in
        let held : get_or c.note.new.damages.items disk no_damage ≡ damage = ap (λ (l : List Damage). get_or l disk no_damage) items ∙ last_of_more c.loop-disk.damages.items damage no_damage disk c.loop-disk.invariant.one_damage in
        subst (λ (f : Damage). IsDamage (image content disk) f (patched next.patches.items disk (image content disk))) (sym held)
        (subst (λ (l : List (List ℕ)). IsDamage (image l disk) damage (patched next.patches.items disk (image l disk))) same is)

    before : g.H.Host.tells_disks → (d : ℕ) → d < disk → d ≢ disk → IsDamage (image content d) (get_or c.note.new.damages.items d no_damage) (patched next.patches.items d (image content d))
    before tells d lt ne =
        let held : get_or c.note.new.damages.items d no_damage ≡ get_or c.loop-disk.damages.items d no_damage =
        ap (λ (l : List Damage). get_or l d no_damage) items ∙ get_or_append_left c.loop-disk.damages.items (damage ∷ []) no_damage d (omega (arith, c.loop-disk.invariant.one_damage)) in
        subst (λ (f : Damage). IsDamage (image content d) f (patched next.patches.items d (image content d))) (sym held)
        (subst (λ (v : List ℕ). IsDamage (image content d) (get_or c.loop-disk.damages.items d no_damage) v) (sym (others d (image content d) ne)) (c.loop-disk.invariant.each tells d lt))

pub returns-clause-is : goal.returns-clause-is
returns-clause-is g c tells =
    let content = (g.H.Host.seen c.args.host).content in
    let patches = c.loop-disk.under.patches.items in
    let first = ap (λ (h : g.row.H.Denot). length (g.H.Host.seen h).sizes) c.new-under.ensures.host in
    let count : c.loop-disk.disk ≡ length content = omega (arith, first, g.met.H.Host.one_each tells c.args.host, c.disks-disk-end.ensures, c.loop-disk-test.false, c.loop-disk.auto.disk-end) in
    record {
      one_damage = c.loop-disk.invariant.one_damage ∙ count;
      one_view = length-shown patches content;
      each = λ disk lt. subst (λ (v : List ℕ). IsDamage (image content disk) (get_or c.loop-disk.damages.items disk no_damage) v) (sym (image_shown patches disk content lt))
          (c.loop-disk.invariant.each tells disk (omega (arith, count)));
    }
