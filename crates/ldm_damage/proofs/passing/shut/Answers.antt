use Rattle.std.proofs.Common.{◌≡◌, ◌∙◌, ◌+◌, ◌*◌, ℕ, List, [], ◌∷◌, Option, Some, rules, refl, sym, ap}
use Rattle.ldm_label.specs.declared.Label.{Label}
use Rattle.ldm_copy.specs.declared.answer.CopyFault.{CopyFault}
use Rattle.ldm_copy.specs.Copy.{gate_at}
use Rattle.ldm_view.specs.declared.patch.Patch.{Patch}
use Rattle.ldm_view.specs.Patches.{laid, patched}
use Rattle.ldm_view.proofs.PatchedLaws.{patched_snoc, with_here, with_other}
use Rattle.ldm_damage.specs.Passing.{shut_by}
use Rattle.ldm_damage.proofs.passing.shut.Goals as goal

shut_some : (fault : Option CopyFault) (of : CopyFault) (label : Label) (bytes : List ℕ) → fault ≡ Some of → laid bytes (gate_at label) (0 ∷ []) ≡ shut_by fault label bytes
shut_some fault of label bytes is = ap (λ f. shut_by f label bytes) (sym is)

pub returns-clause-here : goal.returns-clause-here
returns-clause-here g c i =
    let label = c.args.label.now in
    let p : Patch = record { disk = c.args.disk; at = 512 * (label.config_start + label.area_start); bytes = c.in_ok-bytes.bytes } in
    let old = patched c.args.under.now.patches.items c.args.disk i in
    let items : c.in_ok-bytes.bytes.items ≡ 0 ∷ [] = search rules in
    ap (λ (l : List Patch). patched l c.args.disk i) c.in_ok-show.ensures.shown
    ∙ patched_snoc c.args.under.now.patches.items p c.args.disk i
    ∙ with_here c.args.disk p old refl
    ∙ ap (laid old (gate_at label)) items
    ∙ shut_some c.args.fault _ label old c.in-Some.is

pub returns-clause-others : goal.returns-clause-others
returns-clause-others g c d i ne =
    let label = c.args.label.now in
    let p : Patch = record { disk = c.args.disk; at = 512 * (label.config_start + label.area_start); bytes = c.in_ok-bytes.bytes } in
    ap (λ (l : List Patch). patched l d i) c.in_ok-show.ensures.shown
    ∙ patched_snoc c.args.under.now.patches.items p d i
    ∙ with_other d p (patched c.args.under.now.patches.items d i) (λ is. ne (sym is))
