-- Images with one patch more.
use Rattle.std.proofs.Common.{◌≡◌, ℕ, ◌+◌, List, [], ◌∷◌, ◌++◌, take, slice_get, Some, refl, ◌∙◌, ap, arith}
use Rattle.std.proofs.lemmas.Bool.Decides.{nat_tests}
use Rattle.std.proofs.lemmas.List.{take_more}
use Rattle.std.proofs.lemmas.Option.{get_or_from_slice_get, slice_get_within}
use Rattle.ldm_view.specs.declared.patch.Patch.{Patch}
use Rattle.ldm_view.specs.Patches.{laid, with_patch, patched}

pub with_here : (disk : ℕ) (p : Patch) (bytes : List ℕ) → p.disk ≡ disk → with_patch disk p bytes ≡ laid bytes p.at p.bytes.items
with_here disk p bytes is = grind (arith, nat_tests)

pub with_other : (disk : ℕ) (p : Patch) (bytes : List ℕ) → (p.disk ≡ disk → ⊥) → with_patch disk p bytes ≡ bytes
with_other disk p bytes ne = grind (arith, nat_tests)

pub patched_snoc : (patches : List Patch) (p : Patch) (disk : ℕ) (bytes : List ℕ) → patched (patches ++ p ∷ []) disk bytes ≡ with_patch disk p (patched patches disk bytes)
unfolding patched
patched_snoc [] p disk bytes = refl
patched_snoc (q ∷ more) p disk bytes = patched_snoc more p disk (with_patch disk q bytes)

pub patched_none : (disk : ℕ) (bytes : List ℕ) → patched [] disk bytes ≡ bytes
unfolding patched
patched_none disk bytes = refl

-- one patch more of those that are laid
pub patched_more : (patches : List Patch) (k : ℕ) (p : Patch) (disk : ℕ) (bytes : List ℕ) → slice_get patches k ≡ Some p
    → patched (take (k + 1) patches) disk bytes ≡ with_patch disk p (patched (take k patches) disk bytes)
patched_more patches k p disk bytes at =
    ap (λ (l : List Patch). patched l disk bytes) (take_more patches k p (slice_get_within patches k p at) ∙ ap (λ (q : Patch). take k patches ++ q ∷ []) (get_or_from_slice_get patches k p p at))
    ∙ patched_snoc (take k patches) p disk bytes
