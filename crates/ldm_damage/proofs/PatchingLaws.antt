-- Patches that come behind others.
use Rattle.std.proofs.Common.{◌≡◌, ℕ, ◌≤◌, List, [], ◌∷◌, ◌++◌, length, take, drop, sym, ◌∙◌, ap, arith}
use Rattle.std.proofs.Math.Logic.{∥∥₁_map, ∥∥₁_elim}
use Rattle.std.proofs.Math.Seq.{take-append_seam}
use Rattle.std.proofs.Props.{props}
use Rattle.std.proofs.lemmas.List.{take_all, length-take, take-append-drop, take-append-le}
use Rattle.ldm_view.specs.declared.patch.Patch.{Patch}
use Rattle.ldm_view.specs.Patches.{laid, patched}
use Rattle.ldm_view.proofs.PatchedLaws.{patched_snoc, with_here, with_other}
use Rattle.ldm_view.proofs.ViewLaws.{shows_as}
use Rattle.ldm_damage.specs.Trying.{AddsPatches}

same_front : (a b c : List Patch) → take (length a) b ≡ a → take (length b) c ≡ b → take (length a) c ≡ a
same_front a b c first second =
    ap (take (length a)) (sym (take-append-drop (length b) c) ∙ ap (λ (l : List Patch). l ++ drop (length b) c) second)
    ∙ take-append-le (length a) b (drop (length b) c) room ∙ first
  where
    room : length a ≤ length b
    room = omega (arith, sym (length-take (length a) b) ∙ ap length first)

-- patches that stayed
pub adds_none : (disk : ℕ) (old new : List Patch) → ∥ new ≡ old ∥₁ → AddsPatches disk old new
adds_none disk old new same = record {
  front = ∥∥₁_map same (λ (is : new ≡ old). ap (take (length old)) is ∙ take_all (length old) old (omega arith));
  others = λ other i ne. shows_as old new other i same;
}

-- one patch more
pub adds_one : (disk : ℕ) (old new : List Patch) (p : Patch) → p.disk ≡ disk → new ≡ old ++ p ∷ [] → AddsPatches disk old new
adds_one disk old new p here is = record {
  front = ∣ ap (take (length old)) is ∙ take-append_seam old (p ∷ []) ∣₁;
  others = λ other i ne. ap (λ (l : List Patch). patched l other i) is ∙ patched_snoc old p other i
      ∙ with_other other p (patched old other i) (λ there. ne (sym there ∙ here));
}

-- patches in two goes
pub adds_then : (disk : ℕ) (a b c : List Patch) → AddsPatches disk a b → AddsPatches disk b c → AddsPatches disk a c
adds_then disk a b c first second = record {
  front = ∥∥₁_elim first.front (hlevel props) (λ (x : take (length a) b ≡ a). ∥∥₁_map second.front (λ (y : take (length b) c ≡ b). same_front a b c x y));
  others = λ other i ne. second.others other i ne ∙ first.others other i ne;
}

-- patches that were left off again
pub left_off : (disk : ℕ) (old new kept : List Patch) (n : ℕ) → AddsPatches disk old new → n ≡ length old → kept ≡ take n new → ∥ kept ≡ old ∥₁
left_off disk old new kept n adds count is = ∥∥₁_map adds.front (λ (front : take (length old) new ≡ old). is ∙ ap (λ (k : ℕ). take k new) count ∙ front)

-- what a patch shows of its disk
pub shows_one : (disk : ℕ) (old new : List Patch) (p : Patch) (i : List ℕ) → p.disk ≡ disk → new ≡ old ++ p ∷ []
    → patched new disk i ≡ laid (patched old disk i) p.at p.bytes.items
shows_one disk old new p i here is = ap (λ (l : List Patch). patched l disk i) is ∙ patched_snoc old p disk i ∙ with_here disk p (patched old disk i) here

-- after a call that leaves the patches
pub adds_same : (disk : ℕ) (a b c : List Patch) → AddsPatches disk a b → ∥ c ≡ b ∥₁ → AddsPatches disk a c
adds_same disk a b c adds same = adds_then disk a b c adds (adds_none disk b c same)

-- after a call that leaves the patches, and then some are left off
pub left_same : (disk : ℕ) (a b c kept : List Patch) (n : ℕ) → AddsPatches disk a b → ∥ c ≡ b ∥₁ → n ≡ length a → kept ≡ take n c → ∥ kept ≡ a ∥₁
left_same disk a b c kept n adds same count is = left_off disk a c kept n (adds_same disk a b c adds same) count is
