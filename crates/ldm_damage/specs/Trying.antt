-- What it comes to that views of an image are tried for a label.
use Rattle.std.specs.Prelude.{◌≡◌, ◌≢◌, ℕ, ◌-◌, ◌*◌, false, take, length, List, [], ◌∷◌, Option, Some, None, Ok, All, is_ok}
use Rattle.ldm_label.specs.declared.Label.{Label}
use Rattle.ldm_label.specs.Fields.{sectors_of, sector}
use Rattle.ldm_label.specs.LabelOf.{label_of}
use Rattle.ldm_view.specs.declared.patch.Patch.{Patch}
use Rattle.ldm_view.specs.Patches.{laid, patched}
use Rattle.ldm_damage.specs.declared.mending.Mended.{Mended}
use Rattle.ldm_damage.specs.Mending.{first_labelled, mended, mended_fault}

-- The first of these views that has a label is shown, and this is its label. Where none has one, the image is shown as before.
abbrev pub IsTried : List (List ℕ) → List ℕ → Option Label → List ℕ → Type 0
IsTried views before (Some label) after = ((other : List ℕ) → first_labelled views other ≡ after) × (label_of after ≡ Ok label)
IsTried views before None after = (after ≡ before) × All (λ view. is_ok (label_of view) ≡ false) views

-- the view with copy 3 of the private header of the image in place of copy 1, and that with copy 2
abbrev pub headed : List ℕ → List ℕ → List (List ℕ)
headed before image = laid before (512 * 6) (sector image (sectors_of image - 1)) ∷ laid before (512 * 6) (sector image (sectors_of image - 192)) ∷ []

-- an image is shown with its label mended
pub record IsMended (image : List ℕ) (m : Mended) (view : List ℕ) : Type 0 where
  pub shows : view ≡ mended image
  pub label : m.label ≡ label_of (mended image)
  pub fault : m.fault ≡ mended_fault image

-- patches of this disk alone came behind those that were there
pub record AddsPatches (disk : ℕ) (old new : List Patch) : Type 0 where
  pub front : ∥ take (length old) new ≡ old ∥₁
  pub others : (other : ℕ) (i : List ℕ) → other ≢ disk → patched new other i ≡ patched old other i
