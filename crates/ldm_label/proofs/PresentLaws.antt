-- Which image is that of a disk.
use Rattle.std.proofs.Common.{◌≡◌, ℕ, Bool, true, false, cond, List, length, Some, None, refl, ◌∙◌, ltb, slice_get, option_and_then}
use Rattle.std.specs.List.{position_or_len}
use Rattle.std.proofs.lemmas.Bool.{ltb-false}
use Rattle.std.proofs.lemmas.List.Folds.{find_at}
use Rattle.std.proofs.lemmas.Option.{slice_get_past}
use Rattle.ldm_label.specs.declared.Label.{Label}
use Rattle.ldm_label.specs.Present.{has_guid, image_with, label_with}

pub label_at_image : (guid : ℕ) (labels : List Label) → label_with guid labels ≡ option_and_then (λ image. slice_get labels image) (image_with guid labels)
label_at_image guid labels = find_at (has_guid guid) labels ∙ by (ltb at (length labels)) refl
  where
    at : ℕ
    at = position_or_len (has_guid guid) labels

    by : (b : Bool) → ltb at (length labels) ≡ b → slice_get labels at ≡ option_and_then {T = ℕ} {U = Label} (λ image. slice_get labels image) (cond b (Some at) None)
    by true e = refl
    by false e = slice_get_past labels at (ltb-false at (length labels) e)
