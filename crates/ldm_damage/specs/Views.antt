-- The views of images that get over what is damaged: labels are mended, and copies of the database passed over. All that is read past
-- damage is read of these views.
use Rattle.std.specs.Prelude.{◌≡◌, ℕ, ◌<◌, List, None, length, get_or}
use Rattle.ldm_host.specs.Seen.{image}
use Rattle.ldm_label.specs.LabelOf.{label_of}
use Rattle.ldm_damage.specs.declared.damage.Damage.{Damage}
use Rattle.ldm_damage.specs.Mending.{mended, mended_fault}
use Rattle.ldm_damage.specs.Passing.{IsPassed}

-- what is damaged on an image, and its view
pub record IsDamage (image : List ℕ) (damage : Damage) (view : List ℕ) : Type 0 where
  pub label : damage.label ≡ mended_fault image
  pub copy : IsPassed (label_of (mended image)) (mended image) damage.copy view

-- what is told of a good image
abbrev pub no_damage : Damage
no_damage = record { label = None; copy = None }

-- what is damaged on each image, and their views
pub record AreDamaged (images : List (List ℕ)) (damages : List Damage) (views : List (List ℕ)) : Type 0 where
  pub one_damage : length damages ≡ length images
  pub one_view : length views ≡ length images
  pub each : (disk : ℕ) → disk < length images → IsDamage (image images disk) (get_or damages disk no_damage) (image views disk)
