-- What holds of what is damaged on images, and of their views.
use Rattle.std.specs.Prelude.{◌≡◌, ℕ, List, get_or}
use Rattle.ldm_damage.specs.declared.damage.Damage.{Damage}
use Rattle.ldm_damage.specs.Views.{AreDamaged, no_damage}

-- where nothing is damaged, each view is its image
abbrev pub PlainIsShown : Type 0
PlainIsShown = (images views : List (List ℕ)) (damages : List Damage) → AreDamaged images damages views
    → ((disk : ℕ) → get_or damages disk no_damage ≡ no_damage) → views ≡ images

-- there is one answer: what is damaged, and the views
abbrev pub OneDamage : Type 0
OneDamage = (images v w : List (List ℕ)) (p q : List Damage) → AreDamaged images p v → AreDamaged images q w → (p ≡ q) × (v ≡ w)
