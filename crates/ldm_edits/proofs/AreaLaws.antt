-- The least of the config areas.
use Rattle.std.proofs.Common.{◌≡◌, ℕ, zero, suc, ◌-◌, ◌≤◌, List, [], ◌∷◌, length, min, refl, arith, Contains, get_or, take, drop, fold}
use Rattle.ldm_edits.proofs.Common.{Label}
use Rattle.std.proofs.lemmas.Grind.{common_steps}
use Rattle.ldm_places.proofs.LeastLaws.{least_whole}
use Rattle.ldm_edits.specs.Changes.{least_area, most_blocks, AreasFit}

-- no area is less than the least
pub least_of : (labels : List Label) (label : Label) → Contains labels label → least_area labels ≤ label.area_sectors
least_of (l ∷ (m ∷ labels)) label (suc k, lt, is) = (let rest = least_of (m ∷ labels) label (k, omega arith, is) in omega arith)
least_of (l ∷ labels) label (zero, lt, is) = grind (arith, common_steps)
least_of _ label (k, lt, is) = absurd (omega arith)

-- what a walk over the labels finds
pub least_walked : (labels : List Label) (d : Label) (r : ℕ) → 1 ≤ length labels
    → r ≡ fold (λ m (l : Label). min m l.area_sectors) (get_or labels 0 d).area_sectors (take (length labels - 1) (drop 1 labels)) → r ≡ least_area labels
least_walked labels d r some walked = least_whole (λ (l : Label). l.area_sectors) labels labels (get_or labels 0 d) d (get_or labels 0 d).area_sectors r some refl refl walked refl

-- no area has more than 2048 sectors, so the least hasn't
pub least_low : (labels : List Label) → AreasFit labels → least_area labels ≤ 2048
least_low [] low = omega arith
least_low (l ∷ labels) low = omega (arith, low 0 l (omega arith), least_of (l ∷ labels) l (0, omega arith, refl))

pub most_low : (labels : List Label) → AreasFit labels → most_blocks labels ≤ 8188
most_low labels low = grind (arith, least_low)
