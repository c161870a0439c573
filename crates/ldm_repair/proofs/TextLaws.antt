-- The first damaged label, image by image.
use Rattle.std.proofs.Common.{◌≡◌, ℕ, ◌+◌, ◌<◌, ◌≤◌, List, Option, Some, None, drop, drop-cons, length, get_or, refl, sym, ap, add-one}
use Rattle.std.proofs.lemmas.List.{drop_all}
use Rattle.ldm_label.specs.declared.LabelFault.{LabelFault}
use Rattle.ldm_damage.specs.declared.damage.Damage.{Damage}
use Rattle.ldm_damage.specs.Views.{no_damage}
use Rattle.ldm_repair.specs.Repairing.{damaged_from, label_at}

damaged_next : (damages : List Damage) (image : ℕ) (label : Option LabelFault) → image < length damages → (get_or damages image no_damage).label ≡ label
    → damaged_from image (drop image damages) ≡ label_at image label (damaged_from (image + 1) (drop (image + 1) damages))
unfolding damaged_from
damaged_next damages image label lt is = rw (add-one, drop-cons damages image no_damage lt, is) refl

-- the label of an image is the first that is damaged
pub damaged_here : (damages : List Damage) (image : ℕ) (fault : LabelFault) → image < length damages → (get_or damages image no_damage).label ≡ Some fault
    → damaged_from image (drop image damages) ≡ Some (image, fault)
damaged_here damages image fault lt is = damaged_next damages image (Some fault) lt is

-- it isn't damaged
pub damaged_later : (damages : List Damage) (image : ℕ) → image < length damages → (get_or damages image no_damage).label ≡ None
    → damaged_from (image + 1) (drop (image + 1) damages) ≡ damaged_from image (drop image damages)
damaged_later damages image lt is = sym (damaged_next damages image None lt is)

-- no label is left
pub damaged_none : (damages : List Damage) (image : ℕ) → length damages ≤ image → damaged_from image (drop image damages) ≡ None
unfolding damaged_from
damaged_none damages image le = ap (damaged_from image) (drop_all image damages le)
