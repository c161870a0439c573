-- Images that read alike hold one group.
use Rattle.std.proofs.Common.{◌≡◌, ◌<◌, ℕ, zero, suc, List, [], ◌∷◌, Option, Some, None, Result, Ok, Err, length, ◌∙◌, arith}
use Rattle.std.specs.Prelude.{zip}
use Rattle.ldm_host.specs.Seen.{image}
use Rattle.ldm_label.specs.declared.Label.{Label}
use Rattle.ldm_label.specs.declared.LabelFault.{LabelFault}
use Rattle.ldm_copy.specs.declared.fault.OpenFault.{OpenFault}
use Rattle.ldm_copy.specs.declared.found.Found.{Found}
use Rattle.ldm_found.specs.Gathers.{Gathers}
use Rattle.ldm_found.specs.Labels.{IsLabelOf}
use Rattle.ldm_found.specs.Copies.{IsCopyIn}
use Rattle.ldm_found.specs.Opening.{IsGroupOfDisks, IsGroupOfLabels, IsGroupIn}
use Rattle.ldm_repair.specs.Closing.{ReadsAlike}

-- what is gathered of one list is gathered of another
abbrev AllPass : {A B F : Type 0} → (A → Result B F → Type 0) → List A → List A → Type 0
AllPass Is [] [] = Unit {0}
AllPass {B = B} {F = F} Is (a ∷ xs) (b ∷ ys) = ((r : Result B F) → Is a r → Is b r) × AllPass Is xs ys
AllPass Is _ _ = ⊥

gathers_pass : {A B F : Type 0} (Is : A → Result B F → Type 0) (xs ys : List A) (r : Result (List B) (ℕ × F)) → AllPass Is xs ys → Gathers Is xs r → Gathers Is ys r
gathers_pass Is [] [] r all is = is
gathers_pass Is [] (b ∷ ys) r all is = absurd all
gathers_pass Is (a ∷ xs) [] r all is = absurd all
gathers_pass Is (a ∷ xs) (b ∷ ys) (Ok []) all is = is
gathers_pass Is (a ∷ xs) (b ∷ ys) (Ok (c ∷ cs)) all is = (all.0 (Ok c) is.0, gathers_pass Is xs ys (Ok cs) all.1 is.1)
gathers_pass Is (a ∷ xs) (b ∷ ys) (Err (zero, fault)) all is = all.0 (Err fault) is
gathers_pass Is (a ∷ xs) (b ∷ ys) (Err (suc place, fault)) all is = ((is.0.0, all.0 (Ok is.0.0) is.0.1), gathers_pass Is xs ys (Err (place, fault)) all.1 is.1)

abbrev AllAlike : List (List ℕ) → List (List ℕ) → Type 0
AllAlike [] [] = Unit {0}
AllAlike (a ∷ xs) (b ∷ ys) = ReadsAlike a b × AllAlike xs ys
AllAlike _ _ = ⊥

all_alike : (old new : List (List ℕ)) → length new ≡ length old → ((disk : ℕ) → disk < length old → ReadsAlike (image old disk) (image new disk)) → AllAlike old new
all_alike [] [] len each = tt
all_alike [] (b ∷ ys) len each = absurd (omega arith)
all_alike (a ∷ xs) [] len each = absurd (omega arith)
all_alike (a ∷ xs) (b ∷ ys) len each = (each 0 (omega arith), all_alike xs ys (omega arith) (λ disk lt. each (suc disk) (omega arith)))

labels_pass : (old new : List (List ℕ)) → AllAlike old new → AllPass IsLabelOf old new
labels_pass [] [] all = tt
labels_pass [] (b ∷ ys) all = absurd all
labels_pass (a ∷ xs) [] all = absurd all
labels_pass (a ∷ xs) (b ∷ ys) all = ((λ r is. all.0.label ∙ is), labels_pass xs ys all.1)

copies_pass : (old new : List (List ℕ)) (labels : List Label) → AllAlike old new → Gathers IsLabelOf old (Ok labels) → AllPass IsCopyIn (zip labels old) (zip labels new)
copies_pass [] [] labels all is = absurd_or labels is
  where
    absurd_or : (labels : List Label) → Gathers IsLabelOf [] (Ok labels) → AllPass IsCopyIn (zip labels []) (zip labels [])
    absurd_or [] is = tt
    absurd_or (l ∷ more) is = absurd is
copies_pass [] (b ∷ ys) labels all is = absurd all
copies_pass (a ∷ xs) [] labels all is = absurd all
copies_pass (a ∷ xs) (b ∷ ys) [] all is = absurd is
copies_pass (a ∷ xs) (b ∷ ys) (l ∷ labels) all is = ((λ r copy. all.0.copy l r is.0 copy), copies_pass xs ys labels all.1 is.1)

disks_pass : (old new : List (List ℕ)) (labels : List Label) (twins : Option (ℕ × ℕ)) (group : Result Found OpenFault) → AllAlike old new → Gathers IsLabelOf old (Ok labels)
    → IsGroupOfDisks twins old labels group → IsGroupOfDisks twins new labels group
disks_pass old new labels (Some pair) group all gathered is = is
disks_pass old new labels None group all gathered is = (is.0, gathers_pass IsCopyIn (zip labels old) (zip labels new) is.0 (copies_pass old new labels all gathered) is.1, is.2)

group_pass : (old new : List (List ℕ)) (labels : Result (List Label) (ℕ × LabelFault)) (group : Result Found OpenFault) → AllAlike old new → Gathers IsLabelOf old labels
    → IsGroupOfLabels labels old group → IsGroupOfLabels labels new group
group_pass old new (Err at) group all gathered is = is
group_pass old new (Ok labels) group all gathered is = (is.0, is.1, disks_pass old new labels is.0 group all gathered is.2)

pub alike_hold_one_group : (old new : List (List ℕ)) (group : Result Found OpenFault) → length new ≡ length old
    → ((disk : ℕ) → disk < length old → ReadsAlike (image old disk) (image new disk)) → IsGroupIn old group → IsGroupIn new group
alike_hold_one_group old new group len each is =
    let all = all_alike old new len each in
    (is.0, gathers_pass IsLabelOf old new is.0 (labels_pass old new all) is.1, group_pass old new is.0 group all is.1 is.2)
