-- There is one answer to what is damaged.
use Rattle.std.proofs.Common.{◌≡◌, ◌<◌, ℕ, List, [], ◌∷◌, Option, Some, None, Result, Ok, Err, Bool, true, false, is_ok, if◌then◌else◌, length, get_or, refl, sym, ◌∙◌, ap, subst, arith}
use Rattle.std.proofs.lemmas.List.{same_lists}
use Rattle.std.proofs.lemmas.Option.{slice_get-get_or, same_Some}
use Rattle.ldm_host.specs.Seen.{image}
use Rattle.ldm_label.specs.declared.Label.{Label}
use Rattle.ldm_label.specs.declared.LabelFault.{LabelFault}
use Rattle.ldm_label.specs.LabelOf.{label_of}
use Rattle.ldm_copy.specs.declared.answer.CopyFault.{CopyFault}
use Rattle.ldm_copy.specs.Copy.{config_area}
use Rattle.ldm_copy.proofs.OneCopy.{one_copy}
use Rattle.ldm_damage.specs.Passing.{IsFaultOfCopy, IsPassed, shut_by}
use Rattle.ldm_damage.specs.Mending.{first_labelled, is_left, mended, mended_by, mended_fault, tries}
use Rattle.ldm_damage.specs.Views.{IsDamage, no_damage}
use Rattle.ldm_damage.specs.declared.damage.Damage.{Damage}
use Rattle.ldm_damage.specs.Laws.{PlainIsShown, OneDamage}

any_default : {A : Type 0} (xs : List A) (k : ℕ) (d e : A) → k < length xs → get_or xs k d ≡ get_or xs k e
any_default xs k d e lt = same_Some (get_or xs k d) (get_or xs k e) (sym (slice_get-get_or xs k d lt) ∙ slice_get-get_or xs k e lt)

same_each : {A : Type 0} (xs ys : List A) (e : A) → length xs ≡ length ys → ((disk : ℕ) → disk < length xs → get_or xs disk e ≡ get_or ys disk e) → xs ≡ ys
same_each xs ys e len each = same_lists xs ys len (λ k d lt. any_default xs k d e lt ∙ each k lt ∙ any_default ys k e d (omega arith))

-- ---- nothing is damaged

-- where none of the views has a label, it is the image
first_of_none : (views : List (List ℕ)) (bytes : List ℕ) (fault : LabelFault) → label_of (first_labelled views bytes) ≡ Err fault → first_labelled views bytes ≡ bytes
first_of_none [] bytes fault none = refl
first_of_none (view ∷ more) bytes fault none = by_label (first_of_none more bytes fault) (label_of view) refl
  where
    by_label : (label_of (first_labelled more bytes) ≡ Err fault → first_labelled more bytes ≡ bytes)
        → (label : Result Label LabelFault) → label_of view ≡ label → first_labelled (view ∷ more) bytes ≡ bytes
    by_label behind (Ok label) is =
        let chosen : first_labelled (view ∷ more) bytes ≡ view = ap (λ (l : Result Label LabelFault). if is_ok l then view else first_labelled more bytes) is in
        absurd (cc (sym is ∙ sym (ap label_of chosen) ∙ none))
    by_label behind (Err other) is =
        let chosen : first_labelled (view ∷ more) bytes ≡ first_labelled more bytes = ap (λ (l : Result Label LabelFault). if is_ok l then view else first_labelled more bytes) is in
        chosen ∙ behind (sym (ap label_of chosen) ∙ none)

-- an image with a label is its mended view
pub labelled_stays : (bytes : List ℕ) (label : Label) → label_of bytes ≡ Ok label → mended bytes ≡ bytes
unfolding mended
labelled_stays bytes label is = by_left (is_left bytes)
  where
    by_left : (left : Bool) → (if left then bytes else first_labelled (bytes ∷ tries bytes) bytes) ≡ bytes
    by_left true = refl
    by_left false = ap (λ (l : Result Label LabelFault). if is_ok l then bytes else first_labelled (tries bytes) bytes) is

-- an image whose label can't be mended is its own mended view too
pub unlabelled_stays : (bytes : List ℕ) (fault : LabelFault) → label_of (mended bytes) ≡ Err fault → mended bytes ≡ bytes
unfolding mended
unlabelled_stays bytes fault = by_left (is_left bytes)
  where
    by_left : (left : Bool) → label_of (if left then bytes else first_labelled (bytes ∷ tries bytes) bytes) ≡ Err fault
        → (if left then bytes else first_labelled (bytes ∷ tries bytes) bytes) ≡ bytes
    by_left true none = refl
    by_left false none = first_of_none (bytes ∷ tries bytes) bytes fault none

unmended : (bytes : List ℕ) → mended_fault bytes ≡ None → mended bytes ≡ bytes
unmended bytes none = by_labels (label_of bytes) (label_of (mended bytes)) refl refl none
  where
    by_labels : (own shown : Result Label LabelFault) → label_of bytes ≡ own → label_of (mended bytes) ≡ shown → mended_by own shown ≡ None → mended bytes ≡ bytes
    by_labels (Ok label) shown is is_shown gone = labelled_stays bytes label is
    by_labels (Err fault) (Err other) is is_shown gone = unlabelled_stays bytes other is_shown
    by_labels (Err fault) (Ok label) is is_shown gone = absurd (cc gone)

plain_view : (label : Result Label LabelFault) (bytes view : List ℕ) → IsPassed label bytes None view → view ≡ bytes
plain_view (Ok label) bytes view is = is.1
plain_view (Err fault) bytes view is = is.1

undamaged : (bytes view : List ℕ) (damage : Damage) → damage ≡ no_damage → IsDamage bytes damage view → view ≡ bytes
undamaged bytes view damage none is =
    plain_view (label_of (mended bytes)) (mended bytes) view (subst (λ (d : Damage). IsPassed (label_of (mended bytes)) (mended bytes) d.copy view) none is.copy)
    ∙ unmended bytes (sym is.label ∙ ap (λ (d : Damage). d.label) none)

pub plain_is_shown : PlainIsShown
plain_is_shown images views damages are none = same_each views images [] are.one_view (λ disk lt.
    undamaged (image images disk) (image views disk) (get_or damages disk no_damage) (none disk) (are.each disk (omega (arith, lt, are.one_view))))

-- ---- one answer

one_fault : (area : List ℕ) (sectors : ℕ) (a b : Option CopyFault) → IsFaultOfCopy area sectors a → IsFaultOfCopy area sectors b → a ≡ b
one_fault area sectors None None x y = refl
one_fault area sectors None (Some g) x y = let same = one_copy area sectors (Ok x.0) (Err g) x.1 y in absurd (cc same)
one_fault area sectors (Some f) None x y = let same = one_copy area sectors (Err f) (Ok y.0) x y.1 in absurd (cc same)
one_fault area sectors (Some f) (Some g) x y = let same = one_copy area sectors (Err f) (Err g) x y in cc same

one_passed : (label : Result Label LabelFault) (bytes v w : List ℕ) (p q : Option CopyFault) → IsPassed label bytes p v → IsPassed label bytes q w → (p ≡ q) × (v ≡ w)
one_passed (Err fault) bytes v w p q x y = (x.0 ∙ sym y.0, x.1 ∙ sym y.1)
one_passed (Ok label) bytes v w p q x y =
    let same = one_fault (config_area label bytes) label.area_sectors p q x.0 y.0 in
    (same, x.1 ∙ ap (λ (f : Option CopyFault). shut_by f label bytes) same ∙ sym y.1)

abbrev with_both : Option LabelFault → Option CopyFault → Damage
with_both label copy = record { label = label; copy = copy }

same_damage : (a b : Damage) → a.label ≡ b.label → a.copy ≡ b.copy → a ≡ b
same_damage a b label copy = ap (λ (l : Option LabelFault). with_both l a.copy) label ∙ ap (with_both b.label) copy

one_of : (bytes v w : List ℕ) (a b : Damage) → IsDamage bytes a v → IsDamage bytes b w → (a ≡ b) × (v ≡ w)
one_of bytes v w a b x y =
    let same = one_passed (label_of (mended bytes)) (mended bytes) v w a.copy b.copy x.copy y.copy in
    (same_damage a b (x.label ∙ sym y.label) same.0, same.1)

pub one_damage : OneDamage
one_damage images v w p q x y = (
  same_each p q no_damage (x.one_damage ∙ sym y.one_damage) (λ disk lt. (both disk (omega (arith, lt, x.one_damage))).0),
  same_each v w [] (x.one_view ∙ sym y.one_view) (λ disk lt. (both disk (omega (arith, lt, x.one_view))).1),
)
  where
    both : (disk : ℕ) → disk < length images → (get_or p disk no_damage ≡ get_or q disk no_damage) × (image v disk ≡ image w disk)
    both disk lt = one_of (image images disk) (image v disk) (image w disk) (get_or p disk no_damage) (get_or q disk no_damage) (x.each disk lt) (y.each disk lt)
