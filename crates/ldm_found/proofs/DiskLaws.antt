-- The labels of all images.
use Rattle.std.proofs.Common.{◌≡◌, ◌⊎◌, inl, inr, ⊎_elim, ℕ, zero, suc, ◌+◌, ◌-◌, ◌<◌, ◌≤◌, ◌==◌, Bool, true, List, [], ◌∷◌, ◌++◌, length, get_or, drop, take, Option, Some, None, Ok, Err, refl, sym, ap, subst, ◌∙◌, arith}
use Rattle.std.specs.Prelude.{position, slice_get, slice_index}
use Rattle.std.proofs.lemmas.Bool.{cases_lt, cases_eq, eq-eqb, eqb-true, false≢true}
use Rattle.std.proofs.lemmas.List.{take_all, length-drop, get_or-drop}
use Rattle.std.proofs.lemmas.List.Quantifiers.{position-Some}
use Rattle.std.proofs.lemmas.Option.{none-some, same_Some, slice_get_within, get_or_from_slice_get, slice_get-get_or}
use Rattle.ldm_host.specs.Seen.{image}
use Rattle.ldm_label.specs.declared.Label.{Label}
use Rattle.ldm_label.specs.LabelOf.{Fits}
use Rattle.ldm_copy.specs.declared.fault.OpenFault.TheVariants as faults
use Rattle.ldm_found.specs.declared.fault.OpenError.{OpenError}
use Rattle.ldm_found.specs.declared.fault.OpenError.TheVariants.{Fault, Disk, NoMemory}
use Rattle.ldm_found.specs.Gathers.{Gathers}
use Rattle.ldm_found.specs.Labels.{IsLabelOf, AreOneDisk, AreTwins}
use Rattle.ldm_found.specs.Steps.{ReadsLabel, ReadsLabels}
use Rattle.ldm_found.proofs.CopyLaws.{gather_ends, none_passes}

-- ---- an element of a list with one more

get_more : {X : Type 0} (xs : List X) (x : X) (k : ℕ) (y : X) → slice_get (xs ++ x ∷ []) k ≡ Some y → (slice_get xs k ≡ Some y) ⊎ ((k ≡ length xs) × (x ≡ y))
get_more [] x zero y is = inr (refl, same_Some x y is)
get_more [] x (suc k) y is = absurd (none-some y is)
get_more (z ∷ xs) x zero y is = inl is
get_more (z ∷ xs) x (suc k) y is = ⊎_elim (λ before. inl before) (λ here. inr (ap suc here.0, here.1)) (get_more xs x k y is)

-- each label fits its disk
abbrev pub AllFit : List Label → List ℕ → Type 0
AllFit labels sizes = (disk : ℕ) (label : Label) → slice_get labels disk ≡ Some label → Fits label (slice_index sizes disk)

pub fit_more : (labels : List Label) (sizes : List ℕ) (label : Label) (disk : ℕ) → length labels ≡ disk → AllFit labels sizes → Fits label (slice_index sizes disk) → AllFit (labels ++ label ∷ []) sizes
fit_more labels sizes label disk at before here k other is =
    ⊎_elim (λ old. before k other old)
    (λ new. subst (λ (l : Label). Fits l (slice_index sizes k)) new.1 (subst (λ (n : ℕ). Fits label (slice_index sizes n)) (sym at ∙ sym new.0) here))
    (get_more labels label k other is)

-- ---- images of one disk

-- no image before a place is of one disk with a later one
abbrev pub NoneBefore : List Label → ℕ → Type 0
NoneBefore labels place = (i j : ℕ) → i < place → AreOneDisk labels i j → ⊥

-- the labels from a place on
rest_all : (labels : List Label) (n : ℕ) → take (length labels - n) (drop n labels) ≡ drop n labels
rest_all labels n = take_all (length labels - n) (drop n labels) (omega (arith, length-drop n labels))

module _ (labels : List Label) (i : ℕ) (d : Label) (lt : i < length labels) (before : NoneBefore labels i) where
  abbrev here : Label → Bool
  here label = label.disk_guid == (get_or labels i d).disk_guid

  -- a later image of this disk, as one behind this place
  behind : (j : ℕ) → AreOneDisk labels i j → (j - (i + 1) < length (drop (i + 1) labels)) × (here (get_or (drop (i + 1) labels) (j - (i + 1)) d) ≡ true)
  behind j one =
      let order : i < j = one.order in
      let within : j < length labels = slice_get_within labels j one.second one.second_is in
      let first : get_or labels i d ≡ one.first = get_or_from_slice_get labels i one.first d one.first_is in
      let place : i + 1 + (j - (i + 1)) ≡ j = omega arith in
      let second : get_or (drop (i + 1) labels) (j - (i + 1)) d ≡ one.second =
      get_or-drop (i + 1) labels (j - (i + 1)) d ∙ ap (λ (k : ℕ). get_or labels k d) place ∙ get_or_from_slice_get labels j one.second d one.second_is in
      (omega (arith, length-drop (i + 1) labels), eq-eqb _ _ (ap (λ (l : Label). l.disk_guid) second ∙ sym one.same ∙ ap (λ (l : Label). l.disk_guid) (sym first)))

  -- no later image is of the disk of this one
  pub twins_next : position here (take (length labels - (i + 1)) (drop (i + 1) labels)) ≡ None → NoneBefore labels (i + 1)
  twins_next none p q less one = elim (cases_eq p i) [
    | inr ne ↦ before p q (omega arith) one
    | inl same ↦
        let at = behind q (subst (λ (n : ℕ). AreOneDisk labels n q) same one) in
        false≢true (sym (none_passes here (drop (i + 1) labels) (ap (position here) (sym (rest_all labels (i + 1))) ∙ none) (q - (i + 1)) d at.0) ∙ at.1)
  ]

  -- a later one is
  pub twins_here : (j : ℕ) → position here (take (length labels - (i + 1)) (drop (i + 1) labels)) ≡ Some j → AreTwins labels (Some (i, i + 1 + j))
  twins_here j there =
      let first = position-Some here (drop (i + 1) labels) j d (ap (position here) (sym (rest_all labels (i + 1))) ∙ there) in
      let within : i + 1 + j < length labels = omega (arith, first.0, length-drop (i + 1) labels) in
      let same : (get_or labels (i + 1 + j) d).disk_guid ≡ (get_or labels i d).disk_guid =
      ap (λ (l : Label). l.disk_guid) (sym (get_or-drop (i + 1) labels j d)) ∙ eqb-true _ _ first.1 in (
        record {
          order = omega arith;
          first = get_or labels i d;
          first_is = slice_get-get_or labels i d lt;
          second = get_or labels (i + 1 + j) d;
          second_is = slice_get-get_or labels (i + 1 + j) d within;
          same = sym same;
        },
        λ p q one. elim (cases_lt i p) [
          | inl later ↦ inl later
          | inr le ↦ elim (cases_eq p i) [
            | inr ne ↦ absurd (before p q (omega arith) one)
            | inl is ↦ elim (cases_lt q (i + 1 + j)) [
              | inr ge ↦ inr (sym is, ge)
              | inl less ↦
                  let at = behind q (subst (λ (n : ℕ). AreOneDisk labels n q) is one) in
                  let order : p < q = one.order in
                  absurd (false≢true (sym (first.2 (q - (i + 1)) (omega arith)) ∙ at.1))
            ]
          ]
        ],
      )

-- there is one first pair at most
pub one_twins : (labels : List Label) (a b : Option (ℕ × ℕ)) → AreTwins labels a → AreTwins labels b → a ≡ b
one_twins labels None None x y = refl
one_twins labels None (Some q) x y = absurd (x q.0 q.1 y.0)
one_twins labels (Some p) None x y = absurd (y p.0 p.1 x.0)
one_twins labels (Some p) (Some q) x y =
    let both = same_pair p.0 p.1 q.0 q.1 (x.1 q.0 q.1 y.0) (y.1 p.0 p.1 x.0) in
    let first : p.0 ≡ q.0 = both.0 in
    let second : p.1 ≡ q.1 = both.1 in
    ap Some (λ k. (first k, second k))
  where
    same_pair : (a b c e : ℕ) → (a < c) ⊎ ((a ≡ c) × (b ≤ e)) → (c < a) ⊎ ((c ≡ a) × (e ≤ b)) → (a ≡ c) × (b ≡ e)
    same_pair a b c e (inl x) (inl y) = absurd (omega arith)
    same_pair a b c e (inl x) (inr y) = absurd (omega (arith, x, y.0))
    same_pair a b c e (inr x) (inl y) = absurd (omega (arith, x.0, y))
    same_pair a b c e (inr x) (inr y) = (x.0, omega (arith, x.1, y.1))

-- ---- the answers

-- a fault behind labels that have none is the first of the group
pub label_fault : (images content : List (List ℕ)) (i : ℕ) (labels : List Label) (error : OpenError) → content ≡ images → i < length images → Gathers IsLabelOf (take i images) (Ok labels)
    → ReadsLabel i (image content i) (Err error) → ReadsLabels images (Err error)
label_fault images content i labels (Fault (faults.Label at fault)) same lt before reads =
    let is = subst (λ (l : List (List ℕ)). IsLabelOf (image l i) (Err fault)) same reads.1 in
    (Err (i, fault), gather_ends IsLabelOf images i labels [] fault lt before is, ap (λ (n : ℕ). Err (faults.Label n fault)) reads.0)
label_fault images content i labels (Fault other) same lt before reads = absurd reads
label_fault images content i labels Disk same lt before reads = tt
label_fault images content i labels NoMemory same lt before reads = tt
