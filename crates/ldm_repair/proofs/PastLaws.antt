-- The group that images hold past what is damaged, while damaged copies are closed.
use Rattle.std.proofs.Common.{◌≡◌, ◌⊎◌, inl, inr, ◌<◌, ◌++◌, ◌∷◌, [], ℕ, zero, suc, List, None, Result, Ok, length, length-append, get_or, refl, sym, ◌∙◌, ap, subst, arith}
use Rattle.std.proofs.lemmas.Bool.{cases_eq}
use Rattle.std.proofs.lemmas.List.{get_or_append_left}
use Rattle.ldm_host.specs.Seen.{image}
use Rattle.ldm_label.specs.declared.Label.{Label}
use Rattle.ldm_label.specs.declared.LabelFault.{LabelFault}
use Rattle.ldm_label.specs.LabelOf.{label_of}
use Rattle.ldm_copy.specs.declared.answer.CopyState.{CopyState}
use Rattle.ldm_copy.specs.declared.answer.CopyState.TheVariants.{Closed}
use Rattle.ldm_copy.specs.declared.fault.OpenFault.{OpenFault}
use Rattle.ldm_copy.specs.declared.found.Found.{Found}
use Rattle.ldm_found.specs.Copies.{IsCopyIn}
use Rattle.ldm_found.specs.Labels.{IsLabelOf}
use Rattle.ldm_found.specs.Opening.{IsGroupIn}
use Rattle.ldm_found.proofs.CopyLaws.{gather_at}
use Rattle.ldm_found.proofs.FoundLaws.{holds_group, one_image, copy_at}
use Rattle.ldm_found.proofs.GroupLaws.{one_group}
use Rattle.ldm_damage.specs.declared.damage.Damage.{Damage}
use Rattle.ldm_damage.specs.Mending.{mended, mended_by, mended_fault}
use Rattle.ldm_damage.specs.Passing.{IsPassed}
use Rattle.ldm_damage.specs.Views.{IsDamage, no_damage}
use Rattle.ldm_damage.proofs.LookLaws.{last_of_more}
use Rattle.ldm_damage.proofs.DamageLaws.{labelled_stays, one_damage}
use Rattle.ldm_repair.specs.Closing.{ReadsAlike, IsClosedAs, IsGroupPast, ClosingKeepsGroup, GoodIsPast, OneGroupPast}
use Rattle.ldm_repair.proofs.AlikeLaws.{alike_hold_one_group}

-- ---- lists of damages and views that have what each disk has

pub record Built (n : ℕ) (P : ℕ → Damage → List ℕ → Type 0) : Type 0 where
  pub damages : List Damage
  pub views : List (List ℕ)
  pub one_damage : length damages ≡ n
  pub one_view : length views ≡ n
  pub each : (d : ℕ) → d < n → P d (get_or damages d no_damage) (image views d)

one_more : (n : ℕ) (P : ℕ → Damage → List ℕ → Type 0) (front : Built n P) (p : Damage) (v : List ℕ) → P n p v → Built (suc n) P
one_more n P front p v last = record {
  damages = front.damages ++ p ∷ [];
  views = front.views ++ v ∷ [];
  one_damage = omega (arith, length-append front.damages (p ∷ []), front.one_damage);
  one_view = omega (arith, length-append front.views (v ∷ []), front.one_view);
  each = λ d lt. elim (cases_eq d n) [
    | inl is ↦ subst (λ (k : ℕ). P k (get_or (front.damages ++ p ∷ []) k no_damage) (image (front.views ++ v ∷ []) k)) (sym is) here
    | inr ne ↦ before d (omega arith)
  ];
}
  where
    here : P n (get_or (front.damages ++ p ∷ []) n no_damage) (image (front.views ++ v ∷ []) n)
    here =
        subst (λ (q : Damage). P n q (image (front.views ++ v ∷ []) n)) (sym (last_of_more front.damages p no_damage n front.one_damage))
        (subst (λ (w : List ℕ). P n p w) (sym (last_of_more front.views v [] n front.one_view)) last)

    before : (d : ℕ) → d < n → P d (get_or (front.damages ++ p ∷ []) d no_damage) (image (front.views ++ v ∷ []) d)
    before d lt =
        subst (λ (q : Damage). P d q (image (front.views ++ v ∷ []) d)) (sym (get_or_append_left front.damages (p ∷ []) no_damage d (omega (arith, front.one_damage))))
        (subst (λ (w : List ℕ). P d (get_or front.damages d no_damage) w) (sym (get_or_append_left front.views (v ∷ []) [] d (omega (arith, front.one_view)))) (front.each d lt))

pub build : (n : ℕ) (P : ℕ → Damage → List ℕ → Type 0) → ((d : ℕ) → d < n → (p : Damage) × (v : List ℕ) × P d p v) → Built n P
build zero P each = record { damages = []; views = []; one_damage = refl; one_view = refl; each = λ d lt. absurd (omega arith) }
build (suc n) P each =
    let last = each n (omega arith) in
    one_more n P (build n P (λ d lt. each d (omega arith))) last.0 last.1 last.2

-- ---- images whose views read as others

-- what is damaged on an image, and its view, which reads as this one
pub record IsViewOf (view now : List ℕ) (damage : Damage) (next : List ℕ) : Type 0 where
  pub damaged : IsDamage now damage next
  pub alike : ReadsAlike view next

pub alike_itself : (view : List ℕ) → ReadsAlike view view
alike_itself view = record { label = refl; copy = λ label copy of_view is. is }

-- an image that has a label isn't mended
pub unmended : (bytes : List ℕ) (label : Label) → label_of bytes ≡ Ok label → mended_fault bytes ≡ None
unmended bytes label is = ap (λ (l : Result Label LabelFault). mended_by l (label_of (mended bytes))) is

-- what is passed over of it
pub passed_of : (bytes view : List ℕ) (damage : Damage) (label : Label) → label_of bytes ≡ Ok label → damage.label ≡ None → IsPassed (Ok label) bytes damage.copy view → IsDamage bytes damage view
passed_of bytes view damage label is none passed = record {
  label = none ∙ sym (unmended bytes label is);
  copy = subst (λ (b : List ℕ). IsPassed (label_of b) b damage.copy view) (sym (labelled_stays bytes label is))
      (subst (λ (l : Result Label LabelFault). IsPassed l bytes damage.copy view) (sym is) passed);
}

-- a good image is its view
pub good_view : (bytes : List ℕ) (label : Label) (copy : CopyState) → label_of bytes ≡ Ok label → IsCopyIn (label, bytes) (Ok copy) → IsDamage bytes no_damage bytes
good_view bytes label copy is has = passed_of bytes bytes no_damage label is refl ((copy, has), refl)

past_of : (views now : List (List ℕ)) (group : Result Found OpenFault) → length views ≡ length now
    → ((d : ℕ) → d < length now → (p : Damage) × (v : List ℕ) × IsViewOf (image views d) (image now d) p v) → IsGroupIn views group → IsGroupPast now group
past_of views now group len each is = record {
  damages = all.damages;
  views = all.views;
  are = record { one_damage = all.one_damage; one_view = all.one_view; each = λ disk lt. (all.each disk lt).damaged };
  is = alike_hold_one_group views all.views group (all.one_view ∙ sym len) (λ disk lt. (all.each disk (omega (arith, lt, len))).alike) is;
}
  where
    all : Built (length now) (λ d p v. IsViewOf (image views d) (image now d) p v)
    all = build (length now) (λ d p v. IsViewOf (image views d) (image now d) p v) each

-- what a view is of an image that is as it was, or reads as a view whose copy is closed
view_next : (one view now : List ℕ) (damage : Damage) → IsDamage one damage view → (now ≡ one) ⊎ IsClosedAs view now → (p : Damage) × (v : List ℕ) × IsViewOf view now p v
view_next one view now damage is (inl same) =
    (damage, view, record { damaged = subst (λ (l : List ℕ). IsDamage l damage view) (sym same) is; alike = alike_itself view })
view_next one view now damage is (inr closed) = (
  no_damage,
  now,
  record {
    damaged = good_view now closed.label Closed (closed.alike.label ∙ closed.label_is) (closed.alike.copy closed.label (Ok Closed) closed.label_is closed.closed);
    alike = closed.alike;
  },
)

pub closing_keeps_group : ClosingKeepsGroup
closing_keeps_group images views now damages group are between is =
    past_of views now group (are.one_view ∙ sym between.one_each)
    (λ d lt.
    let there : d < length images = omega (arith, lt, between.one_each) in
    view_next (image images d) (image views d) (image now d) (get_or damages d no_damage) (are.each d there) (between.each d there)) is

pub good_is_past : GoodIsPast
good_is_past images found is = past_of images images (Ok found) refl
    (λ d lt.
    let held = holds_group images found is in
    let has = copy_at found.labels images held.copies (one_image images found held) held.copies_are d (omega (arith, lt, one_image images found held)) in
    let label_is = gather_at IsLabelOf images found.labels d [] has.0 held.labels_are has.1 in
    (no_damage, image images d, record { damaged = good_view (image images d) has.0 has.2.0 label_is has.2.1; alike = alike_itself (image images d) })) is

pub one_group_past : OneGroupPast
one_group_past images a b x y =
    one_group x.views a b x.is
    (subst (λ (l : List (List ℕ)). IsGroupIn l b) (sym (one_damage images x.views y.views x.damages y.damages x.are y.are).1) y.is)
