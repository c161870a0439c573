-- Images of which no label is damaged, and the group that is found past their damaged copies.
use Rattle.std.proofs.Common.{◌≡◌, ℕ, zero, suc, ◌<◌, List, [], ◌∷◌, length, get_or, Option, Some, None, Result, Ok, Err, refl, sym, ◌∙◌, ap, subst, arith}
use Rattle.std.specs.Prelude.{slice_get}
use Rattle.ldm_host.specs.Seen.{image}
use Rattle.ldm_label.specs.declared.Label.{Label}
use Rattle.ldm_label.specs.declared.LabelFault.{LabelFault}
use Rattle.ldm_label.specs.LabelOf.{label_of}
use Rattle.ldm_copy.specs.declared.answer.CopyState.{CopyState}
use Rattle.ldm_copy.specs.declared.answer.CopyState.TheVariants.{Closed}
use Rattle.ldm_copy.specs.declared.answer.CopyFault.{CopyFault}
use Rattle.ldm_copy.specs.declared.found.Found.{Found}
use Rattle.ldm_copy.specs.declared.notes.Note.TheVariants as notes
use Rattle.ldm_copy.specs.Copy.{config_area, IsOpen}
use Rattle.ldm_copy.proofs.OneCopy.{one_copy}
use Rattle.ldm_found.specs.Gathers.{Gathers}
use Rattle.ldm_found.specs.Labels.{IsLabelOf}
use Rattle.ldm_found.specs.Copies.{IsCopyIn, HasCopy, IsKnown, note_of}
use Rattle.ldm_found.specs.Opening.{IsGroupIn}
use Rattle.ldm_found.proofs.CopyLaws.{gather_at}
use Rattle.ldm_found.proofs.FoundLaws.{holds_group, copy_known, one_image}
use Rattle.ldm_damage.specs.declared.damage.Damage.{Damage}
use Rattle.ldm_damage.specs.Mending.{mended, mended_by, mended_fault}
use Rattle.ldm_damage.specs.Passing.{IsPassed}
use Rattle.ldm_damage.specs.Views.{IsDamage, AreDamaged, no_damage}
use Rattle.ldm_damage.proofs.DamageLaws.{labelled_stays, unlabelled_stays}
use Rattle.ldm_repair.specs.Repairing.{label_at, damaged_from, damaged_label}
use Rattle.ldm_repair.proofs.GateLaws.{shut_label, shut_copy}
use Rattle.ldm_repair.proofs.ShutLaws.{faulty_open}

-- ---- no label is damaged

none_at : (n : ℕ) (label : Option LabelFault) (later : Option (ℕ × LabelFault)) → label_at n label later ≡ None → (label ≡ None) × (later ≡ None)
none_at n None later is = (refl, is)
none_at n (Some fault) later is = absurd cc

good_from : (n : ℕ) (damages : List Damage) → damaged_from n damages ≡ None → (disk : ℕ) → (get_or damages disk no_damage).label ≡ None
unfolding damaged_from
good_from n [] none disk = refl
good_from n (damage ∷ more) none zero = (none_at n damage.label (damaged_from (suc n) more) none).0
good_from n (damage ∷ more) none (suc disk) = good_from (suc n) more (none_at n damage.label (damaged_from (suc n) more) none).1 disk

pub good_label : (damages : List Damage) → damaged_label damages ≡ None → (disk : ℕ) → (get_or damages disk no_damage).label ≡ None
good_label damages none disk = good_from 0 damages none disk

-- ---- an image

unmended : (bytes : List ℕ) → mended_fault bytes ≡ None → mended bytes ≡ bytes
unmended bytes none = by_labels (label_of bytes) (label_of (mended bytes)) refl refl none
  where
    by_labels : (own shown : Result Label LabelFault) → label_of bytes ≡ own → label_of (mended bytes) ≡ shown → mended_by own shown ≡ None → mended bytes ≡ bytes
    by_labels (Ok label) shown is is_shown gone = labelled_stays bytes label is
    by_labels (Err fault) (Err other) is is_shown gone = unlabelled_stays bytes other is_shown
    by_labels (Err fault) (Ok label) is is_shown gone = absurd (cc gone)

-- an image whose label isn't mended is itself what is passed over
pub passed_itself : (bytes view : List ℕ) (damage : Damage) → IsDamage bytes damage view → damage.label ≡ None → IsPassed (label_of bytes) bytes damage.copy view
passed_itself bytes view damage is good =
    subst (λ (b : List ℕ). IsPassed (label_of b) b damage.copy view) (unmended bytes (sym is.label ∙ good)) is.copy

-- the view of an image has its label
passed_label : (own : Result Label LabelFault) (bytes view : List ℕ) (copy : Option CopyFault) → label_of bytes ≡ own → IsPassed own bytes copy view → label_of view ≡ label_of bytes
passed_label (Err fault) bytes view copy labelled passed = ap label_of passed.1
passed_label (Ok label) bytes view None labelled passed = ap label_of passed.1
passed_label (Ok label) bytes view (Some fault) labelled passed =
    ap label_of passed.1 ∙ shut_label label bytes labelled (faulty_open (config_area label bytes) label.area_sectors fault passed.0) ∙ sym labelled

pub view_label : (bytes view : List ℕ) (damage : Damage) → IsDamage bytes damage view → damage.label ≡ None → label_of view ≡ label_of bytes
view_label bytes view damage is good = passed_label (label_of bytes) bytes view damage.copy refl (passed_itself bytes view damage is good)

-- the view of an image whose copy is damaged shows it as closed
passed_closed : (own : Result Label LabelFault) (bytes view : List ℕ) (copy : Option CopyFault) (label : Label) (fault : CopyFault) → label_of bytes ≡ own → own ≡ Ok label → copy ≡ Some fault
    → IsPassed own bytes copy view → IsCopyIn (label, view) (Ok Closed)
passed_closed (Err other) bytes view copy label fault labelled is damaged passed = absurd cc
passed_closed (Ok other) bytes view None label fault labelled is damaged passed = absurd cc
passed_closed (Ok other) bytes view (Some first) label fault labelled is damaged passed =
    let open_is = faulty_open (config_area other bytes) other.area_sectors first passed.0 in
    let shut : IsCopyIn (other, view) (Ok Closed) = subst (λ (v : List ℕ). IsOpen (config_area other v) → ⊥) (sym passed.1) (shut_copy other bytes labelled open_is) in
    let same : other ≡ label = cc in
    subst (λ (l : Label). IsCopyIn (l, view) (Ok Closed)) same shut

-- ---- all images

gather_alike : (images views : List (List ℕ)) (labels : List Label) → length views ≡ length images
    → ((disk : ℕ) → disk < length images → label_of (image views disk) ≡ label_of (image images disk)) → Gathers IsLabelOf views (Ok labels) → Gathers IsLabelOf images (Ok labels)
gather_alike [] [] labels same each are = are
gather_alike [] (v ∷ views) labels same each are = absurd (omega arith)
gather_alike (i ∷ images) [] labels same each are = absurd (omega arith)
gather_alike (i ∷ images) (v ∷ views) [] same each are = absurd are
gather_alike (i ∷ images) (v ∷ views) (l ∷ labels) same each are =
    (sym (each 0 (omega arith)) ∙ are.0, gather_alike images views labels (omega arith) (λ disk lt. each (suc disk) (omega arith)) are.1)

module _ (images views : List (List ℕ)) (damages : List Damage) (found : Found) (are : AreDamaged images damages views) (none : damaged_label damages ≡ None) (is : IsGroupIn views (Ok found)) where
  -- the labels of the group are those of the images
  pub good_labels : Gathers IsLabelOf images (Ok found.labels)
  good_labels = gather_alike images views found.labels are.one_view
      (λ disk lt. view_label (image images disk) (image views disk) (get_or damages disk no_damage) (are.each disk lt) (good_label damages none disk))
      (holds_group views found is).labels_are

  abbrev HasNoted : ℕ → CopyState → Type 0
  HasNoted disk copy = IsKnown found.db found.db copy × (slice_get found.notes disk ≡ Some (note_of copy))

  -- a copy that is damaged is noted as closed
  pub damaged_closed : (disk : ℕ) (fault : CopyFault) → disk < length found.labels → (get_or damages disk no_damage).copy ≡ Some fault → slice_get found.notes disk ≡ Some notes.Closed
  damaged_closed disk fault lt damaged =
      let held = holds_group views found is in
      let has : HasCopy found.labels views disk (HasNoted disk) = copy_known views found held disk lt in
      let shown : label_of (image views disk) ≡ Ok has.0 = gather_at IsLabelOf views found.labels disk [] has.0 held.labels_are has.1 in
      let in_range : disk < length images = omega (arith, lt, one_image views found held, are.one_view) in
      let each = are.each disk in_range in
      let good = good_label damages none disk in
      let own : label_of (image images disk) ≡ Ok has.0 = sym (view_label (image images disk) (image views disk) (get_or damages disk no_damage) each good) ∙ shown in
      let shut = passed_closed (label_of (image images disk)) (image images disk) (image views disk) (get_or damages disk no_damage).copy has.0 fault refl own damaged
      (passed_itself (image images disk) (image views disk) (get_or damages disk no_damage) each good) in
      let one : Ok has.2.0 ≡ Ok Closed = one_copy (config_area has.0 (image views disk)) has.0.area_sectors (Ok has.2.0) (Ok Closed) has.2.1 shut in
      let copy : has.2.0 ≡ Closed = cc in
      has.2.2.1 ∙ ap (λ (c : CopyState). Some (note_of c)) copy
