-- What images hold in which a group was found.
use Rattle.std.proofs.Common.{◌≡◌, inl, inr, ⊎_elim, ℕ, zero, suc, ◌<◌, ◌≤◌, List, [], ◌∷◌, length, refl, sym, ap, subst, ◌∙◌, arith, Option, Some, None, Result, Ok, Err}
use Rattle.std.specs.Prelude.{map, slice_get, zip}
use Rattle.std.specs.Option.{option_map}
use Rattle.std.proofs.lemmas.Bool.{cases_lt}
use Rattle.std.proofs.lemmas.Option.{slice_get-map, slice_get_within}
use Rattle.std.proofs.lemmas.Slice.Zip.{length-zip}
use Rattle.ldm_bytes.specs.Tables.{first_of, unless}
use Rattle.ldm_label.specs.declared.Label.{Label}
use Rattle.ldm_group.specs.Database.{Database}
use Rattle.ldm_group.proofs.EqualLaws.{same_core}
use Rattle.ldm_copy.specs.declared.answer.CopyState.{CopyState}
use Rattle.ldm_copy.specs.declared.answer.CopyState.TheVariants.{Closed, Valid}
use Rattle.ldm_copy.specs.declared.answer.CopyFault.{CopyFault}
use Rattle.ldm_copy.specs.declared.found.Found.{Found}
use Rattle.ldm_copy.specs.declared.fault.OpenFault.{OpenFault}
use Rattle.ldm_copy.specs.declared.notes.Note.{Note}
use Rattle.ldm_found.specs.Gathers.{Gathers, IsFirst}
use Rattle.ldm_found.specs.Labels.{IsLabelOf, AreApart, AreTwins}
use Rattle.ldm_found.specs.Copies.{IsCopyIn, newest, Disagrees, note_of, HasCopy, IsKnown}
use Rattle.ldm_found.specs.Editing.{blocked_in}
use Rattle.ldm_found.specs.Opening.{IsGroupIn, IsGroupOfDisks, IsGroupOfCopies, IsNewestGroup, group_faults, group_at, found_with}
use Rattle.ldm_found.proofs.CopyLaws.{gather_length, greatest}

-- the parts of a found group
pub record HoldsGroup (images : List (List ℕ)) (found : Found) : Type 0 where
  pub labels_are : Gathers IsLabelOf images (Ok found.labels)
  pub apart : AreApart found.labels
  pub copies : List CopyState
  pub copies_are : Gathers IsCopyIn (zip found.labels images) (Ok copies)
  pub at : ℕ
  pub newest_is : newest copies ≡ Some (at, found.db)
  pub agree : IsFirst (Disagrees found.db) copies None
  pub faultless : first_of (group_faults found.db found.labels) ≡ None
  pub notes_are : found.notes ≡ map note_of copies
  pub blocked_is : found.blocked ≡ blocked_in found.db found.labels

no_group : {A : Type 0} (found : Found) (fault : OpenFault) → Ok found ≡ Err fault → A
no_group found fault e = absurd cc

pub holds_group : (images : List (List ℕ)) (found : Found) → IsGroupIn images (Ok found) → HoldsGroup images found
holds_group images found (Err at, are, is) = no_group found _ is
holds_group images found (Ok labels, are, disks) = of_disks disks.0 disks.1 disks.2
  where
    of_group : (copies : List CopyState) (at : ℕ × Database) (fault : Option OpenFault) → first_of (group_faults at.1 labels) ≡ fault → AreApart labels
        → Gathers IsCopyIn (zip labels images) (Ok copies) → newest copies ≡ Some at → IsFirst (Disagrees at.1) copies None
        → Ok found ≡ unless fault (found_with at.1 labels (map note_of copies)) → HoldsGroup images found
    of_group copies at (Some fault) no_fault apart copies_are newest_is agree is = no_group found fault is
    of_group copies at None no_fault apart copies_are newest_is agree is =
        let same : found_with at.1 labels (map note_of copies) ≡ found = let e : Ok found ≡ Ok (found_with at.1 labels (map note_of copies)) = is in cc in
        subst (λ (f : Found). HoldsGroup images f) same (record {
          labels_are = are;
          apart = apart;
          copies = copies;
          copies_are = copies_are;
          at = at.0;
          newest_is = newest_is;
          agree = agree;
          faultless = no_fault;
          notes_are = refl;
          blocked_is = refl;
        })

    of_other : (copies : List CopyState) (at : ℕ × Database) (other : Option ℕ) → AreApart labels
        → Gathers IsCopyIn (zip labels images) (Ok copies) → newest copies ≡ Some at → IsFirst (Disagrees at.1) copies other
        → Ok found ≡ group_at at.0 at.1 other labels (map note_of copies) → HoldsGroup images found
    of_other copies at (Some other) apart copies_are newest_is agree is = no_group found _ is
    of_other copies at None apart copies_are newest_is agree is = of_group copies at (first_of (group_faults at.1 labels)) refl apart copies_are newest_is agree is

    of_newest : (copies : List CopyState) (at : Option (ℕ × Database)) → newest copies ≡ at → AreApart labels
        → Gathers IsCopyIn (zip labels images) (Ok copies) → IsNewestGroup at copies labels (Ok found) → HoldsGroup images found
    of_newest copies None newest_is apart copies_are is = no_group found _ is
    of_newest copies (Some at) newest_is apart copies_are is = of_other copies at is.0 apart copies_are newest_is is.1 is.2

    of_copies : (copies : Result (List CopyState) (ℕ × CopyFault)) → AreApart labels
        → Gathers IsCopyIn (zip labels images) copies → IsGroupOfCopies copies labels (Ok found) → HoldsGroup images found
    of_copies (Err at) apart copies_are is = no_group found _ is
    of_copies (Ok copies) apart copies_are is = of_newest copies (newest copies) refl apart copies_are is

    of_disks : (pair : Option (ℕ × ℕ)) → AreTwins labels pair → IsGroupOfDisks pair images labels (Ok found) → HoldsGroup images found
    of_disks (Some pair) apart is = no_group found _ is
    of_disks None apart is = of_copies is.0 apart is.1 is.2

-- ---- the copies

first_fails : {A : Type 0} (Has : A → Type 0) (xs : List A) → IsFirst Has xs None → (k : ℕ) (x : A) → slice_get xs k ≡ Some x → Has x → ⊥
first_fails Has [] none k x at has = absurd cc
first_fails Has (y ∷ xs) none zero x at has = none.0 (let same : x ≡ y = cc in subst Has same has)
first_fails Has (y ∷ xs) none (suc k) x at has = first_fails Has xs none.1 k x at has

-- ---- disk by disk

pub copy_at : (labels : List Label) (images : List (List ℕ)) (copies : List CopyState) → length images ≡ length labels → Gathers IsCopyIn (zip labels images) (Ok copies)
    → (disk : ℕ) → disk < length labels → HasCopy labels images disk (λ c. slice_get copies disk ≡ Some c)
copy_at [] images copies same are disk lt = absurd (omega arith)
copy_at (l ∷ labels) [] copies same are disk lt = absurd (omega arith)
copy_at (l ∷ labels) (i ∷ images) [] same are disk lt = absurd are
copy_at (l ∷ labels) (i ∷ images) (c ∷ copies) same are zero lt = (l, refl, (c, are.0, refl))
copy_at (l ∷ labels) (i ∷ images) (c ∷ copies) same are (suc disk) lt = copy_at labels images copies (omega arith) are.1 disk (omega arith)

copies_length : (labels : List Label) (images : List (List ℕ)) (copies : List CopyState) → length images ≡ length labels → Gathers IsCopyIn (zip labels images) (Ok copies) → length copies ≡ length labels
copies_length labels images copies same are = omega
    (arith, gather_length IsCopyIn (zip labels images) copies are, length-zip labels images, same)

module _ (images : List (List ℕ)) (found : Found) (held : HoldsGroup images found) where
  pub one_image : length images ≡ length found.labels
  one_image = sym (gather_length IsLabelOf images found.labels held.labels_are)

  -- each copy is known beside the group, and noted
  pub copy_known : (disk : ℕ) → disk < length found.labels → HasCopy found.labels images disk (λ c. IsKnown found.db found.db c × (slice_get found.notes disk ≡ Some (note_of c)))
  copy_known disk lt =
      let has = copy_at found.labels images held.copies one_image held.copies_are disk lt in
      (has.0, has.1, (has.2.0, has.2.1, (known has.2.0 has.2.2, ap (λ (l : List Note). slice_get l disk) held.notes_are ∙ slice_get-map note_of held.copies disk ∙ ap (option_map note_of) has.2.2)))
    where
      known : (c : CopyState) → slice_get held.copies disk ≡ Some c → IsKnown found.db found.db c
      known Closed at = tt
      known (Valid e) at =
          let le : e.header.seq ≤ found.db.header.seq = (greatest held.copies (held.at, found.db) held.newest_is).top disk e at in
          ⊎_elim
          (λ less. inl less)
          (λ ge. inr (inl (same_core e found.db (λ differ. first_fails (Disagrees found.db) held.copies held.agree disk (Valid e) at (omega (arith, le, ge), differ)))))
          (cases_lt e.header.seq found.db.header.seq)

  -- the newest stands on a disk
  pub holder : (disk : ℕ) × (disk < length found.labels) × HasCopy found.labels images disk (λ c. c ≡ Valid found.db)
  holder =
      let there : slice_get held.copies held.at ≡ Some (Valid found.db) = (greatest held.copies (held.at, found.db) held.newest_is).there in
      let lt : held.at < length found.labels = omega (arith, slice_get_within held.copies held.at (Valid found.db) there, copies_length found.labels images held.copies one_image held.copies_are) in
      let has = copy_at found.labels images held.copies one_image held.copies_are held.at lt in
      (held.at, lt, (has.0, has.1, (has.2.0, has.2.1, (let e : Some has.2.0 ≡ Some (Valid found.db) = sym has.2.2 ∙ there in cc))))
