-- Images that hold a new group are found as it.
use Rattle.std.proofs.Common.{◌≡◌, ℕ, suc, ◌≤◌, Bool, true, false, List, [], ◌∷◌, length, get_or, slice_get, Option, Some, None, Ok, refl, sym, ap, subst, ◌∙◌, arith, position, find}
use Rattle.std.specs.Prelude.{map, zip, nat_lt, All, if◌then◌else◌}
use Rattle.std.proofs.lemmas.Bool.Decides.{nat_tests}
use Rattle.ldm_bytes.specs.Tables.{first_of, unless}
use Rattle.ldm_label.specs.declared.Label.{Label}
use Rattle.ldm_group.specs.Database.{Database}
use Rattle.ldm_rules.specs.New.{IsNewOn}
use Rattle.ldm_rules.specs.Present.{is_absent}
use Rattle.ldm_rules.specs.Facts.{stranger}
use Rattle.ldm_rules.specs.Table.{first_broken_rule}
use Rattle.ldm_rules.proofs.CarryLaws.{new_sound, new_own, none_absent, no_position}
use Rattle.ldm_copy.specs.declared.answer.CopyState.{CopyState}
use Rattle.ldm_copy.specs.declared.answer.CopyState.TheVariants.{Valid}
use Rattle.ldm_copy.specs.Copy.{IsWritten}
use Rattle.ldm_copy.specs.declared.fault.OpenFault.{OpenFault}
use Rattle.ldm_copy.specs.declared.fault.OpenFault.TheVariants as faults
use Rattle.ldm_copy.specs.declared.notes.Note.{Note}
use Rattle.ldm_copy.specs.declared.notes.Note.TheVariants as notes
use Rattle.ldm_found.specs.Gathers.{Gathers, IsFirst}
use Rattle.ldm_found.specs.Labels.{IsLabelOf, AreApart}
use Rattle.ldm_found.specs.Copies.{IsCopyIn, newer, newest, Disagrees, note_of}
use Rattle.ldm_found.specs.Editing.{is_small, clashes, reasons, blocked_in}
use Rattle.ldm_init.specs.New.{HoldCopies, HasOwnArea}
use Rattle.ldm_found.specs.Opening.{group_faults, group_at, found_with, IsNewestGroup, IsGroupIn}
use Rattle.ldm_found.proofs.CopyLaws.{behind}

gather_labels : (labels : List Label) (images : List (List ℕ)) → length images ≡ length labels
    → ((disk : ℕ) (label : Label) → slice_get labels disk ≡ Some label → IsLabelOf (get_or images disk []) (Ok label)) → Gathers IsLabelOf images (Ok labels)
gather_labels [] [] same each = tt
gather_labels [] (i ∷ images) same each = absurd (omega arith)
gather_labels (l ∷ labels) [] same each = absurd (omega arith)
gather_labels (l ∷ labels) (i ∷ images) same each = (each 0 l refl, gather_labels labels images (omega arith) (λ disk label at. each (suc disk) label at))

-- ---- one copy on each image

module _ (db : Database) where
  abbrev copies : List Label → List CopyState
  copies labels = map (λ _. Valid db) labels

  gather_copies : (labels : List Label) (images : List (List ℕ)) → length images ≡ length labels
      → ((disk : ℕ) (label : Label) → slice_get labels disk ≡ Some label → IsWritten label db (get_or images disk [])) → Gathers IsCopyIn (zip labels images) (Ok (copies labels))
  gather_copies [] [] same each = tt
  gather_copies [] (i ∷ images) same each = absurd (omega arith)
  gather_copies (l ∷ labels) [] same each = absurd (omega arith)
  gather_copies (l ∷ labels) (i ∷ images) same each = (each 0 l refl, gather_copies labels images (omega arith) (λ disk label at. each (suc disk) label at))

  newest_copy : (labels : List Label) → 1 ≤ length labels → newest (copies labels) ≡ Some (0, db)
  newest_copy [] some = absurd (omega arith)
  newest_copy (l ∷ []) some = refl
  newest_copy (l ∷ (m ∷ labels)) some =
      let never : nat_lt db.header.seq db.header.seq ≡ false = grind (arith, nat_tests) in
      ap (λ (o : Option (ℕ × Database)). newer (Valid db) (behind o)) (newest_copy (m ∷ labels) (omega arith))
      ∙ ap (λ (b : Bool). if b then Some (1, db) else Some (0, db)) never

  none_differs : (labels : List Label) → IsFirst (Disagrees db) (copies labels) None
  none_differs [] = tt
  none_differs (l ∷ labels) = (λ differs. differs.1 refl, none_differs labels)

  notes_are : (labels : List Label) → map note_of (copies labels) ≡ map (λ _. notes.Sequence db.header.seq) labels
  notes_are [] = refl
  notes_are (l ∷ labels) = ap (λ (all : List Note). notes.Sequence db.header.seq ∷ all) (notes_are labels)

-- ---- the group

faultless : (db : Database) (labels : List Label) → IsNewOn db.records labels → AreApart labels → first_of (group_faults db labels) ≡ None
unfolding group_faults
faultless db labels new apart =
    let own : stranger db.records labels ≡ None = new_own db.records labels new in
    let sound : first_broken_rule db.records labels ≡ None = new_sound db.records labels new apart in
    rw (own, sound) refl

pub new_opens : (db : Database) (labels : List Label) (images : List (List ℕ)) → IsNewOn db.records labels → 1 ≤ length labels → AreApart labels
    → HoldCopies db labels images → IsGroupIn images (Ok (found_with db labels (map (λ _. notes.Sequence db.header.seq) labels)))
new_opens db labels images new some apart hold =
    let found = found_with db labels (map (λ _. notes.Sequence db.header.seq) labels) in
    let is : Ok found ≡ group_at 0 db None labels (map note_of (copies db labels)) =
    ap (λ (l : List Note). Ok (found_with db labels l)) (sym (notes_are db labels))
    ∙ ap (λ (f : Option OpenFault). unless f (found_with db labels (map note_of (copies db labels)))) (sym (faultless db labels new apart)) in
    let group : IsNewestGroup (newest (copies db labels)) (copies db labels) labels (Ok found) =
    subst (λ (at : Option (ℕ × Database)). IsNewestGroup at (copies db labels) labels (Ok found)) (sym (newest_copy db labels some)) (None, none_differs db labels, is) in
    (Ok labels, gather_labels labels images hold.one_each hold.labels_are, (None, apart, (Ok (copies db labels), gather_copies db labels images hold.one_each hold.copies_are, group)))

-- ---- what blocks its editing

only_few : (few : Bool) → first_of (None ∷ ((if few then Some faults.FewDisks else None) ∷ (None ∷ (None ∷ [])))) ≡ (if few then Some faults.FewDisks else None)
only_few true = refl
only_few false = refl

pub new_editable : (db : Database) (labels : List Label) → IsNewOn db.records labels → All (HasOwnArea db.header.last) labels
    → blocked_in db labels ≡ (if nat_lt (length labels) 2 then Some faults.FewDisks else None)
unfolding reasons
new_editable db labels new areas =
    let present : find (is_absent labels) db.records ≡ None = none_absent db.records labels new in
    let large : position (is_small db.header.last) labels ≡ None = no_position (is_small db.header.last) labels (λ k d lt. (areas k d lt).0) in
    let clear : position clashes labels ≡ None = no_position clashes labels (λ k d lt. (areas k d lt).1) in
    rw (present, large, clear) (only_few (nat_lt (length labels) 2))
