-- What blocks the editing of a group: what it depends on, what a group has room for that may be edited, and labels that stay.
use Rattle.std.proofs.Common.{◌≡◌, ⊎_elim, ℕ, suc, ◌+◌, ◌*◌, ◌≤◌, List, [], ◌∷◌, length, slice_get, Bool, true, false, Option, Some, None, Ok, refl, sym, ◌∙◌, ap, arith, get_or}
use Rattle.std.specs.Prelude.{position, find, nat_lt, ◌||◌, max, min, if◌then◌else◌}
use Rattle.std.specs.Option.{option_map}
use Rattle.std.proofs.lemmas.Bool.Decides.{nat_tests}
use Rattle.std.proofs.lemmas.Bool.{cases_lt, ltb-false, or_parts, le-ltb}
use Rattle.std.proofs.lemmas.Option.{slice_get_within, get_or_from_slice_get}
use Rattle.ldm_bytes.specs.Tables.{first_of}
use Rattle.ldm_label.specs.declared.Label.{Label}
use Rattle.ldm_label.specs.Laws.{IsClearOfLabel}
use Rattle.ldm_label.proofs.OkLaws.{label_stays}
use Rattle.ldm_group.specs.Order.{id_of, kind_of}
use Rattle.ldm_group.specs.Database.{Database}
use Rattle.ldm_rules.specs.Present.{is_absent}
use Rattle.ldm_copy.specs.declared.fault.OpenFault.{OpenFault}
use Rattle.ldm_copy.specs.declared.fault.OpenFault.TheVariants as faults
use Rattle.ldm_found.specs.Editing.{reasons, is_small, clashes, blocked_in, AreLarge}
use Rattle.ldm_found.specs.Gathers.{Gathers}
use Rattle.ldm_found.specs.Labels.{IsLabelOf, AreSameOutside}
use Rattle.ldm_found.proofs.CopyLaws.{none_passes}
use Rattle.std.proofs.lemmas.List.Quantifiers.{position-Some}
use Rattle.ldm_records.specs.declared.types.Record.{Record}
use Rattle.ldm_records.specs.declared.types.Record.TheVariants as kinds
use Rattle.ldm_group.specs.Looks.{HasSameDisks}
use Rattle.ldm_group.proofs.KinLaws.{same_found}

-- ---- The labels of a group that may be edited stay while its config areas are written.

first_none : (x : Option OpenFault) (rest : List (Option OpenFault)) → first_of (x ∷ rest) ≡ None → (x ≡ None) × (first_of rest ≡ None)
first_none None rest is = (refl, is)
first_none (Some fault) rest is = absurd cc

mapped_none : {A : Type 0} (f : A → OpenFault) (x : Option A) → option_map f x ≡ None → x ≡ None
mapped_none f None is = refl
mapped_none f (Some a) is = absurd cc

-- no label passes a test that none is the first to pass
no_label : (test : Label → Bool) (labels : List Label) → position test labels ≡ None → (disk : ℕ) (label : Label) → slice_get labels disk ≡ Some label → test label ≡ false
no_label test labels none disk label at =
    ap test (sym (get_or_from_slice_get labels disk label label at)) ∙ none_passes test labels none disk label (slice_get_within labels disk label at)

-- what may be edited has two disks at least, areas that are large enough, and no sector of a label in its area
pub record IsRoomFor (db : Database) (labels : List Label) : Type 0 where
  pub several : 2 ≤ length labels
  pub large : (disk : ℕ) (label : Label) → slice_get labels disk ≡ Some label → db.header.last ≤ 4 * label.area_sectors
  pub clear : (disk : ℕ) (label : Label) → slice_get labels disk ≡ Some label → IsClearOfLabel label

large_of : (last : ℕ) (label : Label) → is_small last label ≡ false → last ≤ 4 * label.area_sectors
large_of last label fails = grind (arith, nat_tests)

clear_where : (label : Label) → clashes label ≡ false → IsClearOfLabel label
clear_where label fails =
    let two = (or_parts (nat_lt label.area_start 3 || nat_lt 1856
    (label.area_start + label.area_sectors))
    (nat_lt (max label.area_start label.log_start) (min (label.area_start + label.area_sectors) (label.log_start + label.log_sectors))) fails).0 in
    let one = or_parts (nat_lt label.area_start 3)
    (nat_lt 1856 (label.area_start + label.area_sectors)) two in
    record {
      behind = ltb-false label.area_start 3 one.0;
      before = ltb-false 1856 (label.area_start + label.area_sectors) one.1;
    }

several_of : (labels : List Label) → (if nat_lt (length labels) 2 then Some faults.FewDisks else None) ≡ None → 2 ≤ length labels
several_of labels is = ⊎_elim
    (λ less. let tested : nat_lt (length labels) 2 ≡ true = grind (arith, nat_tests) in
    absurd (let e : Some faults.FewDisks ≡ None = ap (λ (b : Bool). if b then Some faults.FewDisks else None) (sym tested) ∙ is in cc))
    (λ ge. ge)
    (cases_lt (length labels) 2)

-- where nothing blocks editing, none of the four reasons is there
none_blocked : (db : Database) (labels : List Label) → blocked_in db labels ≡ None
    → (option_map (λ r. faults.Absent (id_of r)) (find (is_absent labels) db.records) ≡ None)
    × ((if nat_lt (length labels) 2 then Some faults.FewDisks else None) ≡ None)
    × (option_map faults.AreaSmall (position (is_small db.header.last) labels) ≡ None)
    × (option_map faults.AreaClash (position clashes labels) ≡ None)
unfolding reasons
none_blocked db labels is =
    let one = first_none (option_map (λ r. faults.Absent (id_of r))
    (find (is_absent labels) db.records)) _ is in
    let two = first_none (if nat_lt (length labels) 2 then Some faults.FewDisks else None) _ one.1 in
    let three = first_none (option_map faults.AreaSmall (position (is_small db.header.last) labels))
    _ two.1 in (
      one.0,
      two.0,
      three.0,
      (first_none (option_map faults.AreaClash (position clashes labels)) []
          three.1).0,
    )

pub clear_of : (db : Database) (labels : List Label) → blocked_in db labels ≡ None → IsRoomFor db labels
clear_of db labels is =
    let none = none_blocked db labels is in
    record {
      several = several_of labels none.1;
      large = λ disk label at. large_of db.header.last label
          (no_label (is_small db.header.last) labels (mapped_none faults.AreaSmall _ none.2) disk
          label at);
      clear = λ disk label at. clear_where label
          (no_label clashes labels (mapped_none faults.AreaClash _ none.3) disk label at);
    }

-- images that differ in such areas alone have the same labels
pub labels_stay : (labels : List Label) (old new : List (List ℕ)) → Gathers IsLabelOf old (Ok labels) → length new ≡ length labels → AreSameOutside labels old new
    → ((disk : ℕ) (label : Label) → slice_get labels disk ≡ Some label → IsClearOfLabel label) → Gathers IsLabelOf new (Ok labels)
labels_stay [] [] [] are same outside clear = tt
labels_stay [] [] (y ∷ new) are same outside clear = absurd (omega arith)
labels_stay [] (x ∷ old) new are same outside clear = absurd are
labels_stay (label ∷ labels) [] new are same outside clear = absurd are
labels_stay (label ∷ labels) (x ∷ old) [] are same outside clear = absurd (omega arith)
labels_stay (label ∷ labels) (x ∷ old) (y ∷ new) are same outside clear =
    let here = clear 0 label refl in (
      label_stays label x y are.0 here.behind here.before (outside 0 label refl),
      labels_stay labels old new are.1 (omega arith) (λ disk. outside (suc disk)) (λ disk. clear (suc disk)),
    )

-- ---- What blocks editing depends on the disk records and the last VBLK sequence alone, and nothing does where this fits each area.

absent_disk : (labels : List Label) (r : Record) → is_absent labels r ≡ true → kind_of r ≡ 2
absent_disk labels (kinds.Disk d) e = refl
absent_disk labels (kinds.Group g) e = absurd cc
absent_disk labels (kinds.Volume v) e = absurd cc
absent_disk labels (kinds.Component c) e = absurd cc
absent_disk labels (kinds.Partition p) e = absurd cc

pub same_reasons : (a b : Database) (labels : List Label) → HasSameDisks a.records b.records → a.header.last ≡ b.header.last → blocked_in a labels ≡ blocked_in b labels
unfolding reasons
same_reasons a b labels disks last =
    let absent = same_found 2 (is_absent labels) a.records b.records (absent_disk labels) disks in
    rw (absent, last)

-- ---- another last VBLK sequence

none_small : (last : ℕ) (labels : List Label) → AreLarge last labels → position (is_small last) labels ≡ None
none_small last [] large = refl
none_small last (l ∷ labels) large = go (position (is_small last) (l ∷ labels)) refl
  where
    go : (o : Option ℕ) → position (is_small last) (l ∷ labels) ≡ o → o ≡ None
    go None e = refl
    go (Some i) e =
        let at = position-Some (is_small last) (l ∷ labels) i l e in
        let label : Label = get_or (l ∷ labels) i l in
        let fails : nat_lt (4 * label.area_sectors) last ≡ false = le-ltb (4 * label.area_sectors) last (large i l at.0) in
        let holds : nat_lt (4 * label.area_sectors) last ≡ true = at.1 in
        absurd cc

-- what may be edited may be with another last VBLK sequence that fits each area
pub still_editable : (a b : Database) (labels : List Label) → HasSameDisks a.records b.records → AreLarge b.header.last labels → blocked_in a labels ≡ None → blocked_in b labels ≡ None
unfolding reasons
still_editable a b labels disks large none =
    let absent : find (is_absent labels) a.records ≡ find (is_absent labels) b.records = same_found 2 (is_absent labels) a.records b.records (absent_disk labels) disks in
    let old = none_blocked a labels none in
    let first : option_map (λ r. faults.Absent (id_of r)) (find (is_absent labels) b.records)
    ≡ None = ap (λ (o : Option Record). option_map (λ r. faults.Absent (id_of r)) o) (sym absent)
    ∙ old.0 in
    let third : option_map faults.AreaSmall (position (is_small b.header.last) labels) ≡ None = ap (λ (o : Option ℕ). option_map faults.AreaSmall o) (none_small b.header.last labels large) in
    λ i. first_of (first i ∷ (old.1 i ∷ (third i ∷ (old.3 i ∷ []))))
