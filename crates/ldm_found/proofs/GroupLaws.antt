-- The group that images hold: there is one at most, and the steps find it.
use Rattle.std.proofs.Common.{◌≡◌, ℕ, List, [], ◌∷◌, Option, Some, None, Result, Ok, Err, sym, ap, subst, refl, ◌∙◌}
use Rattle.std.specs.Prelude.{zip, map, IfOk, IsErrAnd}
use Rattle.std.specs.Option.{option_map}
use Rattle.std.proofs.lemmas.Option.{none-some}
use Rattle.ldm_bytes.specs.Tables.{first_of, unless}
use Rattle.ldm_group.specs.Database.{Database}
use Rattle.ldm_label.specs.declared.Label.{Label}
use Rattle.ldm_label.specs.declared.LabelFault.{LabelFault}
use Rattle.ldm_copy.specs.declared.answer.CopyState.{CopyState}
use Rattle.ldm_copy.specs.declared.answer.CopyFault.{CopyFault}
use Rattle.ldm_copy.specs.Copy.{config_area}
use Rattle.ldm_copy.proofs.OneCopy.{one_copy}
use Rattle.ldm_copy.specs.declared.fault.OpenFault.{OpenFault}
use Rattle.ldm_copy.specs.declared.fault.OpenFault.TheVariants as faults
use Rattle.ldm_found.specs.declared.fault.OpenError.{OpenError}
use Rattle.ldm_found.specs.declared.fault.OpenError.TheVariants.{Fault, Disk, NoMemory}
use Rattle.ldm_copy.specs.declared.notes.Note.{Note}
use Rattle.ldm_copy.specs.declared.found.Found.{Found}
use Rattle.ldm_found.specs.declared.copies.Newest.{Newest}
use Rattle.ldm_found.specs.declared.copies.Copies.{Copies}
use Rattle.ldm_rules.specs.Table.{first_broken_rule, IsSound}
use Rattle.ldm_found.specs.Gathers.{Gathers}
use Rattle.ldm_found.specs.Labels.{IsLabelOf, AreApart, stranger}
use Rattle.ldm_found.specs.Copies.{IsCopyIn, newest, Disagrees, note_of}
use Rattle.ldm_found.specs.Opening.{group_faults, found_with, group_at, IsNewestGroup, IsGroupOfCopies, IsGroupOfDisks, IsGroupOfLabels, IsGroupIn}
use Rattle.ldm_found.specs.Facts.{LieOn}
use Rattle.ldm_found.specs.Answers.{FindsIn}
use Rattle.ldm_found.specs.Steps.{ReadsCopies, IsNewestOf, ChecksGroup, newest_faults, group_from, GivesGroup}
use Rattle.ldm_found.proofs.CopyLaws.{gathers_one, first_one}
use Rattle.ldm_found.proofs.DiskLaws.{one_twins}

-- ---- one group at most

one_label : (image : List ℕ) (a b : Result Label LabelFault) → IsLabelOf image a → IsLabelOf image b → a ≡ b
one_label image a b x y = sym x ∙ y

one_copy_in : (image : Label × List ℕ) (a b : Result CopyState CopyFault) → IsCopyIn image a → IsCopyIn image b → a ≡ b
one_copy_in image a b x y = one_copy (config_area image.0 image.1) image.0.area_sectors a b x y

one_newest : (at : Option (ℕ × Database)) (copies : List CopyState) (labels : List Label) (a b : Result Found OpenFault)
    → IsNewestGroup at copies labels a → IsNewestGroup at copies labels b → a ≡ b
one_newest None copies labels a b x y = x ∙ sym y
one_newest (Some at) copies labels a b x y =
    let same : x.0 ≡ y.0 = first_one (Disagrees at.1) copies x.0 y.0 x.1 y.1 in
    x.2 ∙ ap (λ (o : Option ℕ). group_at at.0 at.1 o labels (map note_of copies)) same ∙ sym y.2

one_of_copies : (copies : Result (List CopyState) (ℕ × CopyFault)) (labels : List Label) (a b : Result Found OpenFault)
    → IsGroupOfCopies copies labels a → IsGroupOfCopies copies labels b → a ≡ b
one_of_copies (Err at) labels a b x y = x ∙ sym y
one_of_copies (Ok copies) labels a b x y = one_newest (newest copies) copies labels a b x y

one_of_disks : (same : Option (ℕ × ℕ)) (images : List (List ℕ)) (labels : List Label) (a b : Result Found OpenFault)
    → IsGroupOfDisks same images labels a → IsGroupOfDisks same images labels b → a ≡ b
one_of_disks (Some pair) images labels a b x y = x ∙ sym y
one_of_disks None images labels a b x y =
    let same : y.0 ≡ x.0 = gathers_one IsCopyIn one_copy_in (zip labels images) y.0 x.0 y.1 x.1 in
    one_of_copies x.0 labels a b x.2 (subst (λ (r : Result (List CopyState) (ℕ × CopyFault)). IsGroupOfCopies r labels b) same y.2)

one_of_labels : (labels : Result (List Label) (ℕ × LabelFault)) (images : List (List ℕ)) (a b : Result Found OpenFault)
    → IsGroupOfLabels labels images a → IsGroupOfLabels labels images b → a ≡ b
one_of_labels (Err at) images a b x y = x ∙ sym y
one_of_labels (Ok labels) images a b x y =
    let same : y.0 ≡ x.0 = one_twins labels y.0 x.0 y.1 x.1 in
    one_of_disks x.0 images labels a b x.2 (subst (λ (twins : Option (ℕ × ℕ)). IsGroupOfDisks twins images labels b) same y.2)

pub one_group : (images : List (List ℕ)) (a b : Result Found OpenFault) → IsGroupIn images a → IsGroupIn images b → a ≡ b
one_group images a b x y =
    let same : y.0 ≡ x.0 = gathers_one IsLabelOf one_label images y.0 x.0 y.1 x.1 in
    one_of_labels x.0 images a b x.2 (subst (λ (r : Result (List Label) (ℕ × LabelFault)). IsGroupOfLabels r images b) same y.2)

-- ---- the steps

pub found_newest : (copies : List CopyState) (n : Option Newest) (labels : List Label) (notes : List Note) (group : Result Found OpenFault)
    → IsNewestOf copies n → notes ≡ map note_of copies → group_from n labels notes ≡ group → IsNewestGroup (newest copies) copies labels group
found_newest copies None labels notes group is noted from =
    subst (λ (at : Option (ℕ × Database)). IsNewestGroup at copies labels group) (sym is) (sym from)
found_newest copies (Some n) labels notes group is noted from =
    subst (λ (at : Option (ℕ × Database)). IsNewestGroup at copies labels group) (sym is.0)
    (n.other, is.1, sym from ∙ ap (λ (l : List Note). group_at n.image n.db n.other labels l) noted)

-- the group of disks with these labels, no two of which are one
pub found_disks : (images : List (List ℕ)) (labels : List Label) (group : Result Found OpenFault) → Gathers IsLabelOf images (Ok labels) → AreApart labels
    → IsGroupOfDisks None images labels group → IsGroupIn images group
found_disks images labels group all apart of_disks = (Ok labels, all, (None, apart, of_disks))

found_copies : (images : List (List ℕ)) (labels : List Label) (read : Copies) (group : Result Found OpenFault) → ReadsCopies labels images (Ok read)
    → group_from read.newest labels read.notes ≡ group → IsGroupOfDisks None images labels group
found_copies images labels read group (copies, all, is, noted) from = (Ok copies, all, found_newest copies read.newest labels read.notes group is noted from)

pub finds : (images : List (List ℕ)) (labels : List Label) (read : Copies) (r : Result Found OpenError) → Gathers IsLabelOf images (Ok labels) → AreApart labels
    → ReadsCopies labels images (Ok read) → GivesGroup r (group_from read.newest labels read.notes) → FindsIn images r
finds images labels read (Ok found) all apart of_copies from = found_disks images labels (Ok found) all apart (found_copies images labels read (Ok found) of_copies from)
finds images labels read (Err (Fault fault)) all apart of_copies from = found_disks images labels (Err fault) all apart (found_copies images labels read (Err fault) of_copies from)
finds images labels read (Err Disk) all apart of_copies from = tt
finds images labels read (Err NoMemory) all apart of_copies from = tt

-- ---- what a group without a fault is

no_rule : (strange : Option ℕ) (broken : Option (ℕ × ℕ))
    → first_of (option_map faults.Stranger strange ∷ option_map (λ b. faults.Rule (record { rule = b.0; id = b.1 })) broken ∷ []) ≡ None → broken ≡ None
no_rule (Some at) broken none = absurd (none-some _ (sym none))
no_rule None None none = refl
no_rule None (Some b) none = absurd (none-some _ (sym none))

pub sound_of : (db : Database) (labels : List Label) → first_of (group_faults db labels) ≡ None → IsSound db.records labels
unfolding group_faults
sound_of db labels none = no_rule (stranger db.records labels) (first_broken_rule db.records labels) none

-- ---- the group of the newest copy, by its faults

no_split : (image : ℕ) (other : Option ℕ) (more : List (Option OpenFault)) → first_of (option_map (faults.Split image) other ∷ more) ≡ None → first_of more ≡ None
no_split image None more none = none
no_split image (Some at) more none = absurd (none-some _ (sym none))

pub newest_sound : (n : Newest) (labels : List Label) → first_of (newest_faults n labels) ≡ None → IsSound n.db.records labels
newest_sound n labels none = sound_of n.db labels (no_split n.image n.other (group_faults n.db labels) none)

group_by : (image : ℕ) (db : Database) (other : Option ℕ) (labels : List Label) (notes : List Note)
    → group_at image db other labels notes ≡ unless (first_of (option_map (faults.Split image) other ∷ group_faults db labels)) (found_with db labels notes)
group_by image db None labels notes = refl
group_by image db (Some other) labels notes = refl

module _ (n : Newest) (labels : List Label) (notes : List Note) where
  group_with : (fault : Option OpenFault) → first_of (newest_faults n labels) ≡ fault → group_at n.image n.db n.other labels notes ≡ unless fault (found_with n.db labels notes)
  group_with fault is = group_by n.image n.db n.other labels notes ∙ ap (λ (o : Option OpenFault). unless o (found_with n.db labels notes)) is

  pub newest_failed : (e : OpenError) → ChecksGroup (Err e) (first_of (newest_faults n labels))
      → GivesGroup (Err e) (group_at n.image n.db n.other labels notes)
  newest_failed (Fault fault) is = group_with (Some fault) is
  newest_failed Disk is = absurd is
  newest_failed NoMemory is = tt

  pub newest_found : (found : Found) → found ≡ found_with n.db labels notes → first_of (newest_faults n labels) ≡ None → GivesGroup (Ok found) (group_at n.image n.db n.other labels notes)
  newest_found found same none = group_with None none ∙ ap (λ (f : Found). Ok f) (sym same)

pub lies_on : (r : Result Found OpenError) (labels : List Label) (sizes : List ℕ) → IfOk r (λ found. found.labels ≡ labels) → LieOn labels sizes → IfOk r (λ found. LieOn found.labels sizes)
lies_on (Err e) labels sizes same lie = tt
lies_on (Ok found) labels sizes same lie = subst (λ (l : List Label). LieOn l sizes) (sym same) lie

pub passed : (images : List (List ℕ)) (r : Result Found OpenError) (error : OpenError) → IsErrAnd r (λ e. e ≡ error) → FindsIn images (Err error) → FindsIn images r
passed images (Ok found) error is finds = absurd is
passed images (Err e) error is finds = subst (λ (x : OpenError). FindsIn images (Err x)) (sym is) finds
