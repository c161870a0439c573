-- Images that are kept between two groups open as one of them, by their own labels.
use Rattle.std.proofs.Common.{[], Bool, true, false, ◌≡◌, ◌≤◌, ℕ, List, ◌∷◌, length, refl, arith, None, ◌⊎◌, inl, inr, zero, suc, ◌<◌, sym, ap, subst, ◌∙◌, Option, Some, Ok, ⊎_elim}
use Rattle.std.specs.List.{filter_map}
use Rattle.std.specs.Option.{option_map}
use Rattle.ldm_bytes.specs.Tables.{first_of, unless}
use Rattle.ldm_records.specs.declared.types.Record.{Record}
use Rattle.ldm_label.specs.declared.Label.{Label}
use Rattle.ldm_group.specs.Database.{Database, IsSameCore}
use Rattle.ldm_group.specs.Room.{need_of}
use Rattle.ldm_rules.specs.Rules.{group_id, group_fault}
use Rattle.ldm_rules.specs.Facts.{IsSoundOn, AreApart}
use Rattle.ldm_rules.proofs.SoundLaws.{sound_parts}
use Rattle.ldm_body.specs.Body.{IsBodyOf}
use Rattle.ldm_found.specs.Editing.{blocked_in}
use Rattle.ldm_found.specs.Facts.{LieOn}
use Rattle.ldm_found.specs.Opening.{group_faults, IsGroupIn, IsNewestGroup, group_at, found_with}
use Rattle.ldm_copy.specs.declared.fault.OpenFault.TheVariants as faults
use Rattle.ldm_store.proofs.ClearLaws.{clear_of, labels_stay}
use Rattle.ldm_store.specs.Kept.{MayEdit, IsCurrent, IsNext, IsRecoverable, IsKept, Opens}
use Rattle.ldm_store.specs.Turning.{IsBodyOnEach}
use Rattle.ldm_store.specs.Sessions.{IsEditable}
use Rattle.std.specs.Prelude.{map, nat_lt, slice_get, zip, if◌then◌else◌}
use Rattle.ldm_copy.specs.declared.answer.CopyState.{CopyState}
use Rattle.ldm_copy.specs.declared.answer.CopyState.TheVariants.{Closed, Valid}
use Rattle.ldm_copy.proofs.OneCopy.{one_copy}
use Rattle.ldm_copy.specs.Copy.{config_area}
use Rattle.ldm_found.specs.Gathers.{Gathers, IsFirst}
use Rattle.ldm_copy.specs.declared.found.Found.{Found}
use Rattle.ldm_copy.specs.declared.fault.OpenFault.{OpenFault}
use Rattle.ldm_found.specs.Labels.{IsLabelOf, AreSameOutside}
use Rattle.ldm_found.specs.Copies.{IsCopyIn, newer, newest, Disagrees, note_of, IsKnown, HasCopy}
use Rattle.ldm_store.proofs.AlikeLaws.{same_faults, same_blocked, same_seq}
use Rattle.ldm_host.specs.Seen.{Seen, image}
use Rattle.ldm_store.proofs.CopyLaws.{same_label}
use Rattle.ldm_found.proofs.FoundLaws.{holds_group, copy_at}
use Rattle.ldm_found.proofs.CopyLaws.{greatest}
use Rattle.ldm_group.proofs.NeedLaws.{few_records}

-- ---- What a group that may be edited has: no fault on its disks, and bodies that fit each of them.

-- an editable group has no fault on its disks, and may be edited
pub may_of : (db : Database) (labels : List Label) → IsEditable db labels → MayEdit db labels
unfolding group_faults
may_of db labels editable = record { faultless = none; unblocked = editable.unblocked }
  where
    none : first_of (group_faults db labels) ≡ None
    none = λ i. first_of (option_map faults.Stranger (editable.group.own i) ∷ option_map (λ broken. faults.Rule (record { rule = broken.0; id = broken.1 })) (editable.group.sound i) ∷ [])

-- a group has a group record, which takes a block
some_need : (records : List Record) → group_fault (filter_map group_id records) ≡ None → 1 ≤ need_of records
some_need [] none = absurd cc
some_need (r ∷ rest) none = let few : length (r ∷ rest) ≤ need_of (r ∷ rest) = few_records (r ∷ rest) in omega (arith, few)

-- the header of a sound group leaves it blocks
pub low_last : (db : Database) (labels : List Label) → IsSoundOn db labels → 4 ≤ db.header.last
low_last db labels group =
    let some = some_need db.records (sound_parts db.records labels group.sound).one_group in
    let room = group.room.need in
    omega (arith, some, room)

-- a group that may be edited has no more blocks than the greatest area
pub high_last : (db : Database) (labels : List Label) (sizes : List ℕ) → LieOn labels sizes → blocked_in db labels ≡ None → db.header.last ≤ 8192
high_last db [] sizes lie unblocked = let several = (clear_of db [] unblocked).several in absurd (omega (arith, several))
high_last db (label ∷ labels) sizes lie unblocked =
    let large = (clear_of db (label ∷ labels) unblocked).large 0 label refl in
    let fits = lie.fits 0 label refl in
    let area = fits.area in
    omega (arith, large, area)

-- a body of a group that may be edited fits each disk
pub bodies_for : (db : Database) (labels : List Label) (sizes : List ℕ) (body : List ℕ) → LieOn labels sizes → blocked_in db labels ≡ None → IsBodyOf db body → IsBodyOnEach db labels body
bodies_for db labels sizes body lie unblocked is disk label at =
    let large = (clear_of db labels unblocked).large disk label at in
    let fits = lie.fits disk label at in
    let area = fits.area in
    record { is = is.is; rising = is.rising; low = is.low; high = omega (arith, large, area); fits = large }

-- ---- Recoverable images hold one of the two groups.

abbrev AreCopies : List Label → List (List ℕ) → List CopyState → Type 0
AreCopies labels images copies = Gathers IsCopyIn (zip labels images) (Ok copies)

each_more : (Is : CopyState → Type 0) (c : CopyState) (copies : List CopyState) → Is c
    → ((k : ℕ) (x : CopyState) → slice_get copies k ≡ Some x → Is x)
    → (k : ℕ) (x : CopyState) → slice_get (c ∷ copies) k ≡ Some x → Is x
each_more Is c copies is rest zero x at = (let e : Some c ≡ Some x = at in let same : c ≡ x = cc in subst Is same is)
each_more Is c copies is rest (suc k) x at = rest k x at

-- the copies of all disks, of which each is one that passes
copies_from : (labels : List Label) (images : List (List ℕ)) (Is : CopyState → Type 0) → length images ≡ length labels → ((disk : ℕ) → disk < length labels → HasCopy labels images disk Is)
    → (copies : List CopyState) × AreCopies labels images copies × ((k : ℕ) (c : CopyState) → slice_get copies k ≡ Some c → Is c)
copies_from [] [] Is same has = ([], tt, λ k c at. absurd cc)
copies_from [] (i ∷ images) Is same has = absurd (omega arith)
copies_from (l ∷ labels) [] Is same has = absurd (omega arith)
copies_from (l ∷ labels) (i ∷ images) Is same has =
    let here = has 0 (omega arith) in
    let rest = copies_from labels images Is (omega arith) (λ disk lt. has (suc disk) (omega arith)) in
    let label : here.0 ≡ l = (let e : Some l ≡ Some here.0 = here.1 in cc) in
    let first : IsCopyIn (l, i) (Ok here.2.0) = subst (λ (m : Label). IsCopyIn (m, i) (Ok here.2.0)) label here.2.1 in
    (here.2.0 ∷ rest.0, (first, rest.1), each_more Is here.2.0 rest.0 here.2.2 rest.2)

-- what one disk has stands among them
copy_among : (labels : List Label) (images : List (List ℕ)) (copies : List CopyState) (Is : CopyState → Type 0) (disk : ℕ) → length images ≡ length labels → AreCopies labels images copies
    → disk < length labels → HasCopy labels images disk Is → (c : CopyState) × (slice_get copies disk ≡ Some c) × Is c
copy_among labels images copies Is disk same are lt has =
    let there = copy_at labels images copies same are disk lt in
    let label = same_label labels disk has.0 there.0 has.1 there.1 in
    let is : IsCopyIn (there.0, image images disk) (Ok has.2.0) =
    subst (λ (l : Label). IsCopyIn (l, image images disk) (Ok has.2.0)) label has.2.1 in
    let one : Ok has.2.0 ≡ Ok there.2.0 =
    one_copy (config_area there.0 (image images disk)) there.0.area_sectors (Ok has.2.0) (Ok there.2.0) is there.2.1 in
    let copy : there.2.0 ≡ has.2.0 = cc in
    (has.2.0, there.2.2 ∙ ap Some copy, has.2.2)

none_first : {A : Type 0} (Has : A → Type 0) (xs : List A) → ((k : ℕ) (x : A) → slice_get xs k ≡ Some x → Has x → ⊥)
    → IsFirst Has xs None
none_first Has [] none = tt
none_first Has (x ∷ xs) none = (none 0 x refl, none_first Has xs (λ k y at. none (suc k) y at))

-- a known database whose sequence isn't below is one of the two
known_high : (o n db : Database) → o.header.seq ≤ db.header.seq → IsKnown o n (Valid db) → IsSameCore db o ⊎ IsSameCore db n
known_high o n db le (inl lt) = absurd (omega arith)
known_high o n db le (inr one) = one

-- two of one sequence are the same group
one_of_two : (o n a b : Database) → IsNext o n → a.header.seq ≡ b.header.seq → IsSameCore a o ⊎ IsSameCore a n → IsSameCore b o ⊎ IsSameCore b n → IsSameCore b a
one_of_two o n a b next seq (inl x) (inl y) = y ∙ sym x
one_of_two o n a b next seq (inr x) (inr y) = y ∙ sym x
one_of_two o n a b (inl same) seq (inl x) (inr y) = y ∙ same ∙ sym x
one_of_two o n a b (inl same) seq (inr x) (inl y) = y ∙ sym same ∙ sym x
one_of_two o n a b (inr more) seq (inl x) (inr y) = (let p = same_seq a o x in let q = same_seq b n y in absurd (omega (arith, p, q, seq, more)))
one_of_two o n a b (inr more) seq (inr x) (inl y) = (let p = same_seq a n x in let q = same_seq b o y in absurd (omega (arith, p, q, seq, more)))

-- a copy that is current is open, with no lower sequence than the first
current_high : (o n : Database) → IsNext o n → (c : CopyState) → IsCurrent o c ⊎ IsCurrent n c → (db : Database)
    × (c ≡ Valid db) × (o.header.seq ≤ db.header.seq)
current_high o n next Closed (inl x) = absurd x
current_high o n next Closed (inr x) = absurd x
current_high o n next (Valid db) (inl x) = (db, refl, let p = same_seq db o x in omega (arith, p))
current_high o n (inl same) (Valid db) (inr x) =
    (db, refl, let p = same_seq db n x in let q = same_seq n o same in omega (arith, p, q))
current_high o n (inr more) (Valid db) (inr x) = (db, refl, let p = same_seq db n x in omega (arith, p, more))

-- where there is no newest, no copy is open
later_none : (later : Option (ℕ × Database)) → option_map {U = ℕ × Database} (λ (at : ℕ × Database). (suc at.0, at.1)) later ≡ None → later ≡ None
later_none None is = refl
later_none (Some at) is = absurd cc

open_newest : (db : Database) (later : Option (ℕ × Database)) → newer (Valid db) later ≡ None → ⊥
open_newest db None is = absurd cc
open_newest db (Some at) is = by (nat_lt db.header.seq at.1.header.seq) is
  where
    by : (b : Bool) → (if b then Some at else Some (0, db)) ≡ None → ⊥
    by true e = absurd cc
    by false e = absurd cc

none_newest : (copies : List CopyState) → newest copies ≡ None → (k : ℕ) (e : Database)
    → slice_get copies k ≡ Some (Valid e) → ⊥
none_newest [] is k e at = absurd cc
none_newest (Valid db ∷ copies) is k e at = open_newest db _ is
none_newest (Closed ∷ copies) is zero e at = absurd cc
none_newest (Closed ∷ copies) is (suc k) e at = none_newest copies (later_none (newest copies) is) k e at

-- the law: what recoverable images hold
pub recoverable_found : (labels : List Label) (images : List (List ℕ)) (o n : Database) → length images ≡ length labels → IsNext o n → IsRecoverable labels o n images
    → (copies : List CopyState) × AreCopies labels images copies × ((at : ℕ × Database) × (newest copies ≡ Some at) × IsFirst (Disagrees at.1) copies None × (IsSameCore at.1 o ⊎ IsSameCore at.1 n))
recoverable_found labels images o n same next r = (all.0, all.1, by_newest (newest all.0) refl)
  where
    all : (copies : List CopyState) × AreCopies labels images copies
        × ((k : ℕ) (c : CopyState) → slice_get copies k ≡ Some c → IsKnown o n c)
    all = copies_from labels images (IsKnown o n) same r.known

    one : (c : CopyState) × (slice_get all.0 r.one.0 ≡ Some c) × (IsCurrent o c ⊎ IsCurrent n c)
    one = copy_among labels images all.0 (λ copy. IsCurrent o copy ⊎ IsCurrent n copy) r.one.0 same all.1 r.one.1 r.one.2

    high : (db : Database) × (one.0 ≡ Valid db) × (o.header.seq ≤ db.header.seq)
    high = current_high o n next one.0 one.2

    there : slice_get all.0 r.one.0 ≡ Some (Valid high.0)
    there = one.1 ∙ ap Some high.1

    agrees : (a : Database) → o.header.seq ≤ a.header.seq → IsSameCore a o ⊎ IsSameCore a n → (k : ℕ) (c : CopyState)
        → slice_get all.0 k ≡ Some c → Disagrees a c → ⊥
    agrees a le is k Closed at differs = differs
    agrees a le is k (Valid b) at differs =
        differs.1 (one_of_two o n a b next (sym differs.0) is
        (known_high o n b (let e = differs.0 in omega (arith, e, le)) (all.2 k (Valid b) at)))

    by_newest : (top : Option (ℕ × Database)) → newest all.0 ≡ top
        → (at : ℕ × Database) × (newest all.0 ≡ Some at) × IsFirst (Disagrees at.1) all.0 None
        × (IsSameCore at.1 o ⊎ IsSameCore at.1 n)
    by_newest None none = absurd (none_newest all.0 none r.one.0 high.0 there)
    by_newest (Some at) is =
        let top = greatest all.0 at is in
        let above : o.header.seq ≤ at.1.header.seq =
        (let below = top.top r.one.0 high.0 there in let least = high.2 in omega (arith, below, least)) in
        let either = known_high o n at.1 above (all.2 at.0 (Valid at.1) top.there) in
        (at, is, none_first (Disagrees at.1) all.0 (agrees at.1 above either), either)

may_core : (a b : Database) (labels : List Label) → IsSameCore a b → MayEdit b labels → MayEdit a labels
may_core a b labels same may = record {
  faultless = ap first_of (same_faults a b labels same) ∙ may.faultless;
  unblocked = same_blocked a b labels same ∙ may.unblocked;
}

may_either : (a o n : Database) (labels : List Label) → IsSameCore a o ⊎ IsSameCore a n → MayEdit o labels → MayEdit n labels → MayEdit a labels
may_either a o n labels (inl same) may_o may_n = may_core a o labels same may_o
may_either a o n labels (inr same) may_o may_n = may_core a n labels same may_n

-- the law on what is found: recoverable images are found as one of the two groups, which may be edited
pub images_open : (labels : List Label) (images : List (List ℕ)) (o n : Database) → length images ≡ length labels → Gathers IsLabelOf images (Ok labels) → AreApart labels
    → MayEdit o labels → MayEdit n labels → IsNext o n → IsRecoverable labels o n images
    → (found : Found) × IsGroupIn images (Ok found) × (found.blocked ≡ None) × (IsSameCore found.db o ⊎ IsSameCore found.db n)
images_open labels images o n same of_labels apart may_o may_n next r =
    let law = recoverable_found labels images o n same next r in
    let copies = law.0 in
    let at = law.2.0 in
    let found = found_with at.1 labels (map note_of copies) in
    let may = may_either at.1 o n labels law.2.3 may_o may_n in
    let group : Ok found ≡ group_at at.0 at.1 None labels (map note_of copies) = ap (λ (f : Option OpenFault). unless f found) (sym may.faultless) in
    let newest_group : IsNewestGroup (newest copies) copies labels (Ok found) =
    subst (λ (o : Option (ℕ × Database)). IsNewestGroup o copies labels (Ok found)) (sym law.2.1) (None, law.2.2, group) in
    (found, (Ok labels, of_labels, (None, apart, (Ok copies, law.1, newest_group))), may.unblocked, law.2.3)

-- ---- Kept images open by their own labels, as one of the two groups.

pub kept_opens : (labels : List Label) (o n : Database) (old images : List (List ℕ)) → Gathers IsLabelOf old (Ok labels) → AreApart labels → MayEdit o labels → MayEdit n labels → IsNext o n
    → length images ≡ length labels → AreSameOutside labels old images → IsRecoverable labels o n images
    → (found : Found) × IsGroupIn images (Ok found) × (found.blocked ≡ None) × (IsSameCore found.db o ⊎ IsSameCore found.db n)
kept_opens labels o n old images are apart may_o may_n next one_each outside kept =
    images_open labels images o n one_each (labels_stay labels old images are one_each outside (clear_of o labels may_o.unblocked).clear) apart may_o may_n next kept

pub editable_opens : (labels : List Label) (o n : Database) (old images : List (List ℕ)) → Gathers IsLabelOf old (Ok labels) → IsEditable o labels → IsEditable n labels → IsNext o n
    → length images ≡ length labels → AreSameOutside labels old images → IsRecoverable labels o n images → Opens images o ⊎ Opens images n
editable_opens labels o n old images are may_o may_n next one_each outside kept =
    let opens = kept_opens labels o n old images are may_o.group.apart (may_of o labels may_o) (may_of n labels may_n) next one_each outside kept in
    ⊎_elim
    (λ same. inl (record { found = opens.0; is = opens.1; editable = opens.2; same = same }))
    (λ same. inr (record { found = opens.0; is = opens.1; editable = opens.2; same = same }))
    opens.3

-- images that keep a group which was found open as that group
pub kept_opens_found : (start : Seen) (found : Found) (images : List (List ℕ)) (said : List ℕ) → IsGroupIn start.content (Ok found) → found.blocked ≡ None
    → IsKept found.labels found.db found.db start images said → Opens images found.db
kept_opens_found start found images said is editable kept =
    let held = holds_group start.content found is in
    let may : MayEdit found.db found.labels = record { faultless = held.faultless; unblocked = sym held.blocked_is ∙ editable } in
    let opens = kept_opens found.labels found.db found.db start.content images held.labels_are held.apart may may (inl refl) kept.one_each kept.outside kept.recoverable in
    record { found = opens.0; is = opens.1; editable = opens.2; same = ⊎_elim (λ same. same) (λ same. same) opens.3 }
