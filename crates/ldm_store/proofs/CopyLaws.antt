-- The copies on the disks, of which one is written while the others stay.
use Rattle.std.proofs.Common.{◌≡◌, ◌⊎◌, inl, inr, ⊎_elim, ℕ, ◌*◌, List, slice_get, Some, Ok, refl, sym, subst, ◌∙◌, arith, ◌≢◌, ◌<◌, length, ◌+◌, ◌≤◌, slice_index, true, false, ap}
use Rattle.ldm_host.specs.Seen.{image, Seen, Leaves}
use Rattle.ldm_host.specs.Moves.{Torn, TornAt, Settled, Changes, AtEachMoment, Later}
use Rattle.ldm_label.specs.declared.Style.{Style}
use Rattle.ldm_label.specs.declared.Label.{Label}
use Rattle.ldm_label.specs.LabelOf.{SameOutsideArea}
use Rattle.ldm_group.specs.Database.{Database}
use Rattle.ldm_copy.specs.declared.answer.CopyState.{CopyState}
use Rattle.ldm_copy.specs.declared.answer.CopyState.TheVariants.{Closed, Valid}
use Rattle.ldm_copy.specs.Copy.{config_area, IsCopyOf, IsOpen, gate_at, IsWritten}
use Rattle.ldm_found.specs.Copies.{IsCopyIn, HasCopy, IsKnown, note_of}
use Rattle.ldm_store.specs.Kept.{IsCurrent, IsOneOf, IsKept, AlwaysKept}
use Rattle.ldm_body.specs.Body.{IsBetween, HasBody}
use Rattle.std.proofs.lemmas.Bool.{cases_eq, cases_lt}
use Rattle.std.proofs.lemmas.Option.{slice_get_within}
use Rattle.ldm_store.specs.Turning.{AllSettled, AllHave, AlwaysOneOf, IsTurned}
use Rattle.ldm_found.specs.Labels.{AreSameOutside}
use Rattle.ldm_host.proofs.Relations.{moments_trans}
use Rattle.std.specs.Prelude.{nat_lt}
use Rattle.std.proofs.lemmas.Bool.Decides.{nat_tests}
use Rattle.ldm_copy.proofs.OneCopy.{one_copy}
use Rattle.ldm_copy.specs.declared.found.Found.{Found}
use Rattle.ldm_copy.specs.declared.notes.Note.{Note}
use Rattle.ldm_copy.specs.declared.notes.Note.TheVariants as notes
use Rattle.ldm_store.specs.Healing.{IsHealed, HasNote, is_behind, AreSpared}
use Rattle.ldm_found.proofs.FoundLaws.{HoldsGroup, copy_known, holder}

-- ---- The copies on disks, carried over by their bytes.

abbrev pub no_label : Label
no_label = record { style = Style.Mbr; disk_guid = 0; minor = 0; data_start = 0; data_size = 0; config_start = 0; area_start = 0; area_sectors = 0; log_start = 0; log_sectors = 0 }

one_some : {a b : Label} → Some a ≡ Some b → a ≡ b
one_some e = cc

-- one label for each disk
pub same_label : (labels : List Label) (disk : ℕ) (a b : Label) → slice_get labels disk ≡ Some a → slice_get labels disk ≡ Some b → a ≡ b
same_label labels disk a b at_a at_b = one_some (sym at_a ∙ at_b)

module _ (labels : List Label) (old new : List (List ℕ)) (disk : ℕ) where
  -- the image is the same
  pub has_image : (Is : CopyState → Type 0) → image new disk ≡ image old disk → HasCopy labels old disk Is → HasCopy labels new disk Is
  has_image Is same has = (has.0, has.1, (has.2.0, subst (λ (x : List ℕ). IsCopyIn (has.0, x) (Ok has.2.0)) (sym same) has.2.1, has.2.2))

  -- the area is the same
  pub has_area : (Is : CopyState → Type 0) (label : Label) → slice_get labels disk ≡ Some label → config_area label (image new disk) ≡ config_area label (image old disk)
      → HasCopy labels old disk Is → HasCopy labels new disk Is
  has_area Is label at same has =
      let there : IsCopyOf (config_area label (image old disk)) label.area_sectors (Ok has.2.0) =
      subst (λ (l : Label). IsCopyIn (l, image old disk) (Ok has.2.0)) (same_label labels disk has.0 label has.1 at) has.2.1 in
      (label, at, (has.2.0, subst (λ (area : List ℕ). IsCopyOf area label.area_sectors (Ok has.2.0)) (sym same) there, has.2.2))

  -- while one copy takes the place of another
  pub has_between : (n : Database) (Is : CopyState → Type 0) → Is Closed → Is (Valid n) → (label : Label) → slice_get labels disk ≡ Some label
      → IsBetween label n (image old disk) (image new disk) → HasCopy labels old disk Is → HasCopy labels new disk Is
  has_between n Is closed valid label at (inl same) has = has_area Is label at same has
  has_between n Is closed valid label at (inr (inl shut)) has = (label, at, (Closed, shut, closed))
  has_between n Is closed valid label at (inr (inr written)) has = (label, at, (Valid n, written, valid))

pub has_more : (labels : List Label) (images : List (List ℕ)) (disk : ℕ) (P Q : CopyState → Type 0) → ((c : CopyState) → P c → Q c) → HasCopy labels images disk P → HasCopy labels images disk Q
has_more labels images disk P Q more has = (has.0, has.1, (has.2.0, has.2.1, more has.2.0 has.2.2))

pub known_current : (o n : Database) (c : CopyState) → IsCurrent o c ⊎ IsCurrent n c → IsKnown o n c
known_current o n Closed (inl x) = absurd x
known_current o n Closed (inr x) = absurd x
known_current o n (Valid db) (inl x) = inr (inl x)
known_current o n (Valid db) (inr x) = inr (inr x)

pub one_of_current : (o n : Database) (c : CopyState) → IsCurrent o c ⊎ IsCurrent n c → IsOneOf o n c
one_of_current o n Closed is = tt
one_of_current o n (Valid db) is = is

pub valid_current : (n : Database) (c : CopyState) → c ≡ Valid n → IsCurrent n c
valid_current n c is = subst (λ (x : CopyState). IsCurrent n x) (sym is) refl

-- a current copy is open
pub current_open : (labels : List Label) (images : List (List ℕ)) (disk : ℕ) (label : Label) (db : Database) → slice_get labels disk ≡ Some label
    → HasCopy labels images disk (IsCurrent db) → IsOpen (config_area label (image images disk))
current_open labels images disk label db at has = opened has.2.0 (subst (λ (l : Label). IsCopyIn (l, image images disk) (Ok has.2.0)) (same_label labels disk has.0 label has.1 at) has.2.1) has.2.2
  where
    opened : (c : CopyState) → IsCopyIn (label, image images disk) (Ok c) → IsCurrent db c → IsOpen (config_area label (image images disk))
    opened Closed is current = absurd current
    opened (Valid other) is current = is.0.open_is

-- ---- the bytes outside the areas

pub outside_itself : (label : Label) (x : List ℕ) → SameOutsideArea label x x
outside_itself label x = record { size = refl; outside = λ k out. refl }

pub outside_is : (label : Label) (x y z : List ℕ) → SameOutsideArea label x y → z ≡ y → SameOutsideArea label x z
outside_is label x y z out is = subst (λ (l : List ℕ). SameOutsideArea label x l) (sym is) out

pub outside_torn : (label : Label) (x y z : List ℕ) → SameOutsideArea label x y → Torn (gate_at label) (512 * label.area_sectors) y z → SameOutsideArea label x z
outside_torn label x y z out torn = record {
  size = torn.size ∙ out.size;
  outside = λ k far. torn.outside k (⊎_elim (λ lt. inl (omega (arith, lt))) (λ ge. inr (omega (arith, ge))) far) ∙ out.outside k far;
}

-- ---- One disk is written while the others stay.

-- open with one of the two groups
abbrev pub IsEither : Database → Database → CopyState → Type 0
IsEither o n copy = IsCurrent o copy ⊎ IsCurrent n copy

module _ (labels : List Label) (b : Seen) (one_each : length b.sizes ≡ length labels) (settled : AllSettled labels b) where
  -- what a stop may leave while nothing is pending is the content
  pub left_is : (images : List (List ℕ)) → Leaves b images → (disk : ℕ) → disk < length labels → image images disk ≡ image b.content disk
  left_is images left disk lt = settled disk lt (image images disk) (left.each disk (subst (λ (l : ℕ). disk < l) (sym one_each) lt))

  module _ (Is : CopyState → Type 0) (have : AllHave labels b.content Is) where
    -- each copy, between two steps
    pub copies_now : (images : List (List ℕ)) → Leaves b images → AllHave labels images Is
    copies_now images left disk lt = has_image labels b.content images disk Is (left_is images left disk lt) (have disk lt)

    -- each copy, while one disk is written
    pub copies_step : (n : Database) → Is Closed → Is (Valid n) → (c : Seen) (disk : ℕ) (label : Label) → slice_get labels disk ≡ Some label
        → Changes disk (gate_at label) (512 * label.area_sectors) b c
        → AtEachMoment b c (λ images said. IsBetween label n (image b.content disk) (image images disk))
        → AtEachMoment b c (λ images said. AllHave labels images Is)
    copies_step n closed valid c disk label at changes between images said left k lt =
        let m = changes.moments images said left in
        ⊎_elim
        (λ is. subst (λ (d : ℕ). HasCopy labels images d Is) (sym is)
        (has_between labels b.content images disk n Is closed valid label at (between images said left) (have disk (slice_get_within labels disk label at))))
        (λ ne. has_image labels b.content images k Is (m.2.others k ne ∙ left_is m.0 m.1 k lt) (have k lt))
        (cases_eq k disk)

module _ (labels : List Label) (o n : Database) (a b : Seen) (one_each : length b.sizes ≡ length labels) (settled : AllSettled labels b)
    (known : AllHave labels b.content (IsKnown o n)) (outside : AreSameOutside labels a.content b.content) (quiet : b.said ≡ a.said) where
  -- between two steps
  pub kept_now : (one : (disk : ℕ) × (disk < length labels) × HasCopy labels b.content disk (IsEither o n))
      → (images : List (List ℕ)) (said : List ℕ) → Leaves b images → said ≡ b.said → IsKept labels o n a images said
  kept_now one images said left is = record {
    said_is = is ∙ quiet;
    one_each = left.one_each ∙ one_each;
    outside = λ disk label at. outside_is label (image a.content disk) (image b.content disk) (image images disk) (outside disk label at)
        (left_is labels b one_each settled images left disk (slice_get_within labels disk label at));
    recoverable = record {
      known = copies_now labels b one_each settled (IsKnown o n) known images left;
      one = (one.0, one.1, has_image labels b.content images one.0 (IsEither o n) (left_is labels b one_each settled images left one.0 one.1) one.2);
    };
  }

  -- while one disk is written, and another, or that one with its area staying, is open with one of the two
  pub kept_step : (c : Seen) (disk : ℕ) (label : Label) → slice_get labels disk ≡ Some label
      → (other : (k : ℕ) × (k < length labels) × ((k ≢ disk) ⊎ (AtEachMoment b c (λ images said. config_area label (image images disk) ≡ config_area label (image b.content disk))))
      × HasCopy labels b.content k (IsEither o n))
      → Changes disk (gate_at label) (512 * label.area_sectors) b c
      → AtEachMoment b c (λ images said. IsBetween label n (image b.content disk) (image images disk))
      → AtEachMoment b c (IsKept labels o n a)
  kept_step c disk label at other changes between images said left = record {
    said_is = m.3 ∙ quiet;
    one_each = m.2.count ∙ m.1.one_each ∙ one_each;
    outside = λ k here at_k. ⊎_elim
        (λ is. subst (λ (d : ℕ). SameOutsideArea here (image a.content d) (image images d)) (sym is)
        (subst (λ (l : Label). SameOutsideArea l (image a.content disk) (image images disk)) (same_label labels disk label here at (subst (λ (d : ℕ). slice_get labels d ≡ Some here) is at_k))
        (outside_torn label (image a.content disk) (image b.content disk) (image images disk) (outside disk label at)
        (subst (λ (x : List ℕ). Torn (gate_at label) (512 * label.area_sectors) x (image images disk)) (left_is labels b one_each settled m.0 m.1 disk in_range) m.2.here))))
        (λ ne. outside_is here (image a.content k) (image b.content k) (image images k) (outside k here at_k) (stays k (slice_get_within labels k here at_k) ne))
        (cases_eq k disk);
    recoverable = record {
      known = copies_step labels b one_each settled (IsKnown o n) known n tt (inr (inr refl)) c disk label at changes between images said left;
      one = (
        other.0,
        other.1,
        ⊎_elim
            (λ is. ⊎_elim
            (λ ne. absurd (ne is))
            (λ keeps. subst (λ (d : ℕ). HasCopy labels images d (IsEither o n)) (sym is)
            (has_area labels b.content images disk (IsEither o n) label at (keeps images said left) (subst (λ (d : ℕ). HasCopy labels b.content d (IsEither o n)) is other.3)))
            other.2)
            (λ ne. has_image labels b.content images other.0 (IsEither o n) (stays other.0 other.1 ne) other.3)
            (cases_eq other.0 disk),
      );
    };
  }
    where
      in_range : disk < length labels
      in_range = slice_get_within labels disk label at

      m : (before : List (List ℕ)) × Leaves b before × TornAt disk (gate_at label) (512 * label.area_sectors) before images × (said ≡ b.said)
      m = changes.moments images said left

      stays : (k : ℕ) → k < length labels → k ≢ disk → image images k ≡ image b.content k
      stays k lt ne = m.2.others k ne ∙ left_is labels b one_each settled m.0 m.1 k lt

-- after one disk is written
module _ (labels : List Label) (b c : Seen) (disk : ℕ) (label : Label) (at : slice_get labels disk ≡ Some label) (changes : Changes disk (gate_at label) (512 * label.area_sectors) b c) where
  pub settled_step : AllSettled labels b → Settled c disk → AllSettled labels c
  settled_step settled here k lt = ⊎_elim
      (λ is. subst (λ (d : ℕ). Settled c d) (sym is) here)
      (λ ne x left. settled k lt x ((changes.left_others k x ne).0 left) ∙ sym (changes.content.others k ne))
      (cases_eq k disk)

  pub has_step : (Is : CopyState → Type 0) (k : ℕ) → k ≢ disk → HasCopy labels b.content k Is → HasCopy labels c.content k Is
  has_step Is k ne has = has_image labels b.content c.content k Is (changes.content.others k ne) has

  -- the bytes behind the gates of the disk that was written, and of the others
  pub body_step : (body : List ℕ) → HasBody label body (image c.content disk) → (k : ℕ) (other : Label) → slice_get labels k ≡ Some other → (k ≢ disk → HasBody other body (image b.content k))
      → HasBody other body (image c.content k)
  body_step body here k other at_k was = ⊎_elim
      (λ is. subst (λ (d : ℕ). HasBody other body (image c.content d)) (sym is)
      (subst (λ (l : Label). HasBody l body (image c.content disk)) (same_label labels disk label other at (subst (λ (d : ℕ). slice_get labels d ≡ Some other) is at_k)) here))
      (λ ne. subst (λ (x : List ℕ). HasBody other body x) (sym (changes.content.others k ne)) (was ne))
      (cases_eq k disk)

  pub outside_step : (a : Seen) → AreSameOutside labels a.content b.content → AreSameOutside labels a.content c.content
  outside_step a outside k here at_k = ⊎_elim
      (λ is. subst (λ (d : ℕ). SameOutsideArea here (image a.content d) (image c.content d)) (sym is)
      (subst (λ (l : Label). SameOutsideArea l (image a.content disk) (image c.content disk)) (same_label labels disk label here at (subst (λ (d : ℕ). slice_get labels d ≡ Some here) is at_k))
      (outside_torn label (image a.content disk) (image b.content disk) (image c.content disk) (outside disk label at) changes.content.here)))
      (λ ne. outside_is here (image a.content k) (image b.content k) (image c.content k) (outside k here at_k) (changes.content.others k ne))
      (cases_eq k disk)

-- ---- The disks are rewritten in order.

-- at the start
pub turned_none : (labels : List Label) (o n : Database) (a : Seen) → 2 ≤ length labels → length a.sizes ≡ length labels → AllSettled labels a → AllHave labels a.content (IsCurrent o)
    → AtEachMoment a a (λ images said. Leaves a images × (said ≡ a.said)) → IsTurned labels o n a a 0
turned_none labels o n a several one_each settled current only = record {
  below = λ k lt. absurd (omega arith);
  above = λ k ge lt. current k lt;
  outside = λ k label at. outside_itself label (image a.content k);
  always = λ images said left.
      let now = only images said left in
      let first : 0 < length labels = omega arith in
      kept_now labels o n a a one_each settled (λ k lt. has_more labels a.content k (IsCurrent o) (IsKnown o n) (λ c is. known_current o n c (inl is)) (current k lt))
      (λ k label at. outside_itself label (image a.content k)) refl
      (0, first, has_more labels a.content 0 (IsCurrent o) (IsEither o n) (λ c is. inl is) (current 0 first)) images said now.0 now.1;
  copies = λ images said left. copies_now labels a one_each settled (IsOneOf o n)
      (λ k lt. has_more labels a.content k (IsCurrent o) (IsOneOf o n) (λ c is. one_of_current o n c (inl is)) (current k lt)) images (only images said left).0;
}

module _ (labels : List Label) (o n : Database) (a b : Seen) (done : ℕ) (several : 2 ≤ length labels) (one_each : length b.sizes ≡ length labels) (settled : AllSettled labels b) (said : b.said ≡ a.said)
    (turned : IsTurned labels o n a b done) where
  either_one : (k : ℕ) → k < length labels → HasCopy labels b.content k (IsEither o n)
  either_one k lt = ⊎_elim
      (λ less. has_more labels b.content k (λ c. c ≡ Valid n) (IsEither o n) (λ c is. inr (valid_current n c is)) (turned.below k less))
      (λ ge. has_more labels b.content k (IsCurrent o) (IsEither o n) (λ c is. inl is) (turned.above k ge lt))
      (cases_lt k done)

  other_one : (k : ℕ) × (k < length labels) × (k ≢ done) × HasCopy labels b.content k (IsEither o n)
  other_one = ⊎_elim
      (λ is. let lt : 1 < length labels = omega arith in let ne : 1 ≢ done = omega (arith, is) in (1, lt, ne, either_one 1 lt))
      (λ ne. let lt : 0 < length labels = omega arith in let ne' : 0 ≢ done = omega (arith, ne) in (0, lt, ne', either_one 0 lt))
      (cases_eq done 0)

  module _ (c : Seen) (label : Label) (at : slice_get labels done ≡ Some label) (later : Later a b) (changes : Changes done (gate_at label) (512 * label.area_sectors) b c)
      (between : AtEachMoment b c (λ images said. IsBetween label n (image b.content done) (image images done))) where
    -- while the next disk is rewritten, whether it succeeds or not
    pub turning_always : AlwaysKept labels o n a c
    turning_always = moments_trans a b c (IsKept labels o n a) later changes.later turned.always
        (kept_step labels o n a b one_each settled (λ k k_lt. has_more labels b.content k (IsEither o n) (IsKnown o n) (known_current o n) (either_one k k_lt)) turned.outside said c done label at
        (other_one.0, other_one.1, inl other_one.2, other_one.3) changes between)

    pub turning_copies : AlwaysOneOf labels o n a c
    turning_copies = moments_trans a b c (λ images said. AllHave labels images (IsOneOf o n)) later changes.later turned.copies
        (copies_step labels b one_each settled (IsOneOf o n) (λ k lt. has_more labels b.content k (IsEither o n) (IsOneOf o n) (one_of_current o n) (either_one k lt))
        n tt (inr refl) c done label at changes between)

    -- after it has succeeded
    pub turned_step : IsWritten label n (image c.content done) → IsTurned labels o n a c (done + 1)
    turned_step is = record {
      below = λ k less. ⊎_elim
          (λ same. subst (λ (d : ℕ). HasCopy labels c.content d (λ copy. copy ≡ Valid n)) (sym same) (label, at, (Valid n, is, refl)))
          (λ ne. has_step labels b c done label at changes (λ copy. copy ≡ Valid n) k ne (turned.below k (omega (arith, less, ne))))
          (cases_eq k done);
      above = λ k ge k_lt.
          let ne : k ≢ done = omega (arith, ge) in
          has_step labels b c done label at changes (IsCurrent o) k ne (turned.above k (omega (arith, ge)) k_lt);
      outside = outside_step labels b c done label at changes a turned.outside;
      always = turning_always;
      copies = turning_copies;
    }

-- what is handed to the disks, where each is handed so many bytes at most
module _ (most disk at n : ℕ) (a b c : Seen) (changes : Changes disk at n b c) (here : slice_index c.wrote disk ≤ slice_index b.wrote disk + most)
    (below : (k : ℕ) → k < disk → slice_index b.wrote k ≤ slice_index a.wrote k + most) (above : (k : ℕ) → disk ≤ k → slice_index b.wrote k ≡ slice_index a.wrote k) where
  pub wrote_below : (k : ℕ) → k < disk + 1 → slice_index c.wrote k ≤ slice_index a.wrote k + most
  wrote_below k lt = ⊎_elim
      (λ is. let was = above disk (omega arith) in subst (λ (d : ℕ). slice_index c.wrote d ≤ slice_index a.wrote d + most) (sym is) (omega (arith, was, here)))
      (λ ne. let same = changes.wrote_others k ne in let le = below k (omega (arith, lt, ne)) in omega (arith, same, le))
      (cases_eq k disk)

  pub wrote_above : (k : ℕ) → disk + 1 ≤ k → slice_index c.wrote k ≡ slice_index a.wrote k
  wrote_above k le = let ne : k ≢ disk = omega (arith, le) in changes.wrote_others k ne ∙ above k (omega (arith, le))

  pub wrote_each : (k : ℕ) → slice_index c.wrote k ≤ slice_index a.wrote k + most
  wrote_each k = ⊎_elim (λ less. wrote_below k less) (λ ge. let is = wrote_above k ge in omega (arith, is)) (cases_lt k (disk + 1))

pub wrote_all : (most : ℕ) (a b : Seen) (done : ℕ) → ((k : ℕ) → k < done → slice_index b.wrote k ≤ slice_index a.wrote k + most) → ((k : ℕ) → done ≤ k → slice_index b.wrote k ≡ slice_index a.wrote k)
    → (k : ℕ) → slice_index b.wrote k ≤ slice_index a.wrote k + most
wrote_all most a b done below above k = ⊎_elim (λ less. below k less) (λ ge. let is = above k ge in omega (arith, is)) (cases_lt k done)

-- a disk is passed
pub passed_below : (most disk : ℕ) (a b : Seen) → ((k : ℕ) → k < disk → slice_index b.wrote k ≤ slice_index a.wrote k + most) → ((k : ℕ) → disk ≤ k → slice_index b.wrote k ≡ slice_index a.wrote k)
    → (k : ℕ) → k < disk + 1 → slice_index b.wrote k ≤ slice_index a.wrote k + most
passed_below most disk a b below above k lt = ⊎_elim (λ less. below k less) (λ ge. let is = above k ge in omega (arith, is)) (cases_lt k disk)

-- ---- The copies that are closed or behind are rewritten in order.

pub one_note : {a b : Note} → Some a ≡ Some b → a ≡ b
one_note e = cc

sequence_is : (held : ℕ) (e : Database) → notes.Sequence held ≡ notes.Sequence e.header.seq → held ≡ e.header.seq
sequence_is held e is = cc

-- a known copy that isn't behind is current
pub not_behind : (group : Database) (note : Note) (c : CopyState) → IsKnown group group c → note ≡ note_of c → is_behind group.header.seq note ≡ false → IsCurrent group c
not_behind group notes.Closed c known is fails = absurd cc
not_behind group (notes.Sequence held) Closed known is fails = absurd cc
not_behind group (notes.Sequence held) (Valid e) (inl less) is fails =
    let at = sequence_is held e is in
    let ge : group.header.seq ≤ held = grind (arith, nat_tests) in
    absurd (omega (arith, less, at, ge))
not_behind group (notes.Sequence held) (Valid e) (inr (inl same)) is fails = same
not_behind group (notes.Sequence held) (Valid e) (inr (inr same)) is fails = same

-- the first with the greatest sequence isn't behind
pub holder_ahead : (found : Found) (images : List (List ℕ)) (held : HoldsGroup images found) → (label : Label) × (note : Note)
    × (slice_get found.labels (holder images found held).0 ≡ Some label)
    × (slice_get found.notes (holder images found held).0 ≡ Some note)
    × (is_behind found.db.header.seq note ≡ false) × IsCopyIn (label, image images (holder images found held).0) (Ok (Valid found.db))
holder_ahead found images held =
    let top = holder images found held in
    let has = copy_known images found held top.0 top.1 in
    let same = same_label found.labels top.0 top.2.0 has.0 top.2.1 has.1 in
    let there : IsCopyIn (has.0, image images top.0) (Ok (Valid found.db)) =
    subst (λ (c : CopyState). IsCopyIn (has.0, image images top.0) (Ok c)) top.2.2.2 (subst (λ (l : Label). IsCopyIn (l, image images top.0) (Ok top.2.2.0)) same top.2.2.1) in
    let one : Ok has.2.0 ≡ Ok (Valid found.db) = one_copy (config_area has.0 (image images top.0)) has.0.area_sectors (Ok has.2.0) (Ok (Valid found.db)) has.2.1 there in
    let is : has.2.0 ≡ Valid found.db = cc in
    let below : nat_lt found.db.header.seq found.db.header.seq ≡ false = grind (arith, nat_tests) in
    (has.0, note_of has.2.0, has.1, has.2.2.1, ap (λ (c : CopyState). is_behind found.db.header.seq (note_of c)) is ∙ below, there)

-- a copy that is behind isn't at a disk of one that isn't
pub other_disk : (seq : ℕ) (marks : List Note) (disk : ℕ) (note : Note) (k : ℕ) (mark : Note) → slice_get marks disk ≡ Some note → is_behind seq note ≡ true → slice_get marks k ≡ Some mark → is_behind seq mark ≡ false
    → k ≢ disk
other_disk seq marks disk note k mark noted behind marked fails is =
    let same : mark ≡ note = one_note (sym marked ∙ ap (λ (d : ℕ). slice_get marks d) is ∙ noted) in
    let bad : false ≡ true = sym fails ∙ ap (is_behind seq) same ∙ behind in cc

module _ (found : Found) (a : Seen) (held : HoldsGroup a.content found) where
  pub known_at : AllHave found.labels a.content (IsKnown found.db found.db)
  known_at disk lt = has_more found.labels a.content disk (λ c. IsKnown found.db found.db c × (slice_get found.notes disk ≡ Some (note_of c))) (IsKnown found.db found.db) (λ c both. both.0) (copy_known a.content found held disk lt)

  -- while nothing is written
  pub still_kept : length a.sizes ≡ length found.labels → AllSettled found.labels a → (images : List (List ℕ)) (said : List ℕ) → Leaves a images → said ≡ a.said
      → IsKept found.labels found.db found.db a images said
  still_kept one_each settled images said left is =
      let top = holder a.content found held in
      kept_now found.labels found.db found.db a a one_each settled known_at (λ k label at. outside_itself label (image a.content k)) refl
      (top.0, top.1, has_more found.labels a.content top.0 (λ c. c ≡ Valid found.db) (IsEither found.db found.db) (λ c is. inl (valid_current found.db c is)) top.2) images said left is

  pub healed_none : length a.sizes ≡ length found.labels → AllSettled found.labels a
      → AtEachMoment a a (λ images said. Leaves a images × (said ≡ a.said)) → IsHealed found.labels found.db a a 0
  healed_none one_each settled only = record {
    below = λ k lt. absurd (omega arith);
    above = λ k ge lt. refl;
    each = λ k lt. inr refl;
    outside = λ k label at. outside_itself label (image a.content k);
    always = λ images said left. still_kept one_each settled images said (only images said left).0 (only images said left).1;
  }

  module _ (b : Seen) (done : ℕ) (one_each : length b.sizes ≡ length found.labels) (settled : AllSettled found.labels b) (said : b.said ≡ a.said) (healed : IsHealed found.labels found.db a b done) where
    known_all : AllHave found.labels b.content (IsKnown found.db found.db)
    known_all k lt = ⊎_elim
        (λ less. has_more found.labels b.content k (IsCurrent found.db) (IsKnown found.db found.db) (λ c is. known_current found.db found.db c (inl is)) (healed.below k less))
        (λ ge. has_image found.labels a.content b.content k (IsKnown found.db found.db) (healed.above k ge lt) (known_at k lt))
        (cases_lt k done)

    -- what is noted of the next copy
    pub note_next : (label : Label) (note : Note) → slice_get found.labels done ≡ Some label → slice_get found.notes done ≡ Some note → HasNote label (image b.content done) note
    note_next label note at noted =
        let lt = slice_get_within found.labels done label at in
        let has = copy_known a.content found held done lt in
        let same = same_label found.labels done has.0 label has.1 at in
        let there : IsCopyIn (label, image a.content done) (Ok has.2.0) = subst (λ (l : Label). IsCopyIn (l, image a.content done) (Ok has.2.0)) same has.2.1 in
        (has.2.0, subst (λ (x : List ℕ). IsCopyIn (label, x) (Ok has.2.0)) (sym (healed.above done (omega arith) lt)) there, one_note (sym noted ∙ has.2.2.1))

    -- a copy that isn't behind stays
    pub healed_skip : (note : Note) → done < length found.labels → slice_get found.notes done ≡ Some note → is_behind found.db.header.seq note ≡ false → IsHealed found.labels found.db a b (done + 1)
    healed_skip note lt noted fails = record {
      below = λ k less. ⊎_elim
          (λ same. subst (λ (d : ℕ). HasCopy found.labels b.content d (IsCurrent found.db)) (sym same) here)
          (λ ne. healed.below k (omega (arith, less, ne)))
          (cases_eq k done);
      above = λ k ge k_lt. healed.above k (omega (arith, ge)) k_lt;
      each = healed.each;
      outside = healed.outside;
      always = healed.always;
    }
      where
        here : HasCopy found.labels b.content done (IsCurrent found.db)
        here =
            let has = copy_known a.content found held done lt in
            has_image found.labels a.content b.content done (IsCurrent found.db) (healed.above done (omega arith) lt)
            (has.0, has.1, (has.2.0, has.2.1, not_behind found.db note has.2.0 has.2.2.0 (one_note (sym noted ∙ has.2.2.1)) fails))

    -- the holder isn't behind
    other : (note : Note) → slice_get found.notes done ≡ Some note → is_behind found.db.header.seq note ≡ true
        → (k : ℕ) × (k < length found.labels) × (k ≢ done) × HasCopy found.labels b.content k (IsEither found.db found.db)
    other note noted behind =
        let top = holder a.content found held in
        let ahead = holder_ahead found a.content held in (
          top.0,
          top.1,
          other_disk found.db.header.seq found.notes done note top.0 ahead.1 noted behind ahead.3 ahead.4,
          ⊎_elim
              (λ less. has_more found.labels b.content top.0 (IsCurrent found.db) (IsEither found.db found.db) (λ c is. inl is) (healed.below top.0 less))
              (λ ge. has_image found.labels a.content b.content top.0 (IsEither found.db found.db) (healed.above top.0 ge top.1)
              (has_more found.labels a.content top.0 (λ c. c ≡ Valid found.db) (IsEither found.db found.db) (λ c is. inl (valid_current found.db c is)) top.2))
              (cases_lt top.0 done),
        )

    module _ (c : Seen) (label : Label) (note : Note) (at : slice_get found.labels done ≡ Some label) (noted : slice_get found.notes done ≡ Some note) (behind : is_behind found.db.header.seq note ≡ true)
        (later : Later a b) (changes : Changes done (gate_at label) (512 * label.area_sectors) b c)
        (between : AtEachMoment b c (λ images said. IsBetween label found.db (image b.content done) (image images done))) where
      pub healing_always : AlwaysKept found.labels found.db found.db a c
      healing_always =
          let holds = other note noted behind in
          moments_trans a b c (IsKept found.labels found.db found.db a) later changes.later healed.always
          (kept_step found.labels found.db found.db a b one_each settled known_all healed.outside said c done label at (holds.0, holds.1, inl holds.2, holds.3) changes between)

      pub healed_step : IsWritten label found.db (image c.content done) → IsHealed found.labels found.db a c (done + 1)
      healed_step is = record {
        below = λ k less. ⊎_elim
            (λ same. subst (λ (d : ℕ). HasCopy found.labels c.content d (IsCurrent found.db)) (sym same) (label, at, (Valid found.db, is, refl)))
            (λ ne. has_step found.labels b c done label at changes (IsCurrent found.db) k ne (healed.below k (omega (arith, less, ne))))
            (cases_eq k done);
        above = λ k ge k_lt. let ne : k ≢ done = omega (arith, ge) in changes.content.others k ne ∙ healed.above k (omega (arith, ge)) k_lt;
        each = λ k k_lt. ⊎_elim
            (λ same. subst (λ (d : ℕ). HasCopy found.labels c.content d (λ copy. copy ≡ Valid found.db) ⊎ (image c.content d ≡ image a.content d)) (sym same) (inl (label, at, (Valid found.db, is, refl))))
            (λ ne. ⊎_elim
            (λ has. inl (has_step found.labels b c done label at changes (λ copy. copy ≡ Valid found.db) k ne has))
            (λ same. inr (changes.content.others k ne ∙ same))
            (healed.each k k_lt))
            (cases_eq k done);
        outside = outside_step found.labels b c done label at changes a healed.outside;
        always = healing_always;
      }

pub spared_step : (seq : ℕ) (marks : List Note) (a b c : Seen) (disk at n : ℕ) (note : Note) → slice_get marks disk ≡ Some note → is_behind seq note ≡ true → Changes disk at n b c
    → AreSpared seq marks a.wrote b.wrote → AreSpared seq marks a.wrote c.wrote
spared_step seq marks a b c disk at n note noted behind changes spared k mark marked fails =
    changes.wrote_others k (other_disk seq marks disk note k mark noted behind marked fails) ∙ spared k mark marked fails

-- the other disks stay
pub stays_step : (seq : ℕ) (marks : List Note) (a b c : Seen) (disk at n : ℕ) (note : Note) → slice_get marks disk ≡ Some note → is_behind seq note ≡ true → Changes disk at n b c
    → ((k : ℕ) (mark : Note) → slice_get marks k ≡ Some mark → is_behind seq mark ≡ false → image b.content k ≡ image a.content k)
    → (k : ℕ) (mark : Note) → slice_get marks k ≡ Some mark → is_behind seq mark ≡ false → image c.content k ≡ image a.content k
stays_step seq marks a b c disk at n note noted behind changes stays k mark marked fails = changes.content.others k (other_disk seq marks disk note k mark noted behind marked fails) ∙ stays k mark marked fails
