-- The images while damaged copies are closed, one after another.
use Rattle.std.proofs.Common.{◌≡◌, ◌≢◌, ◌⊎◌, inl, inr, ⊎_elim, ◌<◌, ◌≤◌, ◌+◌, ◌/◌, ℕ, List, [], Option, Some, None, Ok, true, false, is_some, length, get_or, slice_get, slice_index, refl, sym, ◌∙◌, ap, subst, arith}
use Rattle.std.proofs.lemmas.Bool.{cases_eq, cases_lt}
use Rattle.std.proofs.lemmas.List.{same_lists}
use Rattle.std.proofs.lemmas.Option.{slice_get-get_or, slice_get_within, same_Some}
use Rattle.ldm_host.specs.Seen.{Seen, Leaves, image}
use Rattle.ldm_host.specs.Moves.{AtEachMoment, DiskFailed, Torn, TornAt, Settled, Works, Writes}
use Rattle.ldm_host.proofs.Relations.{moments_trans}
use Rattle.ldm_label.specs.declared.Label.{Label}
use Rattle.ldm_label.specs.declared.Style.{Style}
use Rattle.ldm_label.specs.LabelOf.{label_of, SameOutsideArea}
use Rattle.ldm_label.specs.Laws.{IsClearOfLabel}
use Rattle.ldm_copy.specs.declared.answer.CopyFault.{CopyFault}
use Rattle.ldm_copy.specs.Copy.{config_area, gate_at, IsOpen}
use Rattle.ldm_found.specs.Facts.{LieOn}
use Rattle.ldm_found.specs.Gathers.{Gathers}
use Rattle.ldm_found.specs.Labels.{IsLabelOf, AreSameOutside}
use Rattle.ldm_found.proofs.CopyLaws.{gather_at}
use Rattle.ldm_init.specs.Images.{NothingPending}
use Rattle.ldm_damage.specs.declared.damage.Damage.{Damage}
use Rattle.ldm_damage.specs.Views.{AreDamaged, no_damage}
use Rattle.ldm_repair.specs.Closing.{IsClosedAs, IsClosing, closing_bytes}
use Rattle.ldm_repair.proofs.ShutLaws.{closed_view, same_outside, between_shut, is_view, plain_view, faulty_view, view_between, view_outside}

abbrev pub no_label : Label
no_label = record { style = Style.Mbr; disk_guid = 0; minor = 0; data_start = 0; data_size = 0; config_start = 0; area_start = 0; area_sectors = 0; log_start = 0; log_sectors = 0 }

-- what stands at a place of a slice of the labels
pub label_in : (slice labels : List Label) (disk : ℕ) → slice ≡ labels → disk < length slice → slice_get labels disk ≡ Some (get_or slice disk no_label)
label_in slice labels disk is lt = subst (λ (l : List Label). slice_get l disk ≡ Some (get_or slice disk no_label)) is (slice_get-get_or slice disk no_label lt)

any_default : {A : Type 0} (xs : List A) (k : ℕ) (d e : A) → k < length xs → get_or xs k d ≡ get_or xs k e
any_default xs k d e lt = same_Some (get_or xs k d) (get_or xs k e) (sym (slice_get-get_or xs k d lt) ∙ slice_get-get_or xs k e lt)

same_images : (xs ys : List (List ℕ)) → length xs ≡ length ys → ((disk : ℕ) → disk < length xs → image xs disk ≡ image ys disk) → xs ≡ ys
same_images xs ys len each = same_lists xs ys len (λ k d lt. any_default xs k d [] lt ∙ each k lt ∙ any_default ys k [] d (omega arith))

outside_itself : (label : Label) (x : List ℕ) → SameOutsideArea label x x
outside_itself label x = record { size = refl; outside = λ k out. refl }

-- ---- the copy of a disk that is damaged

-- what a copy is that is told as damaged
pub some_copy : (copy : Option CopyFault) → is_some copy ≡ true → (fault : CopyFault) × (copy ≡ Some fault)
some_copy (Some fault) is = (fault, refl)
some_copy None is = absurd cc

pub no_copy : (copy : Option CopyFault) → is_some copy ≡ false → copy ≡ None
no_copy (Some fault) is = absurd cc
no_copy None is = refl

-- ---- images that have labels which the disks fit

pub record IsLabelled (labels : List Label) (disks : ℕ) (images : List (List ℕ)) : Type 0 where
  pub one_label : length labels ≡ disks
  pub one_image : length images ≡ disks
  pub label_is : (disk : ℕ) (label : Label) → slice_get labels disk ≡ Some label → label_of (image images disk) ≡ Ok label
  pub clear : (disk : ℕ) (label : Label) → slice_get labels disk ≡ Some label → IsClearOfLabel label
  pub some : (disk : ℕ) (label : Label) → slice_get labels disk ≡ Some label → label.area_sectors ≢ 0
  pub room : (disk : ℕ) (label : Label) → slice_get labels disk ≡ Some label → gate_at label + 1 ≤ length (image images disk)

pub labelled_on : (labels : List Label) (a : Seen) → LieOn labels a.sizes → Gathers IsLabelOf a.content (Ok labels)
    → ((disk : ℕ) (label : Label) → slice_get labels disk ≡ Some label → IsClearOfLabel label)
    → length a.content ≡ length a.sizes → ((disk : ℕ) → disk < length a.sizes → length (image a.content disk) / 512 ≡ slice_index a.sizes disk)
    → IsLabelled labels (length a.sizes) a.content
labelled_on labels a lies labelled clear one_each lengths = record {
  one_label = lies.one_label;
  one_image = one_each;
  label_is = λ disk label at. gather_at IsLabelOf a.content labels disk [] label labelled at;
  clear = clear;
  some = λ disk label at. (lies.fits disk label at).some_area;
  room = λ disk label at.
      let fits = lies.fits disk label at in
      let within = slice_get_within labels disk label at in
      let inside = fits.inside in
      let area = fits.area in
      let some = fits.some_area in
      let size = lengths disk (omega (arith, within, lies.one_label)) in
      omega (arith, inside, area, some, size);
}

-- ---- each disk

-- the image is as it was or reads as its view, and no byte outside the area is changed
pub record IsShutAt (label : Label) (old view now : List ℕ) : Type 0 where
  pub between : (now ≡ old) ⊎ IsClosedAs view now
  pub outside : SameOutsideArea label old now

pub shut_none : (label : Label) (old view : List ℕ) → IsShutAt label old view old
shut_none label old view = record { between = inl refl; outside = outside_itself label old }

pub shut_as : (label : Label) (old view now other : List ℕ) → other ≡ now → IsShutAt label old view now → IsShutAt label old view other
shut_as label old view now other same is = subst (λ (x : List ℕ). IsShutAt label old view x) (sym same) is

-- The disks below a number are their views, and the others as they were.
pub record IsBelow (labels : List Label) (views : List (List ℕ)) (a b : Seen) (done : ℕ) : Type 0 where
  pub count : length b.content ≡ length a.content
  pub below : (k : ℕ) → k < done → image b.content k ≡ image views k
  pub above : (k : ℕ) → done ≤ k → image b.content k ≡ image a.content k
  pub always : AtEachMoment a b (IsClosing labels views a)

module _ (labels : List Label) (damages : List Damage) (views : List (List ℕ)) (a : Seen) (has : IsLabelled labels (length a.sizes) a.content) (are : AreDamaged a.content damages views) where
  in_range : (k : ℕ) (label : Label) → slice_get labels k ≡ Some label → k < length a.content
  in_range k label at = let within = slice_get_within labels k label at in omega (arith, within, has.one_label, has.one_image)

  label_at : (k : ℕ) → k < length a.content → slice_get labels k ≡ Some (get_or labels k no_label)
  label_at k lt = slice_get-get_or labels k no_label (omega (arith, lt, has.one_label, has.one_image))

  -- the view of a disk
  view_shut_at : (k : ℕ) (label : Label) → slice_get labels k ≡ Some label → IsShutAt label (image a.content k) (image views k) (image views k)
  view_shut_at k label at =
      let damaged = are.each k (in_range k label at) in
      record {
        between = view_between label (image a.content k) (image views k) (has.label_is k label at) (get_or damages k no_damage) damaged (has.clear k label at) (has.some k label at) (has.room k label at);
        outside = view_outside label (image a.content k) (image views k) (has.label_is k label at) (get_or damages k no_damage) damaged (has.some k label at) (has.clear k label at) (has.room k label at);
      }

  -- the view of a disk whose copy isn't damaged
  pub view_plain : (k : ℕ) (label : Label) → slice_get labels k ≡ Some label → is_some (get_or damages k no_damage).copy ≡ false → image views k ≡ image a.content k
  view_plain k label at none =
      plain_view label (image a.content k) (image views k) (has.label_is k label at) (get_or damages k no_damage) (are.each k (in_range k label at)) (no_copy (get_or damages k no_damage).copy none)

  -- the view of a disk whose copy is damaged
  pub view_faulty : (k : ℕ) (label : Label) → slice_get labels k ≡ Some label → is_some (get_or damages k no_damage).copy ≡ true
      → IsOpen (config_area label (image a.content k)) × (image views k ≡ closed_view label (image a.content k))
  view_faulty k label at some =
      let fault = some_copy (get_or damages k no_damage).copy some in
      faulty_view label (image a.content k) (image views k) (has.label_is k label at) (get_or damages k no_damage) (are.each k (in_range k label at)) fault.0 fault.1

  pub closing_of : (images : List (List ℕ)) (said : List ℕ) → length images ≡ length a.content → said ≡ a.said
      → ((k : ℕ) (label : Label) → slice_get labels k ≡ Some label → IsShutAt label (image a.content k) (image views k) (image images k)) → IsClosing labels views a images said
  closing_of images said one_each said_is each = record {
    between = record { one_each = one_each; each = λ k lt. (each k (get_or labels k no_label) (label_at k lt)).between };
    outside = λ k label at. (each k label at).outside;
    said_is = said_is;
  }

  pub below_none : NothingPending a → AtEachMoment a a (λ images said. Leaves a images × (said ≡ a.said)) → IsBelow labels views a a 0
  below_none settled only = record {
    count = refl;
    below = λ k lt. absurd (omega arith);
    above = λ k le. refl;
    always = λ images said left.
        let now = only images said left in
        closing_of images said (now.0.one_each ∙ sym has.one_image) now.1 (λ k label at.
        let lt : k < length a.sizes = (let within = in_range k label at in omega (arith, within, has.one_image)) in
        shut_as label (image a.content k) (image views k) (image a.content k) (image images k) (settled k lt (image images k) (now.0.each k lt)) (shut_none label (image a.content k) (image views k)));
  }

  -- a disk whose copy isn't damaged
  pub below_skip : (b : Seen) (done : ℕ) (label : Label) → slice_get labels done ≡ Some label → is_some (get_or damages done no_damage).copy ≡ false → IsBelow labels views a b done → IsBelow labels views a b (done + 1)
  below_skip b done label at none is = record {
    count = is.count;
    below = λ k lt. elim (cases_eq k done) [
      | inl here ↦ subst (λ (d : ℕ). image b.content d ≡ image views d) (sym here) (is.above done (omega arith) ∙ sym (view_plain done label at none))
      | inr ne ↦ is.below k (omega (arith, lt, ne))
    ];
    above = λ k le. is.above k (omega (arith, le));
    always = is.always;
  }

  -- the disks at a moment between two steps
  pub shut_now : (b : Seen) (done : ℕ) → IsBelow labels views a b done → (k : ℕ) (label : Label) → slice_get labels k ≡ Some label → IsShutAt label (image a.content k) (image views k) (image b.content k)
  shut_now b done is k label at = elim (cases_lt k done) [
    | inl less ↦ shut_as label (image a.content k) (image views k) (image views k) (image b.content k) (is.below k less) (view_shut_at k label at)
    | inr ge ↦ shut_as label (image a.content k) (image views k) (image a.content k) (image b.content k) (is.above k ge) (shut_none label (image a.content k) (image views k))
  ]

  -- no byte outside the areas is changed
  pub below_outside : (b : Seen) (done : ℕ) → IsBelow labels views a b done → AreSameOutside labels a.content b.content
  below_outside b done is k label at = (shut_now b done is k label at).outside

  -- while the next copy is closed
  module _ (b c : Seen) (done : ℕ) (label : Label) (at : slice_get labels done ≡ Some label) (some : is_some (get_or damages done no_damage).copy ≡ true) (is : IsBelow labels views a b done)
      (works : Works a b ⊥) (settled : NothingPending b) (writes : Writes done (gate_at label) 1 b c) where
    shut_torn : (now : List ℕ) → Torn (gate_at label) 1 (image b.content done) now → IsShutAt label (image a.content done) (image views done) now
    shut_torn now torn =
        let from : Torn (gate_at label) 1 (image a.content done) now = subst (λ (x : List ℕ). Torn (gate_at label) 1 x now) (is.above done (omega arith)) torn in
        let view = view_faulty done label at some in
        record {
          between = subst (λ (v : List ℕ). (now ≡ image a.content done) ⊎ IsClosedAs v now) (sym view.1)
              (between_shut label (image a.content done) (has.label_is done label at) (has.clear done label at) (has.some done label at) (has.room done label at) now view.0 from);
          outside = same_outside label (image a.content done) now (has.some done label at) from;
        }

    in_b : (k : ℕ) (other : Label) → slice_get labels k ≡ Some other → k < length b.sizes
    in_b k other at_k = let within = in_range k other at_k in omega (arith, within, has.one_image, ap length works.later.sizes)

    -- at each moment
    shut_step : (before images : List (List ℕ)) → Leaves b before → TornAt done (gate_at label) 1 before images → (k : ℕ) (other : Label) → slice_get labels k ≡ Some other
        → IsShutAt other (image a.content k) (image views k) (image images k)
    shut_step before images left torn k other at_k = elim (cases_eq k done) [
      | inl here ↦
          let same : label ≡ other = same_Some label other (sym at ∙ ap (λ (d : ℕ). slice_get labels d) (sym here) ∙ at_k) in
          subst (λ (d : ℕ). IsShutAt other (image a.content d) (image views d) (image images d)) (sym here)
          (subst (λ (l : Label). IsShutAt l (image a.content done) (image views done) (image images done)) same
          (shut_torn (image images done) (subst (λ (x : List ℕ). Torn (gate_at label) 1 x (image images done)) (settled done (in_b done label at) (image before done) (left.each done (in_b done label at))) torn.here)))
      | inr ne ↦
          shut_as other (image a.content k) (image views k) (image b.content k) (image images k)
          (torn.others k ne ∙ settled k (in_b k other at_k) (image before k) (left.each k (in_b k other at_k))) (shut_now b done is k other at_k)
    ]

    pub closing_always : AtEachMoment a c (IsClosing labels views a)
    closing_always = moments_trans a b c (IsClosing labels views a) works.later writes.later is.always (λ images said left.
        let m = writes.moments images said left in
        closing_of images said (m.2.count ∙ m.1.one_each ∙ ap length works.later.sizes ∙ sym has.one_image) (m.3 ∙ works.quiet.said) (shut_step m.0 images m.1 m.2))

    -- whatever the outcome
    pub closing_outside : AreSameOutside labels a.content c.content
    closing_outside k other at_k = elim (cases_eq k done) [
      | inl here ↦
          let same : label ≡ other = same_Some label other (sym at ∙ ap (λ (d : ℕ). slice_get labels d) (sym here) ∙ at_k) in
          subst (λ (d : ℕ). SameOutsideArea other (image a.content d) (image c.content d)) (sym here)
          (subst (λ (l : Label). SameOutsideArea l (image a.content done) (image c.content done)) same (shut_torn (image c.content done) writes.content.here).outside)
      | inr ne ↦ subst (λ (x : List ℕ). SameOutsideArea other (image a.content k) x) (sym (writes.content.others k ne)) (shut_now b done is k other at_k).outside
    ]

    -- after it has succeeded
    pub below_step : slice_index (image c.content done) (gate_at label) ≡ 0 → IsBelow labels views a c (done + 1)
    below_step zero_is = record {
      count = writes.content.count ∙ is.count;
      below = λ k lt. elim (cases_eq k done) [
        | inl here ↦ subst (λ (d : ℕ). image c.content d ≡ image views d) (sym here)
            (is_view label (image a.content done) (has.label_is done label at) (has.clear done label at) (has.some done label at) (has.room done label at) (image c.content done)
            (subst (λ (x : List ℕ). Torn (gate_at label) 1 x (image c.content done)) (is.above done (omega arith)) writes.content.here) zero_is
            ∙ sym (view_faulty done label at some).1)
        | inr ne ↦ writes.content.others k ne ∙ is.below k (omega (arith, lt, ne))
      ];
      above = λ k le. let ne : k ≢ done = omega (arith, le) in writes.content.others k ne ∙ is.above k (omega (arith, le));
      always = closing_always;
    }

  -- when all disks were passed
  pub all_below : (b : Seen) (done : ℕ) → IsBelow labels views a b done → length labels ≤ done → b.content ≡ views
  all_below b done is all = same_images b.content views (is.count ∙ sym are.one_view) (λ k lt. is.below k (omega (arith, lt, is.count, all, has.one_label, has.one_image)))

-- ---- what needs no telling

-- after the copy of a disk was closed no disk has a write pending
pub settled_step : (b c : Seen) (disk at n : ℕ) → Writes disk at n b c → NothingPending b → Settled c disk → NothingPending c
settled_step b c disk at n writes settled here k lt = elim (cases_eq k disk) [
  | inl is ↦ subst (λ (d : ℕ). Settled c d) (sym is) here
  | inr ne ↦ λ x left. settled k (subst (λ (l : List ℕ). k < length l) writes.later.sizes lt) x ((writes.left_others k x ne).0 left) ∙ sym (writes.content.others k ne)
]

-- what the disks are handed, of which each damaged one is handed one byte
pub record IsHanded (damages : List Damage) (before after : List ℕ) (done : ℕ) : Type 0 where
  pub below : (k : ℕ) → k < done → slice_index after k ≤ slice_index before k + closing_bytes (get_or damages k no_damage)
  pub above : (k : ℕ) → done ≤ k → slice_index after k ≡ slice_index before k

pub handed_none : (damages : List Damage) (before : List ℕ) → IsHanded damages before before 0
handed_none damages before = record { below = λ k lt. absurd (omega arith); above = λ k le. refl }

pub handed_skip : (damages : List Damage) (before after : List ℕ) (done : ℕ) → IsHanded damages before after done → IsHanded damages before after (done + 1)
handed_skip damages before after done is = record {
  below = λ k lt. elim (cases_eq k done) [
    | inl here ↦ subst (λ (d : ℕ). slice_index after d ≤ slice_index before d + closing_bytes (get_or damages d no_damage)) (sym here) (let same = is.above done (omega arith) in omega (arith, same))
    | inr ne ↦ is.below k (omega (arith, lt, ne))
  ];
  above = λ k le. is.above k (omega (arith, le));
}

pub handed_step : (damages : List Damage) (a b c : Seen) (done at : ℕ) → Writes done at 1 b c → is_some (get_or damages done no_damage).copy ≡ true
    → IsHanded damages a.wrote b.wrote done → IsHanded damages a.wrote c.wrote (done + 1)
handed_step damages a b c done at writes some is = record {
  below = λ k lt. elim (cases_eq k done) [
    | inl here ↦ subst (λ (d : ℕ). slice_index c.wrote d ≤ slice_index a.wrote d + closing_bytes (get_or damages d no_damage)) (sym here) here_handed
    | inr ne ↦ let same = writes.wrote_others k ne in let le = is.below k (omega (arith, lt, ne)) in omega (arith, same, le)
  ];
  above = λ k le. let ne : k ≢ done = omega (arith, le) in writes.wrote_others k ne ∙ is.above k (omega (arith, le));
}
  where
    one_is : closing_bytes (get_or damages done no_damage) ≡ 1
    one_is = rw some refl

    here_handed : slice_index c.wrote done ≤ slice_index a.wrote done + closing_bytes (get_or damages done no_damage)
    here_handed = let was = is.above done (omega arith) in let handed = writes.wrote in omega (arith, was, handed, one_is)

pub handed_all : (damages : List Damage) (before after : List ℕ) (done : ℕ) → IsHanded damages before after done
    → (k : ℕ) → slice_index after k ≤ slice_index before k + closing_bytes (get_or damages k no_damage)
handed_all damages before after done is k = ⊎_elim (λ less. is.below k less) (λ ge. let same = is.above k ge in omega (arith, same)) (cases_lt k done)

-- a write is work on the disks
pub writes_works : {disk at n : ℕ} {a b : Seen} {P : Type 0} → Writes disk at n a b → (P → DiskFailed a b) → Works a b P
writes_works writes cause = record { later = writes.later; quiet = writes.quiet; cause = cause }
