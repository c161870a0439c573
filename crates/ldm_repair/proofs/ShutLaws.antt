-- A copy of the database that is closed by one byte.
use Rattle.std.proofs.Common.{◌≡◌, ◌≢◌, ◌⊎◌, inl, inr, ◌<◌, ◌≤◌, ◌+◌, ℕ, List, [], ◌∷◌, Option, Some, None, Result, Ok, Err, length, get_or, slice_index, refl, sym, ◌∙◌, ap, subst, arith}
use Rattle.std.proofs.lemmas.Bool.{cases_eq}
use Rattle.std.proofs.lemmas.Grind.{same_number_lists}
use Rattle.ldm_bytes.specs.Places.{put}
use Rattle.ldm_bytes.proofs.PlaceLaws.{get_or-put_outside, get_or-put_inside}
use Rattle.ldm_host.specs.Moves.{Torn}
use Rattle.ldm_label.specs.declared.Label.{Label}
use Rattle.ldm_label.specs.declared.LabelFault.{LabelFault}
use Rattle.ldm_label.specs.LabelOf.{label_of, SameOutsideArea, IsOutsideArea}
use Rattle.ldm_label.specs.Laws.{IsClearOfLabel}
use Rattle.ldm_label.proofs.OkLaws.{label_stays}
use Rattle.ldm_copy.specs.declared.answer.CopyState.TheVariants.{Closed}
use Rattle.ldm_copy.specs.declared.answer.CopyFault.{CopyFault}
use Rattle.ldm_copy.specs.declared.answer.CopyFault.TheVariants.{Vmdb, Frag, BadRecord, SameId}
use Rattle.ldm_copy.specs.Copy.{config_area, gate_at, IsOpen, IsCopyOf}
use Rattle.ldm_copy.proofs.AreaLaws.{gate_of}
use Rattle.ldm_copy.proofs.OneCopy.{one_copy}
use Rattle.ldm_found.specs.Copies.{IsCopyIn}
use Rattle.ldm_view.specs.Patches.{laid}
use Rattle.ldm_view.specs.PatchLaws.{length-laid}
use Rattle.ldm_view.proofs.LayLaws.{laid_fits}
use Rattle.ldm_damage.specs.declared.damage.Damage.{Damage}
use Rattle.ldm_damage.specs.Passing.{IsPassed}
use Rattle.ldm_damage.specs.Views.{IsDamage}
use Rattle.ldm_damage.proofs.DamageLaws.{labelled_stays}
use Rattle.ldm_repair.specs.Closing.{ReadsAlike, IsClosedAs}

-- the image with a zero in the gate
abbrev pub closed_view : Label → List ℕ → List ℕ
closed_view label old = laid old (gate_at label) (0 ∷ [])

pub same_outside : (label : Label) (old c : List ℕ) → label.area_sectors ≢ 0 → Torn (gate_at label) 1 old c → SameOutsideArea label old c
same_outside label old c some torn = record { size = torn.size; outside = λ k out. torn.outside k (apart k out) }
  where
    apart : (k : ℕ) → IsOutsideArea label k → (k < gate_at label) ⊎ (gate_at label + 1 ≤ k)
    apart k (inl before) = inl before
    apart k (inr behind) = inr (omega (arith, some, behind))

-- closing changes one byte
module _ (label : Label) (old : List ℕ) (room : gate_at label + 1 ≤ length old) where
  pub gate_torn : Torn (gate_at label) 1 old (closed_view label old)
  gate_torn = record {
    size = length-laid old (gate_at label) (0 ∷ []);
    outside = λ k out. ap (λ (l : List ℕ). get_or l k 0) (laid_fits old (gate_at label) (0 ∷ []) room) ∙ get_or-put_outside old (gate_at label) (0 ∷ []) k room out;
  }

  -- the gate of the view is zero
  pub gate_zero : slice_index (closed_view label old) (gate_at label) ≡ 0
  gate_zero =
      ap (λ (l : List ℕ). get_or l (gate_at label) 0) (laid_fits old (gate_at label) (0 ∷ []) room)
      ∙ ap (λ (k : ℕ). get_or (put old (gate_at label) (0 ∷ [])) k 0) (omega arith) ∙ get_or-put_inside old (gate_at label) (0 ∷ []) 0 room (omega arith)

module _ (label : Label) (old : List ℕ) (is : label_of old ≡ Ok label) (clear : IsClearOfLabel label) (some : label.area_sectors ≢ 0) (room : gate_at label + 1 ≤ length old) where
  torn_label : (c : List ℕ) → Torn (gate_at label) 1 old c → label_of c ≡ Ok label
  torn_label c torn = label_stays label old c is clear.behind clear.before (same_outside label old c some torn)

  closed_copy : (c : List ℕ) → slice_index c (gate_at label) ≢ 0x56 → IsCopyIn (label, c) (Ok Closed)
  closed_copy c shut open_is = shut (sym (gate_of label c (omega (arith, some))) ∙ open_is)

  view_shut : slice_index (closed_view label old) (gate_at label) ≢ 0x56
  view_shut open_is = let zero_is = gate_zero label old room in absurd (omega (arith, zero_is, open_is))

  reads_shut : (c : List ℕ) → Torn (gate_at label) 1 old c → slice_index c (gate_at label) ≢ 0x56 → ReadsAlike (closed_view label old) c
  reads_shut c torn shut = record {
    label = torn_label c torn ∙ sym (torn_label (closed_view label old) (gate_torn label old room));
    copy = λ l copy of_view is_copy.
        let same : label ≡ l = cc (torn_label (closed_view label old) (gate_torn label old room), of_view) in
        let closed_is : Ok Closed ≡ copy = one_copy (config_area l (closed_view label old)) l.area_sectors (Ok Closed) copy
        (subst (λ (x : Label). IsCopyIn (x, closed_view label old) (Ok Closed)) same (closed_copy (closed_view label old) view_shut)) is_copy in
        subst (λ r. IsCopyIn (l, c) r) closed_is (subst (λ (x : Label). IsCopyIn (x, c) (Ok Closed)) same (closed_copy c shut));
  }

  closed_as : (c : List ℕ) → Torn (gate_at label) 1 old c → slice_index c (gate_at label) ≢ 0x56 → IsClosedAs (closed_view label old) c
  closed_as c torn shut = record {
    alike = reads_shut c torn shut;
    label = label;
    label_is = torn_label (closed_view label old) (gate_torn label old room);
    closed = closed_copy (closed_view label old) view_shut;
  }

  pub view_copy : IsCopyIn (label, closed_view label old) (Ok Closed)
  view_copy = closed_copy (closed_view label old) view_shut

  -- the view is closed itself
  pub view_closed : IsClosedAs (closed_view label old) (closed_view label old)
  view_closed = closed_as (closed_view label old) (gate_torn label old room) view_shut

  side : (k : ℕ) → k ≢ gate_at label → (k < gate_at label) ⊎ (gate_at label + 1 ≤ k)
  side k ne = grind arith

  -- two bytes alike at the gate, and all others
  same_but_gate : (c : List ℕ) → Torn (gate_at label) 1 old c → slice_index c (gate_at label) ≡ slice_index old (gate_at label) → c ≡ old
  same_but_gate c torn gate = same_number_lists c old torn.size (λ k lt. elim (cases_eq k (gate_at label)) [
    | inl here ↦ ap (λ (j : ℕ). get_or c j 0) here ∙ gate ∙ ap (λ (j : ℕ). get_or old j 0) (sym here)
    | inr ne ↦ torn.outside k (side k ne)
  ])

  -- while the gate is written the image is as it was, or closed
  pub between_shut : (c : List ℕ) → IsOpen (config_area label old) → Torn (gate_at label) 1 old c → (c ≡ old) ⊎ IsClosedAs (closed_view label old) c
  between_shut c open_is torn = elim (cases_eq (slice_index c (gate_at label)) 0x56) [
    | inl same ↦ inl (same_but_gate c torn (same ∙ sym (sym (gate_of label old (omega (arith, some))) ∙ open_is)))
    | inr shut ↦ inr (closed_as c torn shut)
  ]

  -- a zero in the gate makes it the view
  pub is_view : (c : List ℕ) → Torn (gate_at label) 1 old c → slice_index c (gate_at label) ≡ 0 → c ≡ closed_view label old
  is_view c torn zero_is = same_number_lists c (closed_view label old) (torn.size ∙ sym (gate_torn label old room).size) (λ k lt. elim (cases_eq k (gate_at label)) [
    | inl here ↦ ap (λ (j : ℕ). get_or c j 0) here ∙ zero_is ∙ sym (gate_zero label old room) ∙ ap (λ (j : ℕ). get_or (closed_view label old) j 0) (sym here)
    | inr ne ↦ torn.outside k (side k ne) ∙ sym ((gate_torn label old room).outside k (side k ne))
  ])

-- ---- an image with a label, and its view

-- a copy that has a fault is open
pub faulty_open : (area : List ℕ) (sectors : ℕ) (fault : CopyFault) → IsCopyOf area sectors (Err fault) → IsOpen area
faulty_open area sectors (Vmdb fault) is = is.0
faulty_open area sectors (Frag fault) is = is.0.open_is
faulty_open area sectors (BadRecord block fault) is = is.0.open_is
faulty_open area sectors (SameId kind id) is = is.0.open_is

module _ (label : Label) (old view : List ℕ) (is : label_of old ≡ Ok label) (damage : Damage) (damaged : IsDamage old damage view) where
  -- its label isn't mended
  passed_as : (copy : Option CopyFault) → damage.copy ≡ copy → IsPassed (Ok label) old copy view
  passed_as copy same =
      subst (λ (c : Option CopyFault). IsPassed (Ok label) old c view) same
      (subst (λ (l : Result Label LabelFault). IsPassed l old damage.copy view) is
      (subst (λ (b : List ℕ). IsPassed (label_of b) b damage.copy view) (labelled_stays old label is) damaged.copy))

  -- without a fault the view is the image
  pub plain_view : damage.copy ≡ None → view ≡ old
  plain_view none = (passed_as None none).1

  -- with one the copy is open, and the view has a zero in its gate
  pub faulty_view : (fault : CopyFault) → damage.copy ≡ Some fault → IsOpen (config_area label old) × (view ≡ closed_view label old)
  faulty_view fault some = let passed = passed_as (Some fault) some in (faulty_open (config_area label old) label.area_sectors fault passed.0, passed.1)

  -- the view is the image, or its copy is closed
  pub view_between : IsClearOfLabel label → label.area_sectors ≢ 0 → gate_at label + 1 ≤ length old → (view ≡ old) ⊎ IsClosedAs view view
  view_between clear some room = by_copy damage.copy refl
    where
      by_copy : (copy : Option CopyFault) → damage.copy ≡ copy → (view ≡ old) ⊎ IsClosedAs view view
      by_copy None none = inl (plain_view none)
      by_copy (Some fault) has =
          inr (subst (λ (v : List ℕ). IsClosedAs v v) (sym (faulty_view fault has).1) (view_closed label old is clear some room))

  -- it differs from the image in the area alone
  pub view_outside : label.area_sectors ≢ 0 → IsClearOfLabel label → gate_at label + 1 ≤ length old → SameOutsideArea label old view
  view_outside some clear room = by_copy damage.copy refl
    where
      by_copy : (copy : Option CopyFault) → damage.copy ≡ copy → SameOutsideArea label old view
      by_copy None none = subst (λ (v : List ℕ). SameOutsideArea label old v) (sym (plain_view none)) (record { size = refl; outside = λ k out. refl })
      by_copy (Some fault) has = subst (λ (v : List ℕ). SameOutsideArea label old v) (sym (faulty_view fault has).1)
          (same_outside label old (closed_view label old) some (gate_torn label old room))
