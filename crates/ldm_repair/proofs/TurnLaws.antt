-- Images between two groups, of which copies were damaged since, hold one of the two past that.
use Rattle.std.proofs.Common.{◌≡◌, ◌≢◌, ◌⊎◌, inl, inr, ◌<◌, ◌≤◌, ◌+◌, [], ℕ, List, Some, None, Ok, Err, length, get_or, slice_get, refl, sym, ◌∙◌, subst, arith}
use Rattle.std.proofs.lemmas.Option.{slice_get-get_or, slice_get_within, same_Some}
use Rattle.ldm_host.specs.Seen.{image}
use Rattle.ldm_label.specs.declared.Label.{Label}
use Rattle.ldm_label.specs.LabelOf.{label_of, SameOutsideArea}
use Rattle.ldm_label.specs.Laws.{IsClearOfLabel}
use Rattle.ldm_label.proofs.OkLaws.{label_stays, label_fits}
use Rattle.ldm_group.specs.Database.{Database}
use Rattle.ldm_copy.specs.declared.answer.CopyState.{CopyState}
use Rattle.ldm_copy.specs.declared.answer.CopyState.TheVariants.{Closed, Valid}
use Rattle.ldm_copy.specs.declared.answer.CopyFault.{CopyFault}
use Rattle.ldm_copy.specs.Copy.{config_area, gate_at}
use Rattle.ldm_copy.proofs.OneCopy.{one_copy}
use Rattle.ldm_found.specs.Copies.{IsCopyIn, IsKnown}
use Rattle.ldm_found.specs.Gathers.{Gathers}
use Rattle.ldm_found.specs.Labels.{IsLabelOf}
use Rattle.ldm_found.proofs.CopyLaws.{gather_at, gather_length}
use Rattle.ldm_damage.specs.declared.damage.Damage.{Damage}
use Rattle.ldm_damage.specs.Views.{IsDamage, AreDamaged, no_damage}
use Rattle.ldm_store.specs.Kept.{IsCurrent, IsNext, IsOneOf, IsRecoverable, Opens}
use Rattle.ldm_store.specs.Turning.{AllHave}
use Rattle.ldm_store.specs.Sessions.{IsEditable}
use Rattle.ldm_store.proofs.ClearLaws.{clear_of}
use Rattle.ldm_store.proofs.OpensLaws.{editable_opens}
use Rattle.ldm_repair.specs.Closing.{IsGroupPast}
use Rattle.ldm_repair.specs.Turns.{IsDamagedSince, AreDamagedSince, OneIsOpen, DamagedTurnsHoldOne}
use Rattle.ldm_repair.proofs.ShutLaws.{closed_view, view_outside, view_copy}
use Rattle.ldm_repair.proofs.StepLaws.{no_label}
use Rattle.ldm_repair.proofs.PastLaws.{Built, build, passed_of, good_view}

-- ---- one image

-- The view of an image whose config area is damaged since: its copy is closed, or is that of the image before and the one now.
record IsViewSince (label : Label) (before now : List ℕ) (damage : Damage) (view : List ℕ) : Type 0 where
  damaged : IsDamage now damage view
  outside : SameOutsideArea label before view
  copy : IsCopyIn (label, view) (Ok Closed) ⊎ ((copy : CopyState) × IsCopyIn (label, before) (Ok copy) × IsCopyIn (label, view) (Ok copy))
  -- the view is the image where that has no fault
  plain : (state : CopyState) → IsCopyIn (label, now) (Ok state) → view ≡ now

abbrev with_fault : CopyFault → Damage
with_fault fault = record { label = None; copy = Some fault }

outside_then : (label : Label) (x y z : List ℕ) → SameOutsideArea label x y → SameOutsideArea label y z → SameOutsideArea label x z
outside_then label x y z first second = record { size = second.size ∙ first.size; outside = λ k out. second.outside k out ∙ first.outside k out }

module _ (label : Label) (before now : List ℕ) (is : label_of before ≡ Ok label) (clear : IsClearOfLabel label) (since : IsDamagedSince label before now) where
  label_now : label_of now ≡ Ok label
  label_now = label_stays label before now is clear.behind clear.before since.outside

  some : label.area_sectors ≢ 0
  some = (label_fits now label label_now).some_area

  room : gate_at label + 1 ≤ length now
  room =
      let fits = label_fits now label label_now in
      let inside = fits.inside in
      let area = fits.area in
      let some = fits.some_area in
      omega (arith, inside, area, some)

  view_since : (damage : Damage) × (view : List ℕ) × IsViewSince label before now damage view
  view_since = elim since.copy [
    | inl faulty ↦
        let damaged = passed_of now (closed_view label now) (with_fault faulty.0) label label_now refl (faulty.1, refl) in (
          with_fault faulty.0,
          closed_view label now,
          record {
            damaged = damaged;
            outside = outside_then label before now (closed_view label now) since.outside (view_outside label now (closed_view label now) label_now (with_fault faulty.0) damaged some clear room);
            copy = inl (view_copy label now label_now clear some room);
            plain = λ state good.
                let bad : Ok state ≡ Err faulty.0 = one_copy (config_area label now) label.area_sectors (Ok state) (Err faulty.0) good faulty.1 in absurd cc;
          },
        )
    | inr (inl closed) ↦ (
      no_damage,
      now,
      record {
        damaged = good_view now label Closed label_now closed;
        outside = since.outside;
        copy = inl closed;
        plain = λ state good. refl;
      },
    )
    | inr (inr same) ↦ (
      no_damage,
      now,
      record {
        damaged = good_view now label same.0 label_now same.2;
        outside = since.outside;
        copy = inr same;
        plain = λ state good. refl;
      },
    )
  ]

-- ---- all of them

known_of : (o n : Database) (c : CopyState) → IsOneOf o n c → IsKnown o n c
known_of o n Closed is = tt
known_of o n (Valid db) (inl is) = inr (inl is)
known_of o n (Valid db) (inr is) = inr (inr is)

open_of : (o n db : Database) (c : CopyState) → c ≡ Valid db → IsOneOf o n c → IsCurrent o c ⊎ IsCurrent n c
open_of o n db Closed is one = absurd cc
open_of o n db (Valid e) is one = one

module _ (labels : List Label) (o n : Database) (before now : List (List ℕ)) (are : Gathers IsLabelOf before (Ok labels)) (may_o : IsEditable o labels) (may_n : IsEditable n labels)
    (next : IsNext o n) (ones : AllHave labels before (IsOneOf o n)) (one_each : length now ≡ length before) (since : AreDamagedSince labels before now) (one : OneIsOpen labels now) where
  one_label : length labels ≡ length now
  one_label = gather_length IsLabelOf before labels are ∙ sym one_each

  abbrev IsView : ℕ → Damage → List ℕ → Type 0
  IsView k damage view = (label : Label) → slice_get labels k ≡ Some label → IsViewSince label (image before k) (image now k) damage view

  view_at : (k : ℕ) → k < length now → (damage : Damage) × (view : List ℕ) × IsView k damage view
  view_at k lt = (of_label.0, of_label.1, λ label at. subst (λ (l : Label). IsViewSince l (image before k) (image now k) of_label.0 of_label.1) (same_Some (get_or labels k no_label) label (sym here ∙ at)) of_label.2)
    where
      here : slice_get labels k ≡ Some (get_or labels k no_label)
      here = slice_get-get_or labels k no_label (omega (arith, lt, one_label))

      of_label : (damage : Damage) × (view : List ℕ) × IsViewSince (get_or labels k no_label) (image before k) (image now k) damage view
      of_label = view_since (get_or labels k no_label) (image before k) (image now k)
          (gather_at IsLabelOf before labels k [] (get_or labels k no_label) are here) ((clear_of o labels may_o.unblocked).clear k (get_or labels k no_label) here) (since k (get_or labels k no_label) here)

  all : Built (length now) IsView
  all = build (length now) IsView view_at

  view_of : (k : ℕ) (label : Label) → slice_get labels k ≡ Some label → IsViewSince label (image before k) (image now k) (get_or all.damages k no_damage) (image all.views k)
  view_of k label at = all.each k (let within = slice_get_within labels k label at in omega (arith, within, one_label)) label at

  damaged : AreDamaged now all.damages all.views
  damaged = record {
    one_damage = all.one_damage;
    one_view = all.one_view;
    each = λ k lt. (view_of k (get_or labels k no_label) (slice_get-get_or labels k no_label (omega (arith, lt, one_label)))).damaged;
  }

  -- the copy of a view is closed, or one of the two
  one_of : (k : ℕ) (label : Label) (copy : CopyState) → slice_get labels k ≡ Some label → IsCopyIn (label, image before k) (Ok copy) → IsOneOf o n copy
  one_of k label copy at is =
      let has = ones k (slice_get_within labels k label at) in
      let same = same_Some has.0 label (sym has.1 ∙ at) in
      let there : IsCopyIn (label, image before k) (Ok has.2.0) = subst (λ (l : Label). IsCopyIn (l, image before k) (Ok has.2.0)) same has.2.1 in
      let equal : Ok has.2.0 ≡ Ok copy = one_copy (config_area label (image before k)) label.area_sectors (Ok has.2.0) (Ok copy) there is in
      let state : has.2.0 ≡ copy = cc in
      subst (IsOneOf o n) state has.2.2

  copy_of : (k : ℕ) (label : Label) → slice_get labels k ≡ Some label → (copy : CopyState) × IsCopyIn (label, image all.views k) (Ok copy) × IsOneOf o n copy
  copy_of k label at = elim (view_of k label at).copy [
    | inl closed ↦ (Closed, closed, tt)
    | inr same ↦ (same.0, same.2, one_of k label same.0 at same.1)
  ]

  recoverable : IsRecoverable labels o n all.views
  recoverable = record {
    known = λ k lt.
        let at = slice_get-get_or labels k no_label lt in
        let copy = copy_of k (get_or labels k no_label) at in
        (get_or labels k no_label, at, (copy.0, copy.1, known_of o n copy.0 copy.2));
    one =
        let k = one.0 in
        let has = one.2 in
        let view = view_of k has.0 has.1 in
        let there : IsCopyIn (has.0, image all.views k) (Ok has.2.0) = subst (λ (b : List ℕ). IsCopyIn (has.0, b) (Ok has.2.0)) (sym (view.plain has.2.0 has.2.1)) has.2.1 in
        let copy = copy_of k has.0 has.1 in
        let equal : Ok copy.0 ≡ Ok has.2.0 = one_copy (config_area has.0 (image all.views k)) has.0.area_sectors (Ok copy.0) (Ok has.2.0) copy.1 there in
        let state : copy.0 ≡ has.2.0 = cc in
        (k, one.1, (has.0, has.1, (copy.0, copy.1, open_of o n has.2.2.0 copy.0 (state ∙ has.2.2.1) copy.2)));
  }

  opens : Opens all.views o ⊎ Opens all.views n
  opens = editable_opens labels o n before all.views are may_o may_n next (all.one_view ∙ sym one_label) (λ k label at. (view_of k label at).outside) recoverable

  past_as : (group : Database) → (IsOpen : Opens all.views group) → IsGroupPast now (Ok IsOpen.found)
  past_as group opened = record { damages = all.damages; views = all.views; are = damaged; is = opened.is }

pub damaged_turns_hold_one : DamagedTurnsHoldOne
damaged_turns_hold_one labels o n before now are may_o may_n next ones one_each since one = elim (opens labels o n before now are may_o may_n next ones one_each since one) [
  | inl as_o ↦ (as_o.found, past_as labels o n before now are may_o may_n next ones one_each since one o as_o, as_o.editable, inl as_o.same)
  | inr as_n ↦ (as_n.found, past_as labels o n before now are may_o may_n next ones one_each since one n as_n, as_n.editable, inr as_n.same)
]
