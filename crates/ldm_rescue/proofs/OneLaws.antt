-- Where no read failed, a rescue has one outcome.
use Rattle.std.proofs.Common.{◌≡◌, inl, inr, ℕ, zero, suc, ◌+◌, ◌-◌, ◌*◌, ◌<◌, ◌≤◌, Bool, List, [], ◌∷◌, ◌++◌, length, take, refl, sym, ◌∙◌, ap, subst, arith, Option, Some, None, is_some, IfSome, Result, Ok, Err}
use Rattle.std.proofs.lemmas.Bool.{cases_lt}
use Rattle.ldm_records.specs.declared.types.Volume.{Volume}
use Rattle.ldm_group.specs.Looks.{volume_named}
use Rattle.ldm_places.specs.Layouts.{Layout}
use Rattle.ldm_places.specs.declared.shape.LayoutFault.{LayoutFault}
use Rattle.ldm_layout.specs.Volumes.{layout_of}
use Rattle.ldm_copy.specs.declared.fault.OpenFault.{OpenFault}
use Rattle.ldm_copy.specs.declared.found.Found.{Found}
use Rattle.ldm_found.proofs.GroupLaws.{one_group}
use Rattle.ldm_dump.specs.declared.spots.Spot.{Spot}
use Rattle.ldm_words.specs.declared.job.Section.{Section}
use Rattle.ldm_rescue.specs.declared.losses.Loss.{Loss}
use Rattle.ldm_rescue.specs.declared.reading.Cause.{Cause}
use Rattle.ldm_rescue.specs.declared.reading.Cause.TheVariants.{Absent, Unread}
use Rattle.ldm_rescue.specs.declared.rescuing.Rescue.{Rescue}
use Rattle.ldm_rescue.specs.Losses.{cause_at, is_lost_at, lost_in, IsEnded, AreRanges}
use Rattle.ldm_rescue.specs.Rescued.{IsMissed, IsRescued, nth_sector, sources_in_order, IsCause}
use Rattle.ldm_rescue.specs.Rescue.{Outcome, end_of, asked_section, IsSaid, OfAsked, OfLayout, OfVolume, OfGroup, IsRescueAnswer}
use Rattle.ldm_rescue.proofs.LossLaws.{behind, before, inside, cause_past, cause_in, none_behind}
use Rattle.ldm_rescue.proofs.RescueLaws.{take_next}
use Rattle.ldm_rescue.proofs.ToldLaws.{full_bytes}

-- ---- ranges

pub none_before : (at end x : ℕ) (rs : List Loss) → AreRanges at end rs → x < at → cause_at rs x ≡ None
none_before at end x [] are lt = refl
none_before at end x (loss ∷ more) are lt =
    cause_past loss more x (before loss x (omega (arith, are.0, lt))) ∙ none_before (loss.first + loss.count) end x more are.3 (omega (arith, are.0, lt))

first_cause : (loss : Loss) (more : List Loss) → 0 < loss.count → cause_at (loss ∷ more) loss.first ≡ Some loss.cause
first_cause loss more some = cause_in loss more loss.first (inside loss loss.first (omega arith) (omega (arith, some)))

-- what a range begins isn't lost sooner by others
not_sooner : (at end : ℕ) (a b : Loss) (m n : List Loss) → 0 < a.count → AreRanges at end (b ∷ n) → cause_at (a ∷ m) a.first ≡ cause_at (b ∷ n) a.first → a.first < b.first → ⊥
not_sooner at end a b m n some are same lt =
    let none = none_before b.first end a.first (b ∷ n) (omega arith, are.1, are.2, are.3) lt in
    let is = sym (first_cause a m some) ∙ (same ∙ none) in
    absurd cc

-- a range that is ended doesn't go on
stays_ended : (a : Loss) (m : List Loss) (end : ℕ) → IsEnded a m → AreRanges (a.first + a.count) end m → cause_at m (a.first + a.count) ≡ Some a.cause → ⊥
stays_ended a [] end ended are goes = absurd cc
stays_ended a (h ∷ rest) end ended are goes = elim (cases_lt (a.first + a.count) h.first) [
  | inl lt ↦
      (let none = none_before h.first end (a.first + a.count) (h ∷ rest) (omega arith, are.1, are.2, are.3) lt in absurd cc)
  | inr le ↦
      (let touches : a.first + a.count ≡ h.first = omega (arith, le, are.0) in
      let is = sym goes ∙ (ap (λ (x : ℕ). cause_at (h ∷ rest) x) touches ∙ first_cause h rest are.1) in
      let same : a.cause ≡ h.cause = cc in
      ended (record { touches = touches; same = same }))
]

not_shorter : (at end : ℕ) (a b : Loss) (m n : List Loss) → AreRanges at end (a ∷ m) → a.first ≡ b.first → a.cause ≡ b.cause → ((x : ℕ) → cause_at (a ∷ m) x ≡ cause_at (b ∷ n) x) → a.count < b.count → ⊥
not_shorter at end a b m n are first cause same lt =
    let x = a.first + a.count in
    let here = cause_in b n x (inside b x (omega (arith, first)) (omega (arith, first, lt))) in
    let past = cause_past a m x (behind a x (omega arith)) in
    stays_ended a m end are.2 are.3 (sym past ∙ (same x ∙ (here ∙ ap (λ (c : Cause). Some c) (sym cause))))

loss_same : (a b : Loss) → a.first ≡ b.first → a.count ≡ b.count → a.cause ≡ b.cause → a ≡ b
loss_same a b first count cause =
    ap (λ (n : ℕ). record a { first = n }) first
    ∙ (ap (λ (n : ℕ). record { first = b.first; count = n; cause = a.cause }) count
    ∙ ap (λ (c : Cause). record { first = b.first; count = b.count; cause = c }) cause)

equal_by : (n m : ℕ) → (n < m → ⊥) → (m < n → ⊥) → n ≡ m
equal_by n m low high = omega (arith, low, high)

-- the first of two lists of ranges with the same sectors is the same
first_same : (at other end : ℕ) (a b : Loss) (m n : List Loss) → AreRanges at end (a ∷ m) → AreRanges other end (b ∷ n) → ((x : ℕ) → cause_at (a ∷ m) x ≡ cause_at (b ∷ n) x) → a ≡ b
first_same at other end a b m n are these same =
    let first = equal_by a.first b.first (not_sooner other end a b m n are.1 these (same a.first)) (not_sooner at end b a n m these.1 are (sym (same b.first))) in
    let is = sym (first_cause a m are.1) ∙ (same a.first ∙ (ap (λ (x : ℕ). cause_at (b ∷ n) x) first ∙ first_cause b n these.1)) in
    let cause : a.cause ≡ b.cause = cc in
    let count = equal_by a.count b.count (not_shorter at end a b m n are first cause same) (not_shorter other end b a n m these (sym first) (sym cause) (λ x. sym (same x))) in
    loss_same a b first count cause

-- what is equal of all ranges is equal of those behind the first
rest_same : (end : ℕ) (a : Loss) (m n : List Loss) → AreRanges (a.first + a.count) end m → AreRanges (a.first + a.count) end n → ((x : ℕ) → cause_at (a ∷ m) x ≡ cause_at (a ∷ n) x) → (x : ℕ) → cause_at m x ≡ cause_at n x
rest_same end a m n are these same x = elim (cases_lt x (a.first + a.count)) [
  | inl lt ↦ none_before (a.first + a.count) end x m are lt ∙ sym (none_before (a.first + a.count) end x n these lt)
  | inr le ↦ sym (cause_past a m x (behind a x le)) ∙ (same x ∙ cause_past a n x (behind a x le))
]

pub ranges_one : (at other end : ℕ) (r s : List Loss) → AreRanges at end r → AreRanges other end s → ((x : ℕ) → cause_at r x ≡ cause_at s x) → r ≡ s
ranges_one at other end [] [] are these same = refl
ranges_one at other end [] (b ∷ n) are these same = (let is = same b.first ∙ first_cause b n these.1 in absurd cc)
ranges_one at other end (a ∷ m) [] are these same = (let is = sym (same a.first) ∙ first_cause a m are.1 in absurd cc)
ranges_one at other end (a ∷ m) (b ∷ n) are these same =
    let is = first_same at other end a b m n are these same in
    let begin : b.first + b.count ≡ a.first + a.count = ap (λ (l : Loss). l.first + l.count) (sym is) in
    let behind_a = subst (λ (k : ℕ). AreRanges k end n) begin these.3 in
    let all = λ (x : ℕ). same x ∙ ap (λ (l : Loss). cause_at (l ∷ n) x) (sym is) in
    ap (λ (l : Loss). l ∷ m) is ∙ ap (λ (t : List Loss). b ∷ t) (ranges_one (a.first + a.count) (a.first + a.count) end m n are.3 behind_a (rest_same end a m n are.3 behind_a all))

-- ---- sectors

none_missed : (source : List Spot) (spot : Spot) → IsMissed [] source spot → ⊥
none_missed source spot is = let lt = is.missed.1 in omega (arith, lt)

rescued_one : (images : List (List ℕ)) (sources : List (List Spot)) (a b : List ℕ) (lost gone : Bool) → IsRescued images [] sources a lost → IsRescued images [] sources b gone → (a ≡ b) × (lost ≡ gone)
rescued_one images [] a b lost gone x y = (x.0 ∙ sym y.0, x.1 ∙ sym y.1)
rescued_one images (source ∷ more) a b lost gone (inl x) (inl y) = (x.0 ∙ sym y.0, x.1 ∙ sym y.1)
rescued_one images (source ∷ more) a b lost gone (inl x) (inr y) = absurd (none_missed source y.0.0 y.0.1)
rescued_one images (source ∷ more) a b lost gone (inr x) y = absurd (none_missed source x.0.0 x.0.1)

cause_one : (found : Found) (l : Layout) (x : ℕ) (c d : Cause) → IsCause found l [] x c → IsCause found l [] x d → c ≡ d
cause_one found l x (Absent disk) (Absent other) is has = (let same = sym is.first ∙ has.first in cc)
cause_one found l x (Absent disk) (Unread image) is has = absurd (none_missed has.source has.spot has.unread)
cause_one found l x (Unread image) d is has = absurd (none_missed is.source is.spot is.unread)

causes_one : (found : Found) (l : Layout) (x : ℕ) (o p : Option Cause) → is_some o ≡ is_some p → IfSome o (IsCause found l [] x) → IfSome p (IsCause found l [] x) → o ≡ p
causes_one found l x None None same is has = refl
causes_one found l x None (Some d) same is has = absurd cc
causes_one found l x (Some c) None same is has = absurd cc
causes_one found l x (Some c) (Some d) same is has = ap (λ (e : Cause). Some e) (cause_one found l x c d is has)

front_one : (n : ℕ) (a b : List ℕ) → ((i : ℕ) → i < n → nth_sector a i ≡ nth_sector b i) → (c : ℕ) → c ≤ n → take (512 * c) a ≡ take (512 * c) b
front_one n a b each zero le = refl
front_one n a b each (suc c) le =
    let next : suc c ≡ c + 1 = omega arith in
    ap (λ (k : ℕ). take (512 * k) a) next
    ∙ (take_next a c
    ∙ (ap (λ (t : List ℕ). t ++ nth_sector a c) (front_one n a b each c (omega (arith, le)))
    ∙ (ap (λ (t : List ℕ). take (512 * c) b ++ t) (each c (omega (arith, le)))
    ∙ (sym (take_next b c) ∙ sym (ap (λ (k : ℕ). take (512 * k) b) next)))))

text_one : (n : ℕ) (a b : List ℕ) → length a ≡ 512 * n → length b ≡ 512 * n → ((i : ℕ) → i < n → nth_sector a i ≡ nth_sector b i) → a ≡ b
text_one n a b size same each = sym (full_bytes n n a size refl) ∙ (front_one n a b each n (omega arith) ∙ full_bytes n n b same refl)

-- ---- outcomes

module _ (images : List (List ℕ)) (found : Found) (l : Layout) (section : Section) (a b : Outcome) (x : IsSaid images [] found l section a) (y : IsSaid images [] found l section b) where
  sector_one : (i : ℕ) → i < section.count → (nth_sector a.text i ≡ nth_sector b.text i) × (is_lost_at a.told (section.first + i) ≡ is_lost_at b.told (section.first + i))
  sector_one i lt =
      rescued_one images (sources_in_order found l (section.first + i)) (nth_sector a.text i) (nth_sector b.text i) (is_lost_at a.told (section.first + i)) (is_lost_at b.told (section.first + i)) (x.are.rescued.each i lt) (y.are.rescued.each i lt)

  among_one : (i : ℕ) → i < section.count → cause_at a.told (section.first + i) ≡ cause_at b.told (section.first + i)
  among_one i lt = causes_one found l (section.first + i) (cause_at a.told (section.first + i)) (cause_at b.told (section.first + i)) (sector_one i lt).1 (x.are.causes i lt) (y.are.causes i lt)

  all_one : (s : ℕ) → cause_at a.told s ≡ cause_at b.told s
  all_one s = elim (cases_lt s section.first) [
    | inl low ↦ none_before section.first (section.first + section.count) s a.told x.ranges low ∙ sym (none_before section.first (section.first + section.count) s b.told y.ranges low)
    | inr high ↦
        elim (cases_lt s (section.first + section.count)) [
          | inl lt ↦
              (let at : section.first + (s - section.first) ≡ s = omega (arith, high) in
              subst (λ (k : ℕ). cause_at a.told k ≡ cause_at b.told k) at (among_one (s - section.first) (omega (arith, high, lt))))
          | inr le ↦
              none_behind section.first (section.first + section.count) s a.told x.ranges le ∙ sym (none_behind section.first (section.first + section.count) s b.told y.ranges le)
        ]
  ]

  said_one : a ≡ b
  said_one =
      let text = text_one section.count a.text b.text x.are.rescued.size y.are.rescued.size (λ i lt. (sector_one i lt).0) in
      let told = ranges_one section.first section.first (section.first + section.count) a.told b.told x.ranges y.ranges all_one in
      let end : a.end ≡ b.end = x.end ∙ (ap (λ (t : List Loss). end_of section.count (lost_in t)) told ∙ sym y.end) in
      ap (λ (t : List ℕ). record a { text = t }) text
      ∙ (ap (λ (t : List Loss). record { text = b.text; told = t; end = a.end }) told
      ∙ ap (λ (e : Rescue). record { text = b.text; told = b.told; end = e }) end)

module _ (images : List (List ℕ)) (section : Option Section) (a b : Outcome) where
  asked_one : (found : Found) (l : Layout) (asked : Option Section) → OfAsked (IsSaid images [] found l) asked a → OfAsked (IsSaid images [] found l) asked b → a ≡ b
  asked_one found l None x y = x ∙ sym y
  asked_one found l (Some s) x y = said_one images found l s a b x y

  layout_one : (found : Found) (r : Result Layout LayoutFault) → OfLayout (IsSaid images [] found) section r a → OfLayout (IsSaid images [] found) section r b → a ≡ b
  layout_one found (Ok l) x y = asked_one found l (asked_section l.size section) x y
  layout_one found (Err fault) x y = absurd x

  volume_one : (found : Found) (v : Option Volume) → OfVolume (IsSaid images [] found) section found v a → OfVolume (IsSaid images [] found) section found v b → a ≡ b
  volume_one found None x y = x ∙ sym y
  volume_one found (Some v) x y = layout_one found (layout_of found.db.records v) x y

  outcome_one : (name : List ℕ) (group : Result Found OpenFault) → OfGroup (IsSaid images []) name section group a → OfGroup (IsSaid images []) name section group b → a ≡ b
  outcome_one name (Ok found) x y = volume_one found (volume_named name found.db.records) x y
  outcome_one name (Err fault) x y = x ∙ sym y

pub one_outcome : (name : List ℕ) (section : Option Section) (images : List (List ℕ)) (a b : Outcome) → IsRescueAnswer name section images [] a → IsRescueAnswer name section images [] b → a ≡ b
one_outcome name section images a b x y =
    outcome_one images section a b name y.0 (subst (λ (g : Result Found OpenFault). OfGroup (IsSaid images []) name section g a) (one_group images x.0 y.0 x.1 y.1) x.2) y.2
