-- How the tests find the first broken rule: walks over records, layouts and sorted spans, and the
-- table of all.
use Rattle.std.proofs.Common.{◌≡◌, ℕ, List, [], ◌∷◌, ◌++◌, refl, Option, Some, None, Err, ◌+◌, ◌<◌, ◌==◌, inl, inr, Bool, true, false, cond, length, get_or, ap, sym, subst, ◌∙◌, arith, count_by, find, Bor, not, option_copied, take, drop, Result, ◌≢◌, ◌≤◌, max, min, zero-add, eq-eqb, nat_lt}
use Rattle.std.proofs.lemmas.Grind.{common_steps}
use Rattle.ldm_bytes.specs.Tables.{first_of}
use Rattle.ldm_rules.specs.Table.{ChecksAs}
use Rattle.ldm_rules.specs.declared.fault.RuleError.{RuleError}
use Rattle.ldm_rules.specs.declared.fault.RuleError.TheVariants.{Fault, NoMemory}
use Rattle.std.specs.Prelude.{is_none, is_some}
use Rattle.std.specs.List.{position_or_len, slice_get, filter_map, cons_option, AllAdjacentBelow, Contains, list_any}
use Rattle.std.proofs.lemmas.Bool.{cases_lt, cases_eq, ltb-true, lt-ltb, eqb-true, and_parts, not-true}
use Rattle.std.proofs.lemmas.List.{get_or_default, take_more, take-append-drop, append-nil}
use Rattle.std.proofs.lemmas.List.Folds.{find_at, Any-from_list_any}
use Rattle.std.proofs.lemmas.List.Sums.{position_or_len_is, sum_by-cons}
use Rattle.std.proofs.lemmas.Option.{slice_get-get_or}
use Rattle.ldm_group.proofs.Rise.{count_no, count_yes, tested, two_places, counted_two}
use Rattle.std.proofs.lemmas.List.Elements.{filter_map-append}
use Rattle.ldm_records.specs.declared.types.Record.{Record}
use Rattle.ldm_records.specs.declared.types.Record.TheVariants as kinds
use Rattle.ldm_records.specs.declared.types.GroupRec.{GroupRec}
use Rattle.ldm_rules.specs.Rules.{group_id, group_fault, first_broken, fails, is_short_fault, has_layout_fault, passes_layout, is_other_meeting, meets_another}
use Rattle.std.specs.Option.{option_map}
use Rattle.ldm_records.specs.declared.types.Volume.{Volume}
use Rattle.ldm_group.specs.Order.{id_of}
use Rattle.ldm_places.specs.Layouts.{Layout}
use Rattle.ldm_layout.specs.Volumes.{layout_of, fault_of, fault_at, layout_faults}
use Rattle.ldm_places.specs.declared.shape.LayoutFault.{LayoutFault}
use Rattle.ldm_layout.specs.declared.faulty.VolumeFault.{VolumeFault}
use Rattle.std.proofs.lemmas.List.Sorted.{sum_by-IsPermutation, Contains-permutation}
use Rattle.std.specs.List.Sorted.{IsNonDecreasingBy, IsPermutation}
use Rattle.ldm_records.specs.declared.types.Partition.{Partition}
use Rattle.ldm_group.proofs.LookLaws.{find_none}
use Rattle.ldm_group.proofs.KinLaws.{named_there}
use Rattle.ldm_group.specs.Partitions.{meets}
use Rattle.ldm_rules.specs.Spans.{span, span_of, Apart}
use Rattle.ldm_rules.specs.declared.meetings.Span.{Span}

-- ---- The first fault of a table is that of its first part, or of the rest where that has none.

pub in_first : (xs ys : List (Option (ℕ × ℕ))) (fault : ℕ × ℕ) → first_of xs ≡ Some fault → first_of (xs ++ ys) ≡ Some fault
in_first [] ys fault h = absurd cc
in_first (None ∷ xs) ys fault h = in_first xs ys fault h
in_first (Some first ∷ xs) ys fault h = h

pub in_rest : (xs ys : List (Option (ℕ × ℕ))) → first_of xs ≡ None → first_of (xs ++ ys) ≡ first_of ys
in_rest [] ys h = refl
in_rest (None ∷ xs) ys h = in_rest xs ys h
in_rest (Some first ∷ xs) ys h = absurd cc

-- an error of the first part is the table's
pub failed : (xs ys : List (Option (ℕ × ℕ))) (e : RuleError) → ChecksAs (Err e) (first_of xs) → ChecksAs (Err e) (first_of (xs ++ ys))
failed xs ys (Fault f) h = in_first xs ys (f.rule, f.id) h
failed xs ys NoMemory h = tt

-- ---- The first that passes a test.

-- there is none exactly where none is counted
pub none_counted : {X : Type 0} (t : X → Bool) (xs : List X) → is_none (find t xs) ≡ (count_by t xs == 0)
none_counted t [] = refl
none_counted {X} t (x ∷ xs) =
    let rest = none_counted t xs in
    elim (tested (t x)) [
      | inl holds ↦ ap (λ (b : Bool). is_none (cond b (Some x) (find t xs))) holds ∙ (let more = count_yes t x xs holds in grind arith)
      | inr fails ↦ ap (λ (b : Bool). is_none (cond b (Some x) (find t xs))) fails ∙ (let same = count_no t x xs fails in grind arith)
    ]

pub none_handed : {X : Type 0} (handed : Option (Bor X)) (none : Bool) (found : Option X) → is_some handed ≡ not none → option_copied handed ≡ found → none ≡ is_none found
none_handed handed none found is same = grind (arith, common_steps)

-- ---- of a walk

module _ {X : Type 0} (xs : List X) (i : ℕ) (x : X) (lt : i < length xs) (is : x ≡ get_or xs i x) where
  -- what holds before this element and of it
  pub below_next : (P : X → Type 0) → P x → ((k : ℕ) (d : X) → k < i → P (get_or xs k d)) → (k : ℕ) (d : X) → k < i + 1 → P (get_or xs k d)
  below_next P here below k d h = elim (cases_lt k i) [
    | inl before ↦ below k d before
    | inr same ↦ (let index : i ≡ k = omega arith in subst P (is ∙ get_or_default xs i x d lt ∙ ap (λ (j : ℕ). get_or xs j d) index) here)
  ]

  -- it is the first, where none before it passes
  pub first_at : (t : X → Bool) → t x ≡ true → ((k : ℕ) (d : X) → k < i → t (get_or xs k d) ≡ false) → find t xs ≡ Some x
  first_at t here before =
      let place : position_or_len t xs ≡ i = position_or_len_is t xs i x (omega arith) (λ k. before k x) (λ h. ap t (sym is) ∙ here) in
      find_at t xs ∙ ap (slice_get xs) place ∙ slice_get-get_or xs i x lt ∙ ap (λ (y : X). Some y) (sym is)

-- ---- The ids of the group records, one record after the other.

-- there are none of them, or one
abbrev pub Seen : Bool → List ℕ → Type 0
Seen false ids = ids ≡ []
Seen true ids = (id : ℕ) × (ids ≡ id ∷ [])

no_group : (r : Record) → ((g : GroupRec) → r ≡ kinds.Group g → ⊥) → group_id r ≡ None
no_group r other = grind (arith, common_steps)

module _ (records : List Record) (i : ℕ) (r : Record) (lt : i < length records) (is : r ≡ get_or records i r) where
  grown : (o : Option ℕ) → group_id r ≡ o → filter_map group_id (take (i + 1) records) ≡ filter_map group_id (take i records) ++ cons_option o []
  grown o e = ap (filter_map group_id) (take_more records i r lt) ∙ filter_map-append group_id (take i records) (get_or records i r ∷ [])
      ∙ ap (λ (s : Record). filter_map group_id (take i records) ++ filter_map group_id (s ∷ [])) (sym is)
      ∙ ap (λ (x : Option ℕ). filter_map group_id (take i records) ++ cons_option x []) e

  -- a record that is no group record
  pub other_seen : (found : Bool) → ((g : GroupRec) → r ≡ kinds.Group g → ⊥) → Seen found (filter_map group_id (take i records)) → Seen found (filter_map group_id (take (i + 1) records))
  other_seen found other before = subst (Seen found) (sym (grown None (no_group r other) ∙ append-nil _)) before

  -- the first group record, and the second
  pub first_seen : (g : GroupRec) → r ≡ kinds.Group g → Seen false (filter_map group_id (take i records)) → Seen true (filter_map group_id (take (i + 1) records))
  first_seen g here before = (g.head.id, grown (Some g.head.id) (ap group_id here) ∙ ap (λ (ids : List ℕ). ids ++ g.head.id ∷ []) before)

  pub second_seen : (g : GroupRec) → r ≡ kinds.Group g → Seen true (filter_map group_id (take i records)) → Some g.head.id ≡ group_fault (filter_map group_id records)
  second_seen g here before =
      let rest = filter_map group_id (drop (i + 1) records) in
      sym (ap (λ (xs : List Record). group_fault (filter_map group_id xs)) (sym (take-append-drop (i + 1) records))
      ∙ ap group_fault (filter_map-append group_id (take (i + 1) records) (drop (i + 1) records))
      ∙ ap (λ (ids : List ℕ). group_fault (ids ++ rest)) (grown (Some g.head.id) (ap group_id here) ∙ ap (λ (ids : List ℕ). ids ++ g.head.id ∷ []) before.1))

-- ---- The first layout fault of a kind is of the least volume that has one of that kind.

-- a volume whose layout has a fault that passes a test
abbrev pub fails_at : (LayoutFault → Bool) → List Record → Record → Bool
fails_at test records (kinds.Volume v) = fails test (layout_of records v)
fails_at test records _ = false

-- the volume of the first fault that passes
abbrev pub first_passing : (LayoutFault → Bool) → List VolumeFault → Option ℕ
first_passing test faults = option_map (λ f. f.volume) (find (λ f. test f.fault) faults)

-- one volume more
step : (test : LayoutFault → Bool) (v : Volume) (l : Result Layout LayoutFault) (faults : List VolumeFault) (found : Option Record) → first_passing test faults ≡ option_map id_of found
    → first_passing test (cons_option (option_map {U = VolumeFault} (λ f. record { volume = v.head.id; fault = f }) (fault_of l)) faults)
    ≡ option_map id_of (cond (fails test l) (Some (kinds.Volume v)) found)
step test v l faults found h = grind (arith, common_steps)

pub first_of_kind : (test : LayoutFault → Bool) (records rs : List Record) → first_passing test (filter_map (fault_at records) rs) ≡ first_broken (fails_at test records) rs
first_of_kind test records [] = refl
first_of_kind test records (kinds.Volume v ∷ rs) = step test v (layout_of records v) (filter_map (fault_at records) rs) (find (fails_at test records) rs) (first_of_kind test records rs)
first_of_kind test records (r ∷ rs) = first_of_kind test records rs

-- the two kinds of the rules
other_is : (records : List Record) (r : Record) → fails_at (λ f. not (is_short_fault f)) records r ≡ has_layout_fault records r
other_is records r = refl

short_is : (records : List Record) (r : Record) → fails_at is_short_fault records r ≡ passes_layout records r
short_is records r = refl

pub first_faulty : (records : List Record) → first_passing (λ f. not (is_short_fault f)) (layout_faults records) ≡ first_broken (has_layout_fault records) records
first_faulty records = first_of_kind (λ f. not (is_short_fault f)) records records ∙ ap (λ (test : Record → Bool). first_broken test records) (λ i r. other_is records r i)

pub first_too_large : (records : List Record) → first_passing is_short_fault (layout_faults records) ≡ first_broken (passes_layout records) records
first_too_large records = first_of_kind is_short_fault records records ∙ ap (λ (test : Record → Bool). first_broken test records) (λ i r. short_is records r i)

-- ---- Where the sorted spans lie apart, no partition meets another.

-- a test on what may be there
abbrev pub passes : {Y : Type 0} → (Y → Bool) → Option Y → Bool
passes test None = false
passes test (Some y) = test y

-- a count of what a list names is a count of the list
pub count-filter_map : {X Y : Type 0} (f : X → Option Y) (test : Y → Bool) (xs : List X) → count_by test (filter_map f xs) ≡ count_by (λ x. passes test (f x)) xs
count-filter_map f test [] = refl
count-filter_map f test (x ∷ xs) =
    let rest = count-filter_map f test xs in
    (elim (f x) as (λ o. count_by test (cons_option o (filter_map f xs))
    ≡ cond (passes test o) 1 0 + count_by (λ z. passes test (f z)) xs) [
      | None ↦ rest ∙ sym (zero-add _)
      | Some y ↦ sum_by-cons (λ z. cond (test z) 1 0) y (filter_map f xs)
          ∙ ap (λ n. cond (test y) 1 0 + n) rest
    ]) ∙ sym (sum_by-cons (λ z. cond (passes test (f z)) 1 0) x xs)

abbrev pub overlaps : Span → Span → Bool
overlaps a b = nat_lt (max a.start b.start) (min a.end b.end)

-- of spans that lie apart, one overlaps none but itself
pub apart_no : (xs : List Span) (d : Span) (k m : ℕ) → Apart xs → k < length xs → m < length xs → k ≢ m → overlaps (get_or xs k d) (get_or xs m d) ≡ true → ⊥
apart_no xs d k m apart hk hm ne over =
    let lt : max (get_or xs k d).start (get_or xs m d).start < min (get_or xs k d).end (get_or xs m d).end = ltb-true _ _ over in
    elim (cases_lt k m) [
      | inl below ↦ (let e : (get_or xs k d).end ≤ (get_or xs m d).start = apart k m d below hm in omega arith)
      | inr above ↦ (let e : (get_or xs m d).end ≤ (get_or xs k d).start = apart m k d (omega arith) hk in omega arith)
    ]

pub apart_once : (xs : List Span) (x : Span) → Apart xs → Contains xs x → 2 ≤ count_by (overlaps x) xs → ⊥
apart_once xs x apart there twice =
    let two = two_places (overlaps x) xs x twice in
    let from : (m : ℕ) → overlaps x (get_or xs m x) ≡ true → overlaps (get_or xs there.0 x) (get_or xs m x) ≡ true = (λ m h. subst (λ (y : Span). overlaps y (get_or xs m x) ≡ true) (sym there.2) h) in
    elim (cases_eq there.0 two.0) [
      | inl same ↦ apart_no xs x there.0 two.1 apart there.1 two.3 (omega arith) (from two.1 two.5)
      | inr other ↦ apart_no xs x there.0 two.0 apart there.1 (omega arith) other (from two.0 two.4)
    ]

-- where two partitions of the list meet, and both are of one disk
pub overlap_of : (p q : Partition) → meets p q ≡ true → (overlaps (span p) (span q) ≡ true) × (overlaps (span p) (span p) ≡ true)
overlap_of p q h = grind (arith, and_parts, eqb-true, ltb-true, lt-ltb)

pub two_met : (records : List Record) (sorted : List Span) (d : Record) (p q : Partition) (k j : ℕ) → Apart sorted → IsPermutation (filter_map span_of records) sorted
    → k < length records → j < length records → get_or records k d ≡ kinds.Partition p → get_or records j d ≡ kinds.Partition q
    → not (q.head.id == p.head.id) ≡ true → meets p q ≡ true → ⊥
two_met records sorted d p q k j apart perm hk hj at_k at_j other meet =
    let over = overlap_of p q meet in
    let test : Record → Bool = λ r. passes (overlaps (span p)) (span_of r) in
    let pass_k : passes (overlaps (span p)) (span_of (get_or records k d)) ≡ true = ap (λ r. passes (overlaps (span p)) (span_of r)) at_k ∙ over.1 in
    let pass_j : passes (overlaps (span p)) (span_of (get_or records j d)) ≡ true = ap (λ r. passes (overlaps (span p)) (span_of r)) at_j ∙ over.0 in
    let apart_ids : q.head.id ≡ p.head.id → ⊥ = λ e. (let t = eq-eqb q.head.id p.head.id e in let f = not-true _ other in cc) in
    let ne : k ≢ j = λ e. (let same : kinds.Partition p ≡ kinds.Partition q = sym at_k ∙ (ap (λ n. get_or records n d) e ∙ at_j) in
    let same_id : q.head.id ≡ p.head.id = (let part : p ≡ q = cc in ap (λ (y : Partition). y.head.id) (sym part)) in apart_ids same_id) in
    let many : 2 ≤ count_by (λ r. passes (overlaps (span p)) (span_of r)) records =
    elim (cases_lt k j) [
      | inl lt ↦ counted_two (λ r. passes (overlaps (span p)) (span_of r)) records d k j lt hj pass_k pass_j
      | inr ge ↦ counted_two (λ r. passes (overlaps (span p)) (span_of r)) records d j k (omega arith) hk pass_j pass_k
    ] in
    let in_spans : 2 ≤ count_by (overlaps (span p)) (filter_map span_of records) = subst (λ (n : ℕ). 2 ≤ n) (sym (count-filter_map span_of (overlaps (span p)) records)) many in
    let in_sorted : 2 ≤ count_by (overlaps (span p)) sorted = subst (λ (n : ℕ). 2 ≤ n) (sym (sum_by-IsPermutation (λ s. cond (overlaps (span p) s) 1 0) (filter_map span_of records) sorted perm)) in_spans in
    apart_once sorted (span p) apart (Contains-permutation (filter_map span_of records) sorted (span p) perm (named_there span_of records d k (span p) hk (ap span_of at_k))) in_sorted

pub meets_none : (records : List Record) (sorted : List Span) → Apart sorted → IsPermutation (filter_map span_of records) sorted → first_broken (meets_another records) records ≡ None
meets_none records sorted apart perm = ap (λ o. option_map id_of o) (find_none (meets_another records) records (λ k d h. at (get_or records k d) k d h refl))
  where
    met : (r : Record) (p : Partition) (k : ℕ) (d : Record) → k < length records → get_or records k d ≡ kinds.Partition p → (j : ℕ) → j < length records → get_or records j d ≡ r → is_other_meeting p r ≡ true → ⊥
    met (kinds.Partition q) p k d hk at_k j hj at_j t =
        two_met records sorted d p q k j apart perm hk hj at_k at_j (and_parts _ _ t).0
        (and_parts _ _ t).1
    met r p k d hk at_k j hj at_j t = cc

    at : (r : Record) (k : ℕ) (d : Record) → k < length records → get_or records k d ≡ r → meets_another records (get_or records k d) ≡ false
    at (kinds.Partition p) k d h e = ap (meets_another records) e ∙ elim (tested (list_any (is_other_meeting p) records)) [
      | inr none ↦ none
      | inl some ↦ (let any = Any-from_list_any (is_other_meeting p) records some in
          absurd (met any.1 p k d h e any.0 any.2 (get_or_default records any.0 d any.1 any.2 ∙ any.3) any.4))
    ]
    at r k d h e = ap (meets_another records) e

-- spans that rise, each of which ends before the next
pub apart_from : (xs : List Span) → IsNonDecreasingBy (λ s. s.start) xs → AllAdjacentBelow (λ a b. a.end ≤ b.start) xs (length xs) → Apart xs
apart_from xs up next i j d lt within =
    let one : (get_or xs i d).end ≤ (get_or xs (i + 1) d).start = next i d (omega arith) in
    let two : (get_or xs (i + 1) d).start ≤ (get_or xs j d).start = up (i + 1) j d (omega arith) within in
    omega arith
