-- Gaps between what is taken: the first that is long enough begins at the first fit, and what a
-- taking leaves.
use Rattle.std.proofs.Common.{◌≡◌, ◌≢◌, ◌⊎◌, inl, inr, ℕ, zero, suc, ◌+◌, ◌<◌, ◌≤◌, ◌==◌, max, min, List, [], ◌∷◌, length, get_or, sym, ap, subst, ◌∙◌, arith, Bool, true, false, cond, Some, None, find, eq-eqb, ◌-◌, ◌^◌, ◌&&◌, ◌||◌, ◌++◌, take, refl, nat_lt, set, get_or-set_same, get_or-set_other, ltb, Option, MatchOption}
use Rattle.std.proofs.lemmas.Grind.{common_steps}
use Rattle.std.specs.List.{All, AllPairs, Contains, filter_map, list_any, cons_option, remove, position, position_or_len}
use Rattle.std.proofs.lemmas.Bool.{cases_order, and_parts, and_from, ltb-true, lt-ltb, leb-true, le-leb, eqb-true, false_from_ne_true, true_from_ne_false, false≢true, cases_lt, le-ltb, or_from, or_parts, cases_eq, ltb-false, ne_eqb}
use Rattle.std.proofs.lemmas.List.{get_or_default, take_more, take_all}
use Rattle.std.proofs.lemmas.List.Elements.{All-contains, All-nil, All-cons, All-push, All-tail, All-head, All-weaker, Contains-append_left, Contains-push, Contains-push_cases, Contains-get_or}
use Rattle.std.proofs.lemmas.List.Folds.{list_any_at, Any-from_list_any, list_any-append, list_any_none, find_at}
use Rattle.ldm_space.specs.Free.{Taken, takes_one, is_taken, first_free_start, taken_of, taken_by, taken_in}
use Rattle.std.specs.Prelude.{is_some}
use Rattle.ldm_space.specs.Gaps.{greatest_to, largest_free, Gap, IsIn, AreGaps, has_length, taken_on, with_gap, TakesFirst, first_gap, shorter, rest_of, without_first}
use Rattle.ldm_space.specs.declared.placed.FreeMaps.{FreeMaps}
use Rattle.ldm_space.specs.Placed.{AreMapsOf}
use Rattle.ldm_space.proofs.FreeLaws.{is_first, is_none, first_is, none_is, taken_both, put_last, taken_moved, any_by_each}
use Rattle.std.specs.List.Sorted.{IsNonDecreasingBy, IsPermutation}
use Rattle.std.proofs.lemmas.List.Quantifiers.{all_pairs_push, all_pairs_remove, position-Some}
use Rattle.ldm_records.specs.declared.types.Record.{Record}
use Rattle.ldm_records.specs.declared.types.Record.TheVariants as kinds
use Rattle.ldm_records.specs.declared.types.Partition.{Partition}
use Rattle.ldm_group.specs.Partitions.{EndsInRange}
use Rattle.std.specs.Option.{option_map}
use Rattle.std.proofs.Math.ListN.{length-set}
use Rattle.std.proofs.lemmas.List.Edits.{length-remove, get_or-remove_below, get_or-remove_above}
use Rattle.std.proofs.lemmas.List.Sums.{fails_before_first, position_or_len_is}
use Rattle.std.specs.Ordering.{nat_cmp}
use Rattle.std.specs.BTreeMap.{BTreeMap, get, Updates, is_at}
use Rattle.std.specs.Cmp.{unsigned_tied}
use Rattle.std.proofs.lemmas.Option.{slice_get-get_or}

-- ---- The first gap that is long enough begins at the first fit.

-- ---- a sector and what is taken

pub sector_in : (t : Taken) (disk s : ℕ) → t.disk ≡ disk → t.start ≤ s → s < t.start + t.size → takes_one disk 1 s t ≡ true
sector_in t disk s same from below = and_from (disk == t.disk) _ (eq-eqb disk t.disk (sym same)) (lt-ltb (max s t.start) (min (s + 1) (t.start + t.size)) (omega arith))

pub sector_out : (t : Taken) (disk s : ℕ) → (s < t.start) ⊎ (t.start + t.size ≤ s) → takes_one disk 1 s t ≡ false
sector_out t disk s out = false_from_ne_true _ (λ met.
    let lt : max s t.start < min (s + 1) (t.start + t.size) = ltb-true _ _ (and_parts (disk == t.disk) _ met).1 in
    elim out [ inl before ↦ omega arith | inr behind ↦ omega arith ])

pub other_disk : (t : Taken) (disk len p : ℕ) → t.disk ≢ disk → takes_one disk len p t ≡ false
other_disk t disk len p other = false_from_ne_true _ (λ met. other (sym (eqb-true disk t.disk (and_parts (disk == t.disk) _ met).0)))

-- ---- a run is free where its sectors are

pub run_free : (taken : List Taken) (disk len p s : ℕ) → is_taken taken disk len p ≡ false → p ≤ s → s < p + len → is_taken taken disk 1 s ≡ false
unfolding is_taken
run_free taken disk len p s free from below = false_from_ne_true _ (λ one.
    let any = Any-from_list_any (takes_one disk 1 s) taken one in
    let t : Taken = any.1 in
    let both = and_parts (disk == t.disk) _ any.4 in
    let has : max s t.start < min (s + 1) (t.start + t.size) = ltb-true _ _ both.1 in
    let more : max p t.start < min (p + len) (t.start + t.size) = omega arith in
    false≢true (sym free ∙ list_any_at (takes_one disk len p) taken any.0 t any.2 (ap (takes_one disk len p) any.3 ∙ and_from (disk == t.disk) _ both.0 (lt-ltb _ _ more))))

pub free_run : (taken : List Taken) (disk len p : ℕ) → ((s : ℕ) → p ≤ s → s < p + len → is_taken taken disk 1 s ≡ false) → is_taken taken disk len p ≡ false
unfolding is_taken
free_run taken disk len p each = false_from_ne_true _ (λ some.
    let any = Any-from_list_any (takes_one disk len p) taken some in
    let t : Taken = any.1 in
    let both = and_parts (disk == t.disk) _ any.4 in
    let has : max p t.start < min (p + len) (t.start + t.size) = ltb-true _ _ both.1 in
    let s : ℕ = max p t.start in
    let one : max s t.start < min (s + 1) (t.start + t.size) = omega arith in
    false≢true (sym (each s (omega arith) (omega arith)) ∙ list_any_at (takes_one disk 1 s) taken any.0 t any.2 (ap (takes_one disk 1 s) any.3 ∙ and_from (disk == t.disk) _ both.0 (lt-ltb _ _ one))))

-- ---- a free run lies in one gap

-- of two gaps at two places of the list, the first lies before the other
pub before_at : (gaps : List Gap) (g h : Gap) (i j : ℕ) → AllPairs (λ a b. a.start + a.len < b.start) gaps → i < j → get_or gaps i g ≡ g → j < length gaps → get_or gaps j h ≡ h → g.start + g.len < h.start
before_at gaps g h i j rising low is_g lt_j is_h =
    let e : get_or gaps j g ≡ h = get_or_default gaps j g h lt_j ∙ is_h in
    subst (λ (x : Gap). x.start + x.len < h.start) is_g (subst (λ (y : Gap). (get_or gaps i g).start + (get_or gaps i g).len < y.start) e (rising i j g low lt_j))

pub apart_at : (gaps : List Gap) (g h : Gap) (i j : ℕ) → AllPairs (λ a b. a.start + a.len < b.start) gaps → i < length gaps → get_or gaps i g ≡ g → j < length gaps → get_or gaps j h ≡ h → (i < j) ⊎ (j < i)
    → (g.start + g.len < h.start) ⊎ (h.start + h.len < g.start)
apart_at gaps g h i j rising lt_i is_g lt_j is_h off = elim off [ inl low ↦ inl (before_at gaps g h i j rising low is_g lt_j is_h) | inr high ↦ inr (before_at gaps h g j i rising high is_h lt_i is_g) ]

pub apart : (gaps : List Gap) (g h : Gap) → AllPairs (λ a b. a.start + a.len < b.start) gaps → Contains gaps g → Contains gaps h → (g ≡ h) ⊎ ((g.start + g.len < h.start) ⊎ (h.start + h.len < g.start))
apart gaps g h rising (i, lt_i, is_g) (j, lt_j, is_h) = grind (arith, cases_order, get_or_default, apart_at)

pub run_in : (gaps : List Gap) (taken : List Taken) (disk size len q : ℕ) (h : Gap) → AreGaps gaps taken disk size → Contains gaps h → IsIn h q → q + len ≤ size
    → ((s : ℕ) → q ≤ s → s < q + len → is_taken taken disk 1 s ≡ false) → q + len ≤ h.start + h.len
run_in gaps taken disk size len q h are there in_h ends each = elim (cases_lt (h.start + h.len) (q + len)) [
  | inr le ↦ le
  | inl high ↦ (let from = in_h.from in let below = in_h.below in
      let next = are.all (h.start + h.len) (omega arith) (each (h.start + h.len) (omega arith) (omega arith)) in
      let k : Gap = next.0 in
      let k_from = next.2.from in
      let k_below = next.2.below in
      elim (apart gaps h k are.rising there next.1) [
        | inl one ↦ (let starts : h.start ≡ k.start = ap (λ (g : Gap). g.start) one in let lens : h.len ≡ k.len = ap (λ (g : Gap). g.len) one in absurd (omega arith))
        | inr two ↦ elim two [ inl before ↦ absurd (omega arith) | inr after ↦ absurd (omega arith) ]
      ])
]

-- ---- the first that is long enough

pub record IsFirstLong (len : ℕ) (gaps : List Gap) (at : ℕ) : Type 0 where
  pub within : at < length gaps
  pub long : (d : Gap) → has_length len (get_or gaps at d) ≡ true
  pub before : (k : ℕ) (d : Gap) → k < at → has_length len (get_or gaps k d) ≡ false

-- its place in a list with one more before it
pub first_behind : (len : ℕ) (x : Gap) (gaps : List Gap) (at : ℕ) → IsFirstLong len (x ∷ gaps) (suc at) → IsFirstLong len gaps at
first_behind len x gaps at f = record {
  within = (let lt = f.within in omega arith);
  long = λ d. f.long d;
  before = λ k d lt. f.before (suc k) d (omega arith);
}

pub found_first : (len : ℕ) (gaps : List Gap) (at : ℕ) (d : Gap) → IsFirstLong len gaps at → find (has_length len) gaps ≡ Some (get_or gaps at d)
found_first len gaps at d f = grind (arith, find_at, position_or_len_is, slice_get-get_or)

-- ---- the law

-- a free run at q lies in a gap that is long enough
long_run : (gaps : List Gap) (taken : List Taken) (disk size len q : ℕ) → AreGaps gaps taken disk size → 0 < len → q + len ≤ size → is_taken taken disk len q ≡ false → (h : Gap) × Contains gaps h × (h.start ≤ q) × (len ≤ h.len)
long_run gaps taken disk size len q are some ends free =
    let each : (s : ℕ) → q ≤ s → s < q + len → is_taken taken disk 1 s ≡ false = λ s from below. run_free taken disk len q s free from below in
    let h = are.all q (omega arith) (each q (omega arith) (omega arith)) in
    let in_one : q + len ≤ h.0.start + h.0.len = run_in gaps taken disk size len q h.0 are h.1 h.2 ends each in
    let from = h.2.from in
    (h.0, h.1, from, omega arith)

pub gap_is_first : (gaps : List Gap) (taken : List Taken) (disk size len at : ℕ) (g : Gap) → AreGaps gaps taken disk size → 0 < len → IsFirstLong len gaps at → get_or gaps at g ≡ g → first_free_start taken disk size len ≡ Some g.start
gap_is_first gaps taken disk size len at g are some f is_g =
    let there : Contains gaps g = (at, f.within, is_g) in
    let enough : len ≤ g.len = leb-true len g.len (ap (has_length len) (sym is_g) ∙ f.long g) in
    let ends : g.start + g.len ≤ size = All-contains (λ (x : Gap). x.start + x.len ≤ size) gaps g are.within there in
    is_first taken disk size len g.start (record {
      ends = omega arith;
      free = free_run taken disk len g.start (λ s from below. are.free g s there (record { from = from; below = omega arith }));
      least = λ q lt. true_from_ne_false _ (λ free. earlier q lt (long_run gaps taken disk size len q are some (omega arith) free));
    })
  where
    earlier : (q : ℕ) → q < g.start → (h : Gap) × Contains gaps h × (h.start ≤ q) × (len ≤ h.len) → ⊥
    earlier q lt (h, (k, lt_k, is_h), from, enough) =
        elim (cases_order k at) [
          | inl same ↦ (let one : h ≡ g = sym is_h ∙ (get_or_default gaps k h g lt_k ∙ (ap (λ (n : ℕ). get_or gaps n g) same ∙ is_g)) in
              let starts : h.start ≡ g.start = ap (λ (x : Gap). x.start) one in omega arith)
          | inr off ↦ elim off [
            | inl low ↦ false≢true (sym (f.before k h low) ∙ (ap (has_length len) is_h ∙ le-leb len h.len enough))
            | inr high ↦ (let before : g.start + g.len < h.start = before_at gaps g h at k are.rising high is_g lt_k is_h in omega arith)
          ]
        ]

pub no_gap : (gaps : List Gap) (taken : List Taken) (disk size len : ℕ) → AreGaps gaps taken disk size → 0 < len → All (λ g. has_length len g ≡ false) gaps → first_free_start taken disk size len ≡ None
no_gap gaps taken disk size len are some short = is_none taken disk size len (λ q ends. true_from_ne_false _ (λ free.
    let h = long_run gaps taken disk size len q are some ends free in
    false≢true (sym (All-contains (λ (g : Gap). has_length len g ≡ false) gaps h.0 short h.1) ∙ le-leb len h.0.len h.3)))

-- ---- The longest gap has as many sectors as are free in a row.

abbrev pub longest_of : List Gap → ℕ
longest_of [] = 0
longest_of (g ∷ gaps) = max g.len (longest_of gaps)

longest_bounds : (gaps : List Gap) (k : ℕ) (d : Gap) → k < length gaps → (get_or gaps k d).len ≤ longest_of gaps
longest_bounds [] k d lt = absurd (omega arith)
longest_bounds (g ∷ gaps) zero d lt = omega arith
longest_bounds (g ∷ gaps) (suc k) d lt = (let below = longest_bounds gaps k d (omega arith) in omega arith)

-- where it has some, it is a gap's
longest_met : (gaps : List Gap) → 0 < longest_of gaps → (g : Gap) × Contains gaps g × (g.len ≡ longest_of gaps)
longest_met [] some = absurd (omega arith)
longest_met (g ∷ gaps) some = elim (cases_lt g.len (longest_of gaps)) [
  | inl less ↦ (let (h, (k, lt, is), same) = longest_met gaps (omega arith) in (h, (suc k, omega arith, is), omega arith))
  | inr most ↦ (g, (0, omega arith, refl), omega arith)
]

greatest_is : (n m : ℕ) (test : ℕ → Bool) → m ≤ n → (0 < m → test m ≡ true) → ((k : ℕ) → m < k → test k ≡ false) → m ≡ greatest_to n test
greatest_is zero m test le met above = omega arith
greatest_is (suc n) m test le met above = go (test (suc n)) refl (λ low. greatest_is n m test low met above)
  where
    go : (b : Bool) → test (suc n) ≡ b → (m ≤ n → m ≡ greatest_to n test) → m ≡ cond b (suc n) (greatest_to n test)
    go true is rest = elim (cases_lt m (suc n)) [
      | inl less ↦ absurd (false≢true (sym (above (suc n) less) ∙ is))
      | inr same ↦ omega arith
    ]
    go false is rest = elim (cases_lt m (suc n)) [
      | inl less ↦ rest (omega arith)
      | inr same ↦ absurd (false≢true (sym is ∙ (ap test (let one : suc n ≡ m = omega arith in one) ∙ met (omega arith))))
    ]

pub largest_is : (gaps : List Gap) (taken : List Taken) (disk size : ℕ) → AreGaps gaps taken disk size → longest_of gaps ≡ largest_free taken disk size
unfolding largest_free
largest_is gaps taken disk size are = greatest_is size (longest_of gaps) (λ len. is_some (first_free_start taken disk size len)) within met above
  where
    within : longest_of gaps ≤ size
    within = elim (cases_lt 0 (longest_of gaps)) [
      | inl some ↦ (let (g, there, same) = longest_met gaps some in
          let ends : g.start + g.len ≤ size = All-contains (λ (x : Gap). x.start + x.len ≤ size) gaps g are.within there in omega arith)
      | inr none ↦ omega arith
    ]

    met : 0 < longest_of gaps → is_some (first_free_start taken disk size (longest_of gaps)) ≡ true
    met some = go (first_free_start taken disk size (longest_of gaps)) refl
      where
        go : (o : Option ℕ) → first_free_start taken disk size (longest_of gaps) ≡ o → is_some o ≡ true
        go (Some p) is = refl
        go None is =
            let (g, there, same) = longest_met gaps some in
            let ends : g.start + g.len ≤ size = All-contains (λ (x : Gap). x.start + x.len ≤ size) gaps g are.within there in
            absurd (false≢true (sym (free_run taken disk (longest_of gaps) g.start (λ s from below. are.free g s there (record { from = from; below = omega arith })))
            ∙ none_is taken disk size (longest_of gaps) is g.start (omega arith)))

    above : (k : ℕ) → longest_of gaps < k → is_some (first_free_start taken disk size k) ≡ false
    above k more = ap is_some (no_gap gaps taken disk size k are (omega arith)
        (λ i d lt. false_from_ne_true _ (λ long. (let a = longest_bounds gaps i d lt in let b = leb-true k (get_or gaps i d).len long in omega arith))))

-- ---- A walk over what is taken of a disk, in rising start, meets all gaps.

-- ---- lists that take the same sectors of the disk

pub gaps_same : (gaps : List Gap) (a b : List Taken) (disk size : ℕ) → ((s : ℕ) → is_taken a disk 1 s ≡ is_taken b disk 1 s) → AreGaps gaps a disk size → AreGaps gaps b disk size
gaps_same gaps a b disk size same are = record {
  some = are.some;
  rising = are.rising;
  within = are.within;
  free = λ g s there in_g. sym (same s) ∙ are.free g s there in_g;
  all = λ s below free. are.all s below (same s ∙ free);
}

-- of what the partitions take, that of the disk is what counts,
off_disk : (p : Partition) (disk s : ℕ) → ((p.disk == disk) && nat_lt 0 p.size) ≡ false → takes_one disk 1 s (taken_of p) ≡ false
off_disk p disk s off = false_from_ne_true _ (λ met.
    let both = and_parts (disk == p.disk) _ met in
    let lt : max s p.start < min (s + 1) (p.start + p.size) = ltb-true _ _ both.1 in
    false≢true (sym off ∙ and_from (p.disk == disk) _ (eq-eqb p.disk disk (sym (eqb-true disk p.disk both.0))) (lt-ltb 0 p.size (omega arith))))

on_disk : (records : List Record) (disk s : ℕ) → is_taken (filter_map (taken_on disk) records) disk 1 s ≡ is_taken (taken_in records) disk 1 s
unfolding is_taken
on_disk records disk s = any_by_each (taken_on disk) (takes_one disk 1 s) records ∙ (λ i. list_any (λ r. one r i) records) ∙ sym (any_by_each taken_by (takes_one disk 1 s) records)
  where
    part : (p : Partition) (b : Bool) → ((p.disk == disk) && nat_lt 0 p.size) ≡ b → list_any (takes_one disk 1 s) (filter_map (taken_on disk) (kinds.Partition p ∷ [])) ≡ list_any (takes_one disk 1 s) (taken_in (kinds.Partition p ∷ []))
    part p true is = ap (λ (b : Bool). list_any (takes_one disk 1 s) (cons_option (cond b (Some (taken_of p)) None) [])) is
    part p false is = ap (λ (b : Bool). list_any (takes_one disk 1 s) (cons_option (cond b (Some (taken_of p)) None) [])) is ∙ sym (ap (λ (b : Bool). b || false) (off_disk p disk s is))

    one : (r : Record) → list_any (takes_one disk 1 s) (filter_map (taken_on disk) (r ∷ [])) ≡ list_any (takes_one disk 1 s) (taken_in (r ∷ []))
    one (kinds.Partition p) = part p _ refl
    one r = refl

-- in any order
pub sorted_same : (records : List Record) (taken : List Taken) (disk s : ℕ) → IsPermutation (filter_map (taken_on disk) records) taken → is_taken taken disk 1 s ≡ is_taken (taken_in records) disk 1 s
sorted_same records taken disk s moved = sym (taken_moved (filter_map (taken_on disk) records) taken disk 1 s moved) ∙ on_disk records disk s

-- what is taken is one or more sectors of this disk
pub record IsOn (disk : ℕ) (t : Taken) : Type 0 where
  pub on : t.disk ≡ disk
  pub some : 0 < t.size
  pub ends : t.start + t.size < 2 ^ 64

pub all_on : (records : List Record) (disk : ℕ) → All EndsInRange records → All (IsOn disk) (filter_map (taken_on disk) records)
all_on [] disk ends = All-nil (IsOn disk)
all_on (kinds.Partition p ∷ records) disk ends = go ((p.disk == disk) && nat_lt 0 p.size) refl (All-head EndsInRange (kinds.Partition p) records ends) (all_on records disk (All-tail EndsInRange (kinds.Partition p) records ends))
  where
    go : (b : Bool) → ((p.disk == disk) && nat_lt 0 p.size) ≡ b → p.start + p.size < 2 ^ 64 → All (IsOn disk) (filter_map (taken_on disk) records) → All (IsOn disk) (filter_map (taken_on disk) (kinds.Partition p ∷ records))
    go true is range rest =
        subst (λ (b : Bool). All (IsOn disk) (cons_option (cond b (Some (taken_of p)) None) (filter_map (taken_on disk) records))) (sym is)
        (All-cons (IsOn disk) (taken_of p) (filter_map (taken_on disk) records)
        (record { on = eqb-true p.disk disk (and_parts (p.disk == disk) _ is).0; some = ltb-true 0 p.size (and_parts (p.disk == disk) _ is).1; ends = range }) rest)
    go false is range rest = subst (λ (b : Bool). All (IsOn disk) (cons_option (cond b (Some (taken_of p)) None) (filter_map (taken_on disk) records))) (sym is) rest
all_on (r ∷ records) disk ends = all_on records disk (All-tail EndsInRange r records ends)

-- ---- the walk

-- nothing that ends at or before a sector takes it
none_behind : (taken : List Taken) (disk s : ℕ) → All (λ t. t.start + t.size ≤ s) taken → is_taken taken disk 1 s ≡ false
unfolding is_taken
none_behind taken disk s all = list_any_none (takes_one disk 1 s) taken (λ k d lt. sector_out (get_or taken k d) disk s (inr (all k d lt)))

-- the sectors from where it has come to are a gap more,
filled : (gaps : List Gap) (taken : List Taken) (disk at until : ℕ) → AreGaps gaps taken disk at → All (λ g. g.start + g.len < at) gaps → All (λ t. t.start + t.size ≤ at) taken → at < until
    → AreGaps (gaps ++ record { start = at; len = until - at } ∷ []) taken disk until
filled gaps taken disk at until are apart passed lt =
    let g : Gap = record { start = at; len = until - at } in
    record {
      some = All-push (λ (x : Gap). 0 < x.len) gaps g are.some (omega arith);
      rising = all_pairs_push (λ a b. a.start + a.len < b.start) gaps g are.rising (λ k d low. apart k d low);
      within = All-push (λ (x : Gap). x.start + x.len ≤ until) gaps g (All-weaker (λ (x : Gap). x.start + x.len ≤ at) (λ (x : Gap). x.start + x.len ≤ until) (λ x e. omega arith) gaps are.within) (omega arith);
      free = λ h s there in_h. elim (Contains-push_cases gaps g h there) [
        | inl old ↦ are.free h s old in_h
        | inr same ↦ (let from = in_h.from in
            let starts : at ≡ h.start = ap (λ (x : Gap). x.start) same in
            let behind : at ≤ s = omega arith in
            none_behind taken disk s (All-weaker (λ (t : Taken). t.start + t.size ≤ at) (λ (t : Taken). t.start + t.size ≤ s) (λ t e. omega arith) taken passed))
      ];
      all = λ s below free. elim (cases_lt s at) [
        | inl low ↦ kept (are.all s low free)
        | inr high ↦ (g, Contains-push gaps g, record { from = high; below = omega arith })
      ];
    }
  where
    kept : {s : ℕ} → (h : Gap) × Contains gaps h × IsIn h s → (h : Gap) × Contains (gaps ++ record { start = at; len = until - at } ∷ []) h × IsIn h s
    kept (h, there, in_h) = (h, Contains-append_left gaps (record { start = at; len = until - at } ∷ []) h there, in_h)

pub taken_last : (taken : List Taken) (t : Taken) (disk s : ℕ) → is_taken (taken ++ t ∷ []) disk 1 s ≡ (is_taken taken disk 1 s || (takes_one disk 1 s t || false))
unfolding is_taken
taken_last taken t disk s = list_any-append (takes_one disk 1 s) taken (t ∷ [])

-- the gaps in front of a sector are those in front of a later one, where what is taken next covers the sectors between
met : (gaps : List Gap) (taken : List Taken) (disk low high : ℕ) (t : Taken) → AreGaps gaps taken disk low → t.disk ≡ disk → All (λ g. g.start + g.len ≤ t.start) gaps → low ≤ high
    → ((s : ℕ) → low ≤ s → s < high → (t.start ≤ s) × (s < t.start + t.size)) → AreGaps gaps (taken ++ t ∷ []) disk high
met gaps taken disk low high t are on behind le covers = record {
  some = are.some;
  rising = are.rising;
  within = All-weaker (λ (x : Gap). x.start + x.len ≤ low) (λ (x : Gap). x.start + x.len ≤ high) (λ x e. omega arith) gaps are.within;
  free = λ h s there in_h.
      let below = in_h.below in
      let ends : h.start + h.len ≤ t.start = All-contains (λ (x : Gap). x.start + x.len ≤ t.start) gaps h behind there in
      taken_last taken t disk s ∙ or_from _ _ (are.free h s there in_h) (or_from _ _ (sector_out t disk s (inl (omega arith))) refl);
  all = λ s below free.
      let parts = or_parts _ _ (sym (taken_last taken t disk s) ∙ free) in
      elim (cases_lt s low) [
        | inl under ↦ are.all s under parts.0
        | inr over ↦ absurd (false≢true (sym (or_parts _ _ parts.1).0 ∙ sector_in t disk s on (covers s over below).0 (covers s over below).1))
      ];
}

-- a gap more, where there are sectors up to the next
all_with : (P : Gap → Type 0) (gaps : List Gap) (at until : ℕ) → All P gaps → (at < until → P (record { start = at; len = until - at })) → All P (with_gap gaps at until)
all_with P gaps at until all last = grind (arith, common_steps, cases_lt, lt-ltb, All-push, le-ltb)

gaps_to : (gaps : List Gap) (taken : List Taken) (disk at until size : ℕ) → until ≤ size → AreGaps gaps taken disk (min at size) → All (λ g. g.start + g.len < at) gaps → All (λ t. t.start + t.size ≤ at) taken
    → AreGaps (with_gap gaps at until) taken disk (max (min at size) until)
gaps_to gaps taken disk at until size le are apart passed = elim (cases_lt at until) [
  | inl below ↦ (let now : min at size ≡ at = omega arith in
      let end : until ≡ max (min at size) until = omega arith in
      subst (λ (b : Bool). AreGaps (cond b (gaps ++ record { start = at; len = until - at } ∷ []) gaps) taken disk (max (min at size) until)) (sym (lt-ltb at until below))
      (subst (λ (n : ℕ). AreGaps (gaps ++ record { start = at; len = until - at } ∷ []) taken disk n) end (filled gaps taken disk at until (subst (λ (n : ℕ). AreGaps gaps taken disk n) now are) apart passed below)))
  | inr past ↦ (let end : min at size ≡ max (min at size) until = omega arith in
      subst (λ (b : Bool). AreGaps (cond b (gaps ++ record { start = at; len = until - at } ∷ []) gaps) taken disk (max (min at size) until)) (sym (le-ltb at until past))
      (subst (λ (n : ℕ). AreGaps gaps taken disk n) end are))
]

-- the walk has met all gaps in front of a sector
pub record IsWalked (taken : List Taken) (disk size k at : ℕ) (gaps : List Gap) : Type 0 where
  pub are : AreGaps gaps (take k taken) disk (min at size)
  pub apart : All (λ g. g.start + g.len < at) gaps
  pub behind : (j : ℕ) (d : Taken) → k ≤ j → j < length taken → All (λ g. g.start + g.len ≤ (get_or taken j d).start) gaps
  pub passed : All (λ t. t.start + t.size ≤ at) (take k taken)

pub walk_begun : (taken : List Taken) (disk size : ℕ) → IsWalked taken disk size 0 0 []
walk_begun taken disk size = grind (arith, All-nil, apart)

-- one more
pub walk_more : (taken : List Taken) (disk size k at : ℕ) (gaps : List Gap) (t : Taken) → IsNonDecreasingBy (λ t. t.start) taken → All (IsOn disk) taken → k < length taken → get_or taken k t ≡ t
    → IsWalked taken disk size k at gaps → IsWalked taken disk size (k + 1) (max at (t.start + t.size)) (with_gap gaps at (min t.start size))
walk_more taken disk size k at gaps t rising on lt is walked =
    let here : IsOn disk t = subst (IsOn disk) is (on k t lt) in
    let some = here.some in
    let until : ℕ = min t.start size in
    let now : List Gap = with_gap gaps at until in
    let end : ℕ = max at (t.start + t.size) in
    let more : take (k + 1) taken ≡ take k taken ++ t ∷ [] = take_more taken k t lt ∙ ap (λ (x : Taken). take k taken ++ x ∷ []) is in
    let were : All (λ g. g.start + g.len ≤ t.start) gaps = subst (λ (x : Taken). All (λ g. g.start + g.len ≤ x.start) gaps) is (walked.behind k t (omega arith) lt) in
    let ends : All (λ g. g.start + g.len ≤ t.start) now = all_with (λ g. g.start + g.len ≤ t.start) gaps at until were (λ below. omega arith) in
    record {
      are = subst (λ (l : List Taken). AreGaps now l disk (min end size)) (sym more)
          (met now (take k taken) disk (max (min at size) until) (min end size) t (gaps_to gaps (take k taken) disk at until size (omega arith) walked.are walked.apart walked.passed) here.on ends (omega arith) (λ s from below. (omega arith, omega arith)));
      apart = all_with (λ g. g.start + g.len < end) gaps at until (All-weaker (λ (g : Gap). g.start + g.len < at) (λ (g : Gap). g.start + g.len < end) (λ g e. omega arith) gaps walked.apart) (λ below. omega arith);
      behind = λ j d le lt_j.
          let up : (get_or taken k d).start ≤ (get_or taken j d).start = rising k j d (omega arith) lt_j in
          let same : (get_or taken k d).start ≡ t.start = ap (λ (x : Taken). x.start) (get_or_default taken k d t lt ∙ is) in
          All-weaker (λ (g : Gap). g.start + g.len ≤ t.start) (λ (g : Gap). g.start + g.len ≤ (get_or taken j d).start) (λ g e. omega arith) now ends;
      passed = subst (λ (l : List Taken). All (λ x. x.start + x.size ≤ end) l) (sym more)
          (All-push (λ (x : Taken). x.start + x.size ≤ end) (take k taken) t
          (All-weaker (λ (x : Taken). x.start + x.size ≤ at) (λ (x : Taken). x.start + x.size ≤ end) (λ x e. omega arith) (take k taken) walked.passed) (omega arith));
    }

-- at the end of the walk the gaps are those of the disk
pub walk_done : (taken : List Taken) (disk size k at : ℕ) (gaps : List Gap) → length taken ≤ k → IsWalked taken disk size k at gaps → AreGaps (with_gap gaps at size) taken disk size
walk_done taken disk size k at gaps le walked =
    let end : max (min at size) size ≡ size = omega arith in
    subst (λ (l : List Taken). AreGaps (with_gap gaps at size) l disk size) (take_all k taken le)
    (subst (λ (n : ℕ). AreGaps (with_gap gaps at size) (take k taken) disk n) end (gaps_to gaps (take k taken) disk at size size (omega arith) walked.are walked.apart walked.passed))

-- ---- What is left of the gaps where sectors are taken from the first that has so many.

-- ---- what the list is then

pub first_at : (len : ℕ) (gaps : List Gap) (at : ℕ) → position (has_length len) gaps ≡ Some at → IsFirstLong len gaps at
first_at len gaps at e = record {
  within = (position-Some (has_length len) gaps at (record { start = 0; len = 0 }) e).0;
  long = λ d. (position-Some (has_length len) gaps at d e).1;
  before = λ k d lt. (position-Some (has_length len) gaps at d e).2 k lt;
}

pub starts_first : (len : ℕ) (gaps : List Gap) (at : ℕ) (d : Gap) → IsFirstLong len gaps at → first_gap len gaps ≡ Some (get_or gaps at d).start
starts_first len gaps at d f = ap (option_map (λ (g : Gap). g.start)) (found_first len gaps at d f)

-- a gap of just so many sectors leaves the list,
pub is_removed : (len : ℕ) (gaps : List Gap) (at : ℕ) (d : Gap) → IsFirstLong len gaps at → (get_or gaps at d).len ≡ len → without_first len gaps ≡ remove gaps at
is_removed len [] at d f e = let lt = f.within in absurd (omega arith)
is_removed len (x ∷ gaps) zero d f e =
    ap (λ (b : Bool). cond b (rest_of len x ++ gaps) (x ∷ without_first len gaps)) (f.long d)
    ∙ ap (λ (b : Bool). cond b [] (shorter len x ∷ []) ++ gaps) (eq-eqb x.len len e)
is_removed len (x ∷ gaps) (suc at) d f e =
    ap (λ (b : Bool). cond b (rest_of len x ++ gaps) (x ∷ without_first len gaps)) (f.before 0 d (omega arith))
    ∙ ap (λ (l : List Gap). x ∷ l) (is_removed len gaps at d (first_behind len x gaps at f) e)

-- a longer one begins so many sectors later
pub is_shortened : (len : ℕ) (gaps : List Gap) (at : ℕ) (d : Gap) → IsFirstLong len gaps at → (get_or gaps at d).len ≢ len → without_first len gaps ≡ set gaps at (shorter len (get_or gaps at d))
is_shortened len [] at d f e = let lt = f.within in absurd (omega arith)
is_shortened len (x ∷ gaps) zero d f e =
    ap (λ (b : Bool). cond b (rest_of len x ++ gaps) (x ∷ without_first len gaps)) (f.long d)
    ∙ ap (λ (b : Bool). cond b [] (shorter len x ∷ []) ++ gaps) (ne_eqb x.len len e)
is_shortened len (x ∷ gaps) (suc at) d f e =
    ap (λ (b : Bool). cond b (rest_of len x ++ gaps) (x ∷ without_first len gaps)) (f.before 0 d (omega arith))
    ∙ ap (λ (l : List Gap). x ∷ l) (is_shortened len gaps at d (first_behind len x gaps at f) e)

-- where no gap is long enough, all stay
pub none_long : (len : ℕ) (gaps : List Gap) → position (has_length len) gaps ≡ None → All (λ g. has_length len g ≡ false) gaps
none_long len gaps e = let all = past_all (ltb (position_or_len (has_length len) gaps) (length gaps)) refl e in λ k d lt. fails_before_first (has_length len) gaps k d (omega arith)
  where
    past_all : (b : Bool) → ltb (position_or_len (has_length len) gaps) (length gaps) ≡ b → cond b (Some (position_or_len (has_length len) gaps)) None ≡ None → length gaps ≤ position_or_len (has_length len) gaps
    past_all true below is = absurd cc
    past_all false past is = ltb-false _ _ past

pub none_starts : (len : ℕ) (gaps : List Gap) → All (λ g. has_length len g ≡ false) gaps → first_gap len gaps ≡ None
none_starts len gaps short = ap (option_map (λ (g : Gap). g.start)) (none gaps short)
  where
    none : (gaps : List Gap) → All (λ g. has_length len g ≡ false) gaps → find (has_length len) gaps ≡ None
    none [] all = refl
    none (x ∷ gaps) all =
        ap (λ (b : Bool). cond b (Some x) (find (has_length len) gaps)) (All-head (λ (g : Gap). has_length len g ≡ false) x gaps all)
        ∙ none gaps (All-tail (λ (g : Gap). has_length len g ≡ false) x gaps all)

pub all_stay : (len : ℕ) (gaps : List Gap) → All (λ g. has_length len g ≡ false) gaps → without_first len gaps ≡ gaps
all_stay len [] short = refl
all_stay len (x ∷ gaps) short =
    ap (λ (b : Bool). cond b (rest_of len x ++ gaps) (x ∷ without_first len gaps)) (All-head (λ (g : Gap). has_length len g ≡ false) x gaps short)
    ∙ ap (λ (l : List Gap). x ∷ l) (all_stay len gaps (All-tail (λ (g : Gap). has_length len g ≡ false) x gaps short))

-- ---- they are the gaps of what is taken then

-- all gaps but the one at a place stay, and that one may leave another
record Leaves (gaps : List Gap) (at : ℕ) (rest : Gap) (more : Type 0) (left : List Gap) : Type 0 where
  stay : (h : Gap) (k : ℕ) → k ≢ at → k < length gaps → get_or gaps k h ≡ h → Contains left h
  were : (h : Gap) → Contains left h → ((k : ℕ) × (k ≢ at) × (k < length gaps) × (get_or gaps k h ≡ h)) ⊎ ((h ≡ rest) × more)
  added : more → Contains left rest
  rising : AllPairs (λ a b. a.start + a.len < b.start) left

taken_first : (t : Taken) (taken : List Taken) (disk s : ℕ) → is_taken (t ∷ taken) disk 1 s ≡ (takes_one disk 1 s t || is_taken taken disk 1 s)
unfolding is_taken
taken_first t taken disk s = refl

-- what a gap of the list is
record IsGap (taken : List Taken) (disk size : ℕ) (h : Gap) : Type 0 where
  some : 0 < h.len
  ends : h.start + h.len ≤ size
  free : (s : ℕ) → IsIn h s → is_taken taken disk 1 s ≡ false

left_gaps : (gaps left : List Gap) (taken : List Taken) (disk size len at : ℕ) (g : Gap) → AreGaps gaps taken disk size → 0 < len → at < length gaps → get_or gaps at g ≡ g → len ≤ g.len → Leaves gaps at (shorter len g) (len < g.len) left
    → AreGaps left (record { disk = disk; start = g.start; size = len } ∷ taken) disk size
left_gaps gaps left taken disk size len at g are some lt_at is_g enough leaves =
    let t : Taken = record { disk = disk; start = g.start; size = len } in
    let in_gaps : Contains gaps g = (at, lt_at, is_g) in
    let g_ends : g.start + g.len ≤ size = All-contains (λ (x : Gap). x.start + x.len ≤ size) gaps g are.within in_gaps in
    let free_of : (h : Gap) (s : ℕ) → is_taken taken disk 1 s ≡ false → (s < g.start) ⊎ (g.start + len ≤ s) → is_taken (t ∷ taken) disk 1 s ≡ false =
    (λ h s free out. taken_first t taken disk s ∙ or_from _ _ (sector_out t disk s out) free) in
    let each : (h : Gap) → Contains left h → IsGap (t ∷ taken) disk size h = (λ h there. elim (leaves.were h there) [
      | inl old ↦ (let k : ℕ = old.0 in
          let in_old : Contains gaps h = (k, old.2, old.3) in
          let ends : h.start + h.len ≤ size = All-contains (λ (x : Gap). x.start + x.len ≤ size) gaps h are.within in_old in
          record {
            some = All-contains (λ (x : Gap). 0 < x.len) gaps h are.some in_old;
            ends = ends;
            free = λ s in_h. free_of h s (are.free h s in_old in_h) (let from = in_h.from in let below = in_h.below in
                elim (apart_at gaps g h at k are.rising lt_at is_g old.2 old.3 (other at k old.1)) [ inl before ↦ inr (omega arith) | inr behind ↦ inl (omega arith) ]);
          })
      | inr rest ↦ (let starts : h.start ≡ g.start + len = ap (λ (x : Gap). x.start) rest.0 in
          let lens : h.len ≡ g.len - len = ap (λ (x : Gap). x.len) rest.0 in
          let more : len < g.len = rest.1 in
          record {
            some = omega arith;
            ends = omega arith;
            free = λ s in_h. (let from = in_h.from in let below = in_h.below in
                free_of h s (are.free g s in_gaps (record { from = omega arith; below = omega arith })) (inr (omega arith)));
          })
    ]) in
    record {
      some = λ k d lt. (each (get_or left k d) (Contains-get_or left k d lt)).some;
      rising = leaves.rising;
      within = λ k d lt. (each (get_or left k d) (Contains-get_or left k d lt)).ends;
      free = λ h s there in_h. (each h there).free s in_h;
      all = λ s below free.
          let parts = or_parts _ _ (sym (taken_first t taken disk s) ∙ free) in
          still s (are.all s below parts.1) parts.0;
    }
  where
    other : (i j : ℕ) → (j ≡ i → ⊥) → (i < j) ⊎ (j < i)
    other i j ne = elim (cases_order i j) [ inl same ↦ absurd (ne (sym same)) | inr off ↦ off ]

    -- a free sector is in what was left of its gap
    still : (s : ℕ) → (h : Gap) × Contains gaps h × IsIn h s → takes_one disk 1 s (record { disk = disk; start = g.start; size = len }) ≡ false → (h : Gap) × Contains left h × IsIn h s
    still s (h, (k, lt_k, is_h), in_h) free = elim (cases_eq k at) [
      | inr ne ↦ (h, leaves.stay h k ne lt_k is_h, in_h)
      | inl same ↦ (let one : h ≡ g = sym is_h ∙ (get_or_default gaps k h g lt_k ∙ (ap (λ (n : ℕ). get_or gaps n g) same ∙ is_g)) in
          let starts : h.start ≡ g.start = ap (λ (x : Gap). x.start) one in
          let lens : h.len ≡ g.len = ap (λ (x : Gap). x.len) one in
          let from = in_h.from in
          let below = in_h.below in
          let behind : g.start + len ≤ s = elim (cases_lt s (g.start + len)) [
            | inl inside ↦ absurd (false≢true (sym free ∙ sector_in (record { disk = disk; start = g.start; size = len }) disk s refl (omega arith) inside))
            | inr out ↦ out
          ] in
          (shorter len g, leaves.added (omega arith), record { from = omega arith; below = omega arith }))
    ]

-- without it
leaves_none : (gaps : List Gap) (at len : ℕ) (g : Gap) → at < length gaps → AllPairs (λ a b. a.start + a.len < b.start) gaps → g.len ≡ len → Leaves gaps at (shorter len g) (len < g.len) (remove gaps at)
leaves_none gaps at len g lt_at rising just = let less = length-remove gaps at lt_at in record {
  stay = λ h k ne lt is. elim (cases_order k at) [
    | inl same ↦ absurd (ne same)
    | inr off ↦ elim off [
      | inl low ↦ (k, omega arith, get_or-remove_below gaps at h k low lt_at ∙ is)
      | inr high ↦ (k - 1, omega arith, get_or-remove_above gaps at h (k - 1) (omega arith) lt_at ∙ (ap (λ (n : ℕ). get_or gaps n h) (let e : k - 1 + 1 ≡ k = omega arith in e) ∙ is))
    ]
  ];
  were = λ h (k, lt, is). elim (cases_lt k at) [
    | inl low ↦ inl (k, (λ e. omega arith), omega arith, sym (get_or-remove_below gaps at h k low lt_at) ∙ is)
    | inr high ↦ inl (k + 1, (λ e. omega arith), omega arith, sym (get_or-remove_above gaps at h k high lt_at) ∙ is)
  ];
  added = λ more. absurd (omega arith);
  rising = all_pairs_remove (λ a b. a.start + a.len < b.start) gaps at lt_at rising;
}

-- or with a shorter one in its place
leaves_one : (gaps : List Gap) (at len : ℕ) (g : Gap) → at < length gaps → get_or gaps at g ≡ g → AllPairs (λ a b. a.start + a.len < b.start) gaps → len < g.len → Leaves gaps at (shorter len g) (len < g.len) (set gaps at (shorter len g))
leaves_one gaps at len g lt_at is_g rising longer =
    let left : List Gap = set gaps at (shorter len g) in
    let many : length left ≡ length gaps = length-set gaps at (shorter len g) in
    record {
      stay = λ h k ne lt is. (k, omega arith, get_or-set_other gaps at k (shorter len g) h ne ∙ is);
      were = λ h (k, lt, is). elim (cases_eq k at) [
        | inl same ↦ inr (sym is ∙ (ap (λ (n : ℕ). get_or left n h) same ∙ get_or-set_same gaps at (shorter len g) h lt_at), longer)
        | inr ne ↦ inl (k, ne, omega arith, sym (get_or-set_other gaps at k (shorter len g) h ne) ∙ is)
      ];
      added = λ more. (at, omega arith, get_or-set_same gaps at (shorter len g) (shorter len g) lt_at);
      rising = λ i j d lt lt_j.
          let here = moved i d in
          let there = moved j d in
          let apart = rising i j d lt (omega arith) in omega arith;
    }
  where
    -- none begins earlier, and each ends where it did
    moved : (i : ℕ) (d : Gap) → let now = get_or (set gaps at (shorter len g)) i d in let was = get_or gaps i d in (was.start ≤ now.start) × (now.start + now.len ≡ was.start + was.len)
    moved i d = elim (cases_eq i at) [
      | inl same ↦ (let now : get_or (set gaps at (shorter len g)) i d ≡ shorter len g = ap (λ (n : ℕ). get_or (set gaps at (shorter len g)) n d) same ∙ get_or-set_same gaps at (shorter len g) d lt_at in
          let was : get_or gaps i d ≡ g = ap (λ (n : ℕ). get_or gaps n d) same ∙ (get_or_default gaps at d g lt_at ∙ is_g) in
          let starts = ap (λ (x : Gap). x.start) now in
          let lens = ap (λ (x : Gap). x.len) now in
          let started = ap (λ (x : Gap). x.start) was in
          let long = ap (λ (x : Gap). x.len) was in (omega arith, omega arith))
      | inr ne ↦ (let now : get_or (set gaps at (shorter len g)) i d ≡ get_or gaps i d = get_or-set_other gaps at i (shorter len g) d ne in
          let starts = ap (λ (x : Gap). x.start) now in
          let lens = ap (λ (x : Gap). x.len) now in (omega arith, omega arith))
    ]

-- ---- the laws of a taking

pub takes_whole : (gaps : List Gap) (taken : List Taken) (disk size len at : ℕ) (g : Gap) → AreGaps gaps taken disk size → 0 < len → IsFirstLong len gaps at → get_or gaps at g ≡ g → g.len ≡ len
    → TakesFirst taken disk size len (Some g.start) (remove gaps at)
takes_whole gaps taken disk size len at g are some f is_g just = record {
  is = sym (gap_is_first gaps taken disk size len at g are some f is_g);
  gaps = left_gaps gaps (remove gaps at) taken disk size len at g are some f.within is_g (omega arith) (leaves_none gaps at len g f.within are.rising just);
}

pub takes_part : (gaps : List Gap) (taken : List Taken) (disk size len at : ℕ) (g : Gap) → AreGaps gaps taken disk size → 0 < len → IsFirstLong len gaps at → get_or gaps at g ≡ g → len < g.len
    → TakesFirst taken disk size len (Some g.start) (set gaps at (shorter len g))
takes_part gaps taken disk size len at g are some f is_g longer = record {
  is = sym (gap_is_first gaps taken disk size len at g are some f is_g);
  gaps = left_gaps gaps (set gaps at (shorter len g)) taken disk size len at g are some f.within is_g (omega arith) (leaves_one gaps at len g f.within is_g are.rising longer);
}

pub takes_none : (gaps : List Gap) (taken : List Taken) (disk size len : ℕ) → AreGaps gaps taken disk size → 0 < len → All (λ g. has_length len g ≡ false) gaps → TakesFirst taken disk size len None gaps
takes_none gaps taken disk size len are some short = record { is = sym (no_gap gaps taken disk size len are some short); gaps = are }

-- ---- The gaps of the disks that were met, beside what is placed so far.

-- ---- a first fit of all sectors, and that below a limit

pub limited : (taken : List Taken) (disk size limit len p : ℕ) → limit ≤ size → first_free_start taken disk size len ≡ Some p → p + len ≤ limit → first_free_start taken disk limit len ≡ Some p
limited taken disk size limit len p le found ends =
    let f = first_is taken disk size len p found in
    is_first taken disk limit len p (record { ends = ends; free = f.free; least = f.least })

pub limited_none : (taken : List Taken) (disk size limit len p : ℕ) → limit ≤ size → first_free_start taken disk size len ≡ Some p → limit < p + len → first_free_start taken disk limit len ≡ None
limited_none taken disk size limit len p le found past =
    let f = first_is taken disk size len p found in
    is_none taken disk limit len (λ q ends. f.least q (omega arith))

pub none_limited : (taken : List Taken) (disk size limit len : ℕ) → limit ≤ size → first_free_start taken disk size len ≡ None → first_free_start taken disk limit len ≡ None
none_limited taken disk size limit len le none = is_none taken disk limit len (λ q ends. none_is taken disk size len none q (omega arith))

-- ---- the maps

-- a disk that was met has its gaps there, and nothing is placed on another
abbrev IsMapOf : List Taken → List Taken → ℕ → Option (List Gap) → Type 0
IsMapOf taken spots disk None = (s : ℕ) → is_taken spots disk 1 s ≡ false
IsMapOf taken spots disk (Some map) = AreGaps map (spots ++ taken) disk (2 ^ 64 - 1)

pub record AreMaps (taken spots : List Taken) (maps : BTreeMap ℕ (List Gap)) : Type 0 where
  pub each : (disk : ℕ) → IsMapOf taken spots disk (get nat_cmp maps disk)

-- maps that were handed over, before anything is placed,
pub maps_begun : (taken : List Taken) (maps : FreeMaps) → AreMapsOf maps taken → AreMaps taken [] maps.maps
unfolding is_taken
maps_begun taken maps are = record { each = λ disk. go disk (get nat_cmp maps.maps disk) refl }
  where
    go : (disk : ℕ) (o : Option (List Gap)) → get nat_cmp maps.maps disk ≡ o → IsMapOf taken [] disk o
    go disk None e = λ s. refl
    go disk (Some gaps) e = are.each disk gaps e

-- the maps that are handed on are of all that is taken
pub maps_ended : (taken spots : List Taken) (maps : FreeMaps) → AreMaps taken spots maps.maps → AreMapsOf maps (spots ++ taken)
maps_ended taken spots maps are = record { each = λ disk gaps e. subst (IsMapOf taken spots disk) e (are.each disk) }

-- lists that take the same sectors have the same maps
pub maps_same : (maps : FreeMaps) (a b : List Taken) → ((disk s : ℕ) → is_taken a disk 1 s ≡ is_taken b disk 1 s) → AreMapsOf maps a → AreMapsOf maps b
maps_same maps a b same are = record { each = λ disk gaps e. gaps_same gaps a b disk (2 ^ 64 - 1) (same disk) (are.each disk gaps e) }

-- the map of a disk, as it was kept or made of what was taken before
pub map_there : (taken spots : List Taken) (maps : BTreeMap ℕ (List Gap)) (disk : ℕ) (kept : Option (List Gap)) (map : List Gap) → AreMaps taken spots maps → kept ≡ get nat_cmp maps disk
    → MatchOption kept (AreGaps map taken disk (2 ^ 64 - 1)) (λ old. map ≡ old) → AreGaps map (spots ++ taken) disk (2 ^ 64 - 1)
map_there taken spots maps disk kept map are is opened = go kept opened (subst (IsMapOf taken spots disk) (sym is) (are.each disk))
  where
    go : (o : Option (List Gap)) → MatchOption o (AreGaps map taken disk (2 ^ 64 - 1)) (λ old. map ≡ old) → IsMapOf taken spots disk o → AreGaps map (spots ++ taken) disk (2 ^ 64 - 1)
    go None made none =
        gaps_same map taken (spots ++ taken) disk (2 ^ 64 - 1) (λ s. sym (taken_both spots taken disk 1 s ∙ ap (λ (b : Bool). b || is_taken taken disk 1 s) (none s))) made
    go (Some old) same there = subst (λ (m : List Gap). AreGaps m (spots ++ taken) disk (2 ^ 64 - 1)) (sym same) there

-- ---- one piece more

elsewhere : (t : Taken) (spots taken : List Taken) (disk s : ℕ) → t.disk ≢ disk → is_taken ((spots ++ t ∷ []) ++ taken) disk 1 s ≡ is_taken (spots ++ taken) disk 1 s
unfolding is_taken
elsewhere t spots taken disk s other = sym (put_last t spots taken disk 1 s) ∙ ap (λ (b : Bool). b || is_taken (spots ++ taken) disk 1 s) (other_disk t disk 1 s other)

none_more : (t : Taken) (spots : List Taken) (disk s : ℕ) → t.disk ≢ disk → is_taken spots disk 1 s ≡ false → is_taken (spots ++ t ∷ []) disk 1 s ≡ false
none_more t spots disk s other none = taken_last spots t disk s ∙ or_from _ _ none (or_from _ _ (other_disk t disk 1 s other) refl)

pub maps_more : (taken spots items : List Taken) (maps taken_out now : BTreeMap ℕ (List Gap)) (t : Taken) (map : List Gap) → AreMaps taken spots maps → Updates nat_cmp maps taken_out t.disk None → Updates nat_cmp taken_out now t.disk (Some map)
    → AreGaps map (t ∷ (spots ++ taken)) t.disk (2 ^ 64 - 1) → items ≡ spots ++ t ∷ [] → AreMaps taken items now
maps_more taken spots items maps taken_out now t map are out back left pushed = subst (λ (l : List Taken). AreMaps taken l now) (sym pushed) (record { each = λ disk. at disk })
  where
    kept : (disk : ℕ) (o : Option (List Gap)) → t.disk ≢ disk → IsMapOf taken spots disk o → IsMapOf taken (spots ++ t ∷ []) disk o
    kept disk None other none = λ s. none_more t spots disk s other (none s)
    kept disk (Some m) other gaps = gaps_same m (spots ++ taken) ((spots ++ t ∷ []) ++ taken) disk (2 ^ 64 - 1) (λ s. sym (elsewhere t spots taken disk s other)) gaps

    at : (disk : ℕ) → IsMapOf taken (spots ++ t ∷ []) disk (get nat_cmp now disk)
    at disk = elim (cases_eq t.disk disk) [
      | inl same ↦ subst (λ (d : ℕ). IsMapOf taken (spots ++ t ∷ []) d (get nat_cmp now d)) same (subst (IsMapOf taken (spots ++ t ∷ []) t.disk) (sym back.1)
          (gaps_same map (t ∷ (spots ++ taken)) ((spots ++ t ∷ []) ++ taken) t.disk (2 ^ 64 - 1) (λ s. put_last t spots taken t.disk 1 s) left))
      | inr other ↦ (let apart : is_at (nat_cmp t.disk) disk ≡ false = unsigned_tied t.disk disk ∙ ne_eqb t.disk disk other in
          let stays : get nat_cmp now disk ≡ get nat_cmp maps disk = back.2 disk apart ∙ out.2 disk apart in
          subst (IsMapOf taken (spots ++ t ∷ []) disk) (sym stays) (kept disk (get nat_cmp maps disk) other (are.each disk)))
    ]
