-- Free sectors: the first fit is exactly the least free start, and what is placed one after the
-- other lies apart.
use Rattle.std.proofs.Common.{◌≡◌, inl, inr, ℕ, zero, suc, ◌+◌, ◌-◌, ◌<◌, ◌≤◌, ◌==◌, max, min, not, List, [], ◌∷◌, length, get_or, refl, sym, ap, ◌∙◌, arith, Bool, true, false, cond, ltb, Option, Some, None, ◌||◌, ◌++◌, drop, append_assoc, Result, Ok, Err, drop-cons, subst, map, sum}
use Rattle.std.proofs.lemmas.Grind.{common_steps}
use Rattle.std.specs.List.{Contains, list_any, cons_option, filter_map, All}
use Rattle.std.proofs.lemmas.Bool.{cases_order, not-true, not-false, ltb-true, ltb-false, lt-ltb, le-ltb, cond-false, false_from_ne_true, false≢true, and_parts, and_from, ne_eqb, eq-eqb, cases_eq}
use Rattle.std.proofs.lemmas.List.Folds.{list_any_at, list_any-append}
use Rattle.std.specs.List.Sorted.{IsPermutation}
use Rattle.std.proofs.lemmas.List.Sorted.{list_any-IsPermutation, IsPermutation-middle, IsPermutation-append_comm}
use Rattle.ldm_bytes.proofs.NumberLaws.{some_is}
use Rattle.std.proofs.lemmas.List.Elements.{filter_map-append, All-cons, All-tail, All-nil, Contains-get_or, All-contains}
use Rattle.std.proofs.lemmas.List.{take_more, drop_all, append-nil}
use Rattle.std.specs.Prelude.{take, sum_by, filter}
use Rattle.ldm_records.specs.declared.types.Record.{Record}
use Rattle.ldm_group.proofs.KinLaws.{named_there}
use Rattle.ldm_made.specs.declared.taken.Taken.{Taken}
use Rattle.ldm_space.specs.Free.{taken_by, taken_in, takes_one, is_taken, first_from, first_free_start, past, IsFirstFree, HasNoFree, clash, taken_of}
use Rattle.std.specs.Option.{option_map}
use Rattle.ldm_space.specs.declared.placed.Wanted.{Wanted}
use Rattle.ldm_space.specs.Wanted.{placing, first_fit, in_front, place_rest, placed}
use Rattle.ldm_space.specs.Placed.{AreFirstFits, AreDisjoint, AllEndWithin, AllLimited}
use Rattle.std.proofs.lemmas.List.Sums.{sum-map}
use Rattle.ldm_records.specs.declared.types.Record.TheVariants as kinds
use Rattle.ldm_records.specs.declared.types.Partition.{Partition}

-- ---- The first fit is exactly the least free start.

-- the first number from a place on that passes
record IsFirst (n p : ℕ) (test : ℕ → Bool) (q : ℕ) : Type 0 where
  above : p ≤ q
  below : q < p + n
  passes : test q ≡ true
  before : (k : ℕ) → p ≤ k → k < q → test k ≡ false

found_first : (n p q : ℕ) (test : ℕ → Bool) → first_from n p test ≡ Some q → IsFirst n p test q
found_first zero p q test e = absurd cc
found_first (suc n) p q test e = go (test p) refl e (found_first n (p + 1) q test)
  where
    go : (b : Bool) → test p ≡ b → cond b (Some p) (first_from n (p + 1) test) ≡ Some q → (first_from n (p + 1) test ≡ Some q → IsFirst n (p + 1) test q) → IsFirst (suc n) p test q
    go true here is rest =
        let same : p ≡ q = some_is p q is in
        record { above = omega arith; below = omega arith; passes = ap test (sym same) ∙ here; before = λ k a b. absurd (omega arith) }
    go false here is rest =
        let r = rest is in
        record {
          above = (let a = r.above in omega arith);
          below = (let a = r.below in omega arith);
          passes = r.passes;
          before = λ k a b. elim (cases_order k p) [ inl at ↦ ap test at ∙ here | inr off ↦ r.before k (elim off [ inl low ↦ absurd (omega arith) | inr high ↦ omega arith ]) b ];
        }

first_none : (n p k : ℕ) (test : ℕ → Bool) → first_from n p test ≡ None → p ≤ k → k < p + n → test k ≡ false
first_none zero p k test e above below = absurd (omega arith)
first_none (suc n) p k test e above below = go (test p) refl e (first_none n (p + 1) k test)
  where
    go : (b : Bool) → test p ≡ b → cond b (Some p) (first_from n (p + 1) test) ≡ None → (first_from n (p + 1) test ≡ None → p + 1 ≤ k → k < p + 1 + n → test k ≡ false) → test k ≡ false
    go true here is rest = absurd cc
    go false here is rest = elim (cases_order k p) [ inl at ↦ ap test at ∙ here | inr off ↦ rest is (elim off [ inl low ↦ absurd (omega arith) | inr high ↦ omega arith ]) (omega arith) ]

-- ---- of free sectors

pub first_is : (taken : List Taken) (disk size len p : ℕ) → first_free_start taken disk size len ≡ Some p → IsFirstFree taken disk size len p
unfolding first_free_start
first_is taken disk size len p e = go (ltb size len) refl e
  where
    go : (b : Bool) → ltb size len ≡ b → cond b None (first_from (suc (size - len)) 0 (λ q. not (is_taken taken disk len q))) ≡ Some p → IsFirstFree taken disk size len p
    go true much is = absurd cc
    go false much is =
        let fits : len ≤ size = ltb-false size len much in
        let f = found_first (suc (size - len)) 0 p (λ q. not (is_taken taken disk len q)) is in
        record {
          ends = (let b = f.below in omega arith);
          free = not-true _ f.passes;
          least = λ q lt. not-false _ (f.before q (omega arith) lt);
        }

pub none_is : (taken : List Taken) (disk size len : ℕ) → first_free_start taken disk size len ≡ None → HasNoFree taken disk size len
unfolding first_free_start
none_is taken disk size len e q ends =
    not-false _ (first_none (suc (size - len)) 0 q (λ p. not (is_taken taken disk len p)) (sym (cond-false (ltb size len) None _ (le-ltb size len (omega arith))) ∙ e) (omega arith) (omega arith))

-- the first free start is what is found
pub is_first : (taken : List Taken) (disk size len p : ℕ) → IsFirstFree taken disk size len p → first_free_start taken disk size len ≡ Some p
is_first taken disk size len p h = go (first_free_start taken disk size len) refl
  where
    go : (o : Option ℕ) → first_free_start taken disk size len ≡ o → o ≡ Some p
    go None e = absurd (false≢true (sym h.free ∙ none_is taken disk size len e p h.ends))
    go (Some r) e =
        let f = first_is taken disk size len r e in
        elim (cases_order r p) [
          | inl same ↦ ap (λ (x : ℕ). Some x) same
          | inr off ↦ elim off [ inl low ↦ absurd (false≢true (sym f.free ∙ h.least r low)) | inr high ↦ absurd (false≢true (sym h.free ∙ f.least p high)) ]
        ]

pub is_none : (taken : List Taken) (disk size len : ℕ) → HasNoFree taken disk size len → first_free_start taken disk size len ≡ None
is_none taken disk size len h = go (first_free_start taken disk size len) refl
  where
    go : (o : Option ℕ) → first_free_start taken disk size len ≡ o → o ≡ None
    go None e = refl
    go (Some r) e = let f = first_is taken disk size len r e in absurd (false≢true (sym f.free ∙ h r f.ends))

-- ---- of what is taken

-- free sectors are none of what is taken
pub not_met : (taken : List Taken) (disk len p : ℕ) (t : Taken) → is_taken taken disk len p ≡ false → Contains taken t → takes_one disk len p t ≡ false
unfolding is_taken
not_met taken disk len p t free at = grind (arith, false_from_ne_true, false≢true, list_any_at)

-- ---- a walk past what is taken

-- a step past what is taken never goes back
pub past_on : (disk len at : ℕ) (o : Option Taken) → at ≤ past disk len at o
past_on disk len at o = grind (arith, common_steps, ltb-true, and_parts)

-- a step past what is taken skips no free start
pub past_taken : (taken : List Taken) (disk len at : ℕ) (t : Taken) (q : ℕ) → Contains taken t → at ≤ q → q < past disk len at (Some t) → is_taken taken disk len q ≡ true
unfolding is_taken
past_taken taken disk len at t q there above below = go (takes_one disk len at t) refl below
  where
    go : (b : Bool) → takes_one disk len at t ≡ b → q < cond b (t.start + t.size) at → list_any (takes_one disk len q) taken ≡ true
    go false met lt = absurd (omega arith)
    go true met lt =
        let both = and_parts (disk == t.disk) _ met in
        let has : max at t.start < min (at + len) (t.start + t.size) = ltb-true _ _ both.1 in
        let more : max q t.start < min (q + len) (t.start + t.size) = omega arith in
        list_any_at (takes_one disk len q) taken there.0 t there.1 (ap (takes_one disk len q) there.2 ∙ and_from (disk == t.disk) _ both.0 (lt-ltb _ _ more))

-- a step stays only where the sectors from there on meet nothing that is taken
pub past_stays : (disk len at : ℕ) (t : Taken) → past disk len at (Some t) ≡ at → takes_one disk len at t ≡ false
past_stays disk len at t e = go (takes_one disk len at t) refl e
  where
    go : (b : Bool) → takes_one disk len at t ≡ b → cond b (t.start + t.size) at ≡ at → takes_one disk len at t ≡ false
    go false met is = met
    go true met is = let lt : max at t.start < min (at + len) (t.start + t.size) = ltb-true _ _ (and_parts (disk == t.disk) _ met).1 in absurd (omega arith)

-- a step past a record of the group, which may take no sectors, skips no free start
pub record_taken : (records : List Record) (disk len at k : ℕ) (r : Record) (q : ℕ) → k < length records → get_or records k r ≡ r → at ≤ q → q < past disk len at (taken_by r) → is_taken (taken_in records) disk len q ≡ true
record_taken records disk len at k r q lt is above below = go (taken_by r) refl below
  where
    go : (o : Option Taken) → taken_by r ≡ o → q < past disk len at o → is_taken (taken_in records) disk len q ≡ true
    go None e b = absurd (omega arith)
    go (Some t) e b = past_taken (taken_in records) disk len at t q (named_there taken_by records r k t lt (ap taken_by is ∙ e)) above b

-- one record more
pub free_more : (records : List Record) (disk len at i : ℕ) (r : Record) → i < length records → get_or records i r ≡ r → past disk len at (taken_by r) ≡ at
    → is_taken (taken_in (take i records)) disk len at ≡ false → is_taken (taken_in (take (i + 1) records)) disk len at ≡ false
unfolding is_taken
free_more records disk len at i r lt is stays free =
    ap (λ (l : List Record). list_any (takes_one disk len at) (taken_in l)) (take_more records i r lt ∙ ap (λ (x : Record). take i records ++ x ∷ []) is)
    ∙ ap (list_any (takes_one disk len at)) (filter_map-append taken_by (take i records) (r ∷ []))
    ∙ list_any-append (takes_one disk len at) (taken_in (take i records)) (taken_in (r ∷ []))
    ∙ ap (λ (b : Bool). b || list_any (takes_one disk len at) (taken_in (r ∷ []))) free
    ∙ go (taken_by r) refl stays
  where
    go : (o : Option Taken) → taken_by r ≡ o → past disk len at o ≡ at → list_any (takes_one disk len at) (cons_option o []) ≡ false
    go None e s = refl
    go (Some t) e s = ap (λ (b : Bool). b || false) (past_stays disk len at t s)

-- what is taken in two lists
pub taken_both : (a b : List Taken) (disk len p : ℕ) → is_taken (a ++ b) disk len p ≡ (is_taken a disk len p || is_taken b disk len p)
unfolding is_taken
taken_both a b disk len p = list_any-append (takes_one disk len p) a b

-- lists that take the same sectors have the same first fit
pub first_same : (a b : List Taken) (disk size len : ℕ) → ((p : ℕ) → is_taken a disk len p ≡ is_taken b disk len p) → first_free_start a disk size len ≡ first_free_start b disk size len
unfolding first_free_start
first_same a b disk size len same = λ i. cond (ltb size len) None (first_from (suc (size - len)) 0 (λ p. not (same p i)))

-- ---- A walk over what is asked for, one after the other, places it.

-- ---- some in front of the rest

abbrev pub ahead : {T : Type 0} → List T → Result (List T) ℕ → Result (List T) ℕ
ahead done (Ok more) = Ok (done ++ more)
ahead done (Err place) = Err place

pub ahead_none : {T : Type 0} (rest : Result (List T) ℕ) → rest ≡ ahead [] rest
ahead_none rest = grind (arith, common_steps)

pub ahead_front : {T : Type 0} (done : List T) (x : T) (rest : Result (List T) ℕ) → ahead done (in_front x rest) ≡ ahead (done ++ x ∷ []) rest
ahead_front {T} done x (Ok more) = ap (λ (l : List T). Ok l) (sym (append_assoc done (x ∷ []) more))
ahead_front done x (Err place) = refl

-- ---- what is taken, in another order

pub taken_moved : (a b : List Taken) (disk len p : ℕ) → IsPermutation a b → is_taken a disk len p ≡ is_taken b disk len p
unfolding is_taken
taken_moved a b disk len p moved = list_any-IsPermutation (takes_one disk len p) a b moved

-- a test of what records take, by each record
pub any_by_each : (h : Record → Option Taken) (test : Taken → Bool) (records : List Record) → list_any test (filter_map h records) ≡ list_any (λ r. list_any test (filter_map h (r ∷ []))) records
any_by_each h test [] = refl
any_by_each h test (r ∷ records) =
    ap (list_any test) (filter_map-append h (r ∷ []) records) ∙ list_any-append test (filter_map h (r ∷ [])) (filter_map h records) ∙ ap (λ (b : Bool). list_any test (filter_map h (r ∷ [])) || b) (any_by_each h test records)

-- by the records in another order
pub taken_permuted : (xs ys : List Record) → IsPermutation xs ys → (disk len p : ℕ) → is_taken (taken_in xs) disk len p ≡ is_taken (taken_in ys) disk len p
unfolding is_taken
taken_permuted xs ys moved disk len p = grind (arith, any_by_each, list_any-IsPermutation)

-- by records that are made of what was placed, behind those that were there
pub taken_behind : (records more made : List Record) (spots : List Taken) → taken_in made ≡ spots → (disk len p : ℕ) → is_taken (spots ++ taken_in (records ++ more)) disk len p ≡ is_taken (taken_in (records ++ (more ++ made))) disk len p
taken_behind records more made spots is disk len p =
    grind (arith, taken_moved, IsPermutation-append_comm, filter_map-append, append_assoc)

-- what is placed last, before or behind what is placed so far
pub put_last : (t : Taken) (spots taken : List Taken) (disk len p : ℕ) → is_taken (t ∷ (spots ++ taken)) disk len p ≡ is_taken ((spots ++ t ∷ []) ++ taken) disk len p
put_last t spots taken disk len p = sym (taken_moved (spots ++ t ∷ taken) (t ∷ (spots ++ taken)) disk len p (IsPermutation-middle spots t taken)) ∙ ap (λ (l : List Taken). is_taken l disk len p) (sym (append_assoc spots (t ∷ []) taken))

-- lists that take the same sectors have the same placed beside them
pub placed_same : (a b : List Taken) (at : ℕ) (wanted : List Wanted) → ((disk len p : ℕ) → is_taken a disk len p ≡ is_taken b disk len p) → placed a at wanted ≡ placed b at wanted
unfolding is_taken
placed_same a b at [] same = refl
placed_same a b at (w ∷ more) same =
    let first : first_fit a w ≡ first_fit b w = ap (λ (o : Option ℕ). option_map (placing w) o) (first_same a b w.disk w.limit w.size (λ p. same w.disk w.size p)) in
    λ i. place_rest at (λ spot. placed_same (spot ∷ a) (spot ∷ b) (at + 1) more (λ disk len p. ap (λ (x : Bool). takes_one disk len p spot || x) (same disk len p)) i) (first i)

-- ---- the walk

-- what is wanted in front of a place is placed, and the rest is placed beside it
abbrev pub IsPlacedTo : List Taken → List Wanted → ℕ → List Taken → Type 0
IsPlacedTo taken wanted at spots = placed taken 0 wanted ≡ ahead spots (placed (spots ++ taken) at (drop at wanted))

next_wanted : (taken : List Taken) (wanted : List Wanted) (at : ℕ) (spots : List Taken) (w d : Wanted) (o : Option ℕ) → at < length wanted → w ≡ get_or wanted at d → o ≡ first_free_start (spots ++ taken) w.disk w.limit w.size
    → IsPlacedTo taken wanted at spots → placed taken 0 wanted ≡ ahead spots (place_rest at (λ spot. placed (spot ∷ (spots ++ taken)) (at + 1) (drop (at + 1) wanted)) (option_map (placing w) o))
next_wanted taken wanted at spots w d o lt is found so_far = grind (arith, drop-cons)

-- one more
pub placed_more : (taken : List Taken) (wanted : List Wanted) (at : ℕ) (spots items : List Taken) (w d : Wanted) (start : ℕ) → at < length wanted → w ≡ get_or wanted at d
    → Some start ≡ first_free_start (spots ++ taken) w.disk w.limit w.size → items ≡ spots ++ placing w start ∷ [] → IsPlacedTo taken wanted at spots → IsPlacedTo taken wanted (at + 1) items
placed_more taken wanted at spots items w d start lt is found pushed so_far =
    grind (arith, common_steps, next_wanted, ahead_front, placed_same, put_last)

-- one that finds no fit
pub placed_none : (taken : List Taken) (wanted : List Wanted) (at : ℕ) (spots : List Taken) (w d : Wanted) → at < length wanted → w ≡ get_or wanted at d
    → None ≡ first_free_start (spots ++ taken) w.disk w.limit w.size → IsPlacedTo taken wanted at spots → placed taken 0 wanted ≡ Err at
placed_none taken wanted at spots w d lt is found so_far = next_wanted taken wanted at spots w d None lt is found so_far

-- all of them
pub placed_all : (taken : List Taken) (wanted : List Wanted) (at : ℕ) (spots : List Taken) → length wanted ≤ at → IsPlacedTo taken wanted at spots → placed taken 0 wanted ≡ Ok spots
placed_all taken wanted at spots past so_far = grind (arith, drop_all, append-nil)

-- ---- What is placed is free of what was taken, ends within the disk, and lies apart from what is placed beside it.

-- ---- what is placed is first fits

pub placed_fit : (wanted : List Wanted) (taken : List Taken) (at : ℕ) (spots : List Taken) → placed taken at wanted ≡ Ok spots → AreFirstFits taken wanted spots
placed_fit [] taken at spots e = subst (λ (s : List Taken). AreFirstFits taken [] s) (let same : [] ≡ spots = cc in same) tt
placed_fit (w ∷ more) taken at spots e = go (first_free_start taken w.disk w.limit w.size) refl e (λ spot others is. placed_fit more (spot ∷ taken) (at + 1) others is)
  where
    onto : (start : ℕ) (rest : Result (List Taken) ℕ) → first_free_start taken w.disk w.limit w.size ≡ Some start → in_front (placing w start) rest ≡ Ok spots
        → ((others : List Taken) → rest ≡ Ok others → AreFirstFits (placing w start ∷ taken) more others) → AreFirstFits taken (w ∷ more) spots
    onto start (Err place) found e later = absurd cc
    onto start (Ok others) found e later =
        let same : placing w start ∷ others ≡ spots = cc in
        subst (λ (s : List Taken). AreFirstFits taken (w ∷ more) s) same (record { disk = refl; size = refl; first = first_is taken w.disk w.limit w.size start found }, later others refl)

    go : (o : Option ℕ) → first_free_start taken w.disk w.limit w.size ≡ o → place_rest at (λ spot. placed (spot ∷ taken) (at + 1) more) (option_map (placing w) o) ≡ Ok spots
        → ((spot : Taken) (others : List Taken) → placed (spot ∷ taken) (at + 1) more ≡ Ok others → AreFirstFits (spot ∷ taken) more others) → AreFirstFits taken (w ∷ more) spots
    go None found e later = absurd cc
    go (Some start) found e later = onto start (placed (placing w start ∷ taken) (at + 1) more) found e (later (placing w start))

-- as many as are asked for
pub as_many : (wanted : List Wanted) (taken spots : List Taken) → AreFirstFits taken wanted spots → length spots ≡ length wanted
as_many [] taken [] h = refl
as_many [] taken (s ∷ ss) h = absurd h
as_many (w ∷ more) taken [] h = absurd h
as_many (w ∷ more) taken (s ∷ spots) h = ap suc (as_many more (s ∷ taken) spots h.1)

-- each lies apart from all before it
pub fits_apart : (wanted : List Wanted) (taken spots : List Taken) → AreFirstFits taken wanted spots → AreDisjoint taken spots
fits_apart [] taken [] h = tt
fits_apart [] taken (s ∷ ss) h = absurd h
fits_apart (w ∷ more) taken [] h = absurd h
fits_apart (w ∷ more) taken (s ∷ spots) h = ((λ i. is_taken taken (sym h.0.disk i) (sym h.0.size i) s.start) ∙ h.0.first.free, fits_apart more (s ∷ taken) spots h.1)

-- each ends within its disk
pub fits_within : (sectors : ℕ → ℕ) (wanted : List Wanted) (taken spots : List Taken) → AllLimited sectors wanted → AreFirstFits taken wanted spots → AllEndWithin sectors spots
fits_within sectors [] taken [] limits h = All-nil (λ (t : Taken). t.start + t.size ≤ sectors t.disk)
fits_within sectors [] taken (s ∷ ss) limits h = absurd h
fits_within sectors (w ∷ more) taken [] limits h = absurd h
fits_within sectors (w ∷ more) taken (s ∷ spots) limits h =
    let ends : s.start + w.size ≤ w.limit = h.0.first.ends in
    let limit : w.limit ≡ sectors s.disk = limits 0 w (omega arith) ∙ ap sectors h.0.disk in
    let size = h.0.size in
    All-cons (λ (t : Taken). t.start + t.size ≤ sectors t.disk) s spots (omega arith) (fits_within sectors more (s ∷ taken) spots (All-tail (λ (v : Wanted). v.limit ≡ sectors v.disk) w more limits) h.1)

-- ---- what lies apart

-- what is placed lies apart from what was taken before
pub apart_old : (taken new : List Taken) (a b : Taken) → AreDisjoint taken new → Contains new a → Contains taken b → clash a b ≡ false
apart_old taken [] a b h (k, lt, is) there = absurd (omega arith)
apart_old taken (t ∷ more) a b h (zero, lt, is) there = ap (λ (x : Taken). clash x b) (sym is) ∙ not_met taken t.disk t.size t.start b h.0 there
apart_old taken (t ∷ more) a b h (suc k, lt, is) there = apart_old (t ∷ taken) more a b h.1 (k, omega arith, is) (suc there.0, (let n = there.1 in omega arith), there.2)

-- any two that are placed lie apart
pub apart_new : (taken new : List Taken) (i j : ℕ) (d : Taken) → AreDisjoint taken new → i < j → j < length new → clash (get_or new j d) (get_or new i d) ≡ false
apart_new taken [] i j d h lt within = absurd (omega arith)
apart_new taken (t ∷ more) i zero d h lt within = absurd (omega arith)
apart_new taken (t ∷ more) zero (suc j) d h lt within = apart_old (t ∷ taken) more (get_or more j d) t h.1 (Contains-get_or more j d (omega arith)) (0, omega arith, refl)
apart_new taken (t ∷ more) (suc i) (suc j) d h lt within = apart_new (t ∷ taken) more i j d h.1 (omega arith) (omega arith)

eqb_back : (a b : ℕ) → (a == b) ≡ (b == a)
eqb_back a b = grind (arith, cases_eq, eq-eqb, ne_eqb)

pub clash_back : (a b : Taken) → clash a b ≡ clash b a
clash_back a b = grind (arith, eqb_back)

-- ---- what was asked for, and what is taken

-- partitions at their first fits take what was asked for
pub fits_sizes : (wanted : List Wanted) (taken spots : List Taken) → AreFirstFits taken wanted spots → map (λ t. t.size) spots ≡ map (λ w. w.size) wanted
fits_sizes [] taken [] h = refl
fits_sizes [] taken (s ∷ spots) h = absurd h
fits_sizes (w ∷ more) taken [] h = absurd h
fits_sizes (w ∷ more) taken (s ∷ spots) h = λ i. sym h.0.size i ∷ fits_sizes more (s ∷ taken) spots h.1 i

pub taken_sum : (wanted : List Wanted) (taken spots : List Taken) → AreFirstFits taken wanted spots → sum_by (λ (t : Taken). t.size) spots ≡ sum_by (λ (w : Wanted). w.size) wanted
taken_sum wanted taken spots h = sym (sum-map (λ (t : Taken). t.size) spots) ∙ ap sum (fits_sizes wanted taken spots h) ∙ sum-map (λ (w : Wanted). w.size) wanted

pub taken_from : (wanted : List Wanted) (taken spots : List Taken) (t : Taken) → AreFirstFits taken wanted spots → Contains spots t
    → (w : Wanted) × Contains wanted w × (w.disk ≡ t.disk) × (w.size ≡ t.size)
taken_from wanted taken [] t h (k, lt, is) = absurd (omega arith)
taken_from [] taken (s ∷ spots) t h at = absurd h
taken_from (w ∷ more) taken (s ∷ spots) t h (zero, lt, is) = (w, (0, omega arith, refl), h.0.disk ∙ ap (λ (x : Taken). x.disk) is, h.0.size ∙ ap (λ (x : Taken). x.size) is)
taken_from (w ∷ more) taken (s ∷ spots) t h (suc k, lt, is) = (let rest = taken_from more (s ∷ taken) spots t h.1 (k, omega arith, is) in (rest.0, (suc rest.1.0, (let in' = rest.1.1 in omega arith), rest.1.2), rest.2, rest.3))

-- what holds of what is asked for, wherever it is placed
pub taken_all : (P : Taken → Type 0) (wanted : List Wanted) (taken spots : List Taken) → AreFirstFits taken wanted spots → All (λ w. (start : ℕ) → P (placing w start)) wanted → All P spots
taken_all P wanted taken spots fits h k d lt =
    let t : Taken = get_or spots k d in
    let from = taken_from wanted taken spots t fits (Contains-get_or spots k d lt) in
    let same : placing from.0 t.start ≡ t = λ i. record { disk = from.2 i; start = t.start; size = from.3 i } in
    subst P same (All-contains (λ (w : Wanted). (start : ℕ) → P (placing w start)) wanted from.0 h from.1 t.start)

-- ---- records that leave

-- without some records of which none is a partition
pub kept_taken : (t : Record → Bool) → ((p : Partition) → t (kinds.Partition p) ≡ false) → (records : List Record)
    → taken_in (filter (λ r. not (t r)) records) ≡ taken_in records
kept_taken t none [] = refl
kept_taken t none (r ∷ rs) = go r (kept_taken t none rs)
  where
    rest : List Record
    rest = filter (λ r. not (t r)) rs

    either : (b : Bool) (s : Record) → taken_in (s ∷ rest) ≡ taken_in rest → taken_in (cond b (s ∷ rest) rest) ≡ taken_in rest
    either true s same = same
    either false s same = refl

    go : (s : Record) → taken_in rest ≡ taken_in rs → taken_in (cond (not (t s)) (s ∷ rest) rest) ≡ taken_in (s ∷ rs)
    go (kinds.Group g) same = either (not (t (kinds.Group g))) (kinds.Group g) refl ∙ same
    go (kinds.Disk d) same = either (not (t (kinds.Disk d))) (kinds.Disk d) refl ∙ same
    go (kinds.Volume v) same = either (not (t (kinds.Volume v))) (kinds.Volume v) refl ∙ same
    go (kinds.Component c) same = either (not (t (kinds.Component c))) (kinds.Component c) refl ∙ same
    go (kinds.Partition p) same =
        ap (λ (b : Bool). taken_in (cond (not b) (kinds.Partition p ∷ rest) rest)) (none p) ∙ ap (λ (l : List Taken). taken_of p ∷ l) same
