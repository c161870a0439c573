-- Blocks that lose a record or take one more, their records in another order, and how many are
-- unused.
use Rattle.std.proofs.Common.{◌≡◌, ◌≢◌, inl, inr, ℕ, suc, ◌+◌, ◌-◌, ◌*◌, ◌<◌, ◌≤◌, List, ◌∷◌, ◌++◌, length, take, drop, get_or, All, sym, ap, subst, ◌∙◌, arith, ◌⊎◌, zero, not, Bool, true, false, [], replicate, AllPairs, Contains, refl, set}
use Rattle.std.proofs.lemmas.Bool.{cases_lt, eq-eqb, cases_eq, not-true}
use Rattle.std.proofs.lemmas.List.{get_or_default, take-append-le, drop-append-le, length-drop, length-append, get_or-set_same, get_or-set_other, length-set}
use Rattle.std.proofs.lemmas.List.Elements.{All-cons, All-nil, Contains-append_left, Contains-append_right, Contains-get_or, filter-append, All-filter, filter_passes}
use Rattle.std.proofs.lemmas.List.Kept.{AllPairs-cons, AllPairs-filter}
use Rattle.ldm_frags.specs.Blocks.{count, parts, group, numbers_from, block_at}
use Rattle.ldm_written.specs.Written.{Placed, slot, IsPlaced, Holds, IsInUse, AddsUnused, unused_block}
use Rattle.ldm_written.proofs.HoldLaws.{find_number, part_fields, placed_kept, numbers_length, numbers_at}
use Rattle.std.specs.Prelude.{filter, sum_by, if◌then◌else◌}
use Rattle.std.specs.List.{flat_map, remove, swap}
use Rattle.std.specs.List.Sorted.{IsPermutation}
use Rattle.std.proofs.lemmas.List.Sorted.{IsPermutation-remove, Contains-permutation, length_permutation, IsPermutation-filter_both, sum_by-IsPermutation, All-permutation, IsPermutation-sym, IsPermutation-keeps}
use Rattle.std.proofs.lemmas.List.Sums.{sum_by-cons}
use Rattle.ldm_frags.proofs.BlockLaws.{HasFields, fields_of}
use Rattle.ldm_written.specs.Free.{is_free, free_numbers}
use Rattle.std.proofs.lemmas.List.Edits.{swap_is, length-swap}
use Rattle.ldm_frags.proofs.Below.{numbers_push}
use Rattle.std.proofs.lemmas.List.Recursion.{is_sum_by}

-- ---- Blocks that lose a record, or take one more.

-- two records share no block
pub no_shared : (blocks : List ℕ) (r s : Placed) (i j : ℕ) → length blocks ≤ 1048576 → IsPlaced blocks r → IsPlaced blocks s → slot r 0 ≢ slot s 0
    → i < length r.slots → j < length s.slots → slot r i ≢ slot s j
no_shared blocks r s i j small is_r is_s apart lr ls e =
    let f = part_fields blocks r i (slot r i - 4) small is_r lr (let low = (is_r.within i lr).0 in omega (arith, low)) in
    let g = part_fields blocks s j (slot s j - 4) small is_s ls (let low = (is_s.within j ls).0 in omega (arith, low)) in
    apart (sym f.group ∙ ap (λ (n : ℕ). group blocks (n - 4)) e ∙ g.group)

-- an unused block is of no record
pub not_placed : (blocks : List ℕ) (r : Placed) (i b : ℕ) → length blocks ≤ 1048576 → IsPlaced blocks r → i < length r.slots → parts blocks (b - 4) ≡ 0 → b ≢ slot r i
not_placed blocks r i b small is lt free e =
    let f = part_fields blocks r i (slot r i - 4) small is lt (let low = (is.within i lt).0 in omega (arith, low)) in
    let none : parts blocks (slot r i - 4) ≡ 0 = subst (λ (m : ℕ). parts blocks (m - 4) ≡ 0) e free in
    let n : parts blocks (slot r i - 4) ≡ length r.slots = f.parts in
    absurd (omega (arith, none, n, lt))

module _ (old new : List ℕ) (size : length new ≡ length old) (small : length old ≤ 1048576) where
  same_use : (number : ℕ) → IsInUse new number → IsInUse old number
  same_use number in_use = let high = in_use.1 in (in_use.0, omega (arith, high, size))

  -- one record goes, and its blocks become unused
  pub hold_less : (r : Placed) (rs : List Placed) → Holds old (r ∷ rs) → All (λ b. block_at new b ≡ unused_block b) r.slots
      → ((b : ℕ) → 4 ≤ b → All (λ s. s ≢ b) r.slots → block_at new b ≡ block_at old b) → Holds new rs
  hold_less r rs holds freed others = record {
    placed = λ k d lt.
        let is : IsPlaced old (get_or rs k d) = holds.placed (suc k) d (omega arith) in
        let gone : IsPlaced old r = holds.placed 0 d (omega arith) in
        placed_kept old new (get_or rs k d) size (λ i li.
        others (slot (get_or rs k d) i) (is.within i li).0 (λ j e lj same.
        no_shared old r (get_or rs k d) j i small gone is (holds.apart 0 (suc k) d (omega arith) (omega arith)) lj li (get_or_default r.slots j 0 e lj ∙ same))) is;
    apart = λ i j d below lt. holds.apart (suc i) (suc j) d (omega arith) (omega arith);
    unused = λ number in_use free.
        elim (find_number r.slots number) [
          | inl here ↦ subst (λ (n : ℕ). block_at new n ≡ unused_block n) here.2 (freed here.0 0 here.1)
          | inr none ↦ others number in_use.0 none ∙ holds.unused number (same_use number in_use) (All-cons (λ (s : Placed). All (λ (n : ℕ). n ≢ number) s.slots) r rs none free)
        ];
  }

  -- one record more, in blocks that were unused
  pub hold_more : (r : Placed) (rs : List Placed) → Holds old rs → IsPlaced new r → All (λ b. parts old (b - 4) ≡ 0) r.slots
      → ((b : ℕ) → 4 ≤ b → All (λ s. s ≢ b) r.slots → block_at new b ≡ block_at old b) → Holds new (r ∷ rs)
  hold_more r rs holds here free others = record {
    placed = All-cons (IsPlaced new) r rs here (λ k d lt.
        let is : IsPlaced old (get_or rs k d) = holds.placed k d lt in
        placed_kept old new (get_or rs k d) size (λ i li.
        others (slot (get_or rs k d) i) (is.within i li).0 (λ j e lj. not_placed old (get_or rs k d) i (get_or r.slots j e) small is li (free j e lj))) is);
    apart = AllPairs-cons (λ (a b : Placed). slot a 0 ≢ slot b 0) r rs (λ k d lt.
        let is : IsPlaced old (get_or rs k d) = holds.placed k d lt in
        let some = is.some in
        let whole = is.whole in
        let first = here.some in
        let slots = here.whole in
        not_placed old (get_or rs k d) 0 (slot r 0) small is (omega (arith, some, whole)) (free 0 0 (omega (arith, first, slots)))) holds.apart;
    unused = λ number in_use avoid.
        others number in_use.0 (avoid 0 r (omega arith)) ∙ holds.unused number (same_use number in_use) (λ k d lt. avoid (suc k) d (omega arith));
  }

-- ---- unused blocks behind them

-- a block of bytes that others were put behind
pub block_before : (old more : List ℕ) (number : ℕ) → IsInUse old number → block_at (old ++ more) number ≡ block_at old number
block_before old more number in_use =
    let low = in_use.0 in
    let high = in_use.1 in
    let rest : length (drop (128 * (number - 4)) old) ≡ length old - 128 * (number - 4) = length-drop (128 * (number - 4)) old in
    ap (take 128) (drop-append-le (128 * (number - 4)) old more (omega arith)) ∙ take-append-le 128 (drop (128 * (number - 4)) old) more (omega arith)

module _ (old new : List ℕ) (blocks : ℕ) (more : count old ≤ blocks) (adds : AddsUnused old blocks new) where
  still_in_use : (number : ℕ) → IsInUse old number → IsInUse new number
  still_in_use number in_use = (let high = in_use.1 in let size = adds.size in (in_use.0, omega arith))

  still_placed : (r : Placed) → IsPlaced old r → IsPlaced new r
  still_placed r is = record {
    some = is.some;
    few = is.few;
    whole = is.whole;
    within = λ i lt. still_in_use (slot r i) (is.within i lt);
    written = λ i lt. adds.same (slot r i) (is.within i lt) ∙ is.written i lt;
  }

  -- they hold the same records
  pub hold_grown : (rs : List Placed) → Holds old rs → Holds new rs
  hold_grown rs holds = record {
    placed = λ k d lt. still_placed (get_or rs k d) (holds.placed k d lt);
    apart = holds.apart;
    unused = λ number in_use free.
        let high = in_use.1 in
        let size = adds.size in
        elim (cases_lt number (count old + 4)) [
          | inl before ↦ adds.same number (in_use.0, before) ∙ holds.unused number (in_use.0, before) free
          | inr behind ↦ adds.unused number behind (omega arith)
        ];
  }

-- ---- How many numbers there are in a list, and how many blocks are unused.

other : {X : Type 0} (x y : X) (rest : List X) → x ≢ y → Contains (x ∷ rest) y → Contains rest y
other x y rest ne (zero, lt, is) = absurd (ne is)
other x y rest ne (suc k, lt, is) = (k, omega (arith, lt), is)

-- elements that differ and stand in a list sum up to no more than it
pub few_sum : {X : Type 0} (f : X → ℕ) (xs ys : List X) → AllPairs (λ a b. a ≢ b) xs → All (Contains ys) xs → sum_by f xs ≤ sum_by f ys
few_sum f [] ys apart there = omega arith
few_sum {X} f (x ∷ xs) ys apart there =
    let at : Contains ys x = there 0 x (omega arith) in
    let rest : List X = remove ys at.0 in
    let moved : IsPermutation ys (x ∷ rest) = IsPermutation-remove ys at.0 x at.1 (sym at.2) in
    let size : sum_by f (x ∷ rest) ≡ sum_by f ys = sum_by-IsPermutation f ys (x ∷ rest) moved in
    let more : sum_by f xs ≤ sum_by f rest =
    few_sum f xs rest (λ i j d below lt. apart (suc i) (suc j) d (omega arith) (omega arith))
    (λ k d lt. other x (get_or xs k d) rest (apart 0 (suc k) d (omega arith) (omega arith)) (Contains-permutation ys (x ∷ rest) (get_or xs k d) moved (there (suc k) d (omega arith)))) in
    omega (arith, more, size, sum_by-cons f x xs, sum_by-cons f x rest)

-- numbers that differ and stand in a list are no more than it has
pub few : (xs ys : List ℕ) → AllPairs (λ a b. a ≢ b) xs → All (Contains ys) xs → length xs ≤ length ys
few xs ys apart there =
    let size = is_sum_by {X = ℕ} length (λ x. 1) refl (λ x rest. omega arith) in
    omega (arith, size xs, size ys, few_sum (λ x. 1) xs ys apart there)

-- numbers that rise differ
pub numbers_apart : (a n : ℕ) → AllPairs (λ x y. x ≢ y) (numbers_from a n)
numbers_apart a n i j d below lt e =
    let size = numbers_length a n in
    let first : get_or (numbers_from a n) i d ≡ a + i = get_or_default (numbers_from a n) i d 0 (omega arith) ∙ numbers_at a n i (omega arith) in
    let second : get_or (numbers_from a n) j d ≡ a + j = get_or_default (numbers_from a n) j d 0 (omega arith) ∙ numbers_at a n j (omega arith) in
    absurd (omega (arith, first, second, e, below))

-- a number of the list
pub number_within : (a n x : ℕ) → Contains (numbers_from a n) x → (a ≤ x) × (x < a + n)
number_within a n x there =
    let size = numbers_length a n in
    let lt = there.1 in
    let is : x ≡ a + there.0 = sym there.2 ∙ get_or_default (numbers_from a n) there.0 x 0 lt ∙ numbers_at a n there.0 (omega arith) in
    (omega arith, omega arith)

pub numbers_within : (a n : ℕ) → All (λ x. (a ≤ x) × (x < a + n)) (numbers_from a n)
numbers_within a n k d lt = number_within a n (get_or (numbers_from a n) k d) (Contains-get_or (numbers_from a n) k d lt)

-- ---- the blocks of records

abbrev pub slots_in : List Placed → List ℕ
slots_in records = flat_map (λ r. r.slots) records

find_in : (records : List Placed) (b : ℕ) → Contains (slots_in records) b ⊎ All (λ r. All (λ s. s ≢ b) r.slots) records
find_in [] b = inr (All-nil (λ (r : Placed). All (λ s. s ≢ b) r.slots))
find_in (r ∷ rs) b =
    elim (find_number r.slots b) [
      | inl here ↦ inl (Contains-append_left r.slots (slots_in rs) b (here.0, here.1, get_or_default r.slots here.0 b 0 here.1 ∙ here.2))
      | inr none ↦ elim (find_in rs b) [
        | inl there ↦ inl (Contains-append_right r.slots (slots_in rs) b there)
        | inr free ↦ inr (All-cons (λ (s : Placed). All (λ n. n ≢ b) s.slots) r rs none free)
      ]
    ]

used_there : (blocks : List ℕ) (records : List Placed) (b : ℕ) → length blocks ≤ 1048576 → Holds blocks records → 4 ≤ b → b < count blocks + 4 → is_free blocks b ≡ false → Contains (slots_in records) b
used_there blocks records b small holds low high used =
    elim (find_in records b) [
      | inl there ↦ there
      | inr free ↦
          let f : HasFields blocks (b - 4) 0 0 0 (replicate 112 0) = fields_of blocks (b - 4) b b 0 0 0 (replicate 112 0) (omega arith) (holds.unused b (low, high) free) (omega arith) (omega arith) (omega arith) in
          let no : true ≡ false = sym (eq-eqb (parts blocks (b - 4)) 0 f.parts) ∙ used in
          absurd cc
    ]

-- no more blocks are used than the records have
pub enough_free : (blocks : List ℕ) (records : List Placed) → length blocks ≤ 1048576 → Holds blocks records → count blocks ≤ length (free_numbers blocks) + length (slots_in records)
enough_free blocks records small holds =
    let all : List ℕ = numbers_from 4 (count blocks) in
    let used : List ℕ = filter (λ b. not (is_free blocks b)) all in
    let size : length all ≡ count blocks = numbers_length 4 (count blocks) in
    let both : IsPermutation all (free_numbers blocks ++ used) = IsPermutation-filter_both (is_free blocks) (λ b. not (is_free blocks b)) (λ b. refl) all in
    let sum : length (free_numbers blocks ++ used) ≡ length all = length_permutation all (free_numbers blocks ++ used) both in
    let parts_sum = length-append (free_numbers blocks) used in
    let le : length used ≤ length (slots_in records) =
    few used (slots_in records) (AllPairs-filter (λ a b. a ≢ b) (λ b. not (is_free blocks b)) all (numbers_apart 4 (count blocks)))
    (λ k d lt.
    All-filter (λ b. not (is_free blocks b)) (λ b. is_free blocks b ≡ false → Contains (slots_in records) b) all
    (λ i e li in_use.
    let within = numbers_within 4 (count blocks) i e li in
    let high = within.1 in
    used_there blocks records (get_or all i e) small holds within.0 (omega (arith, high)) in_use) k d lt
    (not-true (is_free blocks (get_or used k d))
    (filter_passes (λ b. not (is_free blocks b)) all k d lt))) in
    omega (arith, size, sum, parts_sum, le)

-- ---- numbers that pass, one after the other

pub pass_more : (p : ℕ → Bool) (n : ℕ) (before after : List ℕ) (b : Bool) (x : ℕ) → before ≡ filter p (numbers_from 4 n) → b ≡ p (n + 4) → x ≡ n + 4
    → after ≡ before ++ (if b then x ∷ [] else []) → after ≡ filter p (numbers_from 4 (n + 1))
pass_more p n before after b x is test at more =
    let m : ℕ = n + 4 in
    let place : 4 + n ≡ m = omega arith in
    let whole : filter p (numbers_from 4 (n + 1)) ≡ filter p (numbers_from 4 n) ++ filter p (m ∷ []) =
    ap (filter p) (numbers_push 4 n ∙ ap (λ (k : ℕ). numbers_from 4 n ++ k ∷ []) place)
    ∙ filter-append p (numbers_from 4 n) (m ∷ []) in
    more ∙ ap (λ (l : List ℕ). l ++ (if b then x ∷ [] else [])) is
    ∙ ap (λ (k : ℕ). filter p (numbers_from 4 n) ++ (if b then k ∷ [] else [])) at
    ∙ ap (λ (c : Bool). filter p (numbers_from 4 n) ++ (if c then m ∷ [] else [])) test
    ∙ sym whole

-- the numbers of unused blocks are in use
pub free_within : (blocks : List ℕ) → All (IsInUse blocks) (free_numbers blocks)
free_within blocks =
    All-filter (is_free blocks) (IsInUse blocks) (numbers_from 4 (count blocks)) (λ k d lt.
    let within = numbers_within 4 (count blocks) k d lt in
    let high = within.1 in
    (within.0, omega (arith, high)))

-- ---- The order of records in blocks doesn't matter.

-- where an element of a list stood before two were swapped
abbrev Moved : ℕ → ℕ → ℕ → ℕ → Type 0
Moved i j p r = ((p ≡ j) × (r ≡ i)) ⊎ ((p ≢ j) × (p ≡ i) × (r ≡ j)) ⊎ ((p ≢ j) × (p ≢ i) × (r ≡ p))

moved_apart : (i j p q r s : ℕ) → p < q → Moved i j p r → Moved i j q s → r ≢ s
moved_apart i j p q r s lt (inl (a, b)) (inl (c, d)) e = absurd (omega (arith, a, c))
moved_apart i j p q r s lt (inl (a, b)) (inr (inl (c, d, f))) e = absurd (omega (arith, a, b, d, f, e))
moved_apart i j p q r s lt (inl (a, b)) (inr (inr (c, d, f))) e = d (sym f ∙ sym e ∙ b)
moved_apart i j p q r s lt (inr (inl (a, b, g))) (inl (c, d)) e = absurd (omega (arith, b, g, c, d, e))
moved_apart i j p q r s lt (inr (inl (a, b, g))) (inr (inl (c, d, f))) e = absurd (omega (arith, b, d))
moved_apart i j p q r s lt (inr (inl (a, b, g))) (inr (inr (c, d, f))) e = c (sym f ∙ sym e ∙ g)
moved_apart i j p q r s lt (inr (inr (a, b, g))) (inl (c, d)) e = b (sym g ∙ e ∙ d)
moved_apart i j p q r s lt (inr (inr (a, b, g))) (inr (inl (c, d, f))) e = a (sym g ∙ e ∙ f)
moved_apart i j p q r s lt (inr (inr (a, b, g))) (inr (inr (c, d, f))) e = absurd (omega (arith, g, f, e))

-- elements whose numbers differ
module _ {X : Type 0} (f : X → ℕ) where
  abbrev Apart : X → X → Type 0
  Apart r s = f r ≢ f s

  both_orders : (l : List X) → AllPairs Apart l → (p q : ℕ) (d : X) → p < length l → q < length l → p ≢ q → Apart (get_or l p d) (get_or l q d)
  both_orders l all p q d lp lq ne =
      elim (cases_lt p q) [
        | inl lt ↦ all p q d lt lq
        | inr ge ↦ (λ e. all q p d (omega (arith, ne, ge)) lp (sym e))
      ]

  record From (l : List X) (i j p : ℕ) (d : X) : Type 0 where
    r : ℕ
    within : r < length l
    is : get_or (swap l i j) p d ≡ get_or l r d
    moved : Moved i j p r

  from_swap : (l : List X) (i j p : ℕ) (d : X) → i < length l → j < length l → p < length l → From l i j p d
  from_swap l i j p d li lj lp =
      let one : List X = set l i (get_or l j d) in
      let read = λ (n : ℕ). ap (λ (m : List X). get_or m n d) (sym (swap_is l i j d li lj)) in
      elim (cases_eq p j) [
        | inl is ↦ record {
          r = i;
          within = li;
          is = read p ∙ ap (λ (n : ℕ). get_or (set one j (get_or l i d)) n d) is ∙ get_or-set_same one j (get_or l i d) d (omega (arith, length-set l i (get_or l j d), lj));
          moved = inl (is, refl);
        }
        | inr ne ↦ elim (cases_eq p i) [
          | inl at ↦ record {
            r = j;
            within = lj;
            is = read p ∙ get_or-set_other one j p (get_or l i d) d ne ∙ ap (λ (n : ℕ). get_or one n d) at ∙ get_or-set_same l i (get_or l j d) d li;
            moved = inr (inl (ne, at, refl));
          }
          | inr apart ↦ record {
            r = p;
            within = lp;
            is = read p ∙ get_or-set_other one j p (get_or l i d) d ne ∙ get_or-set_other l i p (get_or l j d) d apart;
            moved = inr (inr (ne, apart, refl));
          }
        ]
      ]

  apart_swap : (l : List X) (i j : ℕ) → i < length l → j < length l → AllPairs Apart l → AllPairs Apart (swap l i j)
  apart_swap l i j li lj all p q d lt within =
      let size : length (swap l i j) ≡ length l = length-swap l i j in
      let from = from_swap l i j p d li lj (omega (arith, size, lt, within)) in
      let to = from_swap l i j q d li lj (omega (arith, size, within)) in
      λ e. both_orders l all from.r to.r d from.within to.within (moved_apart i j p q from.r to.r lt from.moved to.moved)
      (ap f (sym from.is) ∙ e ∙ ap f to.is)

  pub apart_permuted : (xs ys : List X) → IsPermutation xs ys → AllPairs Apart xs → AllPairs Apart ys
  apart_permuted xs ys moved all = IsPermutation-keeps xs (AllPairs Apart) all apart_swap ys moved

-- blocks hold records in any order
pub hold_permuted : (blocks : List ℕ) (xs ys : List Placed) → IsPermutation xs ys → Holds blocks xs → Holds blocks ys
hold_permuted blocks xs ys moved holds = record {
  placed = All-permutation (IsPlaced blocks) xs ys moved holds.placed;
  apart = apart_permuted (λ (r : Placed). slot r 0) xs ys moved holds.apart;
  unused = λ number in_use free. holds.unused number in_use (All-permutation (λ (r : Placed). All (λ s. s ≢ number) r.slots) ys xs (IsPermutation-sym xs ys moved) free);
}
