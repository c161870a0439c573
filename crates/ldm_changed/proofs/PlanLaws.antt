-- Which records stay, go or are added, and what of the blocks changes.
use Rattle.std.proofs.Common.{◌≡◌, ◌↔◌, Bool, true, false, List, [], ◌++◌, ℕ, IsTrue, refl, sym, ap, subst, ◌+◌, ◌-◌, ◌*◌, ◌<◌, length, take, drop, slice_range, ◌∙◌, arith, ◌≤◌, not, ◌∷◌, get_or, map, All, Contains, append_assoc, ◌≢◌, slice_index, AllPairs, inl, inr, Option}
use Rattle.std.specs.Prelude.{bytes_eq, filter, if◌then◌else◌}
use Rattle.std.proofs.lemmas.Bool.{false_from_ne_true, not_from_false, cases_lt, not-true}
use Rattle.std.proofs.lemmas.Slice.Eq.{bytes_eq-Decides}
use Rattle.ldm_records.specs.declared.types.Record.{Record}
use Rattle.ldm_records.specs.Plain.{IsRecord, Spells, own_spelling}
use Rattle.ldm_records.specs.Views.{plain_of}
use Rattle.ldm_written.proofs.SpellLaws.{own_spells}
use Rattle.ldm_payloads.proofs.WholeLaws.{is_one}
use Rattle.std.proofs.lemmas.List.{length-take, length-drop, append-nil, drop_more, map_push, get_or_default, take-append-drop, get_or-take, get_or-drop, length_push, map-append, length-append}
use Rattle.ldm_frags.specs.Blocks.{count, parts, numbers_from, block_at}
use Rattle.ldm_written.specs.Written.{Holds, IsPlaced, IsInUse, AddsUnused}
use Rattle.ldm_vmdb.specs.Parts.{parts_of}
use Rattle.ldm_group.specs.Room.{own_len, need_of}
use Rattle.ldm_changed.specs.Plan.{block_differs, has_record, record_stays, record_goes, Avoids, KeepsOrFrees, lacks, slots_from, LeavesOrAdds, is_spelled_as, touched_blocks, changed_numbers}
use Rattle.std.proofs.lemmas.List.Elements.{All-cons, All-nil, All-head, All-tail, All-push, filter_more, filter-append, All-map, All-append, All-contains, All-filter, Contains-get_or}
use Rattle.std.proofs.lemmas.List.Sorted.{IsPermutation-map, IsPermutation-middle, IsPermutation-sym, IsPermutation-trans, IsPermutation-append_comm, IsPermutation-filter_both, sum_by-IsPermutation}
use Rattle.ldm_body.specs.Body.{Stored, placed_of, stored_at, Store}
use Rattle.ldm_frags.proofs.BlockLaws.{number_within as field_within}
use Rattle.ldm_written.proofs.HoldEdits.{hold_permuted, hold_less, hold_more, few, few_sum, numbers_apart, number_within, slots_in}
use Rattle.std.specs.List.Sorted.{IsPermutation}
use Rattle.std.proofs.Math.Seq.{take-add}
use Rattle.std.proofs.lemmas.List.Sums.{sum_by_push, sum_by-append, sum_by-cons}
use Rattle.byteorder.specs.Endian.{big_number}
use Rattle.ldm_body.proofs.BodyLaws.{stored_push, stored_records, record_of}
use Rattle.std.proofs.lemmas.List.Kept.{AllPairs-filter}
use Rattle.ldm_group.specs.Order.{kind_of, id_of, place_of, Rising}
use Rattle.ldm_group.specs.Looks.{by_id}
use Rattle.ldm_group.proofs.KinLaws.{filter_has, filter_keeps}
use Rattle.ldm_group.proofs.LookLaws.{found_again}
use Rattle.ldm_group.proofs.OneOrder.{one_order}
use Rattle.ldm_written.specs.Free.{free_numbers}
use Rattle.ldm_written.proofs.HoldLaws.{find_number, numbers_length, numbers_at}
use Rattle.ldm_group.proofs.ListLaws.{all_from_map}

-- ---- Records of one own spelling are one.

pub own_one : (a b : Record) → IsRecord (plain_of a) → IsRecord (plain_of b) → own_spelling (plain_of a) ≡ own_spelling (plain_of b) → a ≡ b
own_one a b sound_a sound_b e =
    is_one (own_spelling (plain_of a) ++ []) a b (own_spells (plain_of a) [] sound_a)
    (subst (λ (l : List ℕ). Spells (plain_of b) (l ++ [])) (sym e) (own_spells (plain_of b) [] sound_b))

pub same_spelled : (a b : Record) (same : Bool) → IsRecord (plain_of a) → IsRecord (plain_of b) → (IsTrue same ↔ (a ≡ b)) → same ≡ bytes_eq (own_spelling (plain_of a)) (own_spelling (plain_of b))
same_spelled a b true sound_a sound_b is =
    let e : a ≡ b = is.0 refl in
    sym ((bytes_eq-Decides (own_spelling (plain_of a)) (own_spelling (plain_of b))).1 (ap (λ (r : Record). own_spelling (plain_of r)) e))
same_spelled a b false sound_a sound_b is =
    sym (false_from_ne_true (bytes_eq (own_spelling (plain_of a)) (own_spelling (plain_of b))) (λ yes.
    let no : false ≡ true = is.1 (own_one a b sound_a sound_b ((bytes_eq-Decides (own_spelling (plain_of a)) (own_spelling (plain_of b))).0 yes)) in
    absurd cc))

-- ---- Blocks as parts of slices, and a block where there is none.

pub block_piece : (xs : List ℕ) (k : ℕ) → slice_range xs (128 * k) (128 * k + 128) ≡ block_at xs (k + 4)
block_piece xs k =
    let size : 128 * k + 128 - 128 * k ≡ 128 = omega arith in
    let at : 128 * k ≡ 128 * (k + 4 - 4) = omega arith in
    ap (λ (n : ℕ). take n (drop (128 * k) xs)) size ∙ ap (λ (n : ℕ). take 128 (drop n xs)) at

-- where the old blocks end the new ones differ
pub short_differs : (old new : List ℕ) (k : ℕ) → length old < 128 * k + 128 → k < count new → block_differs old new (k + 4) ≡ true
short_differs old new k short within =
    not_from_false (bytes_eq (block_at old (k + 4)) (block_at new (k + 4))) (false_from_ne_true (bytes_eq (block_at old (k + 4)) (block_at new (k + 4))) (λ yes.
    let same : block_at old (k + 4) ≡ block_at new (k + 4) = (bytes_eq-Decides (block_at old (k + 4)) (block_at new (k + 4))).0 yes in
    let size = ap (λ (l : List ℕ). length l) same in
    absurd (omega (arith, size, short, within, length-take 128 (drop (128 * (k + 4 - 4)) old), length-take 128 (drop (128 * (k + 4 - 4)) new), length-drop (128 * (k + 4 - 4)) old, length-drop (128 * (k + 4 - 4)) new))))

pub own_len_is : (r : Record) → own_len r ≡ length (own_spelling (plain_of r))
unfolding own_len
own_len_is r = refl

-- ---- Records that go from the blocks of a database.

pub all_split : {X : Type 0} (P : X → Type 0) (xs ys : List X) → All P (xs ++ ys) → All P xs × All P ys
all_split P [] ys all = (All-nil P, all)
all_split P (x ∷ xs) ys all =
    let rest = all_split P xs ys (All-tail P x (xs ++ ys) all) in
    (All-cons P x xs (All-head P x (xs ++ ys) all) rest.0, rest.1)

-- what passes of one more
pub filter_step : {X : Type 0} (p : X → Bool) (xs : List X) (i : ℕ) (x : X) → i < length xs
    → get_or xs i x ≡ x → (b : Bool) → p x ≡ b
    → filter p (take (i + 1) xs) ≡ filter p (take i xs) ++ (if b then x ∷ [] else [])
filter_step {X = X} p xs i x lt at b e =
    filter_more p xs i x lt ∙ ap (λ (y : X). filter p (take i xs)
    ++ (if p y then y ∷ [] else [])) at ∙ ap (λ (c : Bool). filter p (take i xs)
    ++ (if c then x ∷ [] else [])) e

-- the records below i were looked at
pub record IsFreedUpTo (S : List Stored) (new : List Record) (i : ℕ) (before out : List ℕ) (kept : List (List ℕ)) : Type 0 where
  pub kept_is : kept ≡ map (λ (s : Stored). s.slots) (filter (record_stays new) (take i S))
  pub holds : Holds out (map placed_of (filter (record_stays new) (take i S) ++ drop i S))
  pub others : (b : ℕ) → 4 ≤ b → All (Avoids b) (filter (record_goes new) (take i S)) → block_at out b ≡ block_at before b
  pub there : All (λ (s : Stored). Contains new s.record_is) (filter (record_stays new) (take i S))

module _ (S : List Stored) (new : List Record) (i : ℕ) (x : Stored) (lt : i < length S) (at : get_or S i x ≡ x) where
  drop_step : drop i S ≡ x ∷ drop (i + 1) S
  drop_step = drop_more S i x lt ∙ ap (λ (y : Stored). y ∷ drop (i + 1) S) at

  -- the next record stands first
  first_held : (out : List ℕ) (F : List Stored) → Holds out (map placed_of (F ++ drop i S))
      → Holds out (placed_of x ∷ map placed_of (F ++ drop (i + 1) S))
  first_held out F holds =
      let D : List Stored = drop (i + 1) S in
      hold_permuted out (map placed_of (F ++ x ∷ D)) (map placed_of (x ∷ (F ++ D)))
      (IsPermutation-map placed_of (F ++ x ∷ D) (x ∷ (F ++ D)) (IsPermutation-middle F x D))
      (rw drop_step at holds)

  pub freed_step : (before out out' : List ℕ) (kept kept' : List (List ℕ)) (b : Bool) → length out' ≡ length out → length out ≤ 1048576
      → has_record new x.record_is ≡ b → (b ≡ true → Contains new x.record_is) → KeepsOrFrees b x.slots kept kept' out out'
      → IsFreedUpTo S new i before out kept → IsFreedUpTo S new (i + 1) before out' kept'
  freed_step before out out' kept kept' true size small e contains (more, same) w =
      let F : List Stored = filter (record_stays new) (take i S) in
      let F' : filter (record_stays new) (take (i + 1) S) ≡ F ++ x ∷ [] = filter_step
      (record_stays new) S i x lt at true e in
      let G' : filter (record_goes new) (take (i + 1) S) ≡ filter (record_goes new)
      (take i S) = filter_step (record_goes new) S i x lt at false (ap not e)
      ∙ append-nil (filter (record_goes new) (take i S)) in
      let joined : F ++ drop i S ≡ filter (record_stays new) (take (i + 1) S) ++ drop (i + 1) S =
      ap (λ (l : List Stored). F ++ l) drop_step ∙ sym (append_assoc F (x ∷ []) (drop (i + 1) S)) ∙ ap (λ (l : List Stored). l ++ drop (i + 1) S) (sym F') in
      record {
        kept_is =
            more ∙ ap (λ (l : List (List ℕ)). l ++ x.slots ∷ []) w.kept_is ∙ sym (map_push (λ (s : Stored). s.slots) F x)
            ∙ ap (map (λ (s : Stored). s.slots)) (sym F');
        holds =
            subst (λ (o : List ℕ). Holds o (map placed_of (filter (record_stays new) (take (i + 1) S) ++ drop (i + 1) S))) (sym same)
            (subst (λ (l : List Stored). Holds out (map placed_of l)) joined w.holds);
        others = λ c low avoid. ap (λ (l : List ℕ). block_at l c) same ∙ w.others c low (subst (λ (l : List Stored). All (Avoids c) l) G' avoid);
        there = subst (λ (l : List Stored). All (λ (s : Stored). Contains new s.record_is) l) (sym F') (All-push (λ (s : Stored). Contains new s.record_is) F x w.there (contains refl));
      }
  freed_step before out out' kept kept' false size small e contains (more, freed) w =
      let F : List Stored = filter (record_stays new) (take i S) in
      let G : List Stored = filter (record_goes new) (take i S) in
      let D : List Stored = drop (i + 1) S in
      let F' : filter (record_stays new) (take (i + 1) S) ≡ F = filter_step (record_stays new) S i x
      lt at false e ∙ append-nil F in
      let G' : filter (record_goes new) (take (i + 1) S) ≡ G ++ x ∷ [] = filter_step
      (record_goes new) S i x lt at true (ap not e) in
      record {
        kept_is = more ∙ w.kept_is ∙ ap (map (λ (s : Stored). s.slots)) (sym F');
        holds =
            subst (λ (l : List Stored). Holds out' (map placed_of (l ++ D))) (sym F')
            (hold_less out out' size small (placed_of x) (map placed_of (F ++ D))
            (first_held out F w.holds) freed.unused freed.others);
        others = λ c low avoid.
            let both = all_split (Avoids c) G (x ∷ [])
            (subst (λ (l : List Stored). All (Avoids c) l) G' avoid) in
            freed.others c low (All-head (Avoids c) x [] both.1) ∙ w.others c low both.0;
        there = subst (λ (l : List Stored). All (λ (s : Stored). Contains new s.record_is) l) (sym F') w.there;
      }

  -- the slots of the next record are in use
  pub slots_used : (before out : List ℕ) (kept : List (List ℕ)) → IsFreedUpTo S new i before out kept → All (IsInUse out) x.slots
  slots_used before out kept w =
      let is : IsPlaced out (placed_of x) = (first_held out (filter (record_stays new) (take i S))
      w.holds).placed 0 (placed_of x) (omega arith) in
      λ k d lk. subst (IsInUse out) (get_or_default x.slots k 0 d lk) (is.within k lk)

-- ---- Records that are added to the blocks of a database.

-- blocks of one number that are equal say the same of their parts
pub parts_same : (a b : List ℕ) (n : ℕ) → block_at a n ≡ block_at b n → parts a (n - 4) ≡ parts b (n - 4)
parts_same a b n same =
    field_within 2 14 (128 * (n - 4)) a (omega arith)
    ∙ ap (λ (l : List ℕ). big_number 2 (drop 14 l)) same
    ∙ sym (field_within 2 14 (128 * (n - 4)) b (omega arith))

-- the records below j were looked at
pub record IsAddedUpTo (N old : List Record) (free : List ℕ) (j : ℕ) (before out : List ℕ) (at : ℕ) (made : List (List ℕ)) : Type 0 where
  pub at_is : at ≡ need_of (filter (lacks old) (take j N))
  pub one_each : length made ≡ length (filter (lacks old) (take j N))
  pub holds : (rest : List Stored) → Holds before (map placed_of rest) → Holds out (map placed_of (stored_at (filter (lacks old) (take j N)) made ++ rest))
  pub unused : (k : ℕ) → at ≤ k → k < length free → parts out (slice_index free k - 4) ≡ 0
  pub others : (b : ℕ) → 4 ≤ b → All (λ n. n ≢ b) (take at free) → block_at out b ≡ block_at before b
  pub sound : All (λ r. IsRecord (plain_of r)) (filter (lacks old) (take j N))
  pub there : All (Contains old) (filter (has_record old) (take j N))

pub added_none : (N old : List Record) (free before : List ℕ) → ((k : ℕ) → k < length free → parts before (slice_index free k - 4) ≡ 0) → IsAddedUpTo N old free 0 before before 0 []
added_none N old free before unused = record {
  at_is = refl;
  one_each = refl;
  holds = λ rest h. h;
  unused = λ k le lt. unused k lt;
  others = λ b low avoid. refl;
  sound = All-nil (λ (r : Record). IsRecord (plain_of r));
  there = All-nil (Contains old);
}

-- what the first records need is no more than what all need
pub need_front : (p : Record → Bool) (N : List Record) (j : ℕ) → need_of (filter p (take j N)) ≤ need_of (filter p N)
need_front p N j =
    let whole : filter p N ≡ filter p (take j N) ++ filter p (drop j N) = ap (filter p) (sym (take-append-drop j N)) ∙ filter-append p (take j N) (drop j N) in
    let sum : need_of (filter p N) ≡ need_of (filter p (take j N)) + need_of (filter p (drop j N)) =
    ap need_of whole ∙ sum_by-append (λ (r : Record). parts_of (own_len r)) (filter p (take j N)) (filter p (drop j N)) in
    omega (arith, sum)

module _ (N old : List Record) (free : List ℕ) (j : ℕ) (r : Record) (lt : j < length N) (is : get_or N j r ≡ r) where
  -- there is room for one more
  pub room_for : (b : Bool) → has_record old r ≡ b → need_of (filter (lacks old) (take j N)) + (if b then 0 else parts_of (own_len r)) ≤ need_of (filter (lacks old) N)
  room_for true e = let le = need_front (lacks old) N j in omega (arith, le)
  room_for false e =
      let more : filter (lacks old) (take (j + 1) N) ≡ filter (lacks old) (take j N)
      ++ r ∷ [] = filter_step (lacks old) N j r lt is true (ap not e) in
      let sum : need_of (filter (lacks old) (take (j + 1) N)) ≡ need_of (filter (lacks old) (take j N)) + parts_of (own_len r) =
      ap need_of more ∙ sum_by_push (λ (q : Record). parts_of (own_len q)) (filter (lacks old) (take j N)) r in
      let le = need_front (lacks old) N (j + 1) in
      omega (arith, sum, le)

  pub added_step : (before out out' : List ℕ) (at next : ℕ) (made made' : List (List ℕ)) (b : Bool) → length out' ≡ length out → length out ≤ 1048576
      → AllPairs (λ a c. a ≢ c) free → All (IsInUse before) free → at + (if b then 0 else parts_of (own_len r)) ≤ length free
      → has_record old r ≡ b → (b ≡ true → Contains old r) → LeavesOrAdds b r free at next made made' out out'
      → IsAddedUpTo N old free j before out at made → IsAddedUpTo N old free (j + 1) before out' next made'
  added_step before out out' at next made made' true size small apart within room e contains (same_at, same_made, same_out) w =
      let F : List Record = filter (lacks old) (take j N) in
      let F' : filter (lacks old) (take (j + 1) N) ≡ F = filter_step (lacks old) N j r lt is false
      (ap not e) ∙ append-nil F in
      let H' : filter (has_record old) (take (j + 1) N) ≡ filter (has_record old) (take j N)
      ++ r ∷ [] = filter_step (has_record old) N j r lt is true e in
      record {
        at_is = same_at ∙ w.at_is ∙ ap need_of (sym F');
        one_each = ap (λ (l : List (List ℕ)). length l) same_made ∙ w.one_each ∙ ap (λ (l : List Record). length l) (sym F');
        holds = λ rest h.
            subst (λ (o : List ℕ). Holds o (map placed_of (stored_at (filter (lacks old) (take (j + 1) N)) made' ++ rest))) (sym same_out)
            (subst (λ (m : List (List ℕ)). Holds out (map placed_of (stored_at (filter (lacks old) (take (j + 1) N)) m ++ rest))) (sym same_made)
            (subst (λ (l : List Record). Holds out (map placed_of (stored_at l made ++ rest))) (sym F') (w.holds rest h)));
        unused = λ k le lk. subst (λ (o : List ℕ). parts o (slice_index free k - 4) ≡ 0) (sym same_out) (w.unused k (omega (arith, same_at, le)) lk);
        others = λ c low avoid. ap (λ (l : List ℕ). block_at l c) same_out ∙ w.others c low (subst (λ (n : ℕ). All (λ m. m ≢ c) (take n free)) same_at avoid);
        sound = subst (λ (l : List Record). All (λ q. IsRecord (plain_of q)) l) (sym F') w.sound;
        there = subst (λ (l : List Record). All (Contains old) l) (sym H') (All-push (Contains old) (filter (has_record old) (take j N)) r w.there (contains refl));
      }
  added_step before out out' at next made made' false size small apart within room e contains a w =
      let n : ℕ = parts_of (own_len r) in
      let s : List ℕ = slots_from r free at in
      let F : List Record = filter (lacks old) (take j N) in
      let T : List Stored = stored_at F made in
      let x : Stored = record { record_is = r; slots = s } in
      let F' : filter (lacks old) (take (j + 1) N) ≡ F ++ r ∷ [] = filter_step (lacks old) N j r lt
      is true (ap not e) in
      let H' : filter (has_record old) (take (j + 1) N) ≡ filter (has_record old)
      (take j N) = filter_step (has_record old) N j r lt is false e
      ∙ append-nil (filter (has_record old) (take j N)) in
      let pushed : stored_at (filter (lacks old) (take (j + 1) N)) made' ≡ T ++ x ∷ [] =
      ap (λ (l : List Record). stored_at l made') F' ∙ ap (λ (m : List (List ℕ)). stored_at (F ++ r ∷ []) m) a.made_is ∙ stored_push F made r s w.one_each in
      let at_slot : (k : ℕ) (d : ℕ) → k < length s → get_or s k d ≡ slice_index free (at + k) = λ k d lk.
      let near : k < n = omega (arith, lk, length-take n (drop at free)) in
      get_or_default s k d 0 lk ∙ get_or-take n (drop at free) k 0 near ∙ get_or-drop at free k 0 in
      let size_s : length s ≡ n = omega (arith, room, length-take n (drop at free), length-drop at free) in
      let free_s : All (λ b. parts out (b - 4) ≡ 0) s = λ k d lk.
      subst (λ (b : ℕ). parts out (b - 4) ≡ 0) (sym (at_slot k d lk)) (w.unused (at + k) (omega arith) (omega (arith, lk, size_s, room))) in
      let far : (k : ℕ) → next ≤ k → k < length free → All (λ m. m ≢ slice_index free k) s = λ k le lk i d li same.
      apart (at + i) k 0 (omega (arith, le, a.next_is, li, size_s)) lk (sym (at_slot i d li) ∙ same) in
      let take_next : take next free ≡ take at free ++ s = ap (λ (m : ℕ). take m free) a.next_is ∙ take-add at n free in
      record {
        at_is =
            a.next_is ∙ ap (λ (m : ℕ). m + n) w.at_is ∙ sym (sum_by_push (λ (q : Record). parts_of (own_len q)) F r) ∙ ap need_of (sym F');
        one_each =
            ap (λ (l : List (List ℕ)). length l) a.made_is ∙ length_push made s ∙ ap (λ (m : ℕ). m + 1) w.one_each ∙ sym (length_push F r)
            ∙ ap (λ (l : List Record). length l) (sym F');
        holds = λ rest h.
            let more : Holds out' (placed_of x ∷ map placed_of (T ++ rest)) =
            hold_more out out' size small (placed_of x) (map placed_of (T ++ rest)) (w.holds rest h) a.placed free_s a.others in
            let moved : IsPermutation (x ∷ (T ++ rest)) (T ++ x ∷ rest) = IsPermutation-sym (T ++ x ∷ rest) (x ∷ (T ++ rest)) (IsPermutation-middle T x rest) in
            let there : Holds out' (map placed_of (T ++ x ∷ rest)) = hold_permuted out' (map placed_of (x ∷ (T ++ rest))) (map placed_of (T ++ x ∷ rest)) (IsPermutation-map placed_of (x ∷ (T ++ rest)) (T ++ x ∷ rest) moved) more in
            subst (λ (l : List Stored). Holds out' (map placed_of (l ++ rest))) (sym pushed)
            (subst (λ (l : List Stored). Holds out' (map placed_of l)) (sym (append_assoc T (x ∷ []) rest)) there);
        unused = λ k le lk.
            let in_use = within k 0 lk in
            parts_same out' out (slice_index free k) (a.others (slice_index free k) in_use.0 (far k le lk)) ∙ w.unused k (omega (arith, le, a.next_is)) lk;
        others = λ c low avoid.
            let both = all_split (λ m. m ≢ c) (take at free) s (subst (λ (l : List ℕ). All (λ m. m ≢ c) l) take_next avoid) in
            a.others c low both.1 ∙ w.others c low both.0;
        sound = subst (λ (l : List Record). All (λ q. IsRecord (plain_of q)) l) (sym F') (All-push (λ (q : Record). IsRecord (plain_of q)) F r w.sound a.sound);
        there = subst (λ (l : List Record). All (Contains old) l) (sym H') w.there;
      }

-- slots that are taken from numbers that differ, differ
pub slots_apart : (free slots : List ℕ) (at n : ℕ) → AllPairs (λ a b. a ≢ b) free → slots ≡ take n (drop at free) → AllPairs (λ a b. a ≢ b) slots
slots_apart free slots at n apart is i j d below lt e =
    let size : length slots ≡ length (take n (drop at free)) = ap (λ (l : List ℕ). length l) is in
    let read : (k : ℕ) → k < length slots → get_or slots k d ≡ get_or free (at + k) d = λ k lk.
    ap (λ (l : List ℕ). get_or l k d) is ∙ get_or-take n (drop at free) k d (omega (arith, lk, size, length-take n (drop at free))) ∙ get_or-drop at free k d in
    apart (at + i) (at + j) d (omega (arith, below)) (omega (arith, lt, size, length-take n (drop at free), length-drop at free)) (sym (read i (omega (arith, below, lt))) ∙ e ∙ read j lt)

-- ---- whether a database has a record

-- a database has its own records
pub has_own : (records : List Record) (r : Record) → Rising records → Contains records r → has_record records r ≡ true
unfolding has_record
has_own records r up there = ap (is_spelled_as r) (found_again records r up there)
    ∙ (bytes_eq-Decides (own_spelling (plain_of r)) (own_spelling (plain_of r))).1 refl

-- the record that was looked up, and whether it is that one
pub has_by : (records : List Record) (r : Record) (found : Option Record) → by_id (kind_of r) (id_of r) records ≡ found → has_record records r ≡ is_spelled_as r found
unfolding has_record
has_by records r found e = ap (is_spelled_as r) e

-- the records that stay are those that both have, in one order
pub same_kept : (old new : List Record) → Rising old → Rising new → All (Contains new) (filter (has_record new) old) → All (Contains old) (filter (has_record old) new)
    → filter (has_record new) old ≡ filter (has_record old) new
same_kept old new up vp there back =
    one_order place_of (filter (has_record new) old) (filter (has_record old) new)
    (AllPairs-filter (λ a b. place_of a < place_of b) (has_record new) old up) (AllPairs-filter (λ a b. place_of a < place_of b) (has_record old) new vp)
    (λ k d lt.
    let in_old = filter_has (has_record new) old _ (Contains-get_or (filter (has_record new) old) k d lt) in
    filter_keeps (has_record old) new _ (there k d lt) (has_own old _ up in_old.0))
    (λ k d lt.
    let in_new = filter_has (has_record old) new _ (Contains-get_or (filter (has_record old) new) k d lt) in
    filter_keeps (has_record new) old _ (back k d lt) (has_own new _ vp in_new.0))

-- ---- the records of what is stored

pub filter_records : (p : Record → Bool) (S : List Stored) → map record_of (filter (λ (s : Stored). p s.record_is) S) ≡ filter p (map record_of S)
filter_records p [] = refl
filter_records p (s ∷ S) =
    let rest = filter_records p S in
    elim (p s.record_is) as (λ (t : Bool). map record_of (if t then s ∷ filter (λ (s : Stored). p s.record_is) S else filter (λ (s : Stored). p s.record_is) S) ≡ (if t then s.record_is ∷ filter p (map record_of S) else filter p (map record_of S)))
    [ true ↦ ap (λ (l : List Record). s.record_is ∷ l) rest | false ↦ rest ]

pub kept_records_of : (old new : List Record) (table : List (List ℕ)) → length table ≡ length old → map record_of (filter (record_stays new) (stored_at old table)) ≡ filter (has_record new) old
kept_records_of old new table one_each = filter_records (has_record new) (stored_at old table) ∙ ap (filter (has_record new)) (stored_records old table one_each)

pub kept_there_of : (old new : List Record) (table : List (List ℕ)) → length table ≡ length old → All (λ (s : Stored). Contains new s.record_is) (filter (record_stays new) (stored_at old table))
    → All (Contains new) (filter (has_record new) old)
kept_there_of old new table one_each there = rw (kept_records_of old new table one_each) at (All-map
    (Contains new) record_of (filter (record_stays new) (stored_at old table)) there)

-- the slots of records that are placed are as many as these need
pub slots_need : (blocks : List ℕ) (S : List Stored) → All (λ s. IsPlaced blocks (placed_of s)) S → length (slots_in (map placed_of S)) ≡ need_of (map record_of S)
unfolding own_len
slots_need blocks [] placed = refl
slots_need blocks (s ∷ S) placed =
    let here = (placed 0 s (omega arith)).whole in
    let rest = slots_need blocks S (All-tail (λ (t : Stored). IsPlaced blocks (placed_of t)) s S placed) in
    let sum = sum_by-cons (λ (r : Record). parts_of (own_len r)) s.record_is (map record_of S) in
    omega (arith, here, rest, sum, length-append s.slots (slots_in (map placed_of S)))

pub avoid_in : (b : ℕ) (S : List Stored) → All (λ n. n ≢ b) (slots_in (map placed_of S)) → All (Avoids b) S
avoid_in b [] avoid = All-nil (Avoids b)
avoid_in b (s ∷ S) avoid = let both = all_split (λ n. n ≢ b) s.slots (slots_in (map placed_of S)) avoid in All-cons (Avoids b) s S both.0 (avoid_in b S both.1)

-- ---- the blocks of the new database

module _ (old new : List Record) (table : List (List ℕ)) (one_each : length table ≡ length old) (up : Rising old) (vp : Rising new) where
  abbrev S : List Stored
  S = stored_at old table

  pub gone_records : map record_of (filter (record_goes new) S) ≡ filter (lacks new) old
  gone_records = filter_records (lacks new) S ∙ ap (filter (lacks new)) (stored_records old table one_each)

  -- the records that are kept need no more than those of the new database that the old one has
  pub kept_need : All (λ (s : Stored). Contains new s.record_is) (filter (record_stays new) S) → need_of (filter (has_record new) old) ≤ need_of (filter (has_record old) new)
  kept_need there =
      few_sum (λ (r : Record). parts_of (own_len r)) (filter (has_record new) old) (filter (has_record old) new)
      (λ i j d below lt e. let less : place_of _ < place_of _ = AllPairs-filter (λ a b. place_of a < place_of b) (has_record new) old up i j d below lt in let same = ap place_of e in absurd (omega (arith, less, same)))
      (λ k d lt.
      let in_old = filter_has (has_record new) old _ (Contains-get_or (filter (has_record new) old) k d lt) in
      filter_keeps (has_record old) new _ (kept_there_of old new table one_each there k d lt)
      (has_own old _ up in_old.0))

  -- there are blocks enough for those that are new
  pub room_left : (out : List ℕ) → length out ≤ 1048576 → need_of new ≤ count out → count out ≤ length (free_numbers out) + length (slots_in (map placed_of (filter (record_stays new) S)))
      → Holds out (map placed_of (filter (record_stays new) S)) → All (λ (s : Stored). Contains new s.record_is) (filter (record_stays new) S)
      → need_of (filter (lacks old) new) ≤ length (free_numbers out)
  room_left out small room enough holds there =
      let K : List Stored = filter (record_stays new) S in
      let slots : length (slots_in (map placed_of K)) ≡ need_of (filter (has_record new) old) =
      slots_need out K (all_from_map placed_of (IsPlaced out) K holds.placed)
      ∙ ap need_of (kept_records_of old new table one_each) in
      let kept = kept_need there in
      let parts_are : IsPermutation new (filter (has_record old) new ++ filter (lacks old) new) = IsPermutation-filter_both (has_record old) (lacks old) (λ r. refl) new in
      let whole : need_of (filter (has_record old) new ++ filter (lacks old) new) ≡ need_of new = sum_by-IsPermutation (λ (r : Record). parts_of (own_len r)) new _ parts_are in
      let split : need_of (filter (has_record old) new ++ filter (lacks old) new) ≡ need_of (filter (has_record old) new) + need_of (filter (lacks old) new) =
      sum_by-append (λ (r : Record). parts_of (own_len r)) (filter (has_record old) new) (filter (lacks old) new) in
      omega (arith, slots, kept, whole, split, room, enough)

  pub next_store : (out : List ℕ) (made : List (List ℕ)) → length made ≡ length (filter (lacks old) new)
      → Holds out (map placed_of (stored_at (filter (lacks old) new) made ++ filter (record_stays new) S))
      → All (λ r. IsRecord (plain_of r)) old → All (λ r. IsRecord (plain_of r)) (filter (lacks old) new)
      → All (λ (s : Stored). Contains new s.record_is) (filter (record_stays new) S) → All (Contains old) (filter (has_record old) new) → Store out new
  next_store out made many holds sound_old sound_new there back =
      let K : List Stored = filter (record_stays new) S in
      let T : List Stored = stored_at (filter (lacks old) new) made in
      let records : map record_of (T ++ K) ≡ filter (lacks old) new ++ filter (has_record new) old =
      map-append record_of T K ∙ ap (λ (l : List Record). l ++ map record_of K) (stored_records (filter (lacks old) new) made many)
      ∙ ap (λ (l : List Record). filter (lacks old) new ++ l)
      (kept_records_of old new table one_each) in
      let kept : filter (has_record new) old ≡ filter (has_record old) new = same_kept old new up vp
      (kept_there_of old new table one_each there) back in
      let both : IsPermutation new (filter (has_record old) new ++ filter (lacks old) new) = IsPermutation-filter_both (has_record old) (lacks old) (λ r. refl) new in
      let turned : IsPermutation new (filter (lacks old) new ++ filter (has_record old) new) =
      IsPermutation-trans new _ _ both (IsPermutation-append_comm (filter (has_record old) new) (filter (lacks old) new)) in
      let sound : All (λ r. IsRecord (plain_of r)) (filter (lacks old) new ++ filter (has_record new) old) =
      All-append (λ r. IsRecord (plain_of r)) (filter (lacks old) new) (filter (has_record new) old) sound_new (All-filter (has_record new) (λ r. IsRecord (plain_of r)) old sound_old) in
      record {
        stored = T ++ K;
        once =
            subst (λ (l : List Record). IsPermutation l new) (sym (records ∙ ap (λ (l : List Record). filter (lacks old) new ++ l) kept))
            (IsPermutation-sym new (filter (lacks old) new ++ filter (has_record old) new) turned);
        sound = all_from_map record_of (λ r. IsRecord (plain_of r)) (T ++ K) (subst (λ (l : List Record). All (λ r. IsRecord (plain_of r)) l) (sym records) sound);
        holds = holds;
      }

  -- the blocks that were freed or taken
  abbrev pub touched_numbers : List ℕ → List ℕ
  touched_numbers free = slots_in (map placed_of (filter (record_goes new) S)) ++ take (need_of (filter (lacks old) new)) free

  pub touched_few : (blocks free : List ℕ) → Holds blocks (map placed_of S) → length (touched_numbers free) ≤ touched_blocks old new
  touched_few blocks free holds =
      let G : List Stored = filter (record_goes new) S in
      let n : ℕ = need_of (filter (lacks old) new) in
      let gone : length (slots_in (map placed_of G)) ≡ need_of (filter (lacks new) old) =
      slots_need blocks G (All-filter (record_goes new) (λ s. IsPlaced blocks (placed_of s)) S (all_from_map placed_of (IsPlaced blocks) S holds.placed)) ∙ ap need_of gone_records in
      omega (arith, gone, length-append (slots_in (map placed_of G)) (take n free), length-take n free)

  pub touched_others : (before middle after free : List ℕ)
      → ((b : ℕ) → 4 ≤ b → All (Avoids b) (filter (record_goes new) S) → block_at middle b ≡ block_at before b)
      → ((b : ℕ) → 4 ≤ b → All (λ n. n ≢ b) (take (need_of (filter (lacks old) new)) free) → block_at after b ≡ block_at middle b)
      → (b : ℕ) → 4 ≤ b → All (λ n. n ≢ b) (touched_numbers free) → block_at after b ≡ block_at before b
  touched_others before middle after free first second b low avoid =
      let both = all_split (λ n. n ≢ b) (slots_in (map placed_of (filter (record_goes new) S))) (take (need_of (filter (lacks old) new)) free) avoid in
      second b low both.1 ∙ first b low (avoid_in b (filter (record_goes new) S) both.0)

-- ---- the blocks that differ

-- are no more than those that were touched
pub changed_few : (old new numbers : List ℕ) → ((b : ℕ) → 4 ≤ b → b < count new + 4 → All (λ n. n ≢ b) numbers → block_at new b ≡ block_at old b)
    → length (changed_numbers old new) ≤ length numbers
changed_few old new numbers others =
    let all : List ℕ = numbers_from 4 (count new) in
    few (changed_numbers old new) numbers (AllPairs-filter (λ a b. a ≢ b) (block_differs old new) all (numbers_apart 4 (count new)))
    (λ k d lt. listed (get_or (changed_numbers old new) k d) (filter_has (block_differs old new) all (get_or (changed_numbers old new) k d) (Contains-get_or (changed_numbers old new) k d lt)))
  where
    listed : (x : ℕ) → Contains (numbers_from 4 (count new)) x × (block_differs old new x ≡ true) → Contains numbers x
    listed x there =
        elim (find_number numbers x) [
          | inl found ↦ (found.0, found.1, get_or_default numbers found.0 x 0 found.1 ∙ found.2)
          | inr none ↦
              let in_range = number_within 4 (count new) x there.0 in
              let high = in_range.1 in
              let yes : bytes_eq (block_at old x) (block_at new x) ≡ true = (bytes_eq-Decides (block_at old x) (block_at new x)).1 (sym (others x in_range.0 (omega arith) none)) in
              let bad : true ≡ false = sym yes
              ∙ not-true (bytes_eq (block_at old x) (block_at new x)) there.1 in
              absurd cc
        ]

-- a number of the list
pub number_there : (a n b : ℕ) → a ≤ b → b < a + n → Contains (numbers_from a n) b
number_there a n b low high =
    let size = numbers_length a n in
    let lt : b - a < length (numbers_from a n) = omega (arith, size, low, high) in
    (b - a, lt, get_or_default (numbers_from a n) (b - a) b 0 lt ∙ numbers_at a n (b - a) (omega (arith, low, high)) ∙ omega (arith, low))

-- nor than those and the blocks that were put behind the old ones
pub changed_grown : (old grown new touched : List ℕ) (room : ℕ) → count old ≤ room → AddsUnused old room grown → length new ≡ length grown
    → ((b : ℕ) → 4 ≤ b → All (λ n. n ≢ b) touched → block_at new b ≡ block_at grown b)
    → length (changed_numbers old new) ≤ length touched + (room - count old)
changed_grown old grown new touched room more adds size others =
    let behind : List ℕ = numbers_from (count old + 4) (room - count old) in
    let whole = adds.size in
    let few_of = changed_few old new (touched ++ behind) (λ b low high avoid.
    let both = all_split (λ n. n ≢ b) touched behind avoid in
    elim (cases_lt b (count old + 4)) [
      | inl before ↦ others b low both.0 ∙ adds.same b (low, before)
      | inr after ↦ absurd (All-contains (λ n. n ≢ b) behind b both.1 (number_there (count old + 4) (room - count old) b after (omega arith)) refl)
    ]) in
    omega (arith, few_of, length-append touched behind, numbers_length (count old + 4) (room - count old))
