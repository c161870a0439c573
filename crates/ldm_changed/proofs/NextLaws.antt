-- The next body: the slots of its records, and what of it is the old one.
use Rattle.std.proofs.Common.{◌≡◌, ℕ, ◌+◌, ◌<◌, ◌≤◌, not, Bool, true, false, List, [], ◌∷◌, ◌++◌, length, get_or, take, drop, refl, sym, ap, subst, ◌∙◌, arith, ◌≢◌, ◌-◌, ◌*◌, ◌/◌, inl, inr, map, slice_index, All, AllPairs, Contains, None, Ok, length-drop}
use Rattle.std.specs.Prelude.{filter, if◌then◌else◌, bytes_eq}
use Rattle.std.specs.List.Sorted.{IsPermutation}
use Rattle.std.proofs.lemmas.List.{append-nil, take-append-drop, take_all, take_more, length-append, length-take, length_push, get_or-take, get_or-drop, get_or_default}
use Rattle.std.proofs.lemmas.List.Elements.{filter-append, All-map, All-contains, Contains-get_or}
use Rattle.std.proofs.lemmas.List.Sorted.{IsPermutation-trans, IsPermutation-append_comm, IsPermutation-filter_both, All-permutation, IsPermutation-map, IsPermutation-sym}
use Rattle.ldm_records.specs.declared.types.Record.{Record}
use Rattle.ldm_body.specs.Body.{Stored, stored_at, placed_of, Store, IsBodyOf, counts_of}
use Rattle.ldm_changed.specs.Plan.{has_record, lacks, one_of, Weaves, record_stays, block_differs, changed_numbers}
use Rattle.ldm_body.proofs.BodyLaws.{stored_push, head_of, rest_of, body_with, begun_is, stored_again}
use Rattle.ldm_changed.proofs.PlanLaws.{filter_step, kept_records_of, number_there}
use Rattle.std.proofs.lemmas.Slice.Eq.{bytes_eq-Decides}
use Rattle.std.proofs.lemmas.Bool.{cases_Bool, cases_lt, not_from_false}
use Rattle.std.proofs.lemmas.List.Kept.{AllPairs-filter}
use Rattle.ldm_records.specs.Plain.{IsRecord}
use Rattle.ldm_records.specs.Views.{plain_of}
use Rattle.ldm_frags.specs.Blocks.{count, numbers_from, block_at}
use Rattle.ldm_written.specs.Written.{Holds}
use Rattle.ldm_written.proofs.HoldLaws.{numbers_length, numbers_at, find_number}
use Rattle.ldm_vmdb.specs.Headers.{vmdb_fault}
use Rattle.ldm_written.specs.Headers.{written, ReadsBack}
use Rattle.ldm_group.specs.Order.{Rising}
use Rattle.ldm_group.specs.Database.{Database}
use Rattle.ldm_group.specs.Room.{room_of}
use Rattle.ldm_group.proofs.KinLaws.{filter_keeps, filter_has}
use Rattle.ldm_copy.specs.declared.answer.CopyState.TheVariants.{Valid}
use Rattle.ldm_copy.proofs.OneCopy.{one_copy}
use Rattle.ldm_changed.specs.Change.{Changed, ChangesFrom, IsNextBody}
use Rattle.ldm_written.proofs.HoldEdits.{hold_permuted, few, numbers_apart, number_within}

-- ---- The slots of all records, from those that were kept and those that were made.

-- of the records below j that pass, so many slots of these were taken, and the table has them
pub record AreTaken (p : Record → Bool) (N : List Record) (slots : List (List ℕ)) (j n : ℕ)
    (table : List (List ℕ)) : Type 0 where
  pub many : n ≡ length (filter p (take j N))
  pub same : filter (λ (s : Stored). p s.record_is) (stored_at (take j N) table)
      ≡ stored_at (filter p (take j N)) (take n slots)

-- the records below j were looked at
pub record IsWovenUpTo (N old : List Record) (kept made : List (List ℕ)) (j : ℕ) (taken : ℕ × ℕ) (table : List (List ℕ)) : Type 0 where
  pub size : length table ≡ length (take j N)
  pub kept_are : AreTaken (has_record old) N kept j taken.0 table
  pub made_are : AreTaken (lacks old) N made j taken.1 table

count_front : (p : Record → Bool) (N : List Record) (j : ℕ) → length (filter p (take j N)) ≤ length (filter p N)
count_front p N j =
    let whole : filter p N ≡ filter p (take j N) ++ filter p (drop j N) = ap (filter p) (sym (take-append-drop j N)) ∙ filter-append p (take j N) (drop j N) in
    omega (arith, ap (λ (l : List Record). length l) whole, length-append (filter p (take j N)) (filter p (drop j N)))

module _ (N old : List Record) (kept made : List (List ℕ)) (j : ℕ) (r : Record) (lt : j < length N) (is : get_or N j r ≡ r)
    (kept_each : length kept ≡ length (filter (has_record old) N)) (made_each : length made ≡ length (filter (lacks old) N)) where
  take_step : take (j + 1) N ≡ take j N ++ r ∷ []
  take_step = take_more N j r lt ∙ ap (λ (y : Record). take j N ++ y ∷ []) is

  -- one of those that pass, or of the others
  module _ (p : Record → Bool) (slots : List (List ℕ)) (n : ℕ) (table : List (List ℕ))
      (each : length slots ≡ length (filter p N)) (size : length table ≡ length (take j N))
      (w : AreTaken p N slots j n table) where
    stored_filter : (b : Bool) (s : List ℕ) → p r ≡ b
        → filter (λ (s : Stored). p s.record_is) (stored_at (take (j + 1) N) (table ++ s ∷ []))
        ≡ filter (λ (s : Stored). p s.record_is) (stored_at (take j N) table)
        ++ (if b then record { record_is = r; slots = s } ∷ [] else [])
    stored_filter b s e =
        let x : Stored = record { record_is = r; slots = s } in
        let S : List Stored = stored_at (take j N) table in
        ap (λ (l : List Record). filter (λ (s : Stored). p s.record_is)
        (stored_at l (table ++ s ∷ []))) take_step ∙ ap (filter (λ (s : Stored). p s.record_is))
        (stored_push (take j N) table r s size)
        ∙ filter-append (λ (s : Stored). p s.record_is) S (x ∷ [])
        ∙ ap (λ (c : Bool). filter (λ (s : Stored). p s.record_is) S ++ (if c then x ∷ [] else []))
        e

    within : p r ≡ true → n < length slots
    within e =
        let more = ap (λ (l : List Record). length l) (filter_step p N j r lt is true e) in
        omega (
          arith,
          more,
          length_push (filter p (take j N)) r,
          count_front p N (j + 1),
          w.many,
          each,
        )

    taken_more : p r ≡ true → AreTaken p N slots (j + 1) (n + 1) (table ++ get_or slots n [] ∷ [])
    taken_more e =
        let s : List ℕ = get_or slots n [] in
        let F : List Record = filter p (take j N) in
        let F' : filter p (take (j + 1) N) ≡ F ++ r ∷ [] = filter_step p N j r lt is true e in
        record {
          many = ap (λ (m : ℕ). m + 1) w.many ∙ sym (length_push F r)
              ∙ ap (λ (l : List Record). length l) (sym F');
          same =
              stored_filter true s e ∙ ap
              (λ (l : List Stored). l ++ record { record_is = r; slots = s } ∷ []) w.same
              ∙ sym (stored_push F (take n slots) r s
              (omega (arith, length-take n slots, within e, w.many)))
              ∙ ap (stored_at (F ++ r ∷ [])) (sym (take_more slots n [] (within e)))
              ∙ ap (λ (l : List Record). stored_at l (take (n + 1) slots)) (sym F');
        }

    taken_skip : (s : List ℕ) → p r ≡ false → AreTaken p N slots (j + 1) n (table ++ s ∷ [])
    taken_skip s e =
        let F' : filter p (take (j + 1) N) ≡ filter p (take j N) = filter_step p N j r lt is false e
        ∙ append-nil (filter p (take j N)) in
        record {
          many = w.many ∙ ap (λ (l : List Record). length l) (sym F');
          same = stored_filter false s e ∙ append-nil _ ∙ w.same
              ∙ ap (λ (l : List Record). stored_at l (take n slots)) (sym F');
        }

  pub woven_within : (b : Bool) (taken : ℕ × ℕ) (table : List (List ℕ)) → has_record old r ≡ b → IsWovenUpTo N old kept made j taken table → one_of b taken < length (one_of b (kept, made))
  woven_within true taken table e w = within (has_record old) kept taken.0 table kept_each w.size
      w.kept_are e
  woven_within false taken table e w = within (lacks old) made taken.1 table made_each w.size
      w.made_are (ap not e)

  size_step : (table : List (List ℕ)) (s : List ℕ) → length table ≡ length (take j N)
      → length (table ++ s ∷ []) ≡ length (take (j + 1) N)
  size_step table s size = omega (
    arith,
    length_push table s,
    size,
    length_push (take j N) r,
    ap (λ (l : List Record). length l) take_step,
  )

  pub woven_step : (b : Bool) (taken next : ℕ × ℕ) (table table' : List (List ℕ)) → has_record old r ≡ b → Weaves b kept made taken next table table'
      → IsWovenUpTo N old kept made j taken table → IsWovenUpTo N old kept made (j + 1) next table'
  woven_step true taken next table table' e (next_is, more) w = rw (next_is, more) (record {
    size = size_step table (get_or kept taken.0 []) w.size;
    kept_are = taken_more (has_record old) kept taken.0 table kept_each w.size w.kept_are e;
    made_are = taken_skip (lacks old) made taken.1 table made_each w.size w.made_are
        (get_or kept taken.0 []) (ap not e);
  })
  woven_step false taken next table table' e (next_is, more) w = rw (next_is, more) (record {
    size = size_step table (get_or made taken.1 []) w.size;
    kept_are = taken_skip (has_record old) kept taken.0 table kept_each w.size w.kept_are
        (get_or made taken.1 []) e;
    made_are = taken_more (lacks old) made taken.1 table made_each w.size w.made_are (ap not e);
  })

pub woven_all : (N old : List Record) (kept made : List (List ℕ)) (n : ℕ) (taken : ℕ × ℕ) (table : List (List ℕ)) → n ≡ length N
    → length kept ≡ length (filter (has_record old) N) → length made ≡ length (filter (lacks old) N) → IsWovenUpTo N old kept made n taken table
    → (length table ≡ length N) × IsPermutation (stored_at N table) (stored_at (filter (lacks old) N) made ++ stored_at (filter (has_record old) N) kept)
woven_all N old kept made n taken table e kept_each made_each w =
    let all : take n N ≡ N = ap (λ (m : ℕ). take m N) e ∙ take_all (length N) N (omega arith) in
    let counts = ap (λ (l : List Record). length (filter (has_record old) l)) all in
    let others = ap (λ (l : List Record). length (filter (lacks old) l)) all in
    let kept_same = rw (
      all,
      take_all taken.0 kept
          (omega (arith, w.kept_are.many, counts, kept_each)),
    ) at w.kept_are.same in
    let made_same = rw (
      all,
      take_all taken.1 made
          (omega (arith, w.made_are.many, others, made_each)),
    ) at w.made_are.same in
    let S : List Stored = stored_at N table in (
      w.size ∙ ap (λ (l : List Record). length l) all,
      subst (λ (l : List Stored). IsPermutation S (l ++ stored_at (filter (has_record old) N) kept))
          made_same
          (subst (λ (l : List Stored). IsPermutation S
          (filter (λ (s : Stored). lacks old s.record_is) S ++ l)) kept_same
          (IsPermutation-trans S _ _
          (IsPermutation-filter_both (λ (s : Stored). has_record old s.record_is)
          (λ (s : Stored). lacks old s.record_is) (λ s. refl) S)
          (IsPermutation-append_comm (filter (λ (s : Stored). has_record old s.record_is) S)
          (filter (λ (s : Stored). lacks old s.record_is) S)))),
    )

-- ---- Bodies of which the slots of the records are known.

-- the records of a body are told by its blocks
pub same_records : (db : Database) (body : List ℕ) (records : List Record) → IsBodyOf db body → db.header.last ≤ 8192 → Rising records → Store (drop 512 body) records → db.records ≡ records
same_records db body records on small up store =
    let other : Database = record { header = db.header; records = records } in
    let is_other : IsBodyOf other body = record {
      is = record { size = on.is.size; gate = on.is.gate; faultless = on.is.faultless; header_is = on.is.header_is; blocks = store };
      rising = up;
      low = on.low;
    } in
    let whole : take (length body) body ≡ body = take_all (length body) body (omega arith) in
    let first = begun_is db body body db.header.last on small (omega arith) whole in
    let second = begun_is other body body db.header.last is_other small (omega arith) whole in
    let same = one_copy body db.header.last (Ok (Valid db)) (Ok (Valid other)) first second in
    let one : db ≡ other = cc in
    ap (λ (d : Database). d.records) one

-- the records of a store are sound
pub store_sound : (blocks : List ℕ) (records : List Record) → Store blocks records → All (λ r. IsRecord (plain_of r)) records
store_sound blocks records store =
    All-permutation (λ r. IsRecord (plain_of r)) (map (λ (s : Stored). s.record_is) store.stored) records store.once
    (All-map (λ r. IsRecord (plain_of r)) (λ (s : Stored). s.record_is) store.stored store.sound)

-- the blocks hold the records at the slots of the whole table
pub holds_table : (blocks : List ℕ) (xs ys : List Stored) → IsPermutation xs ys → Holds blocks (map placed_of ys) → Holds blocks (map placed_of xs)
holds_table blocks xs ys same holds =
    hold_permuted blocks (map placed_of ys) (map placed_of xs) (IsPermutation-map placed_of ys xs (IsPermutation-sym xs ys same)) holds

-- ---- the bytes that aren't in a changed block

-- a block that isn't listed is the same
pub unlisted_same : (old new : List ℕ) (b : ℕ) → 4 ≤ b → b < count new + 4 → All (λ n. n ≢ b) (changed_numbers old new) → block_at old b ≡ block_at new b
unlisted_same old new b low high none =
    elim (cases_Bool (bytes_eq (block_at old b) (block_at new b))) [
      | inl same ↦ (bytes_eq-Decides (block_at old b) (block_at new b)).0 same
      | inr differ ↦
          let there : Contains (numbers_from 4 (count new)) b = number_there 4 (count new) b low (omega (arith, high)) in
          let listed : Contains (changed_numbers old new) b = filter_keeps (block_differs old new) (numbers_from 4 (count new)) b there (not_from_false (bytes_eq (block_at old b) (block_at new b)) differ) in
          absurd (All-contains (λ n. n ≢ b) (changed_numbers old new) b none listed refl)
    ]

-- a byte, by its block
byte_of_block : (blocks : List ℕ) (j : ℕ) → slice_index (block_at blocks (j / 128 + 4)) (j - 128 * (j / 128)) ≡ slice_index blocks j
byte_of_block blocks j =
    let at : 128 * (j / 128 + 4 - 4) + (j - 128 * (j / 128)) ≡ j = omega arith in
    get_or-take 128 (drop (128 * (j / 128 + 4 - 4)) blocks) (j - 128 * (j / 128)) 0 (omega arith)
    ∙ get_or-drop (128 * (j / 128 + 4 - 4)) blocks (j - 128 * (j / 128)) 0
    ∙ ap (λ (n : ℕ). slice_index blocks n) at

-- a block that isn't listed is there in the old blocks
unlisted_there : (old new : List ℕ) (j : ℕ) → length old ≡ 128 * count old → length new ≡ 128 * count new → j < length new → block_at old (j / 128 + 4) ≡ block_at new (j / 128 + 4) → j < length old
unlisted_there old new j whole full lt same = elim (cases_lt j (length old)) [
  | inl below ↦ below
  | inr beyond ↦
      let at : ℕ = 128 * (j / 128 + 4 - 4) in
      let lengths : length (block_at old (j / 128 + 4)) ≡ length (block_at new (j / 128 + 4)) = ap (λ (l : List ℕ). length l) same in
      let one = length-take 128 (drop at old) in
      let two = length-take 128 (drop at new) in
      let three = length-drop at old in
      let four = length-drop at new in
      absurd (omega (arith, lengths, one, two, three, four, whole, full, lt, beyond))
]

-- a byte behind the header that is in no changed block is that of the old body, which has it
pub changes_from : (old sector blocks numbers : List ℕ) → length sector ≡ 512 → 512 ≤ length old → length (drop 512 old) ≡ 128 * count (drop 512 old)
    → length blocks ≡ 128 * count blocks → numbers ≡ changed_numbers (drop 512 old) blocks → ChangesFrom old (record { body = sector ++ blocks; numbers = numbers })
changes_from old sector blocks numbers whole some even full is = record {
  same = λ k behind high avoid.
      let j : ℕ = k - 512 in
      let b : ℕ = j / 128 + 4 in
      let block : b ≡ k / 128 = omega (arith, behind) in
      let long : length (sector ++ blocks) ≡ 512 + length blocks = omega (arith, length-append sector blocks, whole) in
      let near : j < length blocks = omega (arith, behind, high, long) in
      let avoid' : All (λ n. n ≢ b) (changed_numbers (drop 512 old) blocks) = subst (λ (l : List ℕ). All (λ n. n ≢ b) l) is (subst (λ (m : ℕ). All (λ n. n ≢ m) numbers) (sym block) avoid) in
      let same = unlisted_same (drop 512 old) blocks b (omega arith) (omega (arith, near, full)) avoid' in
      let within = unlisted_there (drop 512 old) blocks j even full near same in
      let here : slice_index blocks j ≡ slice_index (sector ++ blocks) k =
      ap (λ (l : List ℕ). slice_index l j) (sym (rest_of sector blocks whole)) ∙ get_or-drop 512 (sector ++ blocks) j 0 ∙ ap (λ (n : ℕ). slice_index (sector ++ blocks) n) (let e : 512 + j ≡ k = omega (arith, behind) in e) in
      let there : slice_index (drop 512 old) j ≡ slice_index old k = get_or-drop 512 old j 0 ∙ ap (λ (n : ℕ). slice_index old n) (let e : 512 + j ≡ k = omega (arith, behind) in e) in (
        omega (arith, within, behind, length-drop 512 old),
        sym here ∙ sym (byte_of_block blocks j) ∙ ap (λ (l : List ℕ). slice_index l (j - 128 * (j / 128))) (sym same) ∙ byte_of_block (drop 512 old) j ∙ there,
      );
}

-- the blocks that the old body doesn't have are listed
pub added_listed : (old : List ℕ) (change : Changed) → ChangesFrom old change → 512 ≤ length old → (n : ℕ) → length old ≤ 128 * n → 128 * n + 128 ≤ length change.body → Contains change.numbers n
added_listed old change from some n low high = elim (find_number change.numbers n) [
  | inl found ↦ (found.0, found.1, get_or_default change.numbers found.0 n 0 found.1 ∙ found.2)
  | inr none ↦
      let place : n ≡ 128 * n / 128 = omega arith in
      let there = (from.same (128 * n) (omega (arith, some, low)) (omega (arith, high)) (subst (λ (m : ℕ). All (λ k. k ≢ m) change.numbers) place none)).0 in
      absurd (omega (arith, there, low))
]

-- ---- the next body

-- the blocks hold the new records at the slots of the woven table
pub next_holds : (old new : List Record) (table kept made next : List (List ℕ)) (out : List ℕ)
    → length table ≡ length old
    → kept ≡ map (λ (s : Stored). s.slots) (filter (record_stays new) (stored_at old table))
    → filter (has_record new) old ≡ filter (has_record old) new
    → Holds out (map placed_of (stored_at (filter (lacks old) new) made ++ filter (record_stays new) (stored_at old table)))
    → IsPermutation (stored_at new next) (stored_at (filter (lacks old) new) made ++ stored_at
    (filter (has_record old) new) kept)
    → Holds out (map placed_of (stored_at new next))
next_holds old new table kept made next out one_each kept_is same holds woven =
    let K : List Stored = filter (record_stays new) (stored_at old table) in
    let stored : stored_at (filter (has_record old) new) kept ≡ K =
    ap (stored_at (filter (has_record old) new)) kept_is
    ∙ ap (λ (l : List Record). stored_at l (map (λ (s : Stored). s.slots) K))
    (sym (kept_records_of old new table one_each ∙ same)) ∙ stored_again K in
    holds_table out (stored_at new next) (stored_at (filter (lacks old) new) made ++ K)
    (rw stored at woven) holds

pub next_is : (old : List ℕ) (last : ℕ) (db : Database) (sector blocks numbers : List ℕ)
    (table : List (List ℕ))
    → length old ≡ 512 * (last / 4) → 4 ≤ last → last ≤ db.header.last → db.header.last ≤ 8192 → Rising db.records
    → length sector ≡ 512 → sector ≡ written db.header db.header.seq (counts_of db.records)
    → ReadsBack db.header db.header.seq sector
    → ((sectors : ℕ) → db.header.last ≤ 4 * sectors → vmdb_fault sector sectors ≡ None)
    → length blocks ≡ 128 * room_of db.header.last → Store blocks db.records
    → numbers ≡ changed_numbers (drop 512 old) blocks
    → length table ≡ length db.records → Holds blocks (map placed_of (stored_at db.records table))
    → IsNextBody old db (sector ++ blocks) numbers table
next_is old last db sector blocks numbers table size some rises high rising whole wrote reads
    faultless room store numbers_are one_each holds =
    let even : length (drop 512 old) ≡ 128 * count (drop 512 old) = omega (arith, length-drop 512 old, size) in
    let full : length blocks ≡ 128 * count blocks = omega (arith, room) in
    let body : IsBodyOf db (sector ++ blocks) = body_with sector blocks whole db reads faultless
    store room (omega (arith, some, rises)) rising in
    let total : length (sector ++ blocks) ≡ 512 + length blocks = omega (arith, length-append sector blocks, whole) in
    let from = changes_from old sector blocks numbers whole (omega (arith, size, some)) even full numbers_are in
    record {
      body = body;
      tabled = record {
        db = db;
        body = body;
        small = high;
        one_each = one_each;
        sound = store_sound blocks db.records store;
        holds = subst (λ (l : List ℕ). Holds l (map placed_of (stored_at db.records table))) (sym (rest_of sector blocks whole)) holds;
      };
      header = head_of sector blocks whole ∙ wrote;
      from = from;
      added = added_listed old (record { body = sector ++ blocks; numbers = numbers }) from (omega (arith, size, some));
      apart = subst (λ (l : List ℕ). AllPairs (λ a b. a ≢ b) l) (sym numbers_are) (AllPairs-filter (λ a b. a ≢ b) (block_differs (drop 512 old) blocks) (numbers_from 4 (count blocks)) (numbers_apart 4 (count blocks)));
      change = record {
        some = omega (arith, total);
        within = subst (λ (l : List ℕ). All (λ n. (4 ≤ n) × (128 * n + 128 ≤ length (sector ++ blocks))) l) (sym numbers_are) (λ k d lt.
            let there = filter_has (block_differs (drop 512 old) blocks) (numbers_from 4 (count blocks)) (get_or (changed_numbers (drop 512 old) blocks) k d) (Contains-get_or (changed_numbers (drop 512 old) blocks) k d lt) in
            let in_range = number_within 4 (count blocks) (get_or (changed_numbers (drop 512 old) blocks) k d) there.0 in
            let top = in_range.1 in
            (in_range.0, omega (arith, top, total, full)));
      };
    }

-- ---- a body has room for as many numbers as it has blocks

pub few_area : (body numbers : List ℕ) → AllPairs (λ a b. a ≢ b) numbers → All (λ n. (4 ≤ n) × (128 * n + 128 ≤ length body)) numbers → 512 ≤ length body
    → 513 + 128 * length numbers ≤ length body + 1
few_area body numbers apart within some =
    let m = length body / 128 - 4 in
    let size : length (numbers_from 4 m) ≡ m = numbers_length 4 m in
    let less : length numbers ≤ length (numbers_from 4 m) =
    few numbers (numbers_from 4 m) apart (λ k d lt.
    let n = get_or numbers k d in
    let low : 4 ≤ n = (within k d lt).0 in
    let high : 128 * n + 128 ≤ length body = (within k d lt).1 in
    let below : n - 4 < m = omega (arith, low, high) in
    (n - 4, omega (arith, below, size), get_or_default (numbers_from 4 m) (n - 4) n 0 (omega (arith, below, size)) ∙ numbers_at 4 m (n - 4) below ∙ omega (arith, low))) in
    omega (arith, less, size, some)
