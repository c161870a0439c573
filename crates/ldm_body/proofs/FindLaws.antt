-- All records that blocks hold are found, by the heads of their blocks.
use Rattle.std.proofs.Common.{◌≡◌, ℕ, zero, suc, ◌+◌, ◌-◌, ◌*◌, ◌<◌, ◌≤◌, List, [], ◌∷◌, ◌++◌, length, get_or, slice_index, take, map, All, Contains, refl, sym, ap, subst, ◌∙◌, arith, ◌≢◌, ◌⊎◌, inl, inr, Bool, true, false, eqb, set, replicate, Option, Some, None, add-one, ⊎_elim, AllPairs}
use Rattle.std.proofs.lemmas.Grind.{same_number_lists}
use Rattle.std.proofs.lemmas.List.{map-append, append-nil, take_more, take_all, length-map, get_or-map, get_or-set_same, get_or-set_other, length-set}
use Rattle.std.proofs.lemmas.List.Concat.{flat_map-append}
use Rattle.std.proofs.lemmas.List.Elements.{All-contains, All-nil, All-map, All-push, All-weaker, Contains-get_or, Contains-push, Contains-append_left, All-tail}
use Rattle.ldm_records.specs.Plain.{IsRecord, Spells, own_spelling}
use Rattle.ldm_records.specs.Views.{plain_of}
use Rattle.ldm_frags.specs.Blocks.{count, group, part, parts, payload, is_part, least_below, numbers_from, is_fragment, is_of, some_below, block_at}
use Rattle.ldm_written.specs.Written.{Placed, slot, IsPlaced, Holds, unused_block, filled, IsInUse}
use Rattle.ldm_vmdb.specs.Parts.{parts_of}
use Rattle.ldm_frags.proofs.Below.{numbers_push, least_passes, passing_some, passing_skip, passing_here, passing_least, passing_past}
use Rattle.ldm_written.proofs.HoldLaws.{numbers_length, numbers_at, nowhere, record_at, few_held, few_slots, part_fields, Stands, in_record, free, stands, place_of as spot_of, least_of, parts_more, filled_length}
use Rattle.ldm_body.specs.Body.{Stored, placed_of, Store, stored_at}
use Rattle.ldm_body.specs.Finding.{part_at, slots_by, payloads, IsFirstPart, IsLater, first_number, table_place, HasPlaces, slots_in, IsFoundAt, stored_of, AreFound, HoldsTable}
use Rattle.std.specs.Prelude.{filter, ◌==◌, is_some}
use Rattle.std.proofs.lemmas.Bool.{cases_eq, eq-eqb, ne_eqb, and_left, and_right}
use Rattle.ldm_frags.specs.Groups.{first_passing}
use Rattle.std.specs.List.Sorted.{IsPermutation, IsNonDecreasingBy}
use Rattle.std.proofs.lemmas.List.Quantifiers.{all_pairs_push}
use Rattle.std.proofs.lemmas.List.Sorted.{IsPermutation-refl, IsPermutation-sym, IsPermutation-trans, IsPermutation-map, All-permutation}
use Rattle.ldm_written.proofs.SpellLaws.{own_spells}
use Rattle.ldm_payloads.proofs.WholeLaws.{is_one}
use Rattle.ldm_frags.proofs.BlockLaws.{HasFields, fields_of}
use Rattle.ldm_records.specs.declared.types.Record.{Record}
use Rattle.ldm_group.specs.Order.{place_of, Rising}
use Rattle.ldm_group.proofs.Rise.{strictly}
use Rattle.ldm_group.proofs.OneOrder.{one_rising}
use Rattle.ldm_body.specs.declared.finding.Found.{Found}
use Rattle.ldm_written.proofs.HoldEdits.{apart_permuted, hold_permuted}
use Rattle.ldm_body.proofs.BodyLaws.{record_of, stored_again, key, below, all_below, all_used}
use Rattle.ldm_group.proofs.ListLaws.{all_from_map}

-- ---- Records that are found by the heads of their blocks.

pub slots_more : (f : ℕ → ℕ) (number part x : ℕ) (before after : List ℕ) → 1 ≤ part → before ≡ number ∷ map f (numbers_from 1 (part - 1))
    → after ≡ before ++ x ∷ [] → x ≡ f part → after ≡ number ∷ map f (numbers_from 1 (part + 1 - 1))
slots_more f number part x before after some is more found =
    let last : 1 + (part - 1) ≡ part = omega arith in
    let next : part - 1 + 1 ≡ part + 1 - 1 = omega arith in
    let pushed : numbers_from 1 (part + 1 - 1) ≡ numbers_from 1 (part - 1) ++ part ∷ [] =
    ap (numbers_from 1) (sym next) ∙ numbers_push 1 (part - 1)
    ∙ ap (λ (m : ℕ). numbers_from 1 (part - 1) ++ m ∷ []) last in
    more ∙ ap (λ (l : List ℕ). l ++ x ∷ []) is ∙ ap (λ (m : ℕ). number ∷ map f (numbers_from 1 (part - 1)) ++ m ∷ []) found
    ∙ sym (ap (λ (l : List ℕ). number ∷ l) (ap (map f) pushed ∙ map-append f (numbers_from 1 (part - 1)) (part ∷ [])))

pub slots_done : (f : ℕ → ℕ) (number n part : ℕ) (slots items : List ℕ) → slots ≡ items → part ≡ n → items ≡ number ∷ map f (numbers_from 1 (part - 1)) → slots ≡ number ∷ map f (numbers_from 1 (n - 1))
slots_done f number n part slots items same e is = same ∙ is ∙ ap (λ (m : ℕ). number ∷ map f (numbers_from 1 (m - 1))) e

-- ---- what the heads say of blocks that hold records

map_at : (f : ℕ → ℕ) (a n i : ℕ) → i < n → slice_index (map f (numbers_from a n)) i ≡ f (a + i)
map_at f a n i lt = get_or-map f (numbers_from a n) i 0 0 (omega (arith, lt, numbers_length a n))
    ∙ ap f (numbers_at a n i lt)

-- the blocks of a record, by the heads
pub head_slots : (blocks : List ℕ) (records : List Placed) (m k : ℕ) → length blocks ≤ 1048576 → Holds blocks records → m < length records → slot (record_at records m) 0 ≡ k + 4
    → parts blocks k ≡ length (record_at records m).slots → slots_by blocks (k + 4) (parts blocks k) ≡ (record_at records m).slots
unfolding slots_by part_at
head_slots blocks records m k small holds lm at many =
    let r : Placed = record_at records m in
    let n : ℕ = length r.slots in
    let some = (few_slots blocks r (holds.placed m nowhere lm)).0 in
    let size : length ((k + 4) ∷ map (part_at blocks (k + 4)) (numbers_from 1 (parts blocks k - 1))) ≡ n =
    omega (arith, length-map (numbers_from 1 (parts blocks k - 1)) (part_at blocks (k + 4)), numbers_length 1 (parts blocks k - 1), many, some) in
    same_number_lists ((k + 4) ∷ map (part_at blocks (k + 4)) (numbers_from 1 (parts blocks k - 1))) r.slots size (λ j lj. each j (omega (arith, lj, size)))
  where
    each : (j : ℕ) → j < length (record_at records m).slots → slice_index ((k + 4) ∷ map (part_at blocks (k + 4)) (numbers_from 1 (parts blocks k - 1))) j ≡ slice_index (record_at records m).slots j
    each zero lj = sym at
    each (suc j) lj =
        let spot = spot_of blocks records m (suc j) holds lm lj in
        let least : least_below (count blocks) (is_part blocks (slot (record_at records m) 0) (suc j)) ≡ spot.0 = least_of blocks records m (suc j) spot.0 small holds lm lj (omega (arith, lj)) spot.1 spot.2 in
        map_at (part_at blocks (k + 4)) 1 (parts blocks k - 1) j (omega (arith, lj, many))
        ∙ ap (part_at blocks (k + 4)) (let e : 1 + j ≡ suc j = omega arith in e)
        ∙ ap (λ (g : ℕ). least_below (count blocks) (is_part blocks g (suc j)) + 4) (sym at)
        ∙ ap (λ (l : ℕ). l + 4) least ∙ sym spot.2

-- what they hold is the filled payload
payload_front : (blocks : List ℕ) (r : Placed) (i : ℕ) → length blocks ≤ 1048576 → IsPlaced blocks r → i ≤ length r.slots → payloads blocks (take i r.slots) ≡ take (112 * i) (filled r.payload)
payload_front blocks r zero small is le = refl
payload_front blocks r (suc i) small is le =
    let lt : i < length r.slots = omega (arith, le) in
    let in_use = is.within i lt in
    let low = in_use.0 in
    let has = part_fields blocks r i (slot r i - 4) small is lt (omega (arith, low)) in
    let one : suc i ≡ i + 1 = omega arith in
    ap (λ (n : ℕ). payloads blocks (take n r.slots)) one
    ∙ ap (payloads blocks) (take_more r.slots i 0 lt)
    ∙ flat_map-append (λ (b : ℕ). payload blocks (b - 4)) (take i r.slots) (slot r i ∷ [])
    ∙ ap (λ (l : List ℕ). l ++ (payload blocks (slot r i - 4) ++ [])) (payload_front blocks r i small is (omega (arith, lt)))
    ∙ ap (λ (l : List ℕ). take (112 * i) (filled r.payload) ++ l) (append-nil (payload blocks (slot r i - 4)) ∙ has.payload)
    ∙ parts_more r.payload i ∙ ap (λ (n : ℕ). take (112 * n) (filled r.payload)) (sym one)

pub payload_whole : (blocks : List ℕ) (r : Placed) → length blocks ≤ 1048576 → IsPlaced blocks r → payloads blocks r.slots ≡ filled r.payload
payload_whole blocks r small is =
    let whole = is.whole in
    let len = filled_length r.payload in
    ap (payloads blocks) (sym (take_all (length r.slots) r.slots (omega arith))) ∙ payload_front blocks r (length r.slots) small is (omega arith)
    ∙ take_all (112 * length r.slots) (filled r.payload) (omega (arith, len, whole))

mapped_there : (ss : List Stored) (m : ℕ) (d : Placed) → m < length (map placed_of ss) → (s : Stored) × Contains ss s × (get_or (map placed_of ss) m d ≡ placed_of s)
mapped_there [] m d lt = absurd (omega (arith, lt))
mapped_there (s ∷ ss) m d lt =
    let near : m < length (s ∷ ss) = omega (arith, lt, length-map ss placed_of) in (
      get_or (s ∷ ss) m s,
      Contains-get_or (s ∷ ss) m s near,
      get_or-map placed_of (s ∷ ss) m s d near,
    )

-- the record that begins in a block, where the blocks hold records
pub record HeldFirst (blocks : List ℕ) (ss : List Stored) (k : ℕ) : Type 0 where
  pub s : Stored
  pub there : Contains ss s
  pub key : slot (placed_of s) 0 ≡ k + 4
  pub slots_are : slots_by blocks (k + 4) (parts blocks k) ≡ s.slots
  pub placed : IsPlaced blocks (placed_of s)
  pub sound : IsRecord (plain_of s.record_is)

pub held_first : (blocks : List ℕ) (ss : List Stored) (k : ℕ) → length blocks ≤ 1048576 → k < count blocks → All (λ s. IsRecord (plain_of s.record_is)) ss → Holds blocks (map placed_of ss)
    → IsFirstPart blocks (k + 4) → 1 ≤ parts blocks k → HeldFirst blocks ss k
held_first blocks ss k small lt sound holds first some = by (stands blocks (map placed_of ss) small holds k lt)
  where
    at_k : k + 4 - 4 ≡ k
    at_k = omega arith

    by : Stands blocks (map placed_of ss) k → HeldFirst blocks ss k
    by (free none has) = let n = has.parts in absurd (omega (arith, n, some))
    by (in_record m i lm li e has) =
        let part_0 : part blocks k ≡ 0 = ap (part blocks) (sym at_k) ∙ first.part_is in
        let i_0 : i ≡ 0 = sym has.part ∙ part_0 in
        let key : slot (record_at (map placed_of ss) m) 0 ≡ k + 4 = ap (slot (record_at (map placed_of ss) m)) (sym i_0) ∙ e in
        let from = mapped_there ss m nowhere lm in
        let same : record_at (map placed_of ss) m ≡ placed_of from.0 = from.2 in
        record {
          s = from.0;
          there = from.1;
          key = ap (λ (r : Placed). slot r 0) (sym same) ∙ key;
          slots_are = head_slots blocks (map placed_of ss) m k small holds lm key has.parts ∙ ap (λ (r : Placed). r.slots) same;
          placed = subst (IsPlaced blocks) same (holds.placed m nowhere lm);
          sound = All-contains (λ s. IsRecord (plain_of s.record_is)) ss from.0 sound from.1;
        }

-- where a block is in use and begins no record, it is a later part
pub held_later : (blocks : List ℕ) (ss : List Stored) (k : ℕ) → length blocks ≤ 1048576 → k < count blocks → Holds blocks (map placed_of ss)
    → 1 ≤ parts blocks k → (IsFirstPart blocks (k + 4) → ⊥) → IsLater blocks (k + 4)
unfolding part_at
held_later blocks ss k small lt holds some not_first = by (stands blocks (map placed_of ss) small holds k lt)
  where
    at_k : k + 4 - 4 ≡ k
    at_k = omega arith

    records : List Placed
    records = map placed_of ss

    by : Stands blocks (map placed_of ss) k → IsLater blocks (k + 4)
    by (free none has) = let n = has.parts in absurd (omega (arith, n, some))
    by (in_record m zero lm li e has) =
        absurd (not_first (record { part_is = ap (part blocks) at_k ∙ has.part; group_is = ap (group blocks) at_k ∙ has.group ∙ e }))
    by (in_record m (suc i) lm li e has) =
        let r : Placed = record_at (map placed_of ss) m in
        let is : IsPlaced blocks r = holds.placed m nowhere lm in
        let in_use = is.within 0 (omega (arith, li)) in
        let low = in_use.0 in
        let high = in_use.1 in
        let g : group blocks (k + 4 - 4) ≡ slot r 0 = ap (group blocks) at_k ∙ has.group in
        let p : part blocks (k + 4 - 4) ≡ suc i = ap (part blocks) at_k ∙ has.part in
        let first = part_fields blocks r 0 (slot r 0 - 4) small is (omega (arith, li)) (omega (arith, low)) in
        let head : IsFirstPart blocks (slot r 0) = record { part_is = first.part; group_is = first.group } in
        let many : parts blocks (slot r 0 - 4) ≡ length r.slots = first.parts in
        let least : least_below (count blocks) (is_part blocks (slot r 0) (suc i)) ≡ k = least_of blocks (map placed_of ss) m (suc i) k small holds lm li (omega (arith, li)) lt e in
        record {
          low = omega (arith, g, low);
          high = omega (arith, g, high);
          first = subst (IsFirstPart blocks) (sym g) head;
          some = omega (arith, p);
          few = (let four = (few_slots blocks r is).1 in omega (arith, p, li, four));
          below = subst (λ (b : ℕ). part blocks (k + 4 - 4) < parts blocks (b - 4)) (sym g) (omega (arith, p, many, li));
          at =
              ap (λ (b : ℕ). part_at blocks b (part blocks (k + 4 - 4))) g ∙ ap (part_at blocks (slot r 0)) p
              ∙ ap (λ (l : ℕ). l + 4) least;
        }

-- a block that is of no record is unused
pub held_unused : (blocks : List ℕ) (ss : List Stored) (k : ℕ) → length blocks ≤ 1048576 → k < count blocks → Holds blocks (map placed_of ss) → parts blocks k ≡ 0 → block_at blocks (k + 4) ≡ unused_block (k + 4)
held_unused blocks ss k small lt holds none = by (stands blocks (map placed_of ss) small holds k lt)
  where
    by : Stands blocks (map placed_of ss) k → block_at blocks (k + 4) ≡ unused_block (k + 4)
    by (free free_of has) = holds.unused (k + 4) (omega arith, omega (arith, lt)) free_of
    by (in_record m i lm li e has) =
        let n = has.parts in
        let some = (few_slots blocks (record_at (map placed_of ss) m) (holds.placed m nowhere lm)).0 in
        absurd (omega (arith, n, some, none))

-- a record has four parts at most
pub held_few : (blocks : List ℕ) (ss : List Stored) (k : ℕ) → length blocks ≤ 1048576 → k < count blocks → Holds blocks (map placed_of ss) → parts blocks k ≤ 4
held_few blocks ss k small lt holds = few_held blocks (map placed_of ss) k holds (stands blocks (map placed_of ss) small holds k lt)

-- ---- The list of the places of parts, by their groups.

-- where one passes, it is the first of more, and one of those
some_passes : (n k : ℕ) (p : ℕ → Bool) → first_passing n p ≡ Some k → some_below n p ≡ true
some_passes n k p e = sym (passing_some n p) ∙ ap is_some e

passing_kept : (n k : ℕ) (p : ℕ → Bool) → first_passing n p ≡ Some k → first_passing (n + 1) p ≡ Some k
passing_kept n k p e = rw (add-one, some_passes n k p e) (ap Some (passing_least n k p e))

passing_within : (n k : ℕ) (p : ℕ → Bool) → first_passing n p ≡ Some k → k < n
passing_within n k p e = omega (
  arith,
  (least_passes n p (some_passes n k p e)).0,
  passing_least n k p e,
)

-- block k, by what was read of its head
module _ (blocks places : List ℕ) (k n G P : ℕ) (has : HasPlaces blocks k places)
    (in_range : k < count blocks) (is_n : n ≡ parts blocks k) (is_g : G ≡ group blocks k)
    (is_p : P ≡ part blocks k)
    (frag : 2 ≤ n) (low_k : 4 ≤ G) (high_k : G < count blocks + 4) (few_k : P < 4) where
  abbrev first_of : ℕ → ℕ → ℕ → ℕ
  first_of n g p = first_number (first_passing n (is_part blocks g p)) (count blocks + 4)

  -- it is that part of no other group
  other_place : (g p : ℕ) → 4 ≤ g → p < 4 → ((G ≡ g) × (P ≡ p))
      ⊎ ((4 * (g - 4) + p ≢ 4 * (G - 4) + P) × (is_part blocks g p k ≡ false))
  other_place g p low few =
      elim (cases_eq G g) [
        | inr ne ↦ inr (
          (λ e. ne (omega (arith, e, few, few_k, low, low_k))),
          and_left (is_of blocks g k) (eqb (part blocks k) p)
              (and_right (is_fragment blocks k) (eqb (group blocks k) g)
              (ne_eqb (group blocks k) g (λ e. ne (is_g ∙ e)))),
        )
        | inl same ↦ elim (cases_eq P p) [
          | inl one ↦ inl (same, one)
          | inr ne ↦ inr (
            (λ e. ne (omega (arith, e, same))),
            and_right (is_of blocks g k)
                (eqb (part blocks k) p) (ne_eqb (part blocks k) p (λ e. ne (is_p ∙ e))),
          )
        ]
      ]

  -- this part of this group has its place, and all others stay
  places_next : (next : List ℕ) → length next ≡ length places
      → ((g p : ℕ) → 4 * (g - 4) + p ≢ 4 * (G - 4) + P
      → table_place next g p ≡ table_place places g p)
      → table_place next G P ≡ first_of (k + 1) G P → HasPlaces blocks (k + 1) next
  places_next next size others here = record {
    size = size ∙ has.size;
    at = λ g p low high few. elim (other_place g p low few) [
      | inr (apart, other) ↦ others g p apart ∙ has.at g p low high few
          ∙ ap (λ (o : Option ℕ). first_number o (count blocks + 4))
          (sym (passing_skip k (is_part blocks g p) other))
      | inl (same, one) ↦
          subst (λ (x : ℕ). table_place next x p ≡ first_of (k + 1) x p) same
          (subst (λ (x : ℕ). table_place next G x ≡ first_of (k + 1) G x) one here)
    ];
  }

  -- it is the first, or there was one before
  pub places_set : table_place places G P ≡ count blocks + 4
      → HasPlaces blocks (k + 1) (set places (4 * (G - 4) + P) (k + 4))
  places_set empty =
      places_next (set places at (k + 4)) (length-set places at (k + 4))
      (λ g p apart. get_or-set_other places at (4 * (g - 4) + p) (k + 4) 0 apart)
      (get_or-set_same places at (k + 4) 0
      (let size = has.size in omega (arith, size, low_k, high_k, few_k))
      ∙ sym (ap (λ (o : Option ℕ). first_number o (count blocks + 4))
      (passing_here k (is_part blocks G P) found
      (none (first_passing k (is_part blocks G P)) refl))))
    where
      at : ℕ
      at = 4 * (G - 4) + P

      found : is_part blocks G P k ≡ true
      found =
          let a : is_fragment blocks k ≡ true = grind arith in
          let b : eqb (group blocks k) G ≡ true = eq-eqb (group blocks k) G (sym is_g) in
          let c : eqb (part blocks k) P ≡ true = eq-eqb (part blocks k) P (sym is_p) in
          rw (a, b, c) refl

      none : (o : Option ℕ) → first_passing k (is_part blocks G P) ≡ o → some_below k (is_part blocks G P) ≡ false
      none None e = sym (passing_some k (is_part blocks G P)) ∙ ap is_some e
      none (Some j) e =
          let is_j : table_place places G P ≡ j + 4 = has.at G P low_k high_k few_k ∙ ap (λ (o : Option ℕ). first_number o (count blocks + 4)) e in
          absurd (omega (arith, is_j, empty, passing_within k j (is_part blocks G P) e, in_range))

  pub places_used : table_place places G P ≢ count blocks + 4 → HasPlaces blocks (k + 1) places
  places_used used = places_next places refl (λ g p apart. refl)
      (kept (first_passing k (is_part blocks G P)) refl)
    where
      kept : (o : Option ℕ) → first_passing k (is_part blocks G P) ≡ o
          → table_place places G P ≡ first_of (k + 1) G P
      kept None e = absurd (used (has.at G P low_k high_k few_k ∙ ap (λ (o : Option ℕ). first_number o (count blocks + 4)) e))
      kept (Some j) e =
          has.at G P low_k high_k few_k ∙ ap (λ (o : Option ℕ). first_number o (count blocks + 4)) (e ∙ sym (passing_kept k j (is_part blocks G P) e))

-- all blocks were looked at
module _ (blocks places : List ℕ) (has : HasPlaces blocks (count blocks) places) where
  pub place_is : (g p : ℕ) → 4 ≤ g → g < count blocks + 4 → p < 4 → table_place places g p ≡ part_at blocks g p
  unfolding part_at
  place_is g p low high few = has.at g p low high few ∙ by (first_passing (count blocks) (is_part blocks g p)) refl
    where
      by : (o : Option ℕ) → first_passing (count blocks) (is_part blocks g p) ≡ o → first_number (first_passing (count blocks) (is_part blocks g p)) (count blocks + 4) ≡ least_below (count blocks) (is_part blocks g p) + 4
      by None e = ap (λ (o : Option ℕ). first_number o (count blocks + 4)) e ∙ ap (λ (n : ℕ). n + 4) (sym (passing_past (count blocks) (is_part blocks g p) e))
      by (Some j) e = ap (λ (o : Option ℕ). first_number o (count blocks + 4)) e ∙ ap (λ (n : ℕ). n + 4) (sym (passing_least (count blocks) j (is_part blocks g p) e))

  mapped : (f h : ℕ → ℕ) (a n : ℕ) → ((p : ℕ) → a ≤ p → p < a + n → f p ≡ h p) → map f (numbers_from a n) ≡ map h (numbers_from a n)
  mapped f h a zero same = refl
  mapped f h a (suc n) same =
      ap (λ (x : ℕ). x ∷ map f (numbers_from (a + 1) n)) (same a (omega arith) (omega arith))
      ∙ ap (λ (l : List ℕ). h a ∷ l) (mapped f h (a + 1) n (λ p low high. same p (omega (arith, low)) (omega (arith, high))))

  -- the slots of a record by the table of places are those by the heads of the blocks
  pub slots_are_by : (number n : ℕ) → 4 ≤ number → number < count blocks + 4 → 1 ≤ n → n ≤ 4 → slots_in places number n ≡ slots_by blocks number n
  unfolding slots_by
  slots_are_by number n low high some few =
      ap (λ (l : List ℕ). number ∷ l) (mapped (table_place places number) (part_at blocks number) 1 (n - 1) (λ p from to. place_is number p low high (omega (arith, to, few, some))))

-- ---- one record

-- the key of a record that was found
pub key_is : (blocks : List ℕ) (b : ℕ) (s : Stored) → IsFoundAt blocks b s → key s ≡ b
unfolding slots_by
key_is blocks b s found = ap (λ (l : List ℕ). slice_index l 0) found.slots_are

-- a record that is placed at slots is one
pub one_placed : (blocks : List ℕ) (a b : Stored) → length blocks ≤ 1048576 → IsPlaced blocks (placed_of a) → IsPlaced blocks (placed_of b) → IsRecord (plain_of a.record_is) → IsRecord (plain_of b.record_is)
    → a.slots ≡ b.slots → a ≡ b
one_placed blocks a b small is_a is_b sound_a sound_b e =
    let same : filled (own_spelling (plain_of a.record_is)) ≡ filled (own_spelling (plain_of b.record_is)) =
    sym (payload_whole blocks (placed_of a) small is_a) ∙ ap (payloads blocks) e ∙ payload_whole blocks (placed_of b) small is_b in
    let one : a.record_is ≡ b.record_is =
    is_one (filled (own_spelling (plain_of a.record_is))) a.record_is b.record_is
    (own_spells (plain_of a.record_is) (replicate (112 * parts_of (length (own_spelling (plain_of a.record_is))) - length (own_spelling (plain_of a.record_is))) 0) sound_a)
    (subst (λ (l : List ℕ). Spells (plain_of b.record_is) l) (sym same) (own_spells (plain_of b.record_is) (replicate (112 * parts_of (length (own_spelling (plain_of b.record_is))) - length (own_spelling (plain_of b.record_is))) 0) sound_b)) in
    λ i. record { record_is = one i; slots = e i }

-- ---- the records that begin in a block

-- pairs of what is mapped
pairs_mapped : {X Y : Type 0} (f : X → Y) (R : Y → Y → Type 0) (xs : List X)
    → AllPairs (λ a b. R (f a) (f b)) xs → AllPairs R (map f xs)
pairs_mapped f R [] all i j d less lt = absurd (omega (arith, lt))
pairs_mapped f R (x ∷ xs) all i j d less lt =
    let near : j < length (x ∷ xs) = omega (arith, lt, length-map xs f) in
    rw (get_or-map f (x ∷ xs) i x d (omega (arith, less, near)), get_or-map f (x ∷ xs) j x d near)
    (all i j x less near)

mapped_pairs : {X Y : Type 0} (f : X → Y) (R : Y → Y → Type 0) (xs : List X) → AllPairs R (map f xs)
    → AllPairs (λ a b. R (f a) (f b)) xs
mapped_pairs f R xs all i j d less lt =
    rw (get_or-map f xs i d (f d) (omega (arith, less, lt)), get_or-map f xs j d (f d) lt) at (all i
    j (f d) less (omega (arith, lt, length-map xs f)))

none_key : (ss : List Stored) (b : ℕ) → All (λ s. key s ≢ b) ss → filter (λ s. key s == b) ss ≡ []
none_key [] b apart = refl
none_key (s ∷ ss) b apart =
    let here : eqb (key s) b ≡ false = ne_eqb (key s) b (apart 0 s (omega arith)) in
    rw here (none_key ss b (All-tail (λ (t : Stored). key t ≢ b) s ss apart))

pub one_key : (ss : List Stored) (s : Stored) (b : ℕ) → AllPairs (λ a c. key a ≢ key c) ss → Contains ss s → key s ≡ b → filter (λ t. key t == b) ss ≡ s ∷ []
one_key [] s b apart (k, lt, is) e = absurd (omega (arith, lt))
one_key (x ∷ xs) s b apart (zero, lt, is) e =
    let here : eqb (key x) b ≡ true = eq-eqb (key x) b (ap key is ∙ e) in
    let none : filter (λ t. key t == b) xs ≡ [] = none_key xs b (λ k d lk same. apart 0 (suc k) d (omega arith) (omega (arith, lk)) (ap key is ∙ e ∙ sym same)) in
    rw (here, none) (ap (λ (t : Stored). t ∷ []) is)
one_key (x ∷ xs) s b apart (suc k, lt, is) e =
    let there : Contains xs s = (k, omega (arith, lt), is) in
    let other : eqb (key x) b ≡ false = ne_eqb (key x) b (λ same. apart 0 (suc k) s (omega arith) lt (same ∙ sym e ∙ ap key (sym is))) in
    rw other (one_key xs s b (λ i j d l within. apart (suc i) (suc j) d (omega (arith, l)) (omega (arith, within))) there e)

-- ---- all blocks, one after the other

pub record IsFoundUpTo (blocks : List ℕ) (k : ℕ) (S : List Stored) : Type 0 where
  pub each : All (λ s. IsFoundAt blocks (key s) s) S
  pub rising : AllPairs (λ a b. key a < key b) S
  pub low : All (λ s. key s < k + 4) S
  pub seen : (j : ℕ) → j < k → (block_at blocks (j + 4) ≡ unused_block (j + 4)) ⊎ IsLater blocks (j + 4) ⊎ ((s : Stored) × Contains S s × (key s ≡ j + 4))
  pub complete : (ss : List Stored) → All (λ s. IsRecord (plain_of s.record_is)) ss → Holds blocks (map placed_of ss) → S ≡ below ss k

pub found_none : (blocks : List ℕ) → IsFoundUpTo blocks 0 []
found_none blocks = record {
  each = All-nil (λ s. IsFoundAt blocks (key s) s);
  rising = λ i j d l lt. absurd (omega (arith, lt));
  low = All-nil (λ s. key s < 0 + 4);
  seen = λ j lt. absurd (omega (arith, lt));
  complete = λ ss sound holds. refl;
}

unused_parts : (blocks : List ℕ) (k : ℕ) → block_at blocks (k + 4) ≡ unused_block (k + 4) → parts blocks k ≡ 0
unused_parts blocks k is =
    let f : HasFields blocks k 0 0 0 (replicate 112 0) = fields_of blocks k (k + 4) (k + 4) 0 0 0 (replicate 112 0) refl is (omega arith) (omega arith) (omega arith) in f.parts

module _ (blocks : List ℕ) (k : ℕ) (small : length blocks ≤ 1048576) (lt : k < count blocks) (S : List Stored) (w : IsFoundUpTo blocks k S) where
  -- a block in which no record begins
  pub found_nothing : (block_at blocks (k + 4) ≡ unused_block (k + 4)) ⊎ IsLater blocks (k + 4) → IsFoundUpTo blocks (k + 1) S
  found_nothing here = record {
    each = w.each;
    rising = w.rising;
    low = All-weaker (λ s. key s < k + 4) (λ s. key s < k + 1 + 4) (λ s l. omega (arith, l)) S w.low;
    seen = λ j l. elim (cases_eq j k) [
      | inl is ↦ subst (λ (n : ℕ). (block_at blocks (n + 4) ≡ unused_block (n + 4)) ⊎ IsLater blocks (n + 4) ⊎ ((s : Stored) × Contains S s × (key s ≡ n + 4))) (sym is) (⊎_elim (λ a. inl a) (λ b. inr (inl b)) here)
      | inr ne ↦ w.seen j (omega (arith, l, ne))
    ];
    complete = λ ss sound holds.
        let none : filter (λ s. key s == k + 4) ss ≡ [] = none_key ss (k + 4)
        (begins_none ss holds) in
        let one : suc k ≡ k + 1 = omega arith in
        w.complete ss sound holds ∙ sym (append-nil (below ss k)) ∙ ap (λ (l : List Stored). below ss k ++ l) (sym none) ∙ ap (below ss) one;
  }
    where
      at_k : k + 4 - 4 ≡ k
      at_k = omega arith

      begins_none : (ss : List Stored) → Holds blocks (map placed_of ss)
          → All (λ s. key s ≢ k + 4) ss
      begins_none ss holds i d li e =
          let is : IsPlaced blocks (placed_of (get_or ss i d)) = all_from_map placed_of
          (IsPlaced blocks) ss holds.placed i d li in
          let some = (few_slots blocks (placed_of (get_or ss i d)) is).0 in
          let has = part_fields blocks (placed_of (get_or ss i d)) 0 k small is (omega (arith, some)) e in
          ⊎_elim
          (λ unused. let none = unused_parts blocks k unused in let n = has.parts in absurd (omega (arith, none, n, some)))
          (λ later. let p = has.part in let q : part blocks (k + 4 - 4) ≡ part blocks k = ap (part blocks) at_k in let l = later.some in absurd (omega (arith, p, q, l)))
          here

  -- a block in which a record begins
  pub found_more : (s : Stored) → IsFoundAt blocks (k + 4) s → IsFoundUpTo blocks (k + 1) (S ++ s ∷ [])
  found_more s found =
      let at : key s ≡ k + 4 = key_is blocks (k + 4) s found in
      let here : IsFoundAt blocks (key s) s = subst (λ (b : ℕ). IsFoundAt blocks b s) (sym at) found in
      record {
        each = All-push (λ t. IsFoundAt blocks (key t) t) S s w.each here;
        rising = all_pairs_push (λ a b. key a < key b) S s w.rising (λ i d li. let l = w.low i d li in omega (arith, l, at));
        low = All-push (λ t. key t < k + 1 + 4) S s (All-weaker (λ t. key t < k + 4) (λ t. key t < k + 1 + 4) (λ t l. omega (arith, l)) S w.low) (omega (arith, at));
        seen = λ j l. elim (cases_eq j k) [
          | inl is ↦ inr (inr (s, Contains-push S s, at ∙ ap (λ (n : ℕ). n + 4) (sym is)))
          | inr ne ↦ ⊎_elim (λ a. inl a) (λ b. inr (⊎_elim (λ c. inl c) (λ d. inr (d.0, Contains-append_left S (s ∷ []) d.0 d.1, d.2)) b)) (w.seen j (omega (arith, l, ne)))
        ];
        complete = λ ss sound holds.
            let first : IsFirstPart blocks (k + 4) = found.first in
            let some : 1 ≤ parts blocks k = (let e : parts blocks (k + 4 - 4) ≡ parts blocks k = ap (parts blocks) at_k in let l = found.some in omega (arith, e, l)) in
            let h = held_first blocks ss k small lt sound holds first some in
            let slots : s.slots ≡ h.s.slots = found.slots_are ∙ ap (slots_by blocks (k + 4)) (ap (parts blocks) at_k) ∙ h.slots_are in
            let same : s ≡ h.s = one_placed blocks s h.s small found.placed h.placed found.sound h.sound slots in
            let one : filter (λ t. key t == k + 4) ss ≡ s ∷ [] = one_key ss h.s (k + 4)
            (mapped_pairs placed_of (λ r s. slot r 0 ≢ slot s 0) ss holds.apart) h.there h.key
            ∙ ap (λ (t : Stored). t ∷ []) (sym same) in
            let next : suc k ≡ k + 1 = omega arith in
            ap (λ (l : List Stored). l ++ s ∷ []) (w.complete ss sound holds) ∙ ap (λ (l : List Stored). below ss k ++ l) (sym one) ∙ ap (below ss) next;
      }
    where
      at_k : k + 4 - 4 ≡ k
      at_k = omega arith

-- ---- at the end

-- slot p of a record that was found
later_slot : (blocks : List ℕ) (s : Stored) (p : ℕ) → IsFoundAt blocks (key s) s → 1 ≤ p → p < parts blocks (key s - 4) → (p < length s.slots) × (slice_index s.slots p ≡ part_at blocks (key s) p)
unfolding slots_by
later_slot blocks s p found some lt =
    let n : ℕ = parts blocks (key s - 4) in
    let f : ℕ → ℕ = part_at blocks (key s) in
    let size : length s.slots ≡ 1 + length (map f (numbers_from 1 (n - 1))) = ap (λ (l : List ℕ). length l) found.slots_are ∙ (let e : suc (length (map f (numbers_from 1 (n - 1)))) ≡ 1 + length (map f (numbers_from 1 (n - 1))) = omega arith in e) in
    let many = length-map (numbers_from 1 (n - 1)) f in
    let count_of = numbers_length 1 (n - 1) in
    let q : ℕ = p - 1 in
    let next : p ≡ suc q = omega (arith, some) in (
      omega (arith, size, many, count_of, lt, some),
      ap (λ (l : List ℕ). slice_index l p) found.slots_are ∙ ap (λ (m : ℕ). slice_index (key s ∷ map f (numbers_from 1 (n - 1))) m) next
          ∙ map_at f 1 (n - 1) q (omega (arith, lt, some)) ∙ ap f (let e : 1 + q ≡ p = omega (arith, some) in e),
    )

pub found_holds : (blocks : List ℕ) (n : ℕ) (S : List Stored) → count blocks ≤ n → IsFoundUpTo blocks n S → Holds blocks (map placed_of S)
found_holds blocks n S le w = record {
  placed = All-map (IsPlaced blocks) placed_of S (All-weaker (λ s. IsFoundAt blocks (key s) s)
      (λ s. IsPlaced blocks (placed_of s)) (λ s found. found.placed) S w.each);
  apart = pairs_mapped placed_of (λ r s. slot r 0 ≢ slot s 0) S
      (λ i j d less lt e. let rising = w.rising i j d less lt in absurd (omega (arith, rising, e)));
  unused = λ number in_use avoid.
      let low = in_use.0 in
      let high = in_use.1 in
      let j : ℕ = number - 4 in
      let at : j + 4 ≡ number = omega (arith, low) in
      let avoid_key : (s : Stored) → Contains S s → All (λ m. m ≢ number) s.slots = λ s there.
      All-contains (λ s. All (λ m. m ≢ number) s.slots) S s
      (all_from_map placed_of (λ r. All (λ m. m ≢ number) r.slots) S avoid) there in
      elim (w.seen j (omega (arith, low, high, le))) [
        | inl unused ↦ subst (λ (b : ℕ). block_at blocks b ≡ unused_block b) at unused
        | inr (inr (s, there, e)) ↦ absurd (not_first s number (avoid_key s there) (All-contains (λ t. IsFoundAt blocks (key t) t) S s w.each there) (e ∙ at))
        | inr (inl later) ↦ absurd (not_later number (subst (IsLater blocks) at later) low high avoid_key)
      ];
}
  where
    not_first : (s : Stored) (number : ℕ) → All (λ m. m ≢ number) s.slots → IsFoundAt blocks (key s) s → key s ≡ number → ⊥
    not_first s number avoid found e =
        let some = found.placed.some in
        let whole = found.placed.whole in
        avoid 0 0 (omega (arith, some, whole)) e

    not_later : (number : ℕ) → IsLater blocks number → 4 ≤ number → number < count blocks + 4 → ((s : Stored) → Contains S s → All (λ m. m ≢ number) s.slots) → ⊥
    not_later number later low high avoid =
        let g : ℕ = group blocks (number - 4) in
        let p : ℕ = part blocks (number - 4) in
        let low_g = later.low in
        let high_g = later.high in
        let at_g : g - 4 + 4 ≡ g = omega (arith, low_g) in
        let at_h : g - 4 + 4 - 4 ≡ g - 4 = omega (arith, low_g) in
        elim (w.seen (g - 4) (omega (arith, low_g, high_g, le))) [
          | inl unused ↦ (let none = unused_parts blocks (g - 4) unused in let many = later.below in absurd (omega (arith, none, many)))
          | inr (inl other) ↦ (let first = later.first.part_is in let some = other.some in let same : part blocks (g - 4 + 4 - 4) ≡ part blocks (g - 4) = ap (part blocks) at_h in absurd (omega (arith, first, some, same)))
          | inr (inr (s, there, e)) ↦
              (let found = All-contains (λ t. IsFoundAt blocks (key t) t) S s w.each there in
              let key_g : key s ≡ g = e ∙ at_g in
              let spot = later_slot blocks s p found later.some (subst (λ (b : ℕ). p < parts blocks (b - 4)) (sym key_g) later.below) in
              avoid s there p 0 spot.0 (spot.1 ∙ ap (λ (b : ℕ). part_at blocks b p) key_g ∙ later.at))
        ]

-- those that were found are those that are held
pub found_all : (blocks : List ℕ) (n : ℕ) (S ss : List Stored) → count blocks ≤ n → IsFoundUpTo blocks n S → All (λ s. IsRecord (plain_of s.record_is)) ss → Holds blocks (map placed_of ss) → IsPermutation ss S
found_all blocks n S ss le w sound holds =
    let used : All (λ s. (4 ≤ key s) × (key s < n + 4)) ss = All-weaker
    (λ s. IsInUse blocks (key s)) (λ s. (4 ≤ key s) × (key s < n + 4))
    (λ s in_use. (in_use.0, omega (arith, in_use.1, le))) ss
    (all_used blocks ss holds.placed) in
    subst (IsPermutation ss) (sym (w.complete ss sound holds)) (all_below n ss used)

-- ---- What was found, sorted, is the records of the database.

abbrev content : Found → Record
content f = f.content

twice : (found : List Found) → map record_of (map stored_of found) ≡ map content found
twice [] = refl
twice (f ∷ found) = ap (λ (l : List Record). f.content ∷ l) (twice found)

slots_twice : (found : List Found) → map (λ (s : Stored). s.slots) (map stored_of found) ≡ map (λ (f : Found). f.slots) found
slots_twice [] = refl
slots_twice (f ∷ found) = ap (λ (l : List (List ℕ)). f.slots ∷ l) (slots_twice found)

-- where the records are those of the database, in their order, the slots are its table
pub table_held : (blocks : List ℕ) (records : List Record) (found sorted : List Found) (table : List (List ℕ)) → AreFound blocks (map stored_of found) → IsPermutation found sorted
    → map (λ (f : Found). f.content) sorted ≡ records → table ≡ map (λ (f : Found). f.slots) sorted → HoldsTable blocks records table
table_held blocks records found sorted table are same is slots =
    let G : List Stored = map stored_of sorted in
    let moved : IsPermutation (map stored_of found) G = IsPermutation-map stored_of found sorted same in
    let records_are : map record_of G ≡ records = twice sorted ∙ is in
    let table_is : table ≡ map (λ (s : Stored). s.slots) G = slots ∙ sym (slots_twice sorted) in
    let stored : stored_at records table ≡ G =
    ap (λ (l : List Record). stored_at l table) (sym records_are) ∙ ap (stored_at (map record_of G)) table_is ∙ stored_again G in
    record {
      one_each = ap (λ (l : List (List ℕ)). length l) slots
          ∙ length-map sorted (λ (f : Found). f.slots) ∙ sym (length-map sorted content)
          ∙ ap (λ (l : List Record). length l) is;
      sound = subst (λ (l : List Record). All (λ r. IsRecord (plain_of r)) l) records_are
          (All-map (λ r. IsRecord (plain_of r)) record_of G
          (All-permutation (λ s. IsRecord (plain_of s.record_is)) (map stored_of found) G moved
          are.sound));
      holds = subst (λ (l : List Stored). Holds blocks (map placed_of l)) (sym stored)
          (hold_permuted blocks (map placed_of (map stored_of found)) (map placed_of G) (IsPermutation-map placed_of (map stored_of found) G moved) are.holds);
    }

-- where the blocks store the database's records, these are what was found
pub found_records : (blocks : List ℕ) (records : List Record) (found sorted : List Found) → AreFound blocks (map stored_of found) → IsPermutation found sorted
    → IsNonDecreasingBy (λ (f : Found). place_of f.content) sorted → Rising records → Store blocks records → map (λ (f : Found). f.content) sorted ≡ records
found_records blocks records found sorted are same up rising store =
    let F : List Stored = map stored_of found in
    let held : IsPermutation store.stored F = are.only store.stored store.sound store.holds in
    let first : IsPermutation (map record_of store.stored) (map record_of F) = IsPermutation-map record_of store.stored F held in
    let second : IsPermutation (map record_of F) (map content sorted) = subst (λ (l : List Record). IsPermutation l (map content sorted)) (sym (twice found)) (IsPermutation-map content found sorted same) in
    let whole : IsPermutation records (map content sorted) =
    IsPermutation-trans records (map record_of store.stored) (map content sorted) (IsPermutation-sym (map record_of store.stored) records store.once)
    (IsPermutation-trans (map record_of store.stored) (map record_of F) (map content sorted) first second) in
    let apart : AllPairs (λ a b. place_of a ≢ place_of b) records = λ i j d lt within e. let less = rising i j d lt within in absurd (omega (arith, less, e)) in
    let moved : AllPairs (λ a b. place_of a ≢ place_of b) (map content sorted) = apart_permuted place_of records (map content sorted) whole apart in
    let each = mapped_pairs content (λ a b. place_of a ≢ place_of b) sorted moved in
    let strict : AllPairs (λ a b. place_of (content a) < place_of (content b)) sorted =
    strictly (λ (f : Found). place_of f.content) sorted up (λ k d lt. each k (k + 1) d (omega arith) (omega (arith, lt))) in
    one_rising records (map content sorted) records whole (IsPermutation-refl records)
    (pairs_mapped content (λ a b. place_of a < place_of b) sorted strict) rising
