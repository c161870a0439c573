-- Blocks that hold records join to these records, wherever the parts stand; in order they rise.
use Rattle.std.proofs.Common.{◌≡◌, ◌≢◌, ◌⊎◌, ◌==◌, ℕ, zero, suc, ◌+◌, ◌-◌, ◌*◌, ◌<◌, ◌≤◌, true, false, eqb, List, [], ◌∷◌, ◌++◌, length, take, drop, map, filter, replicate, get_or, slice_index, All, AllPairs, refl, sym, ap, subst, ◌∙◌, arith, inl, inr, add-one}
use Rattle.std.proofs.Math.Seq.{take-add}
use Rattle.std.proofs.lemmas.Bool.{cases_lt, eqb-true, eq-eqb, leb-true, ne_eqb, cases_eq, cases_Bool, and_parts}
use Rattle.std.proofs.lemmas.List.{length-append, length-replicate, length-drop, length-take-le, take_all, take_more}
use Rattle.ldm_frags.specs.declared.faults.Joined.{Joined}
use Rattle.ldm_frags.specs.Blocks.{count, has_magic, group, part, parts, payload, is_fragment, is_of, is_part, least_below, numbers_from, block_at, written_block}
use Rattle.ldm_frags.specs.Joins.{gathered, entry, entries, Joins}
use Rattle.ldm_vmdb.specs.Parts.{parts_of, blocks_needed, IsSized}
use Rattle.ldm_written.specs.Written.{filled, part_bytes, Placed, slot, IsPlaced, Holds, joined_of, joined_below, unused_block, laid_in_order}
use Rattle.ldm_frags.proofs.Below.{flat_map_below, none_from, least_is, flat_map_same}
use Rattle.ldm_frags.proofs.JoinLaws.{gathered_none, gathered_more, frag_is, entry_none, entry_later, entry_whole, entry_first, one_entry}
use Rattle.ldm_frags.proofs.BlockLaws.{HasFields, fields_of}
use Rattle.std.proofs.lemmas.List.Sums.{sum_by-cons, sum_by_push, sum_by-take-le}
use Rattle.std.proofs.lemmas.List.Elements.{All-append, All-cons, All-tail}
use Rattle.std.proofs.lemmas.List.Kept.{AllPairs-cons}

-- ---- Blocks that hold records join to these records, wherever the parts stand.

-- ---- lists of records

abbrev pub nowhere : Placed
nowhere = record { payload = []; slots = [] }

abbrev pub record_at : List Placed → ℕ → Placed
record_at records m = get_or records m nowhere

AllPairs-rest : {X : Type 0} (R : X → X → Type 0) (x : X) (xs : List X) → AllPairs R (x ∷ xs) → AllPairs R xs
AllPairs-rest R x xs all i j d below lt = all (suc i) (suc j) d (omega arith) (omega arith)

pub find_number : (numbers : List ℕ) (b : ℕ) → ((i : ℕ) × (i < length numbers) × (slice_index numbers i ≡ b)) ⊎ All (λ s. s ≢ b) numbers
find_number [] b = inr (λ k d lt. absurd (omega arith))
find_number (x ∷ xs) b =
    elim (cases_eq x b) [
      | inl here ↦ inl (0, (omega arith), here)
      | inr apart ↦ elim (find_number xs b) [
        | inl found ↦ let lt = found.1 in inl (suc found.0, (omega arith), found.2)
        | inr none ↦ inr (All-cons (λ (s : ℕ). s ≢ b) x xs apart none)
      ]
    ]

-- the record and the part whose slot has that number
pub record Spot (records : List Placed) (b : ℕ) : Type 0 where
  pub m : ℕ
  pub i : ℕ
  pub in_records : m < length records
  pub in_slots : i < length (record_at records m).slots
  pub there : slot (record_at records m) i ≡ b

abbrev pub IsFree : List Placed → ℕ → Type 0
IsFree records b = All (λ r. All (λ s. s ≢ b) r.slots) records

pub find_slot : (records : List Placed) (b : ℕ) → Spot records b ⊎ IsFree records b
find_slot [] b = inr (λ k d lt. absurd (omega arith))
find_slot (r ∷ rs) b =
    elim (find_number r.slots b) [
      | inl here ↦ inl (record { m = 0; i = here.0; in_records = omega arith; in_slots = here.1; there = here.2 })
      | inr none ↦ elim (find_slot rs b) [
        | inl found ↦ let lt = found.in_records in inl (record { m = suc found.m; i = found.i; in_records = omega arith; in_slots = found.in_slots; there = found.there })
        | inr free ↦ inr (All-cons (λ (s : Placed). All (λ (n : ℕ). n ≢ b) s.slots) r rs none free)
      ]
    ]

abbrev pub AreApart : List Placed → Type 0
AreApart records = AllPairs (λ r s. slot r 0 ≢ slot s 0) records

-- the records that begin at a number
abbrev begin_at : List Placed → ℕ → List Placed
begin_at records b = filter (λ r. slot r 0 == b) records

begin_none : (records : List Placed) (b : ℕ) → All (λ r. slot r 0 ≢ b) records → begin_at records b ≡ []
begin_none [] b apart = refl
begin_none (r ∷ rs) b apart =
    let here : eqb (slot r 0) b ≡ false = ne_eqb _ _ (apart 0 r (omega arith)) in
    rw here (begin_none rs b (All-tail (λ (s : Placed). slot s 0 ≢ b) r rs apart))

begin_one : (records : List Placed) (m : ℕ) → AreApart records → m < length records → begin_at records (slot (record_at records m) 0) ≡ record_at records m ∷ []
begin_one [] m apart lt = absurd (omega arith)
begin_one (r ∷ rs) zero apart lt =
    let here : eqb (slot r 0) (slot r 0) ≡ true = eq-eqb _ _ refl in
    let none : begin_at rs (slot r 0) ≡ [] = begin_none rs (slot r 0) (λ k d below. λ e. apart 0 (suc k) d (omega arith) (omega arith) (sym e)) in
    rw (here, none) refl
begin_one (r ∷ rs) (suc m) apart lt =
    let other : eqb (slot r 0) (slot (record_at rs m) 0) ≡ false = ne_eqb _ _ (apart 0 (suc m) nowhere (omega arith) (omega arith)) in
    rw other (begin_one rs m (AllPairs-rest (λ (a b : Placed). slot a 0 ≢ slot b 0) r rs apart) (omega arith))

-- records that begin at one number are one
pub same_record : (records : List Placed) (m n : ℕ) → AreApart records → m < length records → n < length records → slot (record_at records m) 0 ≡ slot (record_at records n) 0 → m ≡ n
same_record records m n apart lm ln e =
    elim (cases_lt m n) [
      | inl lt ↦ absurd (apart m n nowhere lt ln e)
      | inr le ↦ elim (cases_lt n m) [
        | inl lt ↦ absurd (apart n m nowhere lt lm (sym e))
        | inr ge ↦ omega arith
      ]
    ]

-- ---- the bytes of parts

pub filled_length : (bytes : List ℕ) → length (filled bytes) ≡ 112 * parts_of (length bytes)
filled_length bytes = simp (length-append, length-replicate) (omega arith)

pub part_length : (bytes : List ℕ) (i : ℕ) → i < parts_of (length bytes) → length (part_bytes bytes i) ≡ 112
part_length bytes i lt =
    let whole = filled_length bytes in
    let rest = length-drop (112 * i) (filled bytes) in
    length-take-le 112 (drop (112 * i) (filled bytes)) (omega arith)

-- the parts in their order are the filled payload
pub parts_more : (bytes : List ℕ) (i : ℕ) → take (112 * i) (filled bytes) ++ part_bytes bytes i ≡ take (112 * (i + 1)) (filled bytes)
parts_more bytes i = sym (ap (λ (n : ℕ). take n (filled bytes)) (omega arith) ∙ take-add (112 * i) 112 (filled bytes))

-- ---- what stands in a block

-- block k holds part i of record m, or it is free
pub data Stands (blocks : List ℕ) (records : List Placed) (k : ℕ) : Type 0 where
  in_record : (m i : ℕ) → m < length records → i < length (record_at records m).slots → slot (record_at records m) i ≡ k + 4
      → HasFields blocks k (slot (record_at records m) 0) i (length (record_at records m).slots) (part_bytes (record_at records m).payload i) → Stands blocks records k
  free : IsFree records (k + 4) → HasFields blocks k 0 0 0 (replicate 112 0) → Stands blocks records k

pub few_slots : (blocks : List ℕ) (r : Placed) → IsPlaced blocks r → (1 ≤ length r.slots) × (length r.slots ≤ 4)
few_slots blocks r is =
    let some = is.some in
    let few = is.few in
    let whole = is.whole in
    (omega arith, omega arith)

pub small_count : (blocks : List ℕ) → length blocks ≤ 1048576 → count blocks ≤ 8192
small_count blocks le = omega arith

-- part i of a record that is placed
pub part_fields : (blocks : List ℕ) (r : Placed) (i k : ℕ) → length blocks ≤ 1048576 → IsPlaced blocks r → i < length r.slots → slot r i ≡ k + 4 → HasFields blocks k (slot r 0) i (length r.slots) (part_bytes r.payload i)
part_fields blocks r i k small is lt e =
    let few = few_slots blocks r is in
    let few_0 = few.0 in
    let few_1 = few.1 in
    let first = is.within 0 (omega arith) in
    let below = first.1 in
    let n = small_count blocks small in
    fields_of blocks k (slot r i) (slot r i) (slot r 0) i (length r.slots) (part_bytes r.payload i) e (is.written i lt) (omega arith) (omega arith) (omega arith)

pub stands : (blocks : List ℕ) (records : List Placed) → length blocks ≤ 1048576 → Holds blocks records → (k : ℕ) → k < count blocks → Stands blocks records k
stands blocks records small holds k lt =
    elim (find_slot records (k + 4)) [
      | inl found ↦
          in_record found.m found.i found.in_records found.in_slots found.there
          (part_fields blocks (record_at records found.m) found.i k small (holds.placed found.m nowhere found.in_records) found.in_slots found.there)
      | inr none ↦
          free none (fields_of blocks k (k + 4) (k + 4) 0 0 0 (replicate 112 0) refl (holds.unused (k + 4) (omega arith, omega arith) none) (omega arith) (omega arith) (omega arith))
    ]

not_free : (blocks : List ℕ) (k g p : ℕ) (bytes : List ℕ) → HasFields blocks k g p 0 bytes → is_fragment blocks k ≡ true → ⊥
not_free blocks k g p bytes has frag =
    let two = leb-true 2 (parts blocks k) frag in
    let none = has.parts in
    omega arith

has_magic_held : (blocks : List ℕ) (records : List Placed) (k : ℕ) → Stands blocks records k → has_magic blocks k ≡ true
has_magic_held blocks records k (in_record m i lm li e has) = has.magic
has_magic_held blocks records k (free none has) = has.magic

pub few_held : (blocks : List ℕ) (records : List Placed) (k : ℕ) → Holds blocks records → Stands blocks records k → parts blocks k ≤ 4
few_held blocks records k holds (in_record m i lm li e has) =
    let few = few_slots blocks (record_at records m) (holds.placed m nowhere lm) in
    let few_1 = few.1 in
    let n = has.parts in
    omega arith
few_held blocks records k holds (free none has) = let n = has.parts in omega arith

below_held : (blocks : List ℕ) (records : List Placed) (k : ℕ) → is_fragment blocks k ≡ true → Stands blocks records k → part blocks k < parts blocks k
below_held blocks records k frag (in_record m i lm li e has) = let n = has.parts in let p = has.part in omega arith
below_held blocks records k frag (free none has) = absurd (not_free blocks k 0 0 (replicate 112 0) has frag)

one_count_held : (blocks : List ℕ) (records : List Placed) (j k : ℕ) → Holds blocks records → is_fragment blocks k ≡ true → is_of blocks (group blocks k) j ≡ true → Stands blocks records j → Stands blocks records k → parts blocks j ≡ parts blocks k
one_count_held blocks records j k holds frag of (free none has) other =
    absurd (not_free blocks j 0 0 (replicate 112 0) has (and_parts (is_fragment blocks j) (eqb (group blocks j) (group blocks k)) of).0)
one_count_held blocks records j k holds frag of (in_record m i lm li e has) (free none has_k) = absurd (not_free blocks k 0 0 (replicate 112 0) has_k frag)
one_count_held blocks records j k holds frag of (in_record m i lm li e has) (in_record n l ln ll e_k has_k) =
    let groups : group blocks j ≡ group blocks k = eqb-true _ _ (and_parts (is_fragment blocks j) (eqb (group blocks j) (group blocks k)) of).1 in
    let same : m ≡ n = same_record records m n holds.apart lm ln (sym has.group ∙ groups ∙ has_k.group) in
    has.parts ∙ ap (λ (x : ℕ). length (record_at records x).slots) same ∙ sym has_k.parts

pub once_held : (blocks : List ℕ) (records : List Placed) (j k : ℕ) → Holds blocks records → is_fragment blocks k ≡ true → is_part blocks (group blocks k) (part blocks k) j ≡ true → Stands blocks records j → Stands blocks records k → j ≡ k
once_held blocks records j k holds frag is (free none has) other =
    let of = (and_parts (is_of blocks (group blocks k) j) (eqb (part blocks j) (part blocks k)) is).0 in
    absurd (not_free blocks j 0 0 (replicate 112 0) has (and_parts (is_fragment blocks j) (eqb (group blocks j) (group blocks k)) of).0)
once_held blocks records j k holds frag is (in_record m i lm li e has) (free none has_k) = absurd (not_free blocks k 0 0 (replicate 112 0) has_k frag)
once_held blocks records j k holds frag is (in_record m i lm li e has) (in_record n l ln ll e_k has_k) =
    let both = and_parts (is_of blocks (group blocks k) j) (eqb (part blocks j) (part blocks k)) is in
    let groups : group blocks j ≡ group blocks k = eqb-true _ _ (and_parts (is_fragment blocks j) (eqb (group blocks j) (group blocks k)) both.0).1 in
    let same : m ≡ n = same_record records m n holds.apart lm ln (sym has.group ∙ groups ∙ has_k.group) in
    let part_is : i ≡ l = sym has.part ∙ eqb-true _ _ both.1 ∙ has_k.part in
    let slots : j + 4 ≡ k + 4 = sym e ∙ ap (λ (x : ℕ). slot (record_at records x) i) same ∙ ap (slot (record_at records n)) part_is ∙ e_k in
    omega arith

-- a part of a record of two parts or more is that part of its group
pub part_is : (blocks : List ℕ) (k g p n : ℕ) (bytes : List ℕ) → HasFields blocks k g p n bytes → 2 ≤ n → is_part blocks g p k ≡ true
part_is blocks k g p n bytes has le =
    let frag : is_fragment blocks k ≡ true = frag_is blocks k n (sym has.parts) le in
    let in_group : eqb (group blocks k) g ≡ true = eq-eqb _ _ has.group in
    let part : eqb (part blocks k) p ≡ true = eq-eqb _ _ has.part in
    rw (frag, in_group, part) refl

-- the place of part p of record m
pub place_of : (blocks : List ℕ) (records : List Placed) (m p : ℕ) → Holds blocks records → m < length records → p < length (record_at records m).slots → (j : ℕ) × (j < count blocks) × (slot (record_at records m) p ≡ j + 4)
place_of blocks records m p holds lm lp =
    let in_use = (holds.placed m nowhere lm).within p lp in
    let in_use_0 = in_use.0 in
    let in_use_1 = in_use.1 in
    (slot (record_at records m) p - 4, (omega arith), (omega arith))

complete_held : (blocks : List ℕ) (records : List Placed) (k p : ℕ) → length blocks ≤ 1048576 → Holds blocks records → is_fragment blocks k ≡ true → p < parts blocks k → Stands blocks records k → (j : ℕ) × (j < count blocks) × (is_part blocks (group blocks k) p j ≡ true)
complete_held blocks records k p small holds frag lp (free none has) = absurd (not_free blocks k 0 0 (replicate 112 0) has frag)
complete_held blocks records k p small holds frag lp (in_record m i lm li e has) =
    let n = has.parts in
    let lp' : p < length (record_at records m).slots = omega arith in
    let place = place_of blocks records m p holds lm lp' in
    let has_p = part_fields blocks (record_at records m) p place.0 small (holds.placed m nowhere lm) lp' place.2 in
    let two = leb-true 2 (parts blocks k) frag in
    (place.0, place.1, subst (λ (g : ℕ). is_part blocks g p place.0 ≡ true) (sym has.group) (part_is blocks place.0 (slot (record_at records m) 0) p (length (record_at records m).slots) _ has_p (omega arith)))

-- ---- the entries

-- the least block of a part is its slot
pub least_of : (blocks : List ℕ) (records : List Placed) (m p j : ℕ) → length blocks ≤ 1048576 → Holds blocks records → m < length records → p < length (record_at records m).slots → 2 ≤ length (record_at records m).slots → j < count blocks → slot (record_at records m) p ≡ j + 4
    → least_below (count blocks) (is_part blocks (slot (record_at records m) 0) p) ≡ j
least_of blocks records m p j small holds lm lp two lj e =
    let has = part_fields blocks (record_at records m) p j small (holds.placed m nowhere lm) lp e in
    let here = part_is blocks j (slot (record_at records m) 0) p (length (record_at records m).slots) (part_bytes (record_at records m).payload p) has two in
    let frag : is_fragment blocks j ≡ true = frag_is blocks j (length (record_at records m).slots) (sym has.parts) two in
    least_is (count blocks) j (is_part blocks (slot (record_at records m) 0) p) lj
    (none_from j (is_part blocks (slot (record_at records m) 0) p) (λ l below.
    elim (cases_Bool (is_part blocks (slot (record_at records m) 0) p l)) [
      | inr not ↦ not
      | inl is ↦
          let is_j : is_part blocks (group blocks j) (part blocks j) l ≡ true = subst (λ (g : ℕ). is_part blocks g (part blocks j) l ≡ true) (sym has.group) (subst (λ (q : ℕ). is_part blocks (slot (record_at records m) 0) q l ≡ true) (sym has.part) is) in
          let same = once_held blocks records l j holds frag is_j (stands blocks records small holds l (omega arith)) (stands blocks records small holds j lj) in
          absurd (omega arith)
    ]))
    here

gathered_held : (blocks : List ℕ) (records : List Placed) (m p : ℕ) → length blocks ≤ 1048576 → Holds blocks records → m < length records → 2 ≤ length (record_at records m).slots → p ≤ length (record_at records m).slots
    → gathered blocks (slot (record_at records m) 0) p ≡ take (112 * p) (filled (record_at records m).payload)
gathered_held blocks records m zero small holds lm two le = gathered_none blocks (slot (record_at records m) 0)
gathered_held blocks records m (suc p) small holds lm two le =
    let lp : p < length (record_at records m).slots = omega arith in
    let before = gathered_held blocks records m p small holds lm two (omega arith) in
    let place = place_of blocks records m p holds lm lp in
    let least = least_of blocks records m p place.0 small holds lm lp two place.1 place.2 in
    let has = part_fields blocks (record_at records m) p place.0 small (holds.placed m nowhere lm) lp place.2 in
    let bytes = ap (payload blocks) least ∙ has.payload in
    ap (gathered blocks (slot (record_at records m) 0)) (sym (add-one p)) ∙ gathered_more blocks (slot (record_at records m) 0) p
    ∙ ap (λ (x : List ℕ). x ++ payload blocks (least_below (count blocks) (is_part blocks (slot (record_at records m) 0) p))) before
    ∙ ap (λ (x : List ℕ). take (112 * p) (filled (record_at records m).payload) ++ x) bytes
    ∙ parts_more (record_at records m).payload p
    ∙ ap (λ (n : ℕ). take (112 * n) (filled (record_at records m).payload)) (add-one p)

all_parts : (blocks : List ℕ) (r : Placed) (n : ℕ) → IsPlaced blocks r → n ≡ length r.slots → take (112 * n) (filled r.payload) ≡ filled r.payload
all_parts blocks r n is e =
    let whole = is.whole in
    let len = filled_length r.payload in
    take_all (112 * n) (filled r.payload) (omega arith)

-- a block of part 0 adds its record
entry_begun : (blocks : List ℕ) (records : List Placed) (k m : ℕ) → length blocks ≤ 1048576 → Holds blocks records → m < length records → 0 < length (record_at records m).slots → slot (record_at records m) 0 ≡ k + 4
    → HasFields blocks k (slot (record_at records m) 0) 0 (length (record_at records m).slots) (part_bytes (record_at records m).payload 0) → entry blocks k ≡ joined_of (record_at records m) ∷ []
entry_begun blocks records k m small holds lm li e has =
    let n = has.parts in
    elim (cases_lt 1 (length (record_at records m).slots)) [
      | inl two ↦
          let all : gathered blocks (group blocks k) (parts blocks k) ≡ filled (record_at records m).payload =
          ap (λ (g : ℕ). gathered blocks g (parts blocks k)) has.group ∙ ap (gathered blocks (slot (record_at records m) 0)) has.parts
          ∙ gathered_held blocks records m (length (record_at records m).slots) small holds lm (omega arith) (omega arith)
          ∙ all_parts blocks (record_at records m) (length (record_at records m).slots) (holds.placed m nowhere lm) refl in
          entry_first blocks k (omega arith) has.part ∙ one_entry _ _ _ _ (sym e) all
      | inr one ↦
          let single : 1 ≡ length (record_at records m).slots = omega arith in
          entry_whole blocks k (omega arith) ∙ one_entry _ _ _ _ (sym e) (has.payload ∙ all_parts blocks (record_at records m) 1 (holds.placed m nowhere lm) single)
    ]

-- block k adds the records that begin there
entry_held : (blocks : List ℕ) (records : List Placed) (k : ℕ) → length blocks ≤ 1048576 → Holds blocks records → k < count blocks → Stands blocks records k → entry blocks k ≡ map joined_of (begin_at records (k + 4))
entry_held blocks records k small holds lt (free none has) =
    let nothing : begin_at records (k + 4) ≡ [] = begin_none records (k + 4) (λ m d lm.
    let few = few_slots blocks (get_or records m d) (holds.placed m d lm) in
    let few_0 = few.0 in
    none m d lm 0 0 (omega arith)) in
    entry_none blocks k has.parts ∙ sym (ap (map joined_of) nothing)
entry_held blocks records k small holds lt (in_record m zero lm li e has) =
    let r : Placed = record_at records m in
    let begins : begin_at records (k + 4) ≡ record_at records m ∷ [] = ap (begin_at records) (sym e) ∙ begin_one records m holds.apart lm in
    entry_begun blocks records k m small holds lm li e has ∙ sym (ap (map joined_of) begins)
entry_held blocks records k small holds lt (in_record m (suc i) lm li e has) =
    let n = has.parts in
    let p = has.part in
    let nothing : begin_at records (k + 4) ≡ [] = begin_none records (k + 4) (λ l d ll. λ first.
    let few = few_slots blocks (get_or records l d) (holds.placed l d ll) in
    let few_0 = few.0 in
    let has_l = part_fields blocks (get_or records l d) 0 k small (holds.placed l d ll) (omega arith) first in
    let p_l = has_l.part in
    absurd (omega arith)) in
    entry_later blocks k (omega arith) (omega arith) ∙ sym (ap (map joined_of) nothing)

joined_none : (records : List Placed) → joined_below records 0 ≡ []
unfolding joined_below
joined_none records = refl

joined_more : (records : List Placed) (k : ℕ) → joined_below records (suc k) ≡ joined_below records k ++ map joined_of (begin_at records (k + 4))
unfolding joined_below
joined_more records k = sym (ap (joined_below records) (add-one k)) ∙ flat_map_below (λ (j : ℕ). map joined_of (begin_at records (j + 4))) k

entries_held : (blocks : List ℕ) (records : List Placed) → length blocks ≤ 1048576
    → Holds blocks records → joined_below records (count blocks) ≡ entries blocks (count blocks)
unfolding joined_below entries
entries_held blocks records small holds =
    flat_map_same _ (entry blocks) (count blocks)
    (λ k lt. sym (entry_held blocks records k small holds lt
    (stands blocks records small holds k lt)))

-- Blocks that hold records, wherever their parts stand, join to these records in rising number of part 0.
pub holds_joins : (blocks : List ℕ) (records : List Placed) → length blocks ≤ 1048576 → Holds blocks records → Joins blocks (joined_below records (count blocks))
holds_joins blocks records small holds =
    let s = λ (k : ℕ) (lt : k < count blocks). stands blocks records small holds k lt in
    record {
      magic = λ k lt. has_magic_held blocks records k (s k lt);
      few = λ k lt. few_held blocks records k holds (s k lt);
      below = λ k lt frag. below_held blocks records k frag (s k lt);
      one_count = λ j k lj lk frag of. one_count_held blocks records j k holds frag of (s j lj) (s k lk);
      once = λ j k lj lk frag is. once_held blocks records j k holds frag is (s j lj) (s k lk);
      complete = λ k p lt frag lp. complete_held blocks records k p small holds frag lp (s k lt);
      entries_are = entries_held blocks records small holds;
    }

-- ---- records in rising order of their first blocks

-- none begins below
joined_before : (records : List Placed) (n : ℕ) → All (λ r. n + 4 ≤ slot r 0) records → joined_below records n ≡ []
joined_before records zero above = joined_none records
joined_before records (suc n) above =
    let before = joined_before records n (λ k d lt. let le = above k d lt in omega arith) in
    let here = begin_none records (n + 4) (λ k d lt e. let le = above k d lt in absurd (omega arith)) in
    joined_more records n ∙ ap (λ (x : List Joined). x ++ map joined_of (begin_at records (n + 4))) before ∙ ap (map joined_of) here

-- a first record that begins before all others comes first
joined_first : (r : Placed) (rs : List Placed) (n : ℕ) → All (λ s. slot r 0 < slot s 0) rs → 4 ≤ slot r 0 → slot r 0 < n + 4 → joined_below (r ∷ rs) n ≡ joined_of r ∷ joined_below rs n
joined_first r rs zero later low high = absurd (omega arith)
joined_first r rs (suc n) later low high =
    elim (cases_lt (slot r 0) (n + 4)) [
      | inl lt ↦
          let other : eqb (slot r 0) (n + 4) ≡ false = ne_eqb _ _ (λ e. absurd (omega arith)) in
          let skip : begin_at (r ∷ rs) (n + 4) ≡ begin_at rs (n + 4) = rw other refl in
          joined_more (r ∷ rs) n
          ∙ ap (λ (x : List Joined). x ++ map joined_of (begin_at (r ∷ rs) (n + 4))) (joined_first r rs n later low lt)
          ∙ ap (λ (x : List Placed). joined_of r ∷ joined_below rs n ++ map joined_of x) skip
          ∙ ap (λ (x : List Joined). joined_of r ∷ x) (sym (joined_more rs n))
      | inr ge ↦
          let at : slot r 0 ≡ n + 4 = omega arith in
          let same : eqb (slot r 0) (n + 4) ≡ true = eq-eqb _ _ at in
          let none : begin_at rs (n + 4) ≡ [] = begin_none rs (n + 4) (λ k d lt e. let after = later k d lt in absurd (omega arith)) in
          let only : begin_at (r ∷ rs) (n + 4) ≡ r ∷ [] = rw (same, none) refl in
          let before : joined_below (r ∷ rs) n ≡ [] = joined_before (r ∷ rs) n (All-cons (λ (s : Placed). n + 4 ≤ slot s 0) r rs (omega arith) (λ k d lt. let after = later k d lt in omega arith)) in
          let rest : joined_below rs (suc n) ≡ [] = joined_before rs (suc n) (λ k d lt. let after = later k d lt in omega arith) in
          joined_more (r ∷ rs) n
          ∙ ap (λ (x : List Joined). x ++ map joined_of (begin_at (r ∷ rs) (n + 4))) before
          ∙ ap (map joined_of) only
          ∙ ap (λ (x : List Joined). joined_of r ∷ x) (sym rest)
    ]

-- records that stand in rising order join to themselves
pub joined_rising : (records : List Placed) (n : ℕ) → AllPairs (λ r s. slot r 0 < slot s 0) records → All (λ r. (4 ≤ slot r 0) × (slot r 0 < n + 4)) records → joined_below records n ≡ map joined_of records
joined_rising [] n rising within = joined_before [] n (λ k d lt. absurd (omega arith))
joined_rising (r ∷ rs) n rising within =
    let here = within 0 r (omega arith) in
    joined_first r rs n (λ k d lt. rising 0 (suc k) d (omega arith) (omega arith)) here.0 here.1
    ∙ ap (λ (x : List Joined). joined_of r ∷ x) (joined_rising rs n (AllPairs-rest (λ (a b : Placed). slot a 0 < slot b 0) r rs rising) (All-tail (λ (s : Placed). (4 ≤ slot s 0) × (slot s 0 < n + 4)) r rs within))

-- ---- Records that stand one after the other without gaps.

pub numbers_length : (a n : ℕ) → length (numbers_from a n) ≡ n
numbers_length a zero = refl
numbers_length a (suc n) = let rest = numbers_length (a + 1) n in omega arith

pub numbers_at : (a n i : ℕ) → i < n → slice_index (numbers_from a n) i ≡ a + i
numbers_at a zero i lt = absurd (omega arith)
numbers_at a (suc n) zero lt = omega arith
numbers_at a (suc n) (suc i) lt = numbers_at (a + 1) n i (omega arith) ∙ omega arith

-- the record of one payload, from a block on
abbrev pub placed_from : ℕ → List ℕ → Placed
placed_from a bytes = record { payload = bytes; slots = numbers_from a (parts_of (length bytes)) }

pub need_cons : (bytes : List ℕ) (more : List (List ℕ)) → blocks_needed (bytes ∷ more) ≡ parts_of (length bytes) + blocks_needed more
need_cons bytes more = sum_by-cons (λ (b : List ℕ). parts_of (length b)) bytes more

pub need_push : (more : List (List ℕ)) (bytes : List ℕ) → blocks_needed (more ++ bytes ∷ []) ≡ blocks_needed more + parts_of (length bytes)
need_push more bytes = sum_by_push (λ (b : List ℕ). parts_of (length b)) more bytes

pub in_order_push : (a : ℕ) (more : List (List ℕ)) (bytes : List ℕ) → laid_in_order a (more ++ bytes ∷ []) ≡ laid_in_order a more ++ placed_from (a + blocks_needed more) bytes ∷ []
in_order_push a [] bytes = ap (λ (n : ℕ). placed_from n bytes ∷ []) (omega arith)
in_order_push a (first ∷ more) bytes =
    let next : a + parts_of (length first) + blocks_needed more ≡ a + blocks_needed (first ∷ more) = omega (arith, need_cons first more) in
    ap (λ (r : List Placed). placed_from a first ∷ r) (in_order_push (a + parts_of (length first)) more bytes)
    ∙ ap (λ (n : ℕ). placed_from a first ∷ laid_in_order (a + parts_of (length first)) more ++ placed_from n bytes ∷ []) next

-- every slot is one of the blocks from a on that the payloads need
pub in_order_within : (a : ℕ) (payloads : List (List ℕ)) → All (λ r. (i : ℕ) → i < length r.slots → (a ≤ slot r i) × (slot r i < a + blocks_needed payloads)) (laid_in_order a payloads)
in_order_within a [] k d lt i li = absurd (omega arith)
in_order_within a (bytes ∷ more) zero d lt i li =
    let n = numbers_length a (parts_of (length bytes)) in
    let at = numbers_at a (parts_of (length bytes)) i (omega arith) in
    let need = need_cons bytes more in
    (omega arith, omega arith)
in_order_within a (bytes ∷ more) (suc k) d lt i li =
    let rest = in_order_within (a + parts_of (length bytes)) more k d (omega arith) i li in
    let low = rest.0 in
    let high = rest.1 in
    let need = need_cons bytes more in
    (omega arith, omega arith)

-- each of these blocks is a slot
pub in_order_free : (a b : ℕ) (payloads : List (List ℕ)) → IsFree (laid_in_order a payloads) b → a ≤ b → a + blocks_needed payloads ≤ b
in_order_free a b [] apart from = omega arith
in_order_free a b (bytes ∷ more) apart from =
    let need = need_cons bytes more in
    elim (cases_lt b (a + parts_of (length bytes))) [
      | inl here ↦
          let n = numbers_length a (parts_of (length bytes)) in
          let at = numbers_at a (parts_of (length bytes)) (b - a) (omega arith) in
          absurd (apart 0 (placed_from a bytes) (omega arith) (b - a) 0 (omega arith) (at ∙ omega arith))
      | inr later ↦
          let rest = in_order_free (a + parts_of (length bytes)) b more (λ k d lt. apart (suc k) d (omega arith)) later in
          omega arith
    ]

-- the records begin in rising order
pub in_order_rising : (a : ℕ) (payloads : List (List ℕ)) → All IsSized payloads → AllPairs (λ r s. slot r 0 < slot s 0) (laid_in_order a payloads)
in_order_rising a [] sized = λ i j d below lt. absurd (omega arith)
in_order_rising a (bytes ∷ more) sized =
    let here = sized 0 [] (omega arith) in
    let some = here.0 in
    let at = numbers_at a (parts_of (length bytes)) 0 (omega arith) in
    AllPairs-cons (λ (r s : Placed). slot r 0 < slot s 0) (placed_from a bytes) (laid_in_order (a + parts_of (length bytes)) more)
    (λ k d lt. let later = begins (a + parts_of (length bytes)) more (λ i e li. sized (suc i) e (omega arith)) k d lt in omega arith)
    (in_order_rising (a + parts_of (length bytes)) more (λ i e li. sized (suc i) e (omega arith)))
  where
    begins : (a : ℕ) (payloads : List (List ℕ)) → All IsSized payloads → All (λ r. a ≤ slot r 0) (laid_in_order a payloads)
    begins a [] sized k d lt = absurd (omega arith)
    begins a (bytes ∷ more) sized zero d lt =
        let here = sized 0 [] (omega arith) in
        let some = here.0 in
        let at = numbers_at a (parts_of (length bytes)) 0 (omega arith) in
        omega arith
    begins a (bytes ∷ more) sized (suc k) d lt =
        let rest = begins (a + parts_of (length bytes)) more (λ i e li. sized (suc i) e (omega arith)) k d (omega arith) in
        omega arith

-- ---- what a step of writing keeps

-- the blocks of a record did not change
pub placed_kept : (old new : List ℕ) (r : Placed) → length new ≡ length old → ((i : ℕ) → i < length r.slots → block_at new (slot r i) ≡ block_at old (slot r i)) → IsPlaced old r → IsPlaced new r
placed_kept old new r len same is = record {
  some = is.some;
  few = is.few;
  whole = is.whole;
  within = λ i lt. let in_use = is.within i lt in let low = in_use.0 in let high = in_use.1 in (omega arith, omega arith);
  written = λ i lt. same i lt ∙ is.written i lt;
}

-- one more record is written behind the others
pub placed_more : (old new : List ℕ) (before : List (List ℕ)) (bytes : List ℕ) (number : ℕ) → length new ≡ length old → IsSized bytes → number ≡ 4 + blocks_needed before → number + parts_of (length bytes) ≤ count new + 4
    → All (IsPlaced old) (laid_in_order 4 before)
    → ((b : ℕ) → 4 ≤ b → b < number → block_at new b ≡ block_at old b)
    → ((i : ℕ) → i < parts_of (length bytes) → block_at new (number + i) ≡ written_block (number + i) number i (parts_of (length bytes)) (part_bytes bytes i))
    → All (IsPlaced new) (laid_in_order 4 (before ++ bytes ∷ []))
placed_more old new before bytes number len sized at room placed below written =
    let some = sized.0 in
    let n = parts_of (length bytes) in
    let slots = numbers_length number n in
    let at_slot = λ (i : ℕ) (lt : i < n). numbers_at number n i lt in
    let here : IsPlaced new (placed_from number bytes) = record {
      some = sized.0;
      few = sized.1;
      whole = slots;
      within = λ i lt. let s = numbers_at number n i (omega arith) in (omega arith, omega arith);
      written = λ i lt.
          let lt' : i < n = omega arith in
          ap (block_at new) (at_slot i lt') ∙ written i lt' ∙ sym (same_block bytes i (at_slot i lt') (at_slot 0 (omega arith) ∙ omega arith) slots);
    } in
    let kept : All (IsPlaced new) (laid_in_order 4 before) = λ k d lt.
    placed_kept old new (get_or (laid_in_order 4 before) k d) len (λ i li.
    let in_need = in_order_within 4 before k d lt i li in
    let low = in_need.0 in
    let high = in_need.1 in
    below (slot (get_or (laid_in_order 4 before) k d) i) (omega arith) (omega arith)) (placed k d lt) in
    subst (All (IsPlaced new)) (sym (in_order_push 4 before bytes ∙ ap (λ (m : ℕ). laid_in_order 4 before ++ placed_from m bytes ∷ []) (sym at)))
    (All-append (IsPlaced new) (laid_in_order 4 before) (placed_from number bytes ∷ []) kept (All-cons (IsPlaced new) (placed_from number bytes) [] here (λ k d lt. absurd (omega arith))))
  where
    same_block : {s first m number n : ℕ} (bytes : List ℕ) (i : ℕ) → s ≡ number + i → first ≡ number → m ≡ n → written_block s first i m (part_bytes bytes i) ≡ written_block (number + i) number i n (part_bytes bytes i)
    same_block bytes i e f g = λ t. written_block (e t) (f t) i (g t) (part_bytes bytes i)

-- the payload at an index, which is written next
pub need_next : (payloads : List (List ℕ)) (i : ℕ) (bytes : List ℕ) → i < length payloads → bytes ≡ get_or payloads i bytes → take (i + 1) payloads ≡ take i payloads ++ bytes ∷ []
need_next payloads i bytes lt is = take_more payloads i bytes lt ∙ ap (λ (b : List ℕ). take i payloads ++ b ∷ []) (sym is)

pub need_within : (payloads : List (List ℕ)) (i : ℕ) (bytes : List ℕ) → i < length payloads → bytes ≡ get_or payloads i bytes → blocks_needed (take i payloads) + parts_of (length bytes) ≤ blocks_needed payloads
need_within payloads i bytes lt is =
    let whole = sum_by-take-le (λ (b : List ℕ). parts_of (length b)) payloads (i + 1) in
    let next = ap blocks_needed (need_next payloads i bytes lt is) ∙ need_push (take i payloads) bytes in
    omega arith

-- ---- what is written holds the records, and joins to them

pub order_holds : (out : List ℕ) (payloads : List (List ℕ)) → All IsSized payloads → All (IsPlaced out) (laid_in_order 4 payloads) → ((b : ℕ) → 4 + blocks_needed payloads ≤ b → b < count out + 4 → block_at out b ≡ unused_block b) → Holds out (laid_in_order 4 payloads)
order_holds out payloads sized placed unused = record {
  placed = placed;
  apart = λ i j d below lt e. let rise = in_order_rising 4 payloads sized i j d below lt in absurd (omega arith);
  unused = λ number in_use apart. let low = in_use.0 in unused number (in_order_free 4 number payloads apart low) in_use.1;
}

pub order_joins : (out : List ℕ) (payloads : List (List ℕ)) → length out ≤ 1048576 → All IsSized payloads → Holds out (laid_in_order 4 payloads) → Joins out (map joined_of (laid_in_order 4 payloads))
order_joins out payloads small sized holds =
    let within = λ (k : ℕ) (d : Placed) (lt : k < length (laid_in_order 4 payloads)).
    let is = holds.placed k d lt in
    let some = is.some in
    let whole = is.whole in
    is.within 0 (omega arith) in
    subst (Joins out) (joined_rising (laid_in_order 4 payloads) (count out) (in_order_rising 4 payloads sized) within) (holds_joins out (laid_in_order 4 payloads) small holds)
