-- What a header without a fault and the records of blocks take.
use Rattle.std.proofs.Common.{◌≡◌, ℕ, zero, suc, ◌+◌, ◌<◌, ◌≤◌, inl, inr, refl, ap, subst, ◌∙◌, arith, ◌-◌, ◌*◌, ◌==◌, Bool, true, false, cond, List, [], ◌∷◌, ◌++◌, length, drop, sym, add-one, length-append, length-take, length-drop, ◌/◌, not, take, slice_index, None}
use Rattle.std.proofs.lemmas.Bool.{cases_eq, eqb-true, eq-eqb, leb-true, or_cases, and_parts, and_from, or_left, or_right}
use Rattle.std.specs.Prelude.{◌⊎◌, ◌&&◌, ◌||◌, sum_by, All, nat_lt, bytes_eq, codes}
use Rattle.std.proofs.lemmas.List.Sums.{sum_by-cons, sum_by-append}
use Rattle.std.proofs.lemmas.List.Elements.{All-cons, All-nil, All-head, All-tail, All-append}
use Rattle.ldm_frags.specs.declared.faults.Joined.{Joined}
use Rattle.ldm_vmdb.specs.Parts.{parts_of}
use Rattle.ldm_frags.specs.Blocks.{count, group, part, parts, payload, is_fragment, is_of, is_part, least_below}
use Rattle.ldm_frags.specs.Joins.{gathered, entry, entries, Joins}
use Rattle.ldm_frags.proofs.Below.{some_there, least_passes}
use Rattle.ldm_frags.proofs.JoinLaws.{gathered_none, gathered_more, entries_none, entries_more}
use Rattle.std.specs.List.Sorted.{IsPermutation}
use Rattle.std.proofs.lemmas.Bool.Decides.{nat_tests}
use Rattle.std.proofs.lemmas.List.{get_or-take}
use Rattle.std.proofs.lemmas.Slice.Eq.{bytes_eq-Decides}
use Rattle.std.proofs.lemmas.List.Sorted.{sum_by-IsPermutation, All-permutation}
use Rattle.ldm_vmdb.specs.declared.header.Header.{Header}
use Rattle.ldm_vmdb.specs.Sectors.{has_vmdb_magic, has_vmdb_version, has_block_size, has_first_block, is_settled, last_of, fits_area}
use Rattle.ldm_vmdb.specs.Headers.{vmdb_fault}
use Rattle.ldm_records.specs.declared.types.Record.{Record}
use Rattle.ldm_records.specs.Plain.{Spells}
use Rattle.ldm_records.specs.Views.{plain_of}
use Rattle.ldm_group.specs.Room.{own_len, need_of, IsFitting, HasRoom}
use Rattle.ldm_group.specs.Database.{Database}
use Rattle.ldm_copy.specs.Records.{SpellRecords}
use Rattle.ldm_copy.specs.Answers.{FitsArea}
use Rattle.ldm_vmdb.proofs.HeaderLaws.{passed}

-- ---- how many of the numbers below a number pass a test

abbrev number : Bool → ℕ
number b = cond b 1 0

abbrev total : ℕ → (ℕ → Bool) → ℕ
total zero p = 0
total (suc n) p = total n p + number (p n)

number_some : (b : Bool) → b ≡ true → 1 ≤ number b
number_some true e = omega arith
number_some false e = absurd cc

number_small : (b : Bool) → number b ≤ 1
number_small true = omega arith
number_small false = omega arith

-- two tests that never both pass, and one that passes where either does
number_both : (a b c : Bool) → (a ≡ true → c ≡ true) → (b ≡ true → c ≡ true)
    → (a ≡ true → b ≡ true → ⊥) → number a + number b ≤ number c
number_both true true c one two apart = absurd (apart refl refl)
number_both true false c one two apart = number_some c (one refl)
number_both false true c one two apart = number_some c (two refl)
number_both false false c one two apart = omega arith

total_both : (n : ℕ) (p q r : ℕ → Bool) → ((j : ℕ) → number (p j) + number (q j) ≤ number (r j))
    → total n p + total n q ≤ total n r
total_both zero p q r each = omega arith
total_both (suc n) p q r each = let rest = total_both n p q r each in let last = each n in omega
    arith

total_one : (n k : ℕ) (p : ℕ → Bool) → k < n → p k ≡ true → 1 ≤ total n p
total_one zero k p lt holds = absurd (omega arith)
total_one (suc n) k p lt holds = elim (cases_eq k n) [
  | inl is ↦ (let last : 1 ≤ number (p n) = number_some (p n) (ap p (sym is) ∙ holds) in omega
      arith)
  | inr ne ↦ (let rest : 1 ≤ total n p = total_one n k p (omega arith) holds in omega arith)
]

total_few : (n : ℕ) (p : ℕ → Bool) → total n p ≤ n
total_few zero p = omega arith
total_few (suc n) p = let rest = total_few n p in let last = number_small (p n) in omega arith

-- ---- what blocks join to takes no more blocks than there are

-- how many blocks a payload takes
abbrev need : Joined → ℕ
need joined = parts_of (length joined.payload)

abbrev IsShort : Joined → Type 0
IsShort joined = length joined.payload ≤ 448

one_joined : (j : Joined) (t : ℕ) → need j ≤ t → IsShort j → (sum_by need (j ∷ []) ≤ t)
    × All IsShort (j ∷ [])
one_joined j t le short = (
  omega (arith, sum_by-cons need j []),
  All-cons IsShort j [] short
      (All-nil IsShort),
)

chosen : (a b : Bool) (x y : Joined) (P : List Joined → Type 0) → P [] → (a ≡ true → P (x ∷ []))
    → (b ≡ true → P (y ∷ [])) → P (cond a (x ∷ []) (cond b (y ∷ []) []))
chosen true b x y P none one two = one refl
chosen false true x y P none one two = two refl
chosen false false x y P none one two = none

next_part : (b : Bool) (at m : ℕ) → number (b && nat_lt at m) + number (b && (at == m))
    ≤ number (b && nat_lt at (suc m))
next_part true at m = grind (arith, nat_tests)
next_part false at m = omega arith

module _ (blocks : List ℕ) (list : List Joined) (joins : Joins blocks list) where
  abbrev n : ℕ
  n = count blocks

  abbrev whole : ℕ → Bool
  whole i = parts blocks i == 1

  abbrev leads : ℕ → Bool
  leads i = is_fragment blocks i && (part blocks i == 0)

  -- block j is of what block i adds
  abbrev adds : ℕ → ℕ → Bool
  adds i j = (whole i && (j == i)) || (leads i && is_of blocks (group blocks i) j)

  adds_is : (i j : ℕ) → adds i j ≡ true → ((parts blocks j ≡ 1) × (j ≡ i))
      ⊎ ((leads i ≡ true) × (is_fragment blocks j ≡ true) × (group blocks j ≡ group blocks i))
  adds_is i j holds = elim (or_cases (whole i && (j == i))
      (leads i && is_of blocks (group blocks i) j) holds) [
        | inl w ↦ (let two = and_parts (whole i) (j == i) w in
            let is : j ≡ i = eqb-true j i two.1 in
            inl (ap (parts blocks) is ∙ eqb-true (parts blocks i) 1 two.0, is))
        | inr l ↦ (let two = and_parts (leads i) (is_of blocks (group blocks i) j) l in
            let of_g = and_parts (is_fragment blocks j) (group blocks j == group blocks i) two.1 in
            inr (two.0, of_g.0, eqb-true (group blocks j) (group blocks i) of_g.1))
      ]

  not_whole : (j : ℕ) → parts blocks j ≡ 1 → is_fragment blocks j ≡ true → ⊥
  not_whole j one frag = let many : 2 ≤ parts blocks j = leb-true 2 (parts blocks j) frag in omega
      arith

  apart : (i k j : ℕ) → i < n → k < n → adds i j ≡ true → adds k j ≡ true → i ≡ k
  apart i k j lt_i lt_k of_i of_k = elim (adds_is i j of_i) [
    | inl (one, is_i) ↦ elim (adds_is k j of_k) [
      | inl (two, is_k) ↦ sym is_i ∙ is_k
      | inr (lead, frag, same) ↦ absurd (not_whole j one frag)
    ]
    | inr (lead, frag, same) ↦ elim (adds_is k j of_k) [
      | inl (one, is_k) ↦ absurd (not_whole j one frag)
      | inr (lead_k, frag_k, same_k) ↦
          (let i_0 = and_parts (is_fragment blocks i) (part blocks i == 0) lead in
          let k_0 = and_parts (is_fragment blocks k) (part blocks k == 0) lead_k in
          joins.once i k lt_i lt_k k_0.0
          (and_from (is_of blocks (group blocks k) i) (part blocks i == part blocks k)
          (and_from (is_fragment blocks i) (group blocks i == group blocks k) i_0.0
          (eq-eqb _ _ (sym same ∙ same_k)))
          (eq-eqb _ _ (eqb-true _ _ i_0.1 ∙ sym (eqb-true _ _ k_0.1)))))
    ]
  ]

  -- ---- what one block adds

  payload_size : (k : ℕ) → k < n → length (payload blocks k) ≡ 112
  payload_size k lt = omega (arith, length-take (128 * k + 128 - (128 * k + 16)) (drop (128 * k + 16) blocks), length-drop (128 * k + 16) blocks)

  part_there : (k p : ℕ) → k < n → is_fragment blocks k ≡ true → p < parts blocks k
      → (least_below n (is_part blocks (group blocks k) p) < n) × (is_part blocks (group blocks k) p (least_below n (is_part blocks (group blocks k) p)) ≡ true)
  part_there k p lt frag below =
      let there = joins.complete k p lt frag below in
      least_passes n (is_part blocks (group blocks k) p) (some_there n there.0 (is_part blocks (group blocks k) p) there.1 there.2)

  gathered_size : (k p : ℕ) → k < n → is_fragment blocks k ≡ true → p ≤ parts blocks k → length (gathered blocks (group blocks k) p) ≡ 112 * p
  gathered_size k zero lt frag le = ap length (gathered_none blocks (group blocks k))
  gathered_size k (suc p) lt frag le =
      let before : length (gathered blocks (group blocks k) p) ≡ 112 * p = gathered_size k p lt frag (omega arith) in
      let at : ℕ = least_below n (is_part blocks (group blocks k) p) in
      let here : length (payload blocks at)
      ≡ 112 = payload_size at (part_there k p lt frag (omega arith)).0 in
      ap (λ (m : ℕ). length (gathered blocks (group blocks k) m)) (sym (add-one p))
      ∙ ap length (gathered_more blocks (group blocks k) p)
      ∙ (length-append (gathered blocks (group blocks k) p) (payload blocks at) ∙ omega arith)

  -- a group has at least as many blocks as parts
  group_size : (k m : ℕ) → k < n → is_fragment blocks k ≡ true → m ≤ parts blocks k
      → m ≤ total n (λ j. is_of blocks (group blocks k) j && nat_lt (part blocks j) m)
  group_size k zero lt frag le = omega arith
  group_size k (suc m) lt frag le =
      let before = group_size k m lt frag (omega arith) in
      let there = part_there k m lt frag (omega arith) in
      let here = total_one n (least_below n (is_part blocks (group blocks k) m))
      (is_part blocks (group blocks k) m) there.0 there.1 in
      let more = total_both n (λ j. is_of blocks (group blocks k) j && nat_lt (part blocks j) m)
      (is_part blocks (group blocks k) m)
      (λ j. is_of blocks (group blocks k) j && nat_lt (part blocks j) (suc m))
      (λ j. next_part (is_of blocks (group blocks k) j) (part blocks j) m) in
      omega (arith, before, here, more)

  lead_many : (k : ℕ) → k < n → leads k ≡ true → parts blocks k ≤ total n (adds k)
  lead_many k lt lead =
      let many = group_size k (parts blocks k) lt
      (and_parts (is_fragment blocks k) (part blocks k == 0) lead).0 (omega arith) in
      let more = total_both n (λ j. is_of blocks (group blocks k) j && nat_lt (part blocks j)
      (parts blocks k)) (λ j. false) (adds k)
      (λ j. number_both _ false (adds k j)
      (λ holds. or_right (whole k && (j == k)) _
      (and_from (leads k) (is_of blocks (group blocks k) j) lead
      (and_parts (is_of blocks (group blocks k) j) _ holds).0))
      (λ no. absurd cc) (λ holds no. absurd cc)) in
      omega (arith, many, more)

  entry_fits : (k : ℕ) → k < n → (sum_by need (entry blocks k) ≤ total n (adds k))
      × All IsShort (entry blocks k)
  unfolding entry
  entry_fits k lt = chosen (whole k) (leads k) one group_of (λ l. (sum_by need l ≤ total n (adds k))
      × All IsShort l) (omega arith, All-nil IsShort)
      (λ w. let size = payload_size k lt in
      let itself = or_left (whole k && (k == k)) (leads k && is_of blocks (group blocks k) k)
      (and_from (whole k) (k == k) w (eq-eqb k k refl)) in
      one_joined one _ (omega (arith, size, total_one n k (adds k) lt itself))
      (omega (arith, size)))
      (λ lead. let frag = (and_parts (is_fragment blocks k) (part blocks k == 0) lead).0 in
      let size = gathered_size k (parts blocks k) lt frag (omega arith) in
      one_joined group_of _ (omega (arith, size, lead_many k lt lead))
      (omega (arith, size, joins.few k lt)))
    where
      one : Joined
      one = record { block = k + 4; payload = payload blocks k }

      group_of : Joined
      group_of = record {
        block = k + 4;
        payload = gathered blocks (group blocks k)
            (parts blocks k);
      }

  -- ---- what all blocks add

  -- block j is of what a block below k adds
  abbrev taken : ℕ → ℕ → Bool
  taken zero j = false
  taken (suc k) j = taken k j || adds k j

  taken_by : (k j : ℕ) → taken k j ≡ true → (i : ℕ) × (i < k) × (adds i j ≡ true)
  taken_by zero j holds = absurd cc
  taken_by (suc k) j holds = elim (or_cases (taken k j) (adds k j) holds) [
    | inl before ↦ (let more = taken_by k j before in (
      more.0,
      (let lt = more.1 in omega (arith, lt)),
      more.2,
    ))
    | inr here ↦ (k, omega arith, here)
  ]

  entries_fit : (k : ℕ) → k ≤ n → (sum_by need (entries blocks k) ≤ total n (taken k))
      × All IsShort (entries blocks k)
  entries_fit zero le = (
    omega (arith, ap (sum_by need) (entries_none blocks)),
    subst (All IsShort) (sym (entries_none blocks)) (All-nil IsShort),
  )
  entries_fit (suc k) le =
      let before = entries_fit k (omega arith) in
      let here = entry_fits k (omega arith) in
      let next : entries blocks (suc k) ≡ entries blocks k ++ entry blocks k = ap (entries blocks)
      (sym (add-one k)) ∙ entries_more blocks k in
      let both = total_both n (taken k) (adds k) (taken (suc k))
      (λ j. number_both (taken k j) (adds k j) (taken k j || adds k j)
      (λ holds. or_left (taken k j) (adds k j) holds)
      (λ holds. or_right (taken k j) (adds k j) holds)
      (λ holds also. let by = taken_by k j holds in let lt = by.1 in let same = apart by.0 k j
      (omega (arith, lt)) (omega arith) by.2 also in omega (arith, lt, same))) in (
        omega (
          arith,
          before.0,
          here.0,
          both,
          ap (sum_by need) next
              ∙ sum_by-append need (entries blocks k) (entry blocks k),
        ),
        subst (All IsShort) (sym next) (All-append IsShort (entries blocks k) (entry blocks k)
            before.1 here.1),
      )

  few_blocks : sum_by need list ≤ count blocks
  few_blocks = omega (
    arith,
    (entries_fit n (omega arith)).0,
    total_few n (taken n),
    ap (sum_by need) joins.entries_are,
  )

  short_payloads : All IsShort list
  short_payloads = subst (All IsShort) (sym joins.entries_are) (entries_fit n (omega arith)).1

-- ---- What a header without a fault and records that were read take.

not_below : (a b : ℕ) → not (nat_lt a b) ≡ true → b ≤ a
not_below a b e = grind (arith, nat_tests)

pub last_fits : (sector : List ℕ) (sectors : ℕ) → vmdb_fault sector sectors ≡ None → last_of sector ≤ 4 * sectors
unfolding vmdb_fault fits_area
last_fits sector sectors none =
    let a = passed (has_vmdb_magic sector) _ _ none in
    let b = passed (has_vmdb_version sector) _ _ a.1 in
    let c = passed (has_block_size sector) _ _ b.1 in
    let d = passed (has_first_block sector) _ _ c.1 in
    let e = passed (is_settled sector) _ _ d.1 in
    not_below (4 * sectors) (last_of sector) (passed (not (nat_lt (4 * sectors) (last_of sector))) _
    _ e.1).0

-- a sector without a fault begins with the letter V
pub magic_of : (sector : List ℕ) (sectors : ℕ) → vmdb_fault sector sectors ≡ None → slice_index sector 0 ≡ 0x56
unfolding vmdb_fault has_vmdb_magic
magic_of sector sectors none =
    let magic : bytes_eq (take 4 sector) (codes "VMDB") ≡ true = (passed (has_vmdb_magic sector) _ _ none).0 in
    let text : take 4 sector ≡ codes "VMDB" = (bytes_eq-Decides (take 4 sector) (codes "VMDB")).0 magic in
    sym (get_or-take 4 sector 0 0 (omega arith)) ∙ ap (λ (l : List ℕ). slice_index l 0) text

-- ---- the own spellings take no more than the payloads

own_fits : (r : Record) (payload : List ℕ) → Spells (plain_of r) payload → own_len r ≤ length payload
unfolding own_len
own_fits r payload spells = spells.room

spelled_fit : (list : List Joined) (records : List Record) → SpellRecords list records
    → All IsShort list → (need_of records ≤ sum_by need list) × All IsFitting records
spelled_fit [] [] spelled short = (omega arith, All-nil IsFitting)
spelled_fit [] (r ∷ records) spelled short = absurd spelled
spelled_fit (j ∷ list) [] spelled short = absurd spelled
spelled_fit (j ∷ list) (r ∷ records) spelled short =
    let fits = own_fits r j.payload spelled.0 in
    let rest = spelled_fit list records spelled.1 (All-tail IsShort j list short) in (
      omega (
        arith,
        fits,
        rest.0,
        sum_by-cons need j list,
        sum_by-cons (λ (r : Record). parts_of (own_len r)) r records,
      ),
      All-cons IsFitting r records (omega (arith, fits, All-head IsShort j list short)) rest.1,
    )

-- in another order they take as many
pub records_within : (blocks : List ℕ) (list : List Joined) (records ordered : List Record) → Joins blocks list → SpellRecords list records → IsPermutation records ordered
    → HasRoom (count blocks) ordered
records_within blocks list records ordered joins spelled same =
    let fit = spelled_fit list records spelled (short_payloads blocks list joins) in
    record {
      need = omega (
        arith,
        fit.0,
        few_blocks blocks list joins,
        sum_by-IsPermutation (λ r. parts_of (own_len r)) records ordered same,
      );
      each = All-permutation IsFitting records ordered same fit.1;
    }

-- the database of these blocks fits the area
pub fits_area_of : (sectors : ℕ) (header : Header) (blocks : List ℕ) (db : Database) → db.header ≡ header → header.last ≤ 4 * sectors
    → length blocks ≡ 512 * (header.last / 4) - 512 → HasRoom (count blocks) db.records → FitsArea db sectors
fits_area_of sectors header blocks db same last size within =
    let same_last : db.header.last ≡ header.last = ap (λ (h : Header). h.last) same in
    record {
      last = omega arith;
      room = record {
        need = omega (arith, within.need);
        each = within.each;
      };
    }
