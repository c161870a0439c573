-- Lists of blocks with no fault are joined, and those with one are not; blocks that read alike join
-- alike.
use Rattle.std.proofs.Common.{◌≡◌, ℕ, ◌+◌, ◌<◌, ◌≤◌, Bool, true, false, not, cond, eqb, ltb, leb, List, [], ◌++◌, Option, Some, None, refl, sym, ap, subst, ◌∙◌, arith, inl, inr, ◌*◌, ◌∷◌, take, drop}
use Rattle.std.specs.Prelude.{◌&&◌, Result, Ok, Err}
use Rattle.std.proofs.lemmas.Bool.{cases_lt, ltb-false, le-ltb, leb-false, lt-leb, le-leb, eqb-true, eq-eqb, false≢true, leb-true, cases_Bool, and_parts, not-false, cases_order, cases_eq, ne_eqb}
use Rattle.ldm_frags.specs.declared.faults.FragFault.{FragFault}
use Rattle.ldm_frags.specs.declared.faults.FragFault.TheVariants.{NoMagic, Parts, Part, Mixed, Repeated, Missing}
use Rattle.std.specs.Global.{Vec}
use Rattle.ldm_frags.specs.declared.faults.FragError.{FragError}
use Rattle.ldm_frags.specs.declared.faults.FragError.TheVariants.{Fault, NoMemory}
use Rattle.ldm_frags.specs.Answers.{AnswersBlocks}
use Rattle.ldm_frags.specs.Blocks.{count, has_magic, group, part, parts, payload, is_fragment, is_of, is_part, is_mixed, some_below, is_there, has_parts, least_below, all_below, block_at}
use Rattle.ldm_frags.specs.declared.faults.Joined.{Joined}
use Rattle.ldm_frags.specs.Faults.{block_fault, has_all, missing_fault, first_below, first_block_fault, fault_by, or_else}
use Rattle.ldm_frags.specs.Joins.{gathered, entry, entries, Joins}
use Rattle.ldm_frags.proofs.Below.{flat_map_below, some_there, none_there, none_from, least_passes, all_there, all_from, or_none, faultless_below, faultless_from, some_same, all_same, least_same, first_same, flat_map_same}
use Rattle.std.specs.Ordering.{nat_cmp}
use Rattle.std.specs.BTreeMap.{BTreeMap, get}
use Rattle.std.proofs.lemmas.List.{drop-append-le, take-append-le, length-drop}
use Rattle.byteorder.specs.Endian.{big_number}
use Rattle.ldm_frags.specs.declared.groups.Group.{Group}
use Rattle.ldm_frags.specs.Fed.{IsSameBlock}
use Rattle.ldm_frags.specs.Groups.{first_passing, Knows, IsTable}
use Rattle.ldm_frags.proofs.BlockLaws.{number_within, payload_within}

-- ---- Lists of blocks with no fault are joined, and those with one are not.

pub gathered_none : (blocks : List ℕ) (g : ℕ) → gathered blocks g 0 ≡ []
unfolding gathered
gathered_none blocks g = refl

pub gathered_more : (blocks : List ℕ) (g p : ℕ) → gathered blocks g (p + 1) ≡ gathered blocks g p ++ payload blocks (least_below (count blocks) (is_part blocks g p))
unfolding gathered
gathered_more blocks g p = flat_map_below (λ (q : ℕ). payload blocks (least_below (count blocks) (is_part blocks g q))) p

pub entries_none : (blocks : List ℕ) → entries blocks 0 ≡ []
unfolding entries
entries_none blocks = refl

pub entries_more : (blocks : List ℕ) (k : ℕ) → entries blocks (k + 1) ≡ entries blocks k ++ entry blocks k
unfolding entries
entries_more blocks k = flat_map_below (entry blocks) k

cond_none : {A : Type 0} (b : Bool) (x : A) (y : Option A) → cond b (Some x) y ≡ None → (b ≡ false) × (y ≡ None)
cond_none true x y e = absurd cc
cond_none false x y e = (refl, e)

pub has_all_of : (blocks : List ℕ) (k : ℕ) → missing_fault blocks k ≡ None → is_fragment blocks k ≡ true → has_all blocks k ≡ true
unfolding missing_fault
has_all_of blocks k e h =
    not-false (has_all blocks k)
    (rw h at (cond_none (is_fragment blocks k && not (has_all blocks k))
    (Missing (k + 4)) None e).0)

pub part_there : (blocks : List ℕ) (g n p : ℕ) → has_parts blocks g n ≡ true → p < n → some_below (count blocks) (is_part blocks g p) ≡ true
unfolding has_parts
part_there blocks g n p h lt = all_there n p (λ q. some_below (count blocks) (is_part blocks g q)) lt h

pub frag_is : (blocks : List ℕ) (k n : ℕ) → n ≡ parts blocks k → 2 ≤ n → is_fragment blocks k ≡ true
frag_is blocks k n e le = le-leb _ _ (omega arith)

-- ---- no fault, so joined

-- what a block without a fault has
pub record Sound (blocks : List ℕ) (k : ℕ) : Type 0 where
  pub magic : has_magic blocks k ≡ true
  pub few : parts blocks k ≤ 4
  pub below : is_fragment blocks k ≡ true → part blocks k < parts blocks k
  pub unmixed : is_fragment blocks k ≡ true → some_below k (is_mixed blocks (group blocks k) (parts blocks k)) ≡ false
  pub new : is_fragment blocks k ≡ true → some_below k (is_part blocks (group blocks k) (part blocks k)) ≡ false

pub sound_of : (blocks : List ℕ) (k : ℕ) → block_fault blocks k ≡ None → Sound blocks k
unfolding block_fault
sound_of blocks k e =
    let mixed : Bool = some_below k (is_mixed blocks (group blocks k) (parts blocks k)) in
    let again : Bool = some_below k (is_part blocks (group blocks k) (part blocks k)) in
    let tail_3 : Option FragFault = cond again (Some (Repeated (k + 4))) None in
    let tail_2 : Option FragFault = cond mixed (Some (Mixed (k + 4))) tail_3 in
    let tail_1 : Option FragFault = cond (leb (parts blocks k) (part blocks k)) (Some (Part (k + 4))) tail_2 in
    let a = cond_none (not (has_magic blocks k)) (NoMagic (k + 4)) _ e in
    let b = cond_none (ltb 4 (parts blocks k)) (Parts (k + 4)) (cond (not (is_fragment blocks k)) None tail_1) a.1 in
    let c = λ (h : is_fragment blocks k ≡ true). cond_none (leb (parts blocks k) (part blocks k))
    (Part (k + 4)) tail_2 (rw h at b.1) in
    let d = λ (h : is_fragment blocks k ≡ true). cond_none mixed (Mixed (k + 4)) tail_3 (c h).1 in
    let f = λ (h : is_fragment blocks k ≡ true). cond_none again (Repeated (k + 4)) None (d h).1 in
    record {
      magic = not-false (has_magic blocks k) a.0;
      few = ltb-false _ _ b.0;
      below = λ h. leb-false _ _ (c h).0;
      unmixed = λ h. (d h).0;
      new = λ h. (f h).0;
    }

eqb_sym : (a b : ℕ) → eqb a b ≡ true → eqb b a ≡ true
eqb_sym a b e = eq-eqb b a (sym (eqb-true a b e))

-- a fragment of the group before another has as many parts
count_before : (blocks : List ℕ) (j k : ℕ) → Sound blocks k → j < k → is_fragment blocks k ≡ true → is_of blocks (group blocks k) j ≡ true → parts blocks j ≡ parts blocks k
count_before blocks j k s lt frag of =
    let none = none_there k j (is_mixed blocks (group blocks k) (parts blocks k)) lt (s.unmixed frag) in
    eqb-true _ _ (not-false (eqb (parts blocks j) (parts blocks k)) (rw of at none))

-- a fragment is of the group of each block that is of its group
turned : (blocks : List ℕ) (j k : ℕ) → is_fragment blocks k ≡ true → is_of blocks (group blocks k) j ≡ true → is_of blocks (group blocks j) k ≡ true
turned blocks j k frag of =
    let both = and_parts (is_fragment blocks j) (eqb (group blocks j) (group blocks k)) of in
    let same = eqb_sym (group blocks j) (group blocks k) both.1 in
    rw (frag, same) refl

one_count : (blocks : List ℕ) → ((k : ℕ) → k < count blocks → Sound blocks k) → (j k : ℕ) → j < count blocks → k < count blocks → is_fragment blocks k ≡ true → is_of blocks (group blocks k) j ≡ true → parts blocks j ≡ parts blocks k
one_count blocks s j k lj lk frag of =
    elim (cases_lt j k) [
      | inl lt ↦ count_before blocks j k (s k lk) lt frag of
      | inr le ↦ elim (cases_lt k j) [
        | inl lt ↦
            let both = and_parts (is_fragment blocks j) (eqb (group blocks j) (group blocks k)) of in
            sym (count_before blocks k j (s j lj) lt both.0 (turned blocks j k frag of))
        | inr ge ↦ let same : j ≡ k = omega arith in ap (parts blocks) same
      ]
    ]

-- no part stands twice
not_before : (blocks : List ℕ) (j k : ℕ) → Sound blocks k → j < k → is_fragment blocks k ≡ true → is_part blocks (group blocks k) (part blocks k) j ≡ true → ⊥
not_before blocks j k s lt frag of =
    let none = none_there k j (is_part blocks (group blocks k) (part blocks k)) lt (s.new frag) in
    false≢true (sym none ∙ of)

once : (blocks : List ℕ) → ((k : ℕ) → k < count blocks → Sound blocks k) → (j k : ℕ) → j < count blocks → k < count blocks → is_fragment blocks k ≡ true → is_part blocks (group blocks k) (part blocks k) j ≡ true → j ≡ k
once blocks s j k lj lk frag of =
    elim (cases_lt j k) [
      | inl lt ↦ absurd (not_before blocks j k (s k lk) lt frag of)
      | inr le ↦ elim (cases_lt k j) [
        | inl lt ↦
            let two = and_parts (is_of blocks (group blocks k) j) (eqb (part blocks j) (part blocks k)) of in
            let both = and_parts (is_fragment blocks j) (eqb (group blocks j) (group blocks k)) two.0 in
            let of_j = turned blocks j k frag two.0 in
            let part_j = eqb_sym (part blocks j) (part blocks k) two.1 in
            absurd (not_before blocks k j (s j lj) lt both.0 (rw (of_j, part_j) refl))
        | inr ge ↦ omega arith
      ]
    ]

pub clean_joins : (blocks : List ℕ) → first_below (count blocks) (block_fault blocks) ≡ None → first_below (count blocks) (missing_fault blocks) ≡ None → (list : List Joined) → list ≡ entries blocks (count blocks) → Joins blocks list
clean_joins blocks clean full list e =
    let s = λ (k : ℕ) (lt : k < count blocks). sound_of blocks k (faultless_below (count blocks) k (block_fault blocks) clean lt) in
    record {
      magic = λ k lt. (s k lt).magic;
      few = λ k lt. (s k lt).few;
      below = λ k lt. (s k lt).below;
      one_count = one_count blocks s;
      once = once blocks s;
      complete = λ k p lt frag below.
          let full_k = faultless_below (count blocks) k (missing_fault blocks) full lt in
          let there = part_there blocks (group blocks k) (parts blocks k) p (has_all_of blocks k full_k frag) below in
          let least = least_passes (count blocks) (is_part blocks (group blocks k) p) there in
          (least_below (count blocks) (is_part blocks (group blocks k) p), least.0, least.1);
      entries_are = e;
    }

pub few_parts : (blocks : List ℕ) (k : ℕ) → first_below (count blocks) (block_fault blocks) ≡ None → k < count blocks → parts blocks k ≤ 4
few_parts blocks k clean lt = (sound_of blocks k (faultless_below (count blocks) k (block_fault blocks) clean lt)).few

-- ---- joined, so no fault

-- an earlier fragment of the group has as many parts
unmixed : (blocks : List ℕ) (list : List Joined) → Joins blocks list → (j k : ℕ) → j < k → k < count blocks → is_fragment blocks k ≡ true → is_mixed blocks (group blocks k) (parts blocks k) j ≡ false
unmixed blocks list joins j k lt lk frag =
    elim (cases_Bool (is_of blocks (group blocks k) j)) [
      | inl of ↦
          let same : parts blocks j ≡ parts blocks k = joins.one_count j k (omega arith) lk frag of in
          let equal : eqb (parts blocks j) (parts blocks k) ≡ true = eq-eqb _ _ same in
          rw (of, equal) refl
      | inr other ↦ rw other refl
    ]

-- no earlier one is the same part
unrepeated : (blocks : List ℕ) (list : List Joined) → Joins blocks list → (j k : ℕ) → j < k → k < count blocks → is_fragment blocks k ≡ true → is_part blocks (group blocks k) (part blocks k) j ≡ false
unrepeated blocks list joins j k lt lk frag =
    elim (cases_Bool (is_part blocks (group blocks k) (part blocks k) j)) [
      | inl is ↦ let same : j ≡ k = joins.once j k (omega arith) lk frag is in absurd (omega arith)
      | inr other ↦ other
    ]

joins_sound : (blocks : List ℕ) (list : List Joined) → Joins blocks list → (k : ℕ) → k < count blocks → block_fault blocks k ≡ None
unfolding block_fault
joins_sound blocks list joins k lt =
    let magic : has_magic blocks k ≡ true = joins.magic k lt in
    let few : ltb 4 (parts blocks k) ≡ false = le-ltb _ _ (joins.few k lt) in
    elim (cases_Bool (is_fragment blocks k)) [
      | inl frag ↦
          let below : leb (parts blocks k) (part blocks k) ≡ false = lt-leb _ _ (joins.below k lt frag) in
          let mixed : some_below k (is_mixed blocks (group blocks k) (parts blocks k)) ≡ false = none_from k _ (λ j before. unmixed blocks list joins j k before lt frag) in
          let again : some_below k (is_part blocks (group blocks k) (part blocks k)) ≡ false = none_from k _ (λ j before. unrepeated blocks list joins j k before lt frag) in
          rw (magic, few, frag, below, mixed, again) refl
      | inr other ↦ rw (magic, few, other) refl
    ]

joins_full : (blocks : List ℕ) (list : List Joined) → Joins blocks list → (k : ℕ) → k < count blocks → missing_fault blocks k ≡ None
unfolding missing_fault has_parts
joins_full blocks list joins k lt =
    elim (cases_Bool (is_fragment blocks k)) [
      | inl frag ↦
          let all : has_all blocks k ≡ true = all_from (parts blocks k) (is_there blocks (group blocks k)) (λ p below.
          let there = joins.complete k p lt frag below in
          some_there (count blocks) there.0 (is_part blocks (group blocks k) p) there.1 there.2) in
          rw (frag, all) refl
      | inr other ↦ rw other refl
    ]

pub joins_clean : (blocks : List ℕ) (list : List Joined) → Joins blocks list → first_block_fault blocks ≡ None
unfolding first_block_fault
joins_clean blocks list joins =
    let clean = faultless_from (count blocks) (block_fault blocks) (joins_sound blocks list joins) in
    let full = faultless_from (count blocks) (missing_fault blocks) (joins_full blocks list joins) in
    rw (clean, full) refl

-- a list is joined exactly where there is no fault
pub faultless_joins : (blocks : List ℕ) → first_block_fault blocks ≡ None → Joins blocks (entries blocks (count blocks))
unfolding first_block_fault
faultless_joins blocks e =
    let both = or_none (first_below (count blocks) (block_fault blocks)) (first_below (count blocks) (missing_fault blocks)) e in
    clean_joins blocks both.0 both.1 (entries blocks (count blocks)) refl

pub one_list : (blocks : List ℕ) (a b : List Joined) → Joins blocks a → Joins blocks b → a ≡ b
one_list blocks a b x y = x.entries_are ∙ sym y.entries_are

pub group_first : (blocks : List ℕ) (f : FragFault) → first_below (count blocks) (block_fault blocks) ≡ None → first_below (count blocks) (missing_fault blocks) ≡ Some f → first_block_fault blocks ≡ Some f
unfolding first_block_fault
group_first blocks f e g = rw (e, g) refl

-- ---- Blocks that read alike have the same faults, and join to the same records.

-- ---- single blocks

block_is : (a : List ℕ) (j : ℕ) → block_at a (j + 4) ≡ take 128 (drop (128 * j) a)
block_is a j = ap (λ (n : ℕ). take 128 (drop (128 * n) a)) (omega arith)

-- a block reads as one with the same bytes
pub same_bytes : (a : List ℕ) (j : ℕ) (b : List ℕ) (k : ℕ) → block_at a (j + 4) ≡ block_at b (k + 4) → IsSameBlock a j b k
same_bytes a j b k e = record {
  magic = ap (λ (n : ℕ). eqb n 0x56424c4b) (sym (front a j) ∙ field 4 0 (omega arith) ∙ front b k);
  group = field 4 8 (omega arith);
  part = field 2 12 (omega arith);
  parts = field 2 14 (omega arith);
  payload = λ used. payload_within a j ∙ ap (drop 16) same ∙ sym (payload_within b k);
}
  where
    same : take 128 (drop (128 * j) a) ≡ take 128 (drop (128 * k) b)
    same = sym (block_is a j) ∙ e ∙ block_is b k

    field : (m o : ℕ) → o + m ≤ 128 → big_number m (drop (128 * j + o) a) ≡ big_number m (drop (128 * k + o) b)
    field m o le = number_within m o (128 * j) a le ∙ ap (λ (x : List ℕ). big_number m (drop o x)) same ∙ sym (number_within m o (128 * k) b le)

    front : (x : List ℕ) (n : ℕ) → big_number 4 (drop (128 * n + 0) x) ≡ big_number 4 (drop (128 * n) x)
    front x n = ap (λ (p : ℕ). big_number 4 (drop p x)) (omega arith)

pub same_turned : (a : List ℕ) (j : ℕ) (b : List ℕ) (k : ℕ) → IsSameBlock a j b k → IsSameBlock b k a j
same_turned a j b k s = record {
  magic = sym s.magic;
  group = sym s.group;
  part = sym s.part;
  parts = sym s.parts;
  payload = λ used. let e = s.parts in sym (s.payload (omega arith));
}

pub same_through : (a : List ℕ) (i : ℕ) (b : List ℕ) (j : ℕ) (c : List ℕ) (k : ℕ) → IsSameBlock a i b j → IsSameBlock b j c k → IsSameBlock a i c k
same_through a i b j c k s t = record {
  magic = s.magic ∙ t.magic;
  group = s.group ∙ t.group;
  part = s.part ∙ t.part;
  parts = s.parts ∙ t.parts;
  payload = λ used. let e = t.parts in s.payload (omega arith) ∙ t.payload used;
}

-- a block stays where others come after it
pub same_before : (blocks more : List ℕ) (k : ℕ) → k < count blocks → IsSameBlock (blocks ++ more) k blocks k
same_before blocks more k lt =
    let len = length-drop (128 * k) blocks in
    same_bytes (blocks ++ more) k blocks k
    (block_is (blocks ++ more) k ∙ ap (take 128) (drop-append-le (128 * k) blocks more (omega arith))
    ∙ take-append-le 128 (drop (128 * k) blocks) more (omega arith) ∙ sym (block_is blocks k))

-- ---- walks over blocks that read alike

abbrev pub AreSame : ℕ → List ℕ → List ℕ → Type 0
AreSame n a b = (k : ℕ) → k < n → IsSameBlock a k b k

of_same : (a b : List ℕ) (j : ℕ) {g h : ℕ} → IsSameBlock a j b j → g ≡ h → is_of a g j ≡ is_of b h j
of_same a b j s e = λ i. leb 2 (s.parts i) && eqb (s.group i) (e i)

pub part_same : (a b : List ℕ) (j : ℕ) {g h p q : ℕ} → IsSameBlock a j b j → g ≡ h → p ≡ q → is_part a g p j ≡ is_part b h q j
part_same a b j s e f = λ i. of_same a b j s e i && eqb (s.part i) (f i)

pub mixed_same : (a b : List ℕ) (j : ℕ) {g h n m : ℕ} → IsSameBlock a j b j → g ≡ h → n ≡ m → is_mixed a g n j ≡ is_mixed b h m j
mixed_same a b j s e f = λ i. of_same a b j s e i && not (eqb (s.parts i) (f i))

-- ---- faults

-- a block has the fault of one that reads alike, with blocks before it that do
pub fault_same : (a b : List ℕ) (k : ℕ) → AreSame k a b → IsSameBlock a k b k → block_fault a k ≡ block_fault b k
unfolding block_fault
fault_same a b k before s =
    let mixed = some_same k (is_mixed a (group a k) (parts a k)) (is_mixed b (group b k) (parts b k)) (λ j lt. mixed_same a b j (before j lt) s.group s.parts) in
    let again = some_same k (is_part a (group a k) (part a k)) (is_part b (group b k) (part b k)) (λ j lt. part_same a b j (before j lt) s.group s.part) in
    λ i. fault_by (k + 4) (s.magic i) (s.part i) (s.parts i) (mixed i) (again i)

-- the fault of a block depends on the blocks up to it alone
pub fault_before : (blocks more : List ℕ) (k : ℕ) → k < count blocks → block_fault (blocks ++ more) k ≡ block_fault blocks k
fault_before blocks more k lt =
    fault_same (blocks ++ more) blocks k (λ j below. same_before blocks more j (omega arith)) (same_before blocks more k lt)

-- the first fault among some blocks doesn't depend on the blocks behind them
pub faults_before : (blocks more : List ℕ) → first_below (count blocks) (block_fault (blocks ++ more)) ≡ first_below (count blocks) (block_fault blocks)
faults_before blocks more = first_same (count blocks) (block_fault (blocks ++ more)) (block_fault blocks) (fault_before blocks more)

pub faults_same : (a b : List ℕ) (n : ℕ) → AreSame n a b → first_below n (block_fault a) ≡ first_below n (block_fault b)
faults_same a b n same = first_same n (block_fault a) (block_fault b) (λ k lt. fault_same a b k (λ j below. same j (omega arith)) (same k lt))

-- ---- tables

pub table_same : (a b : List ℕ) (k : ℕ) (groups : BTreeMap ℕ Group) → AreSame k a b → IsTable a k groups → IsTable b k groups
table_same a b k groups same table = record {
  known = λ g. known_same g (get nat_cmp groups g) (table.known g);
  places = λ g p lt. table.places g p lt ∙ passing_same g p;
}
  where
    some_of : (g : ℕ) → some_below k (is_of a g) ≡ some_below k (is_of b g)
    some_of g = some_same k (is_of a g) (is_of b g) (λ j lt. of_same a b j (same j lt) refl)

    known_same : (g : ℕ) (found : Option Group) → Knows a k g found → Knows b k g found
    known_same g None none = sym (some_of g) ∙ none
    known_same g (Some group) met = record {
      some = sym (some_of g) ∙ met.some;
      one_count = λ j lt of. sym (same j lt).parts ∙ met.one_count j lt (of_same a b j (same j lt) refl ∙ of);
      places = met.places;
    }

    passing_same : (g p : ℕ) → first_passing k (is_part a g p) ≡ first_passing k (is_part b g p)
    passing_same g p =
        let some = some_same k (is_part a g p) (is_part b g p) (λ j lt. part_same a b j (same j lt) refl refl) in
        let least = least_same k (is_part a g p) (is_part b g p) (λ j lt. part_same a b j (same j lt) refl refl) in
        λ i. cond (some i) (Some (least i)) None

-- ---- groups that lack a part

there_same : (a b : List ℕ) {g h : ℕ} (p : ℕ) → count a ≡ count b → AreSame (count b) a b → g ≡ h → is_there a g p ≡ is_there b h p
there_same a b {g} {h} p many same e =
    ap (λ (n : ℕ). some_below n (is_part a g p)) many ∙ some_same (count b) (is_part a g p) (is_part b h p) (λ j lt. part_same a b j (same j lt) e refl)

missing_same : (a b : List ℕ) (k : ℕ) → count a ≡ count b → AreSame (count b) a b → k < count b → missing_fault a k ≡ missing_fault b k
unfolding missing_fault has_parts
missing_same a b k many same lt =
    let s = same k lt in
    let all : has_parts a (group a k) (parts a k) ≡ has_parts b (group b k) (parts b k) =
    ap (λ (n : ℕ). all_below n (is_there a (group a k))) s.parts
    ∙ all_same (parts b k) (is_there a (group a k)) (is_there b (group b k)) (λ p below. there_same a b p many same s.group) in
    λ i. cond (leb 2 (s.parts i) && not (all i)) (Some (Missing (k + 4))) None

pub first_fault_same : (a b : List ℕ) → count a ≡ count b → AreSame (count b) a b → first_block_fault a ≡ first_block_fault b
unfolding first_block_fault
first_fault_same a b many same =
    let blocks = ap (λ (n : ℕ). first_below n (block_fault a)) many ∙ faults_same a b (count b) same in
    let groups = ap (λ (n : ℕ). first_below n (missing_fault a)) many
    ∙ first_same (count b) (missing_fault a) (missing_fault b) (λ k lt. missing_same a b k many same lt) in
    λ i. or_else (blocks i) (groups i)

-- ---- what is joined

gathered_same : (a b : List ℕ) (g n : ℕ) → count a ≡ count b → AreSame (count b) a b → ((p : ℕ) → p < n → some_below (count b) (is_part b g p) ≡ true) → gathered a g n ≡ gathered b g n
unfolding gathered
gathered_same a b g n many same there = flat_map_same _ _ n (λ p lt.
    let passes = least_passes (count b) (is_part b g p) (there p lt) in
    ap (λ (m : ℕ). payload a (least_below m (is_part a g p))) many
    ∙ ap (payload a) (least_same (count b) (is_part a g p) (is_part b g p)
    (λ j lj. part_same a b j (same j lj) refl refl))
    ∙ payload_same p (least_below (count b) (is_part b g p)) passes.0 passes.1)
  where
    payload_same : (p j : ℕ) → j < count b → is_part b g p j ≡ true → payload a j ≡ payload b j
    payload_same p j lt is =
        let of = and_parts (is_of b g j) (eqb (part b j) p) is in
        let frag = and_parts (is_fragment b j) (eqb (group b j) g) of.0 in
        let two = leb-true 2 (parts b j) frag.0 in
        (same j lt).payload (omega arith)

-- what a block adds, by its fields
pub entry_none : (blocks : List ℕ) (k : ℕ) → parts blocks k ≡ 0 → entry blocks k ≡ []
unfolding entry
entry_none blocks k e = rw e refl

pub entry_later : (blocks : List ℕ) (k : ℕ) → 2 ≤ parts blocks k → 1 ≤ part blocks k → entry blocks k ≡ []
unfolding entry
entry_later blocks k two later =
    let one : eqb (parts blocks k) 1 ≡ false = ne_eqb _ _ (λ e. absurd (omega arith)) in
    let frag : is_fragment blocks k ≡ true = le-leb _ _ two in
    let first : eqb (part blocks k) 0 ≡ false = ne_eqb _ _ (λ e. absurd (omega arith)) in
    rw (one, frag, first) refl

pub entry_whole : (blocks : List ℕ) (k : ℕ) → parts blocks k ≡ 1 → entry blocks k ≡ record { block = k + 4; payload = payload blocks k } ∷ []
unfolding entry
entry_whole blocks k e = rw e refl

pub entry_first : (blocks : List ℕ) (k : ℕ) → 2 ≤ parts blocks k → part blocks k ≡ 0 → entry blocks k ≡ record { block = k + 4; payload = gathered blocks (group blocks k) (parts blocks k) } ∷ []
unfolding entry
entry_first blocks k two e =
    let one : eqb (parts blocks k) 1 ≡ false = ne_eqb _ _ (λ e. absurd (omega arith)) in
    let frag : is_fragment blocks k ≡ true = le-leb _ _ two in
    let first : eqb (part blocks k) 0 ≡ true = eq-eqb _ _ e in
    rw (one, frag, first) refl

abbrev pub joined : ℕ → List ℕ → Joined
joined block bytes = record { block = block; payload = bytes }

pub one_entry : (a b : ℕ) (x y : List ℕ) → a ≡ b → x ≡ y → joined a x ∷ [] ≡ joined b y ∷ []
one_entry a b x y e f = λ i. joined (e i) (f i) ∷ []

-- what a block adds, that of one that reads alike adds
entry_same : (a b : List ℕ) (k : ℕ) → count a ≡ count b → AreSame (count b) a b → k < count b → missing_fault b k ≡ None → entry a k ≡ entry b k
entry_same a b k many same lt full =
    let s = same k lt in
    let n = s.parts in
    let p = s.part in
    let there = λ (two : 2 ≤ parts b k) (p : ℕ) (below : p < parts b k).
    part_there b (group b k) (parts b k) p (has_all_of b k full (le-leb _ _ two)) below in
    elim (cases_order (parts b k) 1) [
      | inl one ↦ entry_whole a k (omega arith)
          ∙ one_entry _ _ _ _ refl (s.payload (omega arith)) ∙ sym (entry_whole b k one)
      | inr off ↦ elim off [
        | inl none ↦ entry_none a k (omega arith) ∙ sym (entry_none b k (omega arith))
        | inr two ↦ elim (cases_eq (part b k) 0) [
          | inl first ↦ entry_first a k (omega arith) (omega arith)
              ∙ one_entry _ _ _ _ refl ((λ i. gathered a (s.group i) (s.parts i))
              ∙ gathered_same a b (group b k) (parts b k) many same (there two))
              ∙ sym (entry_first b k two first)
          | inr later ↦ entry_later a k (omega arith) (omega arith)
              ∙ sym (entry_later b k two (omega arith))
        ]
      ]
    ]

entries_same : (a b : List ℕ) (n : ℕ) → count a ≡ count b → AreSame (count b) a b → n ≤ count b → first_below (count b) (missing_fault b) ≡ None → entries a n ≡ entries b n
unfolding entries
entries_same a b n many same le full =
    flat_map_same (entry a) (entry b) n
    (λ k lt. entry_same a b k many same (omega arith)
    (faultless_below (count b) k (missing_fault b) full (omega arith)))

joins_same : (a b : List ℕ) (list : List Joined) → count a ≡ count b → AreSame (count b) a b → Joins a list → Joins b list
unfolding first_block_fault
joins_same a b list many same joins =
    let clean : first_block_fault b ≡ None = sym (first_fault_same a b many same) ∙ joins_clean a list joins in
    let both = or_none (first_below (count b) (block_fault b)) (first_below (count b) (missing_fault b)) clean in
    let listed = joins.entries_are ∙ ap (entries a) many ∙ entries_same a b (count b) many same (omega arith) both.1 in
    subst (Joins b) (sym listed) (faultless_joins b clean)

-- blocks that read alike have the same answer
pub answers_same : (a b : List ℕ) (r : Result (Vec Joined) FragError) → count a ≡ count b → AreSame (count b) a b → AnswersBlocks a r → AnswersBlocks b r
answers_same a b (Ok v) many same answers = joins_same a b v.items many same answers
answers_same a b (Err NoMemory) many same answers = tt
answers_same a b (Err (Fault f)) many same answers = sym (first_fault_same a b many same) ∙ answers
