-- What a joiner keeps of blocks, seen as blocks, and its table of groups.
use Rattle.std.proofs.Common.{◌≡◌, ℕ, zero, suc, ◌+◌, ◌<◌, ◌≤◌, Bool, true, false, not, cond, eqb, leb, ltb, List, ◌++◌, length, get_or, set, Option, Some, None, is_some, unwrap_or, refl, sym, ap, subst, ◌∙◌, arith, inl, inr, get_or-set_same, get_or-set_other, ◌*◌, [], ◌∷◌, take, drop, replicate, All}
use Rattle.std.specs.Prelude.{◌&&◌, Result}
use Rattle.std.specs.Ordering.{nat_cmp}
use Rattle.std.specs.BTreeMap.{BTreeMap, get, Updates}
use Rattle.std.specs.Cmp.{unsigned_tied}
use Rattle.std.proofs.lemmas.List.{length-set, append-nil, append_assoc, drop-drop, take-append-drop, length-append, length-replicate, length-drop, length-take-le, length_push, get_or_push, take_at}
use Rattle.std.proofs.lemmas.Bool.{cases_lt, cases_eq, eqb-true, eq-eqb, ne_eqb, lt-ltb, le-leb, lt-leb, leb-true, and_parts, cases_Bool, not-false, false≢true}
use Rattle.ldm_frags.specs.declared.groups.Group.{Group}
use Rattle.ldm_frags.specs.Blocks.{count, has_magic, group, part, parts, is_fragment, is_of, is_part, is_mixed, is_there, has_parts, some_below, all_below, least_below, payload}
use Rattle.ldm_frags.specs.Faults.{fault_by, block_fault, has_all, missing_fault, first_below, first_block_fault, or_else}
use Rattle.ldm_frags.specs.declared.faults.FragFault.TheVariants.{Missing}
use Rattle.ldm_frags.specs.Fed.{IsSameBlock, Fed, IsFed}
use Rattle.ldm_frags.specs.Groups.{empty_group, part_place, has_other, first_passing, IsMet, Knows, IsTable}
use Rattle.ldm_frags.proofs.Below.{some_there, none_there, none_from, least_passes, some_more, passing_skip, passing_here, passing_some, faultless_below, faultless_from, first_there, some_same, all_same}
use Rattle.ldm_frags.proofs.JoinLaws.{Sound, same_turned, same_before, part_same, mixed_same, sound_of, frag_is, few_parts, AreSame, same_bytes, same_through, fault_same, fault_before, faults_before, table_same, answers_same}
use Rattle.std.specs.Global.{Vec}
use Rattle.std.specs.List.{flat_map}
use Rattle.std.specs.Simd.{first_chunks}
use Rattle.std.proofs.Math.Seq.{drop-append-add, drop-append_seam, take-add}
use Rattle.std.proofs.lemmas.Grind.{flat_map-append}
use Rattle.std.proofs.lemmas.List.Elements.{All-push}
use Rattle.ldm_frags.specs.declared.blocks.Head.{Head}
use Rattle.ldm_frags.specs.declared.blocks.Piece.{Piece}
use Rattle.ldm_frags.specs.declared.faults.FragError.{FragError}
use Rattle.ldm_frags.specs.declared.faults.FragFault.{FragFault}
use Rattle.ldm_frags.specs.declared.faults.FragError.TheVariants.{Fault, NoMemory}
use Rattle.ldm_frags.specs.declared.faults.Joined.{Joined}
use Rattle.ldm_frags.specs.Answers.{AnswersBlocks, IsFault}
use Rattle.ldm_frags.specs.Kept.{head_at, IsNextPiece, IsPiece, IsWholePiece, block_of, blocks_of, IsKeptTable}
use Rattle.ldm_frags.proofs.BlockLaws.{HasFields, fields_of, written_length}
use borrow.Author.Count.{below_more}

-- ---- What a table of groups answers, and one more block in it.

-- ---- what a table answers

-- whether a part of a group is there
pub part_in : (blocks : List ℕ) (groups : BTreeMap ℕ Group) (g p : ℕ) (place : Option ℕ) → IsTable blocks (count blocks) groups → p < 4 → place ≡ part_place (get nat_cmp groups g) p → is_some place ≡ is_there blocks g p
part_in blocks groups g p place table lt e = ap is_some (e ∙ table.places g p lt) ∙ passing_some (count blocks) (is_part blocks g p)

pub mixed_none : (blocks : List ℕ) (k g n : ℕ) → Knows blocks k g None → some_below k (is_mixed blocks g n) ≡ false
mixed_none blocks k g n none = none_from k (is_mixed blocks g n) (λ j lt. let other : is_of blocks g j ≡ false = none_there k j (is_of blocks g) lt none in rw other refl)

pub mixed_some : (blocks : List ℕ) (k g n : ℕ) (found : Group) → Knows blocks k g (Some found) → not (eqb found.parts n) ≡ some_below k (is_mixed blocks g n)
mixed_some blocks k g n found met = elim (cases_Bool (eqb found.parts n)) [
  | inl e ↦ rw e (sym (none_from k (is_mixed blocks g n) (λ j lt.
      elim (cases_Bool (is_of blocks g j)) [
        | inl of ↦ rw (of, eq-eqb _ _ (met.one_count j lt of ∙ eqb-true _ _ e)) refl
        | inr other ↦ rw other refl
      ])))
  | inr e ↦
      let least = least_passes k (is_of blocks g) met.some in
      let differs = ap (λ (m : ℕ). eqb m n) (met.one_count _ least.0 least.1) ∙ e in
      rw e (sym (some_there k _ (is_mixed blocks g n) least.0 (rw (least.1, differs) refl)))
]

-- whether a fragment of the group has another number of parts
pub other_is : (blocks : List ℕ) (k g n : ℕ) (found : Option Group) → Knows blocks k g found → has_other found n ≡ some_below k (is_mixed blocks g n)
other_is blocks k g n None known = sym (mixed_none blocks k g n known)
other_is blocks k g n (Some s) known = mixed_some blocks k g n s known

-- every part of a group was met
pub all_is : (blocks : List ℕ) (groups : BTreeMap ℕ Group) (g n : ℕ) → IsTable blocks (count blocks) groups → n ≤ 4 → all_below n (λ p. is_some (part_place (get nat_cmp groups g) p)) ≡ has_parts blocks g n
unfolding has_parts
all_is blocks groups g n table few = all_same n (λ p. is_some (part_place (get nat_cmp groups g) p)) (is_there blocks g) (λ p lt. part_in blocks groups g p _ table (omega arith) refl)

-- whether a part was met counts only of a part below 4
fault_lazy : (number : ℕ) (magic : Bool) (part parts : ℕ) (mixed again other : Bool) → (part < 4 → again ≡ other) → fault_by number magic part parts mixed again ≡ fault_by number magic part parts mixed other
fault_lazy number magic part parts mixed again other h =
    elim (cases_lt part 4) [
      | inl low ↦ ap (fault_by number magic part parts mixed) (h low)
      | inr high ↦ elim (cases_lt 4 parts) [
        | inl many ↦ let over : ltb 4 parts ≡ true = lt-ltb _ _ many in rw over refl
        | inr few ↦ let past : leb parts part ≡ true = le-leb _ _ (omega arith) in rw past refl
      ]
    ]

-- the table of the blocks before it says the fault of a block
pub fault_is : (blocks block : List ℕ) (k : ℕ) (groups : BTreeMap ℕ Group) → k ≡ count blocks → IsSameBlock (blocks ++ block) k block 0 → IsTable blocks k groups
    → fault_by (k + 4) (has_magic block 0) (part block 0) (parts block 0) (has_other (get nat_cmp groups (group block 0)) (parts block 0)) (is_some (part_place (get nat_cmp groups (group block 0)) (part block 0)))
    ≡ block_fault (blocks ++ block) k
unfolding block_fault
fault_is blocks block k groups e s table =
    fault_lazy (k + 4) (has_magic block 0) (part block 0) (parts block 0) (has_other (get nat_cmp groups (group block 0)) (parts block 0)) (is_some (part_place (get nat_cmp groups (group block 0)) (part block 0)))
    (some_below k (is_part (blocks ++ block) (group (blocks ++ block) k) (part (blocks ++ block) k))) again
    ∙ (λ i. fault_by (k + 4) (sym s.magic i) (sym s.part i) (sym s.parts i) (mixed i) (some_below k (is_part (blocks ++ block) (group (blocks ++ block) k) (part (blocks ++ block) k))))
  where
    same : (j : ℕ) → j < k → IsSameBlock blocks j (blocks ++ block) j
    same j lt = same_turned (blocks ++ block) j blocks j (same_before blocks block j (omega arith))

    mixed : has_other (get nat_cmp groups (group block 0)) (parts block 0) ≡ some_below k (is_mixed (blocks ++ block) (group (blocks ++ block) k) (parts (blocks ++ block) k))
    mixed =
        other_is blocks k (group block 0) (parts block 0) (get nat_cmp groups (group block 0)) (table.known (group block 0))
        ∙ some_same k (is_mixed blocks (group block 0) (parts block 0)) (is_mixed (blocks ++ block) (group (blocks ++ block) k) (parts (blocks ++ block) k)) (λ j lt. mixed_same blocks (blocks ++ block) j (same j lt) (sym s.group) (sym s.parts))

    again : part block 0 < 4 → is_some (part_place (get nat_cmp groups (group block 0)) (part block 0)) ≡ some_below k (is_part (blocks ++ block) (group (blocks ++ block) k) (part (blocks ++ block) k))
    again lt =
        ap is_some (table.places (group block 0) (part block 0) lt) ∙ passing_some k (is_part blocks (group block 0) (part block 0))
        ∙ some_same k (is_part blocks (group block 0) (part block 0)) (is_part (blocks ++ block) (group (blocks ++ block) k) (part (blocks ++ block) k)) (λ j lj. part_same blocks (blocks ++ block) j (same j lj) (sym s.group) (sym s.part))

-- whether block k is of a group that lacks a part
pub missing_none : (blocks : List ℕ) (k : ℕ) → parts blocks k < 2 → missing_fault blocks k ≡ None
unfolding missing_fault
missing_none blocks k few = let other : leb 2 (parts blocks k) ≡ false = lt-leb _ _ few in rw other refl

pub missing_is : (blocks : List ℕ) (k : ℕ) (all : Bool) → 2 ≤ parts blocks k → has_all blocks k ≡ all → missing_fault blocks k ≡ cond all None (Some (Missing (k + 4)))
unfolding missing_fault
missing_is blocks k true two e = let frag : leb 2 (parts blocks k) ≡ true = le-leb _ _ two in rw (frag, e) refl
missing_is blocks k false two e = let frag : leb 2 (parts blocks k) ≡ true = le-leb _ _ two in rw (frag, e) refl

-- ---- one more block

-- a block of another group changes nothing of this one
pub known_kept : (blocks : List ℕ) (k g : ℕ) (found : Option Group) → is_of blocks g k ≡ false → Knows blocks k g found → Knows blocks (k + 1) g found
known_kept blocks k g None other none = some_more k (is_of blocks g) other ∙ none
known_kept blocks k g (Some group) other met = record {
  some = some_more k (is_of blocks g) other ∙ met.some;
  one_count = below_more (λ j. is_of blocks g j ≡ true → parts blocks j ≡ group.parts) k
      met.one_count (λ of. absurd (false≢true (sym other ∙ of)));
  places = met.places;
}

-- a block that is no fragment adds nothing
pub table_skip : (blocks : List ℕ) (k : ℕ) (groups : BTreeMap ℕ Group) → is_fragment blocks k ≡ false → IsTable blocks k groups → IsTable blocks (k + 1) groups
table_skip blocks k groups other table = record {
  known = λ g. known_kept blocks k g (get nat_cmp groups g) (rw other refl) (table.known g);
  places = λ g p lt. table.places g p lt ∙ sym (passing_skip k (is_part blocks g p) (rw other refl));
}

-- the group of block k, as the table has it, or without any part
abbrev pub found_of : BTreeMap ℕ Group → ℕ → ℕ → Group
found_of groups g n = unwrap_or (get nat_cmp groups g) (empty_group n)

-- all fragments of the group so far have as many parts as block k
known_more : (blocks : List ℕ) (k g : ℕ) (found : Option Group) (places : List (Option ℕ)) → g ≡ group blocks k → Sound blocks k → is_fragment blocks k ≡ true → is_of blocks g k ≡ true → length places ≡ 4 → Knows blocks k g found
    → Knows blocks (k + 1) g (Some (record { parts = (unwrap_or found (empty_group (parts blocks k))).parts; places = places }))
known_more blocks k g found places e sound frag of len known = record {
  some = some_there (k + 1) k (is_of blocks g) (omega arith) of;
  one_count = counts found known;
  places = len;
}
  where
    -- block k has as many parts as those before
    counted : (s : Group) → IsMet blocks k g s → parts blocks k ≡ s.parts
    counted s met =
        let unmixed : some_below k (is_mixed blocks g (parts blocks k)) ≡ false =
        rw e (sound.unmixed frag) in
        sym (eqb-true _ _ (not-false (eqb s.parts (parts blocks k))
        (mixed_some blocks k g (parts blocks k) s met ∙ unmixed)))

    Counts : ℕ → ℕ → Type 0
    Counts n j = is_of blocks g j ≡ true → parts blocks j ≡ n

    counts : (f : Option Group) → Knows blocks k g f → (j : ℕ) → j < k + 1
        → Counts (unwrap_or f (empty_group (parts blocks k))).parts j
    counts None none =
        below_more (Counts (parts blocks k)) k
        (λ j below is. absurd (false≢true (sym (none_there k j (is_of blocks g) below none) ∙ is)))
        (λ is. refl)
    counts (Some s) met = below_more (Counts s.parts) k met.one_count (λ is. counted s met)

four : (blocks : List ℕ) (k g : ℕ) (f : Option Group) → Knows blocks k g f → length (unwrap_or f (empty_group (parts blocks k))).places ≡ 4
four blocks k g None none = refl
four blocks k g (Some s) met = met.places

-- a group without any part has none
nothing : (n i : ℕ) → get_or (empty_group n).places i None ≡ None
nothing n zero = refl
nothing n (suc zero) = refl
nothing n (suc (suc zero)) = refl
nothing n (suc (suc (suc zero))) = refl
nothing n (suc (suc (suc (suc i)))) = refl

-- the parts of the group: block k is one more
places_more : (blocks : List ℕ) (k g q p : ℕ) (found : Option Group) → Sound blocks k → g ≡ group blocks k → q ≡ part blocks k → is_fragment blocks k ≡ true → q < 4 → p < 4 → Knows blocks k g found
    → part_place found p ≡ first_passing k (is_part blocks g p) → get_or (set (unwrap_or found (empty_group (parts blocks k))).places q (Some k)) p None ≡ first_passing (k + 1) (is_part blocks g p)
places_more blocks k g q p found sound e f frag lq lp known before =
    elim (cases_eq p q) [
      | inl same ↦
          let in_group : eqb (group blocks k) g ≡ true = eq-eqb _ _ (sym e) in
          let is_q : eqb (part blocks k) p ≡ true = eq-eqb _ _ (sym (same ∙ f)) in
          let here : is_part blocks g p k ≡ true = rw (frag, in_group, is_q) refl in
          let new : some_below k (is_part blocks g p) ≡ false =
          subst (λ (h : ℕ). some_below k (is_part blocks h p) ≡ false) (sym e) (subst (λ (r : ℕ). some_below k (is_part blocks (group blocks k) r) ≡ false) (sym (same ∙ f)) (sound.new frag)) in
          let len = four blocks k g found known in
          let at : q < length (unwrap_or found (empty_group (parts blocks k))).places = omega arith in
          ap (λ (r : ℕ). get_or (set (unwrap_or found (empty_group (parts blocks k))).places q (Some k)) r None) same
          ∙ get_or-set_same _ q (Some k) None at ∙ sym (passing_here k (is_part blocks g p) here new)
      | inr apart ↦
          let other : eqb (part blocks k) p ≡ false = ne_eqb _ _ (λ h. apart (sym (f ∙ h))) in
          let not_here : is_part blocks g p k ≡ false = and_false (is_of blocks g k) (eqb (part blocks k) p) other in
          get_or-set_other _ q p (Some k) None apart ∙ at_first found before ∙ sym (passing_skip k (is_part blocks g p) not_here)
    ]
  where
    and_false : (a b : Bool) → b ≡ false → (a && b) ≡ false
    and_false true b h = h
    and_false false b h = refl

    at_first : (f : Option Group) → part_place f p ≡ first_passing k (is_part blocks g p) → get_or (unwrap_or f (empty_group (parts blocks k))).places p None ≡ first_passing k (is_part blocks g p)
    at_first None h = nothing (parts blocks k) p ∙ h
    at_first (Some s) h = h

-- a fragment that has no fault stands in its group
pub table_add : (blocks : List ℕ) (k g q n : ℕ) (old new : BTreeMap ℕ Group) → IsTable blocks k old → Sound blocks k → is_fragment blocks k ≡ true → g ≡ group blocks k → q ≡ part blocks k → n ≡ parts blocks k → q < 4
    → Updates nat_cmp old new g (Some (record { parts = (found_of old g n).parts; places = set (found_of old g n).places q (Some k) })) → IsTable blocks (k + 1) new
table_add blocks k g q n old new table sound frag e f m lq updates = record {
  known = λ h. elim (cases_eq h g) [
    | inl same ↦ subst (λ (x : ℕ). Knows blocks (k + 1) x (get nat_cmp new x)) (sym same) (subst (Knows blocks (k + 1) g) (sym at_g) (added (get nat_cmp old g) (table.known g)))
    | inr apart ↦ subst (Knows blocks (k + 1) h) (sym (others h apart)) (known_kept blocks k h (get nat_cmp old h) (not_of h apart) (table.known h))
  ];
  places = λ h p lp. elim (cases_eq h g) [
    | inl same ↦
        ap (λ (x : ℕ). part_place (get nat_cmp new x) p) same ∙ ap (λ (o : Option Group). part_place o p) at_g
        ∙ ap (λ (c : ℕ). get_or (set (found_of old g c).places q (Some k)) p None) m
        ∙ places_more blocks k g q p (get nat_cmp old g) sound e f frag lq lp (table.known g) (table.places g p lp)
        ∙ ap (λ (x : ℕ). first_passing (k + 1) (is_part blocks x p)) (sym same)
    | inr apart ↦
        let of : is_of blocks h k ≡ false = not_of h apart in
        ap (λ (o : Option Group). part_place o p) (others h apart) ∙ table.places h p lp ∙ sym (passing_skip k (is_part blocks h p) (rw of refl))
  ];
}
  where
    in_group : is_of blocks g k ≡ true
    in_group = let same : eqb (group blocks k) g ≡ true = eq-eqb _ _ (sym e) in rw (frag, same) refl

    at_g : get nat_cmp new g ≡ Some (record { parts = (found_of old g n).parts; places = set (found_of old g n).places q (Some k) })
    at_g = updates.1

    others : (h : ℕ) → (h ≡ g → ⊥) → get nat_cmp new h ≡ get nat_cmp old h
    others h apart = updates.2 h (unsigned_tied g h ∙ ne_eqb g h (λ x. apart (sym x)))

    not_of : (h : ℕ) → (h ≡ g → ⊥) → is_of blocks h k ≡ false
    not_of h apart = let other : eqb (group blocks k) h ≡ false = ne_eqb _ _ (λ x. apart (sym x ∙ sym e)) in rw (frag, other) refl

    added : (found : Option Group) → Knows blocks k g found → Knows blocks (k + 1) g (Some (record { parts = (unwrap_or found (empty_group n)).parts; places = set (unwrap_or found (empty_group n)).places q (Some k) }))
    added found known =
        subst (λ (c : ℕ). Knows blocks (k + 1) g (Some (record { parts = (unwrap_or found (empty_group c)).parts; places = set (unwrap_or found (empty_group c)).places q (Some k) }))) (sym m)
        (known_more blocks k g found (set (unwrap_or found (empty_group (parts blocks k))).places q (Some k)) e sound frag in_group (length-set _ q (Some k) ∙ four blocks k g found known) known)

-- ---- What is kept of blocks, seen as blocks.

-- ---- lengths and places

block_length : (piece : Piece) → length (block_of piece) ≡ 128
block_length piece =
    written_length 0 piece.head.group piece.head.part piece.head.parts (take 112 (piece.payload ++ replicate 112 0))
    (length-take-le 112 (piece.payload ++ replicate 112 0) (omega (arith, length-append piece.payload (replicate 112 0), length-replicate {A = ℕ} 112 0)))

pub blocks_length : (pieces : List Piece) → length (blocks_of pieces) ≡ 128 * length pieces
unfolding blocks_of
blocks_length [] = refl
blocks_length (piece ∷ rest) =
    let here = block_length piece in
    let more = blocks_length rest in
    omega (arith, length-append (block_of piece) (flat_map block_of rest))

pub count_of : (pieces : List Piece) → count (blocks_of pieces) ≡ length pieces
count_of pieces = let len = blocks_length pieces in omega arith

pub blocks_push : (pieces : List Piece) (piece : Piece) → blocks_of (pieces ++ piece ∷ []) ≡ blocks_of pieces ++ block_of piece
unfolding blocks_of
blocks_push pieces piece = flat_map-append block_of pieces (piece ∷ []) ∙ ap (λ (r : List ℕ). flat_map block_of pieces ++ r) (append-nil (block_of piece))

block_there : (pieces : List Piece) (k : ℕ) (d : Piece) → k < length pieces → take 128 (drop (128 * k) (blocks_of pieces)) ≡ block_of (get_or pieces k d)
unfolding blocks_of
block_there [] k d lt = absurd (omega arith)
block_there (piece ∷ rest) zero d lt = take_at (block_of piece) (flat_map block_of rest) 128 (block_length piece)
block_there (piece ∷ rest) (suc k) d lt =
    let here = block_length piece in
    let skip : 128 * suc k ≡ length (block_of piece) + 128 * k = omega arith in
    ap (λ (n : ℕ). take 128 (drop n (block_of piece ++ flat_map block_of rest))) skip
    ∙ ap (take 128) (drop-append-add (block_of piece) (flat_map block_of rest) (128 * k))
    ∙ block_there rest k d (omega arith)

-- what the block of a piece says
fields_at : (pieces : List Piece) (k : ℕ) (d : Piece) → k < length pieces → IsWholePiece (get_or pieces k d)
    → HasFields (blocks_of pieces) k (get_or pieces k d).head.group (get_or pieces k d).head.part (get_or pieces k d).head.parts (take 112 ((get_or pieces k d).payload ++ replicate 112 0))
fields_at pieces k d lt whole =
    let piece : Piece = get_or pieces k d in
    fields_of (blocks_of pieces) k (k + 4) 0 piece.head.group piece.head.part piece.head.parts (take 112 (piece.payload ++ replicate 112 0)) refl
    (ap (λ (n : ℕ). take 128 (drop (128 * n) (blocks_of pieces))) (omega arith) ∙ block_there pieces k d lt) whole.group whole.part whole.parts

same_head : {g h p q m n : ℕ} → g ≡ h → p ≡ q → m ≡ n → (let a : Head = record { group = g; part = p; parts = m } in a) ≡ record { group = h; part = q; parts = n }
same_head e f s = λ i. record { group = e i; part = f i; parts = s i }

pub piece_read : (pieces : List Piece) (k : ℕ) (d : Piece) → k < length pieces → All IsWholePiece pieces → IsPiece (blocks_of pieces) k (get_or pieces k d)
piece_read pieces k d lt whole =
    let has = fields_at pieces k d lt (whole k d lt) in
    record {
      head = same_head (sym has.group) (sym has.part) (sym has.parts);
      payload = λ used. sym (has.payload ∙ take_at (get_or pieces k d).payload (replicate 112 0) 112 ((whole k d lt).full used));
    }

-- ---- one block more

-- the block behind others
end_same : (blocks block : List ℕ) (n : ℕ) → length blocks ≡ 128 * n → length block ≡ 128 → IsSameBlock (blocks ++ block) n block 0
end_same blocks block n whole len =
    same_bytes (blocks ++ block) n block 0
    (ap (λ (m : ℕ). take 128 (drop m (blocks ++ block))) (omega arith) ∙ ap (take 128) (drop-append_seam blocks block))

pub payload_length : (block : List ℕ) → length block ≡ 128 → length (payload block 0) ≡ 112
payload_length block len = let rest = length-drop 16 block in length-take-le 112 (drop 16 block) (omega arith)

-- the piece of a block reads like it
last_same : (pieces : List Piece) (piece : Piece) (block : List ℕ) → IsWholePiece piece → IsPiece block 0 piece → has_magic block 0 ≡ true → IsSameBlock (blocks_of (pieces ++ piece ∷ [])) (length pieces) block 0
last_same pieces piece block whole is magic =
    let all : List Piece = pieces ++ piece ∷ [] in
    let long = length_push pieces piece in
    let last : get_or all (length pieces) piece ≡ piece = get_or_push pieces piece piece (length pieces) refl in
    let has : HasFields (blocks_of all) (length pieces) piece.head.group piece.head.part piece.head.parts (take 112 (piece.payload ++ replicate 112 0)) =
    subst (λ (x : Piece). HasFields (blocks_of all) (length pieces) x.head.group x.head.part x.head.parts (take 112 (x.payload ++ replicate 112 0))) last
    (fields_at all (length pieces) piece (omega arith) (subst IsWholePiece (sym last) whole)) in
    let parts = ap (λ (h : Head). h.parts) is.head in
    record {
      magic = has.magic ∙ sym magic;
      group = has.group ∙ ap (λ (h : Head). h.group) is.head;
      part = has.part ∙ ap (λ (h : Head). h.part) is.head;
      parts = has.parts ∙ parts;
      payload = λ used. has.payload ∙ take_at piece.payload (replicate 112 0) 112 (whole.full (omega arith)) ∙ is.payload (omega arith);
    }

next_magic : (pieces : List Piece) (piece : Piece) (block : List ℕ) → IsNextPiece pieces piece block → has_magic block 0 ≡ true
next_magic pieces piece block next =
    sym (end_same (blocks_of pieces) block (length pieces) (blocks_length pieces) next.len).magic ∙ (sound_of (blocks_of pieces ++ block) (length pieces) next.clean).magic

next_last : (pieces : List Piece) (piece : Piece) (block : List ℕ) → IsNextPiece pieces piece block → IsSameBlock (blocks_of (pieces ++ piece ∷ [])) (length pieces) block 0
next_last pieces piece block next = last_same pieces piece block next.whole next.is (next_magic pieces piece block next)

-- those before stay
before_same : (pieces : List Piece) (piece : Piece) → AreSame (length pieces) (blocks_of (pieces ++ piece ∷ [])) (blocks_of pieces)
before_same pieces piece k lt =
    let many = count_of pieces in
    subst (λ (x : List ℕ). IsSameBlock x k (blocks_of pieces) k) (sym (blocks_push pieces piece)) (same_before (blocks_of pieces) (block_of piece) k (omega arith))

next_clean : (pieces : List Piece) (piece : Piece) (block : List ℕ) → IsNextPiece pieces piece block → block_fault (blocks_of (pieces ++ piece ∷ [])) (length pieces) ≡ None
next_clean pieces piece block next =
    let n : ℕ = length pieces in
    let kept : List ℕ = blocks_of pieces in
    let all : List ℕ = blocks_of (pieces ++ piece ∷ []) in
    let many = count_of pieces in
    let end = same_turned (kept ++ block) n block 0 (end_same kept block n (blocks_length pieces) next.len) in
    fault_same all (kept ++ block) n
    (λ k lt. same_through all k kept k (kept ++ block) k (before_same pieces piece k lt) (same_turned (kept ++ block) k kept k (same_before kept block k (omega arith))))
    (same_through all n block 0 (kept ++ block) n (next_last pieces piece block next) end)
    ∙ next.clean

-- a fragment's part is below 4
pub next_part : (pieces : List Piece) (piece : Piece) (block : List ℕ) → IsNextPiece pieces piece block → 2 ≤ piece.head.parts → piece.head.part < 4
next_part pieces piece block next two =
    let end = end_same (blocks_of pieces) block (length pieces) (blocks_length pieces) next.len in
    let sound = sound_of (blocks_of pieces ++ block) (length pieces) next.clean in
    let parts_is : piece.head.parts ≡ parts (blocks_of pieces ++ block) (length pieces) = ap (λ (h : Head). h.parts) next.is.head ∙ sym end.parts in
    let part_is : piece.head.part ≡ part (blocks_of pieces ++ block) (length pieces) = ap (λ (h : Head). h.part) next.is.head ∙ sym end.part in
    let below = sound.below (frag_is (blocks_of pieces ++ block) (length pieces) piece.head.parts parts_is two) in
    let few = sound.few in
    omega arith

-- the table says the fault of the block behind those that are kept
pub kept_fault : (pieces : List Piece) (groups : BTreeMap ℕ Group) (block : List ℕ) (number : ℕ) → IsKeptTable pieces groups → length block ≡ 128 → number ≡ length pieces + 4
    → fault_by number (has_magic block 0) (part block 0) (parts block 0) (has_other (get nat_cmp groups (group block 0)) (parts block 0)) (is_some (part_place (get nat_cmp groups (group block 0)) (part block 0)))
    ≡ block_fault (blocks_of pieces ++ block) (length pieces)
kept_fault pieces groups block number kept len e =
    ap (λ (n : ℕ). fault_by n (has_magic block 0) (part block 0) (parts block 0) (has_other (get nat_cmp groups (group block 0)) (parts block 0)) (is_some (part_place (get nat_cmp groups (group block 0)) (part block 0)))) e
    ∙ fault_is (blocks_of pieces) block (length pieces) groups (sym (count_of pieces)) (end_same (blocks_of pieces) block (length pieces) (blocks_length pieces) len)
    (subst (λ (m : ℕ). IsTable (blocks_of pieces) m groups) (count_of pieces) kept.table)

-- what is noted of a block with this head behind n others
abbrev pub Notes : Head → ℕ → BTreeMap ℕ Group → BTreeMap ℕ Group → Type 0
Notes head n old new = (blocks : List ℕ) → head ≡ head_at blocks n → block_fault blocks n ≡ None → IsTable blocks n old → IsTable blocks (n + 1) new

pub kept_more : (pieces : List Piece) (piece : Piece) (block : List ℕ) (old new : BTreeMap ℕ Group) → IsKeptTable pieces old → IsNextPiece pieces piece block
    → Notes piece.head (length pieces) old new → IsKeptTable (pieces ++ piece ∷ []) new
kept_more pieces piece block old new kept next noted = record {
  table = subst (λ (m : ℕ). IsTable (blocks_of (pieces ++ piece ∷ [])) m new) (sym many_all)
      (noted (blocks_of (pieces ++ piece ∷ [])) head clean (table_same (blocks_of pieces) (blocks_of (pieces ++ piece ∷ [])) (length pieces) old (λ k lt. same_turned (blocks_of (pieces ++ piece ∷ [])) k (blocks_of pieces) k (before_same pieces piece k lt)) (subst (λ (m : ℕ). IsTable (blocks_of pieces) m old) many kept.table)));
  sound = faultless_from (count (blocks_of (pieces ++ piece ∷ []))) (block_fault (blocks_of (pieces ++ piece ∷ []))) sound_at;
  whole = All-push IsWholePiece pieces piece kept.whole next.whole;
}
  where
    many : count (blocks_of pieces) ≡ length pieces
    many = count_of pieces

    many_all : count (blocks_of (pieces ++ piece ∷ [])) ≡ length pieces + 1
    many_all = count_of (pieces ++ piece ∷ []) ∙ length_push pieces piece

    last : IsSameBlock (blocks_of (pieces ++ piece ∷ [])) (length pieces) block 0
    last = next_last pieces piece block next

    clean : block_fault (blocks_of (pieces ++ piece ∷ [])) (length pieces) ≡ None
    clean = next_clean pieces piece block next

    head : piece.head ≡ head_at (blocks_of (pieces ++ piece ∷ [])) (length pieces)
    head = next.is.head ∙ same_head (sym last.group) (sym last.part) (sym last.parts)

    sound_at : (k : ℕ) → k < count (blocks_of (pieces ++ piece ∷ [])) → block_fault (blocks_of (pieces ++ piece ∷ [])) k ≡ None
    sound_at k lt =
        below_more (λ j. block_fault (blocks_of (pieces ++ piece ∷ [])) j ≡ None) (length pieces)
        (λ j below.
        fault_same (blocks_of (pieces ++ piece ∷ [])) (blocks_of pieces) j (λ i li. before_same pieces piece i (omega arith)) (before_same pieces piece j below)
        ∙ faultless_below (count (blocks_of pieces)) j (block_fault (blocks_of pieces)) kept.sound
        (omega (arith, many))) clean k (omega (arith, many_all))

no_group : (groups : BTreeMap ℕ Group) (g : ℕ) → groups.entries ≡ [] → get nat_cmp groups g ≡ None
no_group groups g none = rw none refl

kept_empty : (groups : BTreeMap ℕ Group) → groups.entries ≡ [] → IsKeptTable [] groups
unfolding blocks_of
kept_empty groups none = record {
  table = record {
    known = λ g. subst (Knows [] 0 g) (sym (no_group groups g none)) refl;
    places = λ g p lt. ap (λ (o : Option Group). part_place o p) (no_group groups g none);
  };
  sound = refl;
  whole = λ k d lt. absurd (omega arith);
}

pub kept_none : (pieces : List Piece) (groups : BTreeMap ℕ Group) → pieces ≡ [] → groups.entries ≡ [] → IsKeptTable pieces groups
kept_none pieces groups e none = subst (λ (x : List Piece). IsKeptTable x groups) (sym e) (kept_empty groups none)

pub blocks_none : (pieces : List Piece) → pieces ≡ [] → blocks_of pieces ≡ []
unfolding blocks_of
blocks_none pieces e = rw e refl

-- ---- what a joiner was fed

pub fed_none : (joiner : Fed) → joiner.blocks ≡ [] → joiner.failed ≡ None → IsFed joiner []
fed_none joiner e going = record {
  whole = refl;
  many = ap count e;
  same = λ k lt. absurd (omega arith);
  sound = refl;
  going = going;
}

both_before : (joiner : Fed) (blocks block : List ℕ) → IsFed joiner blocks → AreSame (count blocks) (joiner.blocks ++ block) (blocks ++ block)
both_before joiner blocks block fed k lt =
    let many = fed.many in
    same_through (joiner.blocks ++ block) k joiner.blocks k (blocks ++ block) k (same_before joiner.blocks block k (omega arith))
    (same_through joiner.blocks k blocks k (blocks ++ block) k (fed.same k lt) (same_turned (blocks ++ block) k blocks k (same_before blocks block k lt)))

-- a block has one fault, behind what is kept and behind what was fed
pub fed_fault : (joiner : Fed) (pieces : List Piece) (blocks block : List ℕ) → joiner.blocks ≡ blocks_of pieces → length block ≡ 128 → IsFed joiner blocks
    → block_fault (blocks_of pieces ++ block) (length pieces) ≡ block_fault (blocks ++ block) (count blocks)
fed_fault joiner pieces blocks block e len fed =
    let n : ℕ = count blocks in
    let many : length pieces ≡ n = sym (count_of pieces) ∙ ap count (sym e) ∙ fed.many in
    let whole : length joiner.blocks ≡ 128 * n = ap length e ∙ blocks_length pieces ∙ ap (λ (m : ℕ). 128 * m) many in
    ap (λ (x : List ℕ). block_fault (x ++ block) (length pieces)) (sym e) ∙ ap (block_fault (joiner.blocks ++ block)) many
    ∙ fault_same (joiner.blocks ++ block) (blocks ++ block) n (both_before joiner blocks block fed)
    (same_through (joiner.blocks ++ block) n block 0 (blocks ++ block) n (end_same joiner.blocks block n whole len)
    (same_turned (blocks ++ block) n block 0 (end_same blocks block n fed.whole len)))

pub fed_more : (old new : Fed) (pieces : List Piece) (piece : Piece) (blocks block : List ℕ) → old.blocks ≡ blocks_of pieces → new.blocks ≡ blocks_of (pieces ++ piece ∷ []) → new.failed ≡ None → IsNextPiece pieces piece block → IsFed old blocks → IsFed new (blocks ++ block)
fed_more old new pieces piece blocks block e f going next fed = record {
  whole = let whole = fed.whole in omega (arith, length-append blocks block, next.len);
  many = ap count f ∙ count_of (pieces ++ piece ∷ []) ∙ length_push pieces piece ∙ ap (λ (m : ℕ). m + 1) many ∙ sym longer;
  same = λ k lt. subst (λ (x : List ℕ). IsSameBlock x k (blocks ++ block) k) (sym f)
      (below_more (λ j. IsSameBlock (blocks_of (pieces ++ piece ∷ [])) j (blocks ++ block) j)
      (count blocks) (λ j below.
      same_through (blocks_of (pieces ++ piece ∷ [])) j (blocks_of pieces) j (blocks ++ block) j
      (before_same pieces piece j (omega (arith, many)))
      (same_through (blocks_of pieces) j blocks j (blocks ++ block) j (subst (λ (x : List ℕ). IsSameBlock x j blocks j) e (fed.same j below))
      (same_turned (blocks ++ block) j blocks j (same_before blocks block j below))))
      (same_through (blocks_of (pieces ++ piece ∷ [])) (count blocks) block 0 (blocks ++ block)
      (count blocks)
      (subst (λ (m : ℕ). IsSameBlock (blocks_of (pieces ++ piece ∷ [])) m block 0) many (next_last pieces piece block next))
      (same_turned (blocks ++ block) (count blocks) block 0
      (end_same blocks block (count blocks) fed.whole next.len)))
      k (omega (arith, longer)));
  sound = faultless_from (count (blocks ++ block)) (block_fault (blocks ++ block)) sound_at;
  going = going;
}
  where
    many : length pieces ≡ count blocks
    many = sym (count_of pieces) ∙ ap count (sym e) ∙ fed.many

    longer : count (blocks ++ block) ≡ count blocks + 1
    longer = let whole = fed.whole in omega (arith, length-append blocks block, next.len)

    sound_at : (k : ℕ) → k < count (blocks ++ block) → block_fault (blocks ++ block) k ≡ None
    sound_at k lt = below_more (λ j. block_fault (blocks ++ block) j ≡ None) (count blocks)
        (λ j below. fault_before blocks block j below
        ∙ faultless_below (count blocks) j (block_fault blocks) fed.sound below)
        (sym (fed_fault old pieces blocks block e next.len fed) ∙ next.clean)
        k (omega (arith, longer))

-- ---- what pieces say

-- the payload of a part that is there
pub part_payload : (blocks : List ℕ) (g p k : ℕ) (piece : Piece) → some_below (count blocks) (is_part blocks g p) ≡ true → k ≡ least_below (count blocks) (is_part blocks g p) → IsPiece blocks k piece
    → piece.payload ≡ payload blocks (least_below (count blocks) (is_part blocks g p))
part_payload blocks g p k piece there e is =
    let passes : is_part blocks g p k ≡ true = ap (is_part blocks g p) e ∙ (least_passes (count blocks) (is_part blocks g p) there).1 in
    let of = and_parts (is_of blocks g k) (eqb (part blocks k) p) passes in
    let frag = and_parts (is_fragment blocks k) (eqb (group blocks k) g) of.0 in
    let two = leb-true 2 (parts blocks k) frag.0 in
    let same = ap (λ (h : Head). h.parts) is.head in
    is.payload (omega arith) ∙ ap (payload blocks) e

-- the table says whether every part of a block's group is there
pub kept_all : (pieces : List Piece) (groups : BTreeMap ℕ Group) (k : ℕ) (head : Head) → IsKeptTable pieces groups → head ≡ head_at (blocks_of pieces) k → head.parts ≤ 4
    → has_all (blocks_of pieces) k ≡ all_below head.parts (λ p. is_some (part_place (get nat_cmp groups head.group) p))
kept_all pieces groups k head kept e few =
    ap (λ (h : Head). has_parts (blocks_of pieces) h.group h.parts) (sym e) ∙ sym (all_is (blocks_of pieces) groups head.group head.parts kept.table few)

pub kept_few : (pieces : List Piece) (groups : BTreeMap ℕ Group) (k : ℕ) (head : Head) → IsKeptTable pieces groups → head ≡ head_at (blocks_of pieces) k → k < count (blocks_of pieces) → head.parts ≤ 4
kept_few pieces groups k head kept e lt = subst (λ (h : Head). h.parts ≤ 4) (sym e) (few_parts (blocks_of pieces) k kept.sound lt)

-- what a joiner answers of the blocks that it keeps, it answers of those that it was fed
pub fed_answers : (joiner : Fed) (kept blocks : List ℕ) (r : Result (Vec Joined) FragError) → joiner.blocks ≡ kept → IsFed joiner blocks → AnswersBlocks kept r → AnswersBlocks blocks r
fed_answers joiner kept blocks r e fed answers = answers_same joiner.blocks blocks r fed.many fed.same (subst (λ (x : List ℕ). AnswersBlocks x r) (sym e) answers)

pub same_kept : (a b : Fed) → a ≡ b → b.blocks ≡ a.blocks
same_kept a b e = ap (λ (x : Fed). x.blocks) (sym e)

-- ---- blocks that are fed in their order

chunk_there : (n : ℕ) (blocks : List ℕ) (i : ℕ) (d : List ℕ) → i < n → get_or (first_chunks 128 n blocks) i d ≡ take 128 (drop (128 * i) blocks)
chunk_there zero blocks i d lt = absurd (omega arith)
chunk_there (suc n) blocks zero d lt = refl
chunk_there (suc n) blocks (suc i) d lt =
    let skip : 128 * suc i ≡ 128 + 128 * i = omega arith in
    chunk_there n (drop 128 blocks) i d (omega arith)
    ∙ ap (take 128) (drop-drop (128 * i) 128 blocks ∙ ap (λ (m : ℕ). drop m blocks) (sym skip))

-- one block more is fed
take_block : (blocks block : List ℕ) (i : ℕ) → block ≡ take 128 (drop (128 * i) blocks) → take (128 * i) blocks ++ block ≡ take (128 * (i + 1)) blocks
take_block blocks block i e =
    ap (λ (x : List ℕ). take (128 * i) blocks ++ x) e ∙ sym (ap (λ (m : ℕ). take m blocks) (omega arith) ∙ take-add (128 * i) 128 blocks)

take_count : (blocks : List ℕ) (i : ℕ) → i ≤ count blocks → count (take (128 * i) blocks) ≡ i
take_count blocks i le = let len = length-take-le (128 * i) blocks (omega arith) in omega arith

-- the fault of a block, none before which has one, is the first
fault_met : (blocks block : List ℕ) (joiner : Fed) (i : ℕ) (e : FragError) → i < count blocks → block ≡ take 128 (drop (128 * i) blocks) → IsFed joiner (take (128 * i) blocks)
    → IsFault e (block_fault (take (128 * i) blocks ++ block) (count (take (128 * i) blocks))) → IsFault e (first_below (count blocks) (block_fault blocks))
fault_met blocks block joiner i NoMemory lt is fed found = tt
fault_met blocks block joiner i (Fault f) lt is fed found = first_there (count blocks) i (block_fault blocks) f lt clean here
  where
    at : count (take (128 * i) blocks) ≡ i
    at = take_count blocks i (omega arith)

    parted : (m : ℕ) → take m blocks ++ drop m blocks ≡ blocks
    parted m = take-append-drop m blocks

    clean : first_below i (block_fault blocks) ≡ None
    clean =
        ap (λ (x : List ℕ). first_below i (block_fault x)) (sym (parted (128 * i)))
        ∙ ap (λ (n : ℕ). first_below n (block_fault (take (128 * i) blocks ++ drop (128 * i) blocks))) (sym at)
        ∙ faults_before (take (128 * i) blocks) (drop (128 * i) blocks) ∙ fed.sound

    more : count (take (128 * (i + 1)) blocks) ≡ i + 1
    more = take_count blocks (i + 1) (omega arith)

    here : block_fault blocks i ≡ Some f
    here =
        ap (λ (x : List ℕ). block_fault x i) (sym (parted (128 * (i + 1))))
        ∙ fault_before (take (128 * (i + 1)) blocks) (drop (128 * (i + 1)) blocks) i (omega (arith, more))
        ∙ ap (λ (x : List ℕ). block_fault x i) (sym (take_block blocks block i is))
        ∙ ap (block_fault (take (128 * i) blocks ++ block)) (sym at) ∙ found

-- whatever stands behind it
fault_first : (blocks : List ℕ) (e : FragError) → IsFault e (first_below (count blocks) (block_fault blocks)) → IsFault e (first_block_fault blocks)
unfolding first_block_fault
fault_first blocks NoMemory found = tt
fault_first blocks (Fault f) found = ap (λ (x : Option FragFault). or_else x (first_below (count blocks) (missing_fault blocks))) found

pub first_met : (joiner : Fed) (blocks block rest : List ℕ) (e : FragError) → length block ≡ 128 → IsFed joiner blocks
    → IsFault e (block_fault (blocks ++ block) (count blocks)) → IsFault e (first_block_fault (blocks ++ block ++ rest))
first_met joiner blocks block rest e len fed found =
    let all : List ℕ = blocks ++ (block ++ rest) in
    let before : take (128 * count blocks) all ≡ blocks = take_at blocks (block ++ rest) (128 * count blocks) fed.whole in
    let behind : drop (128 * count blocks) all ≡ block ++ rest = ap (λ (n : ℕ). drop n all) (sym fed.whole) ∙ drop-append_seam blocks (block ++ rest) in
    let more = length-append blocks (block ++ rest) in
    let here = length-append block rest in
    subst (λ (x : List ℕ). IsFault e (first_block_fault x)) (sym (append_assoc blocks block rest)) (fault_first all e
    (fault_met all block joiner (count blocks) e (omega (arith, fed.whole))
    (sym (ap (take 128) behind ∙ take_at block rest 128 len))
    (subst (IsFed joiner) (sym before) fed)
    (subst (λ (x : List ℕ). IsFault e (block_fault (x ++ block) (count x))) (sym before) found)))

chunk_is : (blocks : List ℕ) (chunks : List (List ℕ)) (i : ℕ) (d : List ℕ) → chunks ≡ first_chunks 128 (count blocks) blocks → i < count blocks → get_or chunks i d ≡ take 128 (drop (128 * i) blocks)
chunk_is blocks chunks i d e lt = ap (λ (x : List (List ℕ)). get_or x i d) e ∙ chunk_there (count blocks) blocks i d lt

module _ (fed blocks : List ℕ) (chunks : List (List ℕ)) (i : ℕ) (d : List ℕ) (e : chunks ≡ first_chunks 128 (count blocks) blocks) (lt : i < count blocks) where
  joined_block : fed ++ take (128 * i) blocks ++ get_or chunks i d ≡ fed ++ take (128 * (i + 1)) blocks
  joined_block =
      append_assoc fed (take (128 * i) blocks) (get_or chunks i d)
      ∙ ap (λ (x : List ℕ). fed ++ x) (take_block blocks (get_or chunks i d) i (chunk_is blocks chunks i d e lt))

  pub chunk_fed : (joiner : Fed) → IsFed joiner (fed ++ take (128 * i) blocks ++ get_or chunks i d) → IsFed joiner (fed ++ take (128 * (i + 1)) blocks)
  chunk_fed joiner is = subst (IsFed joiner) joined_block is

  pub chunk_fault : (rest : List ℕ) (f : FragError) → IsFault f (first_block_fault (fed ++ take (128 * i) blocks ++ get_or chunks i d ++ (drop (128 * (i + 1)) blocks ++ rest)))
      → IsFault f (first_block_fault (fed ++ blocks ++ rest))
  chunk_fault rest f found =
      let more : List ℕ = drop (128 * (i + 1)) blocks in
      let all : fed ++ take (128 * (i + 1)) blocks ++ more ≡ fed ++ blocks =
      append_assoc fed (take (128 * (i + 1)) blocks) more ∙ ap (λ (x : List ℕ). fed ++ x) (take-append-drop (128 * (i + 1)) blocks) in
      subst (λ (x : List ℕ). IsFault f (first_block_fault x))
      (ap (λ (x : List ℕ). x ++ (more ++ rest)) joined_block ∙ sym (append_assoc (fed ++ take (128 * (i + 1)) blocks) more rest) ∙ ap (λ (x : List ℕ). x ++ rest) all)
      found
