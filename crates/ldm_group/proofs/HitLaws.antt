-- What a look-up finds, one record after the other.
use Rattle.std.proofs.Common.{◌≡◌, ℕ, ◌+◌, ◌<◌, ◌≤◌, ◌==◌, ◌||◌, inl, inr, Bool, true, false, cond, List, [], ◌∷◌, length, take, get_or, slice_get, find, refl, ap, sym, subst, ◌∙◌, arith, Option, Some, None, count_by, not, bytes_eq, Result, Ok, Err, OnOk}
use Rattle.std.specs.Option.{option_map}
use Rattle.std.specs.List.{position_or_len}
use Rattle.std.specs.Prelude.{nat_lt}
use Rattle.std.specs.Cmp.Lexicographic.{bytes_decides}
use Rattle.indexmap.specs.IndexMap as map
use Rattle.std.specs.Map.{KeepsOthers}
use Rattle.std.proofs.lemmas.Cmp.{nat_list_eq_equiv}
use Rattle.std.proofs.lemmas.Bool.{ltb-false}
use Rattle.std.proofs.lemmas.Option.{slice_get_past}
use Rattle.std.proofs.lemmas.List.{take_more, length-take-le}
use Rattle.std.proofs.lemmas.List.Sums.{count_by-le-length, prefix_len-le-length, fails_before_first, sum_by_more}
use Rattle.std.proofs.lemmas.List.Folds.{find_at, position_or_len_push}
use Rattle.std.specs.declared.vec.Vec.{Vec}
use Rattle.ldm_records.specs.declared.types.Record.{Record}
use Rattle.ldm_group.specs.declared.index.Hits.{Hits}
use Rattle.ldm_group.specs.Hits.{hits, count_in, one_more}
use Rattle.ldm_group.proofs.Rise.{tested, one_place}

-- what a call that succeeds leaves
pub where_ok : {A E P Q : Type 0} (r : Result A E) → (P → Q) → OnOk r P → OnOk r Q
where_ok (Ok x) f p = f p
where_ok (Err e) f p = tt

-- ---- one record more

-- by the first place, the length and the count
abbrev made : ℕ → ℕ → ℕ → Option Hits
made k n c = option_map (λ (first : ℕ). record { first = first; count = c }) (cond (nat_lt k n) (Some k) None)

push : (k n c k' n' c' at : ℕ) (b : Bool) → k ≤ n → (k ≡ n → c ≡ 0) → k' ≡ cond (k == n) (n + cond b 0 1) k → n' ≡ n + 1 → c' ≡ c + cond b 1 0 → n ≡ at
    → made k' n' c' ≡ cond b (Some (one_more (made k n c) at)) (made k n c)
push k n c k' n' c' at true le none first len count here = grind arith
push k n c k' n' c' at false le none first len count here = grind arith

none_counted : (t : Record → Bool) (xs : List Record) → position_or_len t xs ≡ length xs → count_by t xs ≡ 0
none_counted t [] h = refl
none_counted t (x ∷ xs) h = elim (tested (count_by t (x ∷ xs) == 0)) [
  | inl none ↦ grind arith
  | inr some ↦ (let at = one_place t (x ∷ xs) x (grind arith) in
      let lt = at.1 in
      let bad : true ≡ false = sym at.2 ∙ fails_before_first t (x ∷ xs) at.0 x (omega arith) in
      absurd cc)
]

module _ (records : List Record) (at : ℕ) (r : Record) (lt : at < length records) (is : r ≡ get_or records at r) where
  pub hits_more : (t : Record → Bool) → hits t (take (at + 1) records) ≡ cond (t r) (Some (one_more (hits t (take at records)) at)) (hits t (take at records))
  hits_more t =
      let old : List Record = take at records in
      let here : t (get_or records at r) ≡ t r = ap t (sym is) in
      let whole : length (take at records) ≡ at = length-take-le at records (omega arith) in
      let longer : length (take (at + 1) records) ≡ at + 1 = length-take-le (at + 1) records (omega arith) in
      push (position_or_len t old) (length old) (count_by t old) (position_or_len t (take (at + 1) records)) (length (take (at + 1) records)) (count_by t (take (at + 1) records)) at (t r)
      (prefix_len-le-length (λ x. not (t x)) old) (none_counted t old)
      (ap (position_or_len t) (take_more records at r lt) ∙ (position_or_len_push t old (get_or records at r)
      ∙ ap (λ (b : Bool). cond (position_or_len t old == length old) (length old + cond b 0 1) (position_or_len t old)) here))
      (longer ∙ ap (λ (n : ℕ). n + 1) (sym whole))
      (sum_by_more (λ x. cond (t x) 1 0) records at r lt ∙ ap (λ (b : Bool). count_by t old + cond b 1 0) here)
      whole

  -- ---- one key more: what the map has at each key, before and after

  module _ {Q : Type 0} (same : Q → Q → Bool) (test : Q → Record → Bool) where
    -- the record has this key
    module _ (f g : Q → Option Hits) (key : Q) (exact : (q : Q) → same key q ≡ true → key ≡ q)
        (put : (q : Q) → g q ≡ cond (same key q) (Some (one_more (f key) at)) (f q)) where
      noted_here : (q : Q) → same key q ≡ true → g q ≡ Some (one_more (f q) at)
      noted_here q holds = put q ∙ ap (λ (b : Bool). cond b (Some (one_more (f key) at)) (f q)) holds ∙ ap (λ (k : Q). Some (one_more (f k) at)) (exact q holds)

      noted_else : (q : Q) → same key q ≡ false → g q ≡ f q
      noted_else q fails = put q ∙ ap (λ (b : Bool). cond b (Some (one_more (f key) at)) (f q)) fails

      pub noted : ((q : Q) → test q r ≡ same key q) → ((q : Q) → f q ≡ hits (test q) (take at records)) → (q : Q) → g q ≡ hits (test q) (take (at + 1) records)
      noted has before q =
          let more = hits_more (test q) in
          let old = before q in
          let key_is = has q in
          elim (tested (same key q)) [
            | inl holds ↦ (let new = noted_here q holds in grind arith)
            | inr fails ↦ (let new = noted_else q fails in grind arith)
          ]

    -- it has two
    pub noted_two : (f g h : Q → Option Hits) (k l : Q) → ((q : Q) → same k q ≡ true → k ≡ q) → ((q : Q) → same l q ≡ true → l ≡ q) → same k l ≡ false
        → ((q : Q) → g q ≡ cond (same k q) (Some (one_more (f k) at)) (f q)) → ((q : Q) → h q ≡ cond (same l q) (Some (one_more (g l) at)) (g q))
        → ((q : Q) → test q r ≡ (same k q || same l q)) → ((q : Q) → f q ≡ hits (test q) (take at records)) → (q : Q) → h q ≡ hits (test q) (take (at + 1) records)
    noted_two f g h k l one_k one_l apart put_k put_l has before q =
        let more = hits_more (test q) in
        let old = before q in
        let key_is = has q in
        elim (tested (same l q)) [
          | inl holds ↦ (let new = noted_here g h l one_l put_l q holds in
              let other : same k q ≡ false = ap (same k) (sym (one_l q holds)) ∙ apart in
              let less = noted_else f g k one_k put_k q other in
              grind arith)
          | inr fails ↦ (let new = noted_else g h l one_l put_l q fails in
              elim (tested (same k q)) [
                | inl holds ↦ (let first = noted_here f g k one_k put_k q holds in grind arith)
                | inr other ↦ (let less = noted_else f g k one_k put_k q other in grind arith)
              ])
        ]

-- ---- what is found

-- the first of them
abbrev pub first_in : List Record → Option Hits → Option Record
first_in records None = None
first_in records (Some found) = slice_get records found.first

first_made : (k c : ℕ) (xs : List Record) → slice_get xs k ≡ first_in xs (made k (length xs) c)
first_made k c xs = by (nat_lt k (length xs)) refl
  where
    by : (b : Bool) → nat_lt k (length xs) ≡ b → slice_get xs k ≡ first_in xs (option_map (λ (first : ℕ). record { first = first; count = c }) (cond b (Some k) None))
    by true e = refl
    by false e = slice_get_past xs k (ltb-false k (length xs) e)

pub first_found : (t : Record → Bool) (records : List Record) → find t records ≡ first_in records (hits t records)
first_found t records = find_at t records ∙ first_made (position_or_len t records) (count_by t records) records

-- the hits that are made have this count
count_made : (k n c : ℕ) → k ≤ n → (k ≡ n → c ≡ 0) → count_in (made k n c) ≡ c
count_made k n c le none = grind arith

pub count_found : (t : Record → Bool) (records : List Record) → count_in (hits t records) ≡ count_by t records
count_found t records = count_made (position_or_len t records) (length records) (count_by t records) (prefix_len-le-length (λ x. not (t x)) records) (none_counted t records)

pub hits_few : (t : Record → Bool) (records : List Record) → count_in (hits t records) ≤ length records
hits_few t records = let is = count_found t records in let few = count_by-le-length t records in omega arith

-- ---- names as keys

module _ {A X S : Type 0} (m n : map.IndexMap (Vec ℕ A) X S) (key : Vec ℕ A) (w : Option X) where
  apart : (bs cs ks : List ℕ) → bytes_eq bs cs ≡ false → bytes_eq bs ks ≡ true → bytes_eq cs ks ≡ false
  apart bs cs ks fails holds = nat_list_eq_equiv.symm cs ks ∙ sym (nat_list_eq_equiv.congr bs ks cs holds) ∙ fails

  others : KeepsOthers (λ (x y : Vec ℕ A). bytes_eq x.items y.items) (λ (y : Vec ℕ A). bytes_eq key.items y.items) m.entries n.entries
      → (name : List ℕ) → bytes_eq key.items name ≡ false → map.get_by (λ (k : Vec ℕ A). bytes_eq name k.items) n ≡ map.get_by (λ (k : Vec ℕ A). bytes_eq name k.items) m
  unfolding KeepsOthers
  others keeps name fails = keeps (λ (k : Vec ℕ A). bytes_eq name k.items) (λ x y. nat_list_eq_equiv.congr name x.items y.items) (λ k. apart key.items name k.items fails)

  pub names_after : map.UpdatesBy (λ (x y : Vec ℕ A). bytes_eq x.items y.items) (λ (y : Vec ℕ A). bytes_eq key.items y.items) m n w
      → (name : List ℕ) → map.get_by (λ (k : Vec ℕ A). bytes_eq name k.items) n ≡ cond (bytes_eq key.items name) w (map.get_by (λ (k : Vec ℕ A). bytes_eq name k.items) m)
  names_after put name = elim (tested (bytes_eq key.items name)) [
    | inl holds ↦ subst (λ (bs : List ℕ). map.get_by (λ (k : Vec ℕ A). bytes_eq bs k.items) n ≡ w) ((bytes_decides key.items name).0 holds) put.1
        ∙ sym (ap (λ (b : Bool). cond b w (map.get_by (λ (k : Vec ℕ A). bytes_eq name k.items) m)) holds)
    | inr fails ↦ others put.3 name fails ∙ sym (ap (λ (b : Bool). cond b w (map.get_by (λ (k : Vec ℕ A). bytes_eq name k.items) m)) fails)
  ]
