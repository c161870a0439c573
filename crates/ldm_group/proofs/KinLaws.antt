-- What two rising lists have alike that have the same records of a test, as those that name one parent, and what a count says.
use Rattle.std.proofs.Common.{◌≡◌, ℕ, zero, suc, ◌<◌, ◌≤◌, ◌==◌, inl, inr, List, [], ◌∷◌, length, get_or, refl, sym, ap, subst, ◌∙◌, arith, Bool, true, false, cond, Option, Some, None, find, count_by, Contains}
use Rattle.std.specs.Prelude.{filter, nat_le, is_some, if◌then◌else◌}
use Rattle.std.specs.List.{filter_map, cons_option}
use Rattle.std.proofs.lemmas.Bool.{cases_lt, leb-false, eq-eqb}
use Rattle.std.proofs.lemmas.List.{get_or_default}
use Rattle.std.proofs.lemmas.List.Elements.{Contains-get_or}
use Rattle.std.proofs.lemmas.List.Sums.{length-filter}
use Rattle.std.proofs.lemmas.List.Kept.{AllPairs-filter}
use Rattle.ldm_records.specs.declared.types.Record.{Record}
use Rattle.ldm_group.specs.Order.{kind_of, place_of, Rising}
use Rattle.ldm_group.specs.Looks.{of_kind}
use Rattle.ldm_group.proofs.OneOrder.{one_order}
use Rattle.ldm_group.proofs.Rise.{tested, one_place, two_places, counted_one, counted_two}

-- ---- the records that pass

-- what a filter keeps
pub filter_has : {X : Type 0} (t : X → Bool) (xs : List X) (x : X) → Contains (filter t xs) x → Contains xs x × (t x ≡ true)
filter_has t [] x (k, lt, is) = absurd (omega arith)
filter_has t (y ∷ xs) x at = by (filter_has t xs x) (t y) refl at
  where
    later : Contains xs x × (t x ≡ true) → Contains (y ∷ xs) x × (t x ≡ true)
    later (there, holds) = ((suc there.0, (let lt = there.1 in omega arith), there.2), holds)

    by : (Contains (filter t xs) x → Contains xs x × (t x ≡ true)) → (b : Bool) → t y ≡ b → Contains (if b then y ∷ filter t xs else filter t xs) x → Contains (y ∷ xs) x × (t x ≡ true)
    by rest true holds (zero, lt, is) = ((zero, omega arith, is), ap t (sym is) ∙ holds)
    by rest true holds (suc k, lt, is) = later (rest (k, omega arith, is))
    by rest false fails there = later (rest there)

one_later : {X : Type 0} (b : Bool) (y : X) (ys : List X) (x : X) → Contains ys x → Contains (if b then y ∷ ys else ys) x
one_later true y ys x rest = (suc rest.0, (let lt = rest.1 in omega arith), rest.2)
one_later false y ys x rest = rest

pub filter_keeps : {X : Type 0} (t : X → Bool) (xs : List X) (x : X) → Contains xs x → t x ≡ true → Contains (filter t xs) x
filter_keeps t [] x (k, lt, is) holds = absurd (omega arith)
filter_keeps t (y ∷ xs) x (zero, lt, is) holds = subst (λ (b : Bool). Contains (if b then y ∷ filter t xs else filter t xs) x) (sym (ap t is ∙ holds)) (zero, omega arith, is)
filter_keeps t (y ∷ xs) x (suc k, lt, is) holds = one_later (t y) y (filter t xs) x (filter_keeps t xs x (k, omega arith, is) holds)

-- what an element names is in the list of what they name
pub named_there : {X Y : Type 0} (f : X → Option Y) (xs : List X) (d : X) (k : ℕ) (y : Y) → k < length xs → f (get_or xs k d) ≡ Some y → Contains (filter_map f xs) y
named_there f [] d k y h e = absurd (omega arith)
named_there {X} {Y} f (x ∷ xs) d zero y h e = subst (λ (o : Option Y). Contains (cons_option o (filter_map f xs)) y) (sym e) (0, omega arith, refl)
named_there {X} {Y} f (x ∷ xs) d (suc k) y h e = later (f x) (named_there f xs d k y (omega arith) e)
  where
    later : (o : Option Y) → Contains (filter_map f xs) y → Contains (cons_option o (filter_map f xs)) y
    later None there = there
    later (Some z) there = (suc there.0, omega arith, there.2)

-- where the same records pass a test, they are the same list
pub kin_same : (t : Record → Bool) (old next : List Record) → Rising old → Rising next
    → ((r : Record) → t r ≡ true → Contains old r → Contains next r) → ((r : Record) → t r ≡ true → Contains next r → Contains old r)
    → filter t old ≡ filter t next
kin_same t old next up vp there back =
    one_order place_of (filter t old) (filter t next) (AllPairs-filter (λ a b. place_of a < place_of b) t old up) (AllPairs-filter (λ a b. place_of a < place_of b) t next vp)
    (λ k d lt. let at = filter_has t old (get_or (filter t old) k d) (Contains-get_or (filter t old) k d lt) in filter_keeps t next _ (there _ at.1 at.0) at.1)
    (λ k d lt. let at = filter_has t next (get_or (filter t next) k d) (Contains-get_or (filter t next) k d lt) in filter_keeps t old _ (back _ at.1 at.0) at.1)

-- a rising list that has just the records that pass is those of the next that do
pub kin_are : (t : Record → Bool) (next xs : List Record) → Rising next → Rising xs
    → ((r : Record) → Contains xs r → Contains next r × (t r ≡ true)) → ((r : Record) → t r ≡ true → Contains next r → Contains xs r)
    → filter t next ≡ xs
kin_are t next xs up vp are all =
    one_order place_of (filter t next) xs (AllPairs-filter (λ a b. place_of a < place_of b) t next up) vp
    (λ k d lt. let at = filter_has t next (get_or (filter t next) k d) (Contains-get_or (filter t next) k d lt) in all _ at.1 at.0)
    (λ k d lt. let at = are (get_or xs k d) (Contains-get_or xs k d lt) in filter_keeps t next _ at.0 at.1)

-- ---- the first, the count and the names of those that pass

abbrev first : {X : Type 0} → List X → Option X
first [] = None
first (x ∷ xs) = Some x

found_by : {X : Type 0} (t : X → Bool) (xs : List X) → find t xs ≡ first (filter t xs)
found_by t [] = refl
found_by {X} t (x ∷ xs) = elim (t x) as (λ (b : Bool). cond b (Some x) (find t xs) ≡ first (if b then x ∷ filter t xs else filter t xs)) [ true ↦ refl | false ↦ found_by t xs ]

named_by : {X Y : Type 0} (f : X → Option Y) (xs : List X) → filter_map f xs ≡ filter_map f (filter (λ x. is_some (f x)) xs)
named_by f [] = refl
named_by {X} {Y} f (x ∷ xs) = by (f x) refl (named_by f xs)
  where
    rest : List X
    rest = filter (λ x. is_some (f x)) xs

    by : (o : Option Y) → f x ≡ o → filter_map f xs ≡ filter_map f rest → cons_option o (filter_map f xs) ≡ filter_map f (if is_some o then x ∷ rest else rest)
    by None e later = later
    by (Some y) e later = ap (λ (l : List Y). y ∷ l) later ∙ ap (λ (o : Option Y). cons_option o (filter_map f rest)) (sym e)

pub filter_count : (t : Record → Bool) (old next : List Record) → filter t old ≡ filter t next → count_by t old ≡ count_by t next
filter_count t old next same = sym (length-filter t old) ∙ ap (λ (l : List Record). length l) same ∙ length-filter t next

module _ (old next : List Record) (up : Rising old) (vp : Rising next) (t : Record → Bool)
    (there : (r : Record) → t r ≡ true → Contains old r → Contains next r) (back : (r : Record) → t r ≡ true → Contains next r → Contains old r) where
  pub kin_count : count_by t old ≡ count_by t next
  kin_count = filter_count t old next (kin_same t old next up vp there back)

  pub kin_found : find t old ≡ find t next
  kin_found = found_by t old ∙ ap (λ (l : List Record). first l) (kin_same t old next up vp there back) ∙ sym (found_by t next)

pub kin_named : {Y : Type 0} (f : Record → Option Y) (old next : List Record) → Rising old → Rising next
    → ((r : Record) → is_some (f r) ≡ true → Contains old r → Contains next r) → ((r : Record) → is_some (f r) ≡ true → Contains next r → Contains old r)
    → filter_map f old ≡ filter_map f next
kin_named f old next up vp there back = named_by f old ∙ ap (filter_map f) (kin_same (λ r. is_some (f r)) old next up vp there back) ∙ sym (named_by f next)

-- ---- what a count says

-- some record passes, where the count isn't 0
pub counted_there : (t : Record → Bool) (xs : List Record) (d : Record) → (count_by t xs == 0) ≡ false → (r : Record) × Contains xs r × (t r ≡ true)
counted_there t xs d some =
    let many : 1 ≤ count_by t xs = grind arith in
    let at = one_place t xs d many in
    (get_or xs at.0 d, Contains-get_or xs at.0 d at.1, at.2)

pub there_counted : (t : Record → Bool) (xs : List Record) (r : Record) → Contains xs r → t r ≡ true → (count_by t xs == 0) ≡ false
there_counted t xs r there holds =
    let many : 1 ≤ count_by t xs = counted_one t xs r there.0 there.1 (ap t there.2 ∙ holds) in
    grind arith

-- at most one passes, where they can't differ
pub once_from : (t : Record → Bool) (xs : List Record) (d : Record) → Rising xs
    → ((r s : Record) → Contains xs r → Contains xs s → t r ≡ true → t s ≡ true → place_of r ≡ place_of s) → nat_le 2 (count_by t xs) ≡ false
once_from t xs d up same = elim (tested (nat_le 2 (count_by t xs))) [
  | inr few ↦ few
  | inl many ↦ (let two = two_places t xs d (grind arith) in
      let below : place_of (get_or xs two.0 d) < place_of (get_or xs two.1 d) = up two.0 two.1 d two.2 two.3 in
      let e = same (get_or xs two.0 d) (get_or xs two.1 d) (Contains-get_or xs two.0 d (let lt = two.2 in let in' = two.3 in omega arith)) (Contains-get_or xs two.1 d two.3) two.4 two.5 in
      absurd (omega arith))
]

pub once_at : (t : Record → Bool) (xs : List Record) (r s : Record) → nat_le 2 (count_by t xs) ≡ false
    → Contains xs r → Contains xs s → t r ≡ true → t s ≡ true → place_of r ≡ place_of s
once_at t xs r s few at_r at_s holds_r holds_s =
    let less : count_by t xs < 2 = leb-false 2 (count_by t xs) few in
    let here : t (get_or xs at_r.0 r) ≡ true = ap t at_r.2 ∙ holds_r in
    let same : get_or xs at_s.0 r ≡ s = get_or_default xs at_s.0 r s at_s.1 ∙ at_s.2 in
    let there : t (get_or xs at_s.0 r) ≡ true = ap t same ∙ holds_s in
    elim (cases_lt at_r.0 at_s.0) [
      | inl lt ↦ absurd (let many : 2 ≤ count_by t xs = counted_two t xs r at_r.0 at_s.0 lt at_s.1 here there in omega arith)
      | inr ge ↦ elim (cases_lt at_s.0 at_r.0) [
        | inl lt ↦ absurd (let many : 2 ≤ count_by t xs = counted_two t xs r at_s.0 at_r.0 lt at_r.1 there here in omega arith)
        | inr le ↦ (let index : at_r.0 ≡ at_s.0 = omega arith in ap place_of (sym at_r.2 ∙ ap (λ (k : ℕ). get_or xs k r) index ∙ same))
      ]
    ]

-- ---- the records of one kind

-- the first of those that only records of one kind can be is the first among these
pub found_of_kind : (kind : ℕ) (t : Record → Bool) (records : List Record) → ((r : Record) → t r ≡ true → kind_of r ≡ kind) → find t records ≡ find t (of_kind kind records)
found_of_kind kind t [] only = refl
found_of_kind kind t (r ∷ records) only = by (t r) refl (kind_of r == kind) refl (found_of_kind kind t records only)
  where
    by : (b : Bool) → t r ≡ b → (c : Bool) → (kind_of r == kind) ≡ c → find t records ≡ find t (of_kind kind records)
        → cond b (Some r) (find t records) ≡ find t (if c then r ∷ of_kind kind records else of_kind kind records)
    by true e true k rest = ap (λ (b : Bool). cond b (Some r) (find t (of_kind kind records))) (sym e)
    by false e true k rest = rest ∙ ap (λ (b : Bool). cond b (Some r) (find t (of_kind kind records))) (sym e)
    by true e false k rest = absurd (let yes = eq-eqb (kind_of r) kind (only r e) in cc)
    by false e false k rest = rest

-- lists with the same records of a kind have the same first record of that kind that passes a test
pub same_found : (kind : ℕ) (t : Record → Bool) (old next : List Record) → ((r : Record) → t r ≡ true → kind_of r ≡ kind) → of_kind kind old ≡ of_kind kind next → find t old ≡ find t next
same_found kind t old next only same = found_of_kind kind t old only ∙ ap (find t) same ∙ sym (found_of_kind kind t next only)

-- lists with the same records of a kind contain the same records of it
pub same_there : (kind : ℕ) (old next : List Record) (r : Record) → of_kind kind old ≡ of_kind kind next → kind_of r ≡ kind → Contains old r → Contains next r
same_there kind old next r same is there =
    (filter_has (λ x. kind_of x == kind) next r (subst (λ (l : List Record). Contains l r) same (filter_keeps (λ x. kind_of x == kind) old r there (eq-eqb (kind_of r) kind is)))).0
