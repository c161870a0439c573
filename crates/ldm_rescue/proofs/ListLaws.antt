-- What is made of the numbers in front of one, and what a list contains behind another.
use Rattle.std.proofs.Common.{◌≡◌, ℕ, ◌+◌, ◌-◌, ◌<◌, List, [], ◌∷◌, ◌++◌, map, length, drop, Contains, refl, ap, sym, subst, ◌∙◌, arith, add-one, append_assoc, Option, Some, None, filter_map, zero, suc}
use Rattle.std.specs.List.{range_with_len, cons_option}
use Rattle.std.specs.Option.{option_to_list}
use Rattle.std.proofs.lemmas.List.Elements.{filter_map-append, Contains-append_right, Contains-append_left}
use Rattle.std.proofs.Math.Seq.{drop-append_seam}
use Rattle.std.proofs.Math.ListN.{get_or-map}
use Rattle.std.proofs.lemmas.List.{length-map}
use Rattle.ldm_host.specs.Moves.{Grows}
use Rattle.ldm_host.specs.declared.host.DiskRange.{DiskRange}
use Rattle.ldm_dump.proofs.RangeLaws.{range_append, range_more, made_more}

-- ---- what is made of the first numbers

-- what is made of the numbers in front of n
abbrev pub made_to : {X : Type 0} → (ℕ → Option X) → ℕ → List X
made_to f n = filter_map f (range_with_len 0 n)

pub made_next : {X : Type 0} (f : ℕ → Option X) (n : ℕ) → made_to f (n + 1) ≡ made_to f n ++ option_to_list (f n)
made_next f n =
    let here : 0 + n ≡ n = omega arith in
    let next : range_with_len 0 (n + 1) ≡ range_with_len 0 n ++ n ∷ [] =
    ap (λ (k : ℕ). range_with_len 0 k) (add-one n) ∙ range_more 0 n ∙ ap (λ (k : ℕ). range_with_len 0 n ++ k ∷ []) here in
    ap (λ (r : List ℕ). filter_map f r) next ∙ made_more f (range_with_len 0 n) n

-- what is made of one number stands behind what is made of those in front of it
pub made_at : {X : Type 0} (f : ℕ → Option X) (n c : ℕ) → c < n → (rest : List X) × (made_to f n ≡ made_to f c ++ (option_to_list (f c) ++ rest))
made_at f n c lt =
    let rest = filter_map f (range_with_len (0 + (c + 1)) (n - (c + 1))) in
    let parts : n ≡ c + 1 + (n - (c + 1)) = omega (arith, lt) in (
      rest,
      ap (λ (k : ℕ). made_to f k) parts
          ∙ (ap (λ (r : List ℕ). filter_map f r) (range_append 0 (c + 1) (n - (c + 1)))
          ∙ (filter_map-append f (range_with_len 0 (c + 1)) (range_with_len (0 + (c + 1)) (n - (c + 1)))
          ∙ (ap (λ l. l ++ rest) (made_next f c)
          ∙ append_assoc (made_to f c) (option_to_list (f c)) rest))),
    )

-- ---- what a list contains

pub contains_first : {X : Type 0} (x : X) (xs : List X) → Contains (x ∷ xs) x
contains_first x xs = (0, omega arith, refl)

contains_next : {X : Type 0} (y x : X) (xs : List X) → Contains xs x → Contains (y ∷ xs) x
contains_next y x xs h = let lt = h.1 in (suc h.0, omega (arith, lt), h.2)

-- what is contained is the first, or one of the others
pub data Among {X : Type 0} (y : X) (xs : List X) (x : X) : Type 0 where
  First : y ≡ x → Among y xs x
  Later : Contains xs x → Among y xs x

pub among : {X : Type 0} (y : X) (xs : List X) (x : X) → Contains (y ∷ xs) x → Among y xs x
among y xs x (zero, lt, is) = First is
among y xs x (suc k, lt, is) = Later (k, omega (arith, lt), is)

pub contains_one : {X : Type 0} (y x : X) → Contains (y ∷ []) x → y ≡ x
contains_one y x h = elim (among y [] x h) [
  | First is ↦ is
  | Later none ↦ (let lt = none.1 in absurd (omega (arith, lt)))
]

pub contains_map : {X Y : Type 0} (f : X → Y) (xs : List X) (x : X) → Contains xs x → Contains (map f xs) (f x)
contains_map f xs x h = let lt = h.1 in (h.0, omega (arith, lt, length-map xs f), get_or-map f xs h.0 x ∙ ap f h.2)

-- what is made was made of something
pub made_from : {X : Type 0} (f : ℕ → Option X) (xs : List ℕ) (x : X) → Contains (filter_map f xs) x → (c : ℕ) × (f c ≡ Some x)
made_from f [] x h = (let lt = h.1 in absurd (omega (arith, lt)))
made_from {X} f (c ∷ xs) x h = made_of (f c) (filter_map f xs) (λ more. made_from f xs x more) (λ is. (c, is)) h
  where
    made_of : (o : Option X) (ys : List X) → (Contains ys x → (d : ℕ) × (f d ≡ Some x)) → (o ≡ Some x → (d : ℕ) × (f d ≡ Some x)) → Contains (cons_option o ys) x → (d : ℕ) × (f d ≡ Some x)
    made_of None ys others here more = others more
    made_of (Some y) ys others here more = elim (among y ys x more) [
      | First same ↦ here (ap (λ (z : X). Some z) same)
      | Later rest ↦ others rest
    ]

-- what is made of a number in front of n is one of those
pub made_part : {X : Type 0} (f : ℕ → Option X) (n c : ℕ) (x : X) → c < n → Contains (option_to_list (f c)) x → Contains (made_to f n) x
made_part {X} f n c x lt here =
    let at = made_at f n c lt in
    subst (λ (l : List X). Contains l x) (sym at.1)
    (Contains-append_right (made_to f c) (option_to_list (f c) ++ at.0) x (Contains-append_left (option_to_list (f c)) at.0 x here))

-- ---- an account that grows

pub grown_since : (before more : List DiskRange) → drop (length before) (before ++ more) ≡ more
grown_since before more = drop-append_seam before more

-- what is in an account since a moment is in it since an earlier one
pub since_sooner : (a b c : List DiskRange) (r : DiskRange) → Grows a b → Grows b c → Contains (drop (length b) c) r → Contains (drop (length a) c) r
since_sooner a b c r first next h =
    let whole : c ≡ a ++ (first.0 ++ next.0) = next.1 ∙ (ap (λ (l : List DiskRange). l ++ next.0) first.1 ∙ append_assoc a first.0 next.0) in
    let late : Contains next.0 r = subst (λ (l : List DiskRange). Contains l r) (ap (λ (l : List DiskRange). drop (length b) l) next.1 ∙ grown_since b next.0) h in
    subst (λ (l : List DiskRange). Contains l r) (sym (ap (λ (l : List DiskRange). drop (length a) l) whole ∙ grown_since a (first.0 ++ next.0)))
    (Contains-append_right first.0 next.0 r late)

-- it is still there when the account has grown
pub since_later : (a b c : List DiskRange) (r : DiskRange) → Grows a b → Grows b c → Contains (drop (length a) b) r → Contains (drop (length a) c) r
since_later a b c r first next h =
    let whole : c ≡ a ++ (first.0 ++ next.0) = next.1 ∙ (ap (λ (l : List DiskRange). l ++ next.0) first.1 ∙ append_assoc a first.0 next.0) in
    let soon : Contains first.0 r = subst (λ (l : List DiskRange). Contains l r) (ap (λ (l : List DiskRange). drop (length a) l) first.1 ∙ grown_since a first.0) h in
    subst (λ (l : List DiskRange). Contains l r) (sym (ap (λ (l : List DiskRange). drop (length a) l) whole ∙ grown_since a (first.0 ++ next.0)))
    (Contains-append_left first.0 next.0 r soon)

-- a read that failed last
pub failed_now : (before after : List DiskRange) (r : DiskRange) → after ≡ before ++ r ∷ [] → Contains (drop (length before) after) r
failed_now before after r is =
    subst (λ (l : List DiskRange). Contains l r) (sym (ap (λ (l : List DiskRange). drop (length before) l) is ∙ grown_since before (r ∷ []))) (contains_first r [])
