-- What the laws of groups and volumes say of lists: what is in a list, in the list of what a function makes of it, or in one behind another.
use Rattle.std.proofs.Common.{◌≡◌, inl, inr, ℕ, zero, suc, ◌<◌, List, [], ◌∷◌, length, get_or, map, refl, sym, ap, subst, ◌∙◌, arith, Option, Some, true, Bool, ◌-◌, ◌==◌, ◌||◌, false, cond, find, None}
use Rattle.std.specs.List.{Contains, All, filter_map, flat_map, cons_option, list_all, list_any}
use Rattle.std.proofs.lemmas.List.{length-map, get_or-map}
use Rattle.std.proofs.lemmas.List.Elements.{All-contains, All-map, Contains-get_or, Contains-append_left, Contains-append_right, Contains-append_cases}
use Rattle.std.proofs.lemmas.List.Sums.{AllPass-from_list_all, list_all-from_AllPass}
use Rattle.std.proofs.lemmas.Bool.{false_from_ne_true, false≢true}
use Rattle.std.proofs.lemmas.List.Folds.{list_any_at}
use Rattle.std.specs.Prelude.{filter, if◌then◌else◌, is_some}

-- what stands at a place
pub map_at : {X Y : Type 0} (f : X → Y) (xs : List X) (k : ℕ) (x : X) (y : Y) → k < length xs → get_or xs k x ≡ x → get_or (map f xs) k y ≡ f x
map_at f xs k x y lt is = get_or-map f xs k x y lt ∙ ap f is

-- what is in a list, in the list of what a function makes of it
pub map_there : {X Y : Type 0} (f : X → Y) (xs : List X) (x : X) → Contains xs x → Contains (map f xs) (f x)
map_there f xs x (k, lt, is) = (k, omega (arith, length-map xs f), map_at f xs k x (f x) lt is)

-- what holds of a function's values
pub all_from_map : {X Y : Type 0} (f : X → Y) (P : Y → Type 0) (xs : List X) → All P (map f xs) → All (λ x. P (f x)) xs
all_from_map f P xs h k d lt = subst P (get_or-map f xs k d (f d) lt) (h k (f d) (omega (arith, length-map xs f)))

pub each_mapped : {X Y : Type 0} (P : Y → Type 0) (f : X → Y) (xs : List X)
    → ((x : X) → Contains xs x → P (f x)) → (y : Y) → Contains (map f xs) y → P y
each_mapped P f xs each y at = All-contains P (map f xs) y
    (All-map P f xs (λ k d lt. each (get_or xs k d) (Contains-get_or xs k d lt))) at

-- an element of what a function makes of a list is made of one of the list
pub mapped : {X Y : Type 0} (f : X → Y) (xs : List X) (y : Y) → Contains (map f xs) y → (x : X) × Contains xs x × (y ≡ f x)
mapped {X} {Y} f xs y at = each_mapped (λ (z : Y). (x : X) × Contains xs x × (z ≡ f x)) f xs
    (λ x there. (x, there, refl)) y at

pub map_map : {X Y Z : Type 0} (f : Y → Z) (g : X → Y) (xs : List X) → map f (map g xs) ≡ map (λ x. f (g x)) xs
map_map f g [] = refl
map_map {X} {Y} {Z} f g (x ∷ xs) = ap (λ (l : List Z). f (g x) ∷ l) (map_map f g xs)

-- what is named by what a function makes
pub named_all : {X Y Z : Type 0} (g : Y → Option Z) (f : X → Y) (h : X → Z)
    → ((x : X) → g (f x) ≡ Some (h x))
    → (xs : List X) → filter_map g (map f xs) ≡ map h xs
named_all g f h e [] = refl
named_all g f h e (x ∷ xs) = λ i. cons_option (e x i) (named_all g f h e xs i)

-- what a function lists for an element of a list, and back
pub flat_there : {X Y : Type 0} (f : X → List Y) (xs : List X) (x : X) (y : Y) → Contains xs x → Contains (f x) y → Contains (flat_map f xs) y
flat_there f [] x y (k, lt, is) at = absurd (omega arith)
flat_there f (z ∷ xs) x y (zero, lt, is) at =
    Contains-append_left (f z) (flat_map f xs) y (subst (λ w. Contains (f w) y) (sym is) at)
flat_there f (z ∷ xs) x y (suc k, lt, is) at =
    Contains-append_right (f z) (flat_map f xs) y (flat_there f xs x y (k, omega arith, is) at)

pub flat_from : {X Y : Type 0} (f : X → List Y) (xs : List X) (y : Y) → Contains (flat_map f xs) y → (x : X) × Contains xs x × Contains (f x) y
flat_from f [] y (k, lt, is) = absurd (omega arith)
flat_from f (x ∷ xs) y at = elim (Contains-append_cases (f x) (flat_map f xs) y at) [
  | inl h ↦ (x, (0, omega arith, refl), h)
  | inr h ↦ (let rest = flat_from f xs y h in (rest.0, (suc rest.1.0, (let lt = rest.1.1 in omega arith), rest.1.2), rest.2))
]

-- what is in a list is in one that is equal, and behind one more
pub moved : {X : Type 0} {xs ys : List X} → xs ≡ ys → (x : X) → Contains xs x → Contains ys x
moved {X} e x at = subst (λ (l : List X). Contains l x) e at

pub behind : {X : Type 0} (x : X) (xs : List X) (y : X) → Contains xs y → Contains (x ∷ xs) y
behind x xs y at = Contains-append_right (x ∷ []) xs y at

-- a list of one element has that alone
pub only_one : {X : Type 0} (x y : X) → Contains (x ∷ []) y → x ≡ y
only_one x y (zero, lt, is) = is
only_one x y (suc k, lt, is) = absurd (omega arith)

-- what holds of the first and of the rest
pub each_more : {X : Type 0} (P : X → Type 0) (x : X) (xs : List X) → P x
    → ((y : X) → Contains xs y → P y) → (y : X) → Contains (x ∷ xs) y → P y
each_more P x xs first rest y (zero, lt, is) = subst P is first
each_more P x xs first rest y (suc k, lt, is) = rest y (k, omega arith, is)

-- two functions that agree on a list
pub map_same : {X Y : Type 0} (f g : X → Y) (xs : List X) → ((x : X) → Contains xs x → f x ≡ g x) → map f xs ≡ map g xs
map_same f g [] same = refl
map_same {X} {Y} f g (x ∷ xs) same =
    let first : f x ≡ g x = same x (0, omega arith, refl) in
    let rest : map f xs ≡ map g xs = map_same f g xs (λ y at. same y (behind x xs y at)) in
    λ i. first i ∷ rest i

pub all_pass : {X Y : Type 0} (t : Y → Bool) (f : X → Y) (xs : List X)
    → ((x : X) → Contains xs x → t (f x) ≡ true) → list_all t (map f xs) ≡ true
all_pass t f xs each = list_all-from_AllPass t (map f xs)
    (All-map (λ y. t y ≡ true) f xs (λ k d lt. each (get_or xs k d) (Contains-get_or xs k d lt)))

pub one_passes : {X Y : Type 0} (t : Y → Bool) (f : X → Y) (xs : List X) (x : X) → list_all t (map f xs) ≡ true
    → Contains xs x → t (f x) ≡ true
one_passes t f xs x all at = All-contains (λ z. t (f z) ≡ true) xs x
    (all_from_map f (λ y. t y ≡ true) xs (AllPass-from_list_all t (map f xs) all)) at

-- what no element passes
pub none_any : {X : Type 0} (t : X → Bool) (xs : List X) → list_any t xs ≡ false → All (λ x. t x ≡ false) xs
none_any t xs none k d lt = false_from_ne_true (t (get_or xs k d)) (λ holds. false≢true (sym none ∙ list_any_at t xs k d lt holds))

pub any_empty : {X : Type 0} (f : X → ℕ) (xs : List X) → list_any (λ x. f x == 0) xs ≡ list_any (λ n. n == 0) (map f xs)
any_empty f [] = refl
any_empty f (x ∷ xs) = ap (λ (b : Bool). (f x == 0) || b) (any_empty f xs)

-- the first that passes is the first of those that pass
pub find_kept : {X : Type 0} (t : X → Bool) (xs : List X) → find t xs ≡ find t (filter t xs)
find_kept t [] = refl
find_kept {X} t (x ∷ xs) = by (t x) refl (find_kept t xs)
  where
    by : (b : Bool) → t x ≡ b → find t xs ≡ find t (filter t xs)
        → cond b (Some x) (find t xs) ≡ find t (if b then x ∷ filter t xs else filter t xs)
    by true e rest = ap (λ (c : Bool). cond c (Some x) (find t (filter t xs))) (sym e)
    by false e rest = rest

-- two tests with the same outcome
pub same_true : (a b : Bool) → (a ≡ true → b ≡ true) → (b ≡ true → a ≡ true) → a ≡ b
same_true true b to back = sym (to refl)
same_true false true to back = back refl
same_true false false to back = refl

-- an option that isn't some is none
pub none_some : {X : Type 0} (o : Option X) → is_some o ≡ false → o ≡ None
none_some None h = refl
none_some (Some x) h = absurd cc
