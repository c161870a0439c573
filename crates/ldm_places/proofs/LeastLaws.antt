-- The least of some numbers, as a fold, and that none is less.
use Rattle.std.proofs.Common.{◌≡◌, ℕ, ◌≤◌, min, List, [], ◌∷◌, length, get_or, take, drop, ◌-◌, refl, ◌∙◌, arith, map, fold}
use Rattle.std.proofs.lemmas.Grind.{common_steps}
use Rattle.std.proofs.lemmas.List.{take_rest}
use Rattle.ldm_places.specs.Extents.{least}

least_head : (a b : ℕ) (ns : List ℕ) → least (min a b ∷ ns) ≡ min a (least (b ∷ ns))
least_head a b ns = grind (arith, common_steps)

pub least_fold : {X : Type 0} (f : X → ℕ) (a : ℕ) (xs : List X) → fold (λ m x. min m (f x)) a xs ≡ least (a ∷ map f xs)
least_fold f a [] = refl
least_fold f a (x ∷ xs) = least_fold f (min a (f x)) xs ∙ least_head a (f x) (map f xs)

-- of a list that isn't empty
pub least_list : {X : Type 0} (f : X → ℕ) (xs : List X) (d : X) → 1 ≤ length xs → least (f (get_or xs 0 d) ∷ map f (drop 1 xs)) ≡ least (map f xs)
least_list f xs d h = grind (arith, common_steps)

-- what a walk from the first to the last finds
pub least_whole : {X : Type 0} (f : X → ℕ) (xs ys : List X) (first d : X) (a r : ℕ) → 1 ≤ length xs → first ≡ get_or xs 0 d → a ≡ f first
    → r ≡ fold (λ m x. min m (f x)) a (take (length xs - 1) (drop 1 xs)) → xs ≡ ys → r ≡ least (map f ys)
least_whole {X} f xs ys first d a r some at start walked same = grind (arith, common_steps, take_rest, least_fold, least_list)
