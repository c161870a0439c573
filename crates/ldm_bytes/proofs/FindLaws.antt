-- What a search through a list finds.
use Rattle.std.proofs.Common.{◌≡◌, suc, List, [], ◌∷◌, Bool, true, false, cond, Some, refl, sym, ◌∙◌, ap, arith}
use Rattle.std.specs.List.{find, Contains}

-- what passes a test first is there, and passes it
pub find_there : {X : Type 0} (t : X → Bool) (xs : List X) (x : X) → find t xs ≡ Some x → Contains xs x × (t x ≡ true)
find_there t [] x e = absurd cc
find_there {X} t (y ∷ ys) x e = go (t y) refl e (λ f. find_there t ys x f)
  where
    go : (b : Bool) → t y ≡ b → cond b (Some y) (find t ys) ≡ Some x → (find t ys ≡ Some x → Contains ys x × (t x ≡ true)) → Contains (y ∷ ys) x × (t x ≡ true)
    go true h f later = let same : y ≡ x = cc in ((0, omega arith, same), ap t (sym same) ∙ h)
    go false h f later = let found = later f in ((suc found.0.0, omega (arith, found.0.1), found.0.2), found.1)
