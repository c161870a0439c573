-- The partitions of a component: tiles one after another, columns in rising index, and the least of their sizes.
use Rattle.std.specs.Prelude.{ℕ, ◌+◌, ◌==◌, ◌&&◌, min, Bool, true, false, List, [], ◌∷◌, nat_le}
use Rattle.ldm_places.specs.declared.extent.Extent.{Extent}

-- each begins where the one before ends, and the first at a place
abbrev pub tiles_from : ℕ → List Extent → Bool
tiles_from at [] = true
tiles_from at (e ∷ es) = (e.offset == at) && tiles_from (at + e.size) es

-- there are some, and they tile from 0 on
abbrev pub tiles : List Extent → Bool
tiles [] = false
tiles (e ∷ es) = tiles_from 0 (e ∷ es)

-- the indexes rise, from a number on, so that no two have one index
abbrev pub rises_from : ℕ → List Extent → Bool
rises_from n [] = true
rises_from n (e ∷ es) = nat_le n e.index && rises_from (e.index + 1) es

-- the least of some numbers
abbrev pub least : List ℕ → ℕ
least [] = 0
least (n ∷ []) = n
least (n ∷ (m ∷ ns)) = min n (least (m ∷ ns))
