-- What the partitions of a command take, and that each is free of all that was taken before it.
use Rattle.std.specs.Prelude.{◌≡◌, ℕ, ◌+◌, ◌-◌, ◌^◌, ◌≤◌, ◌++◌, false, List, [], ◌∷◌, All, Some, Result, Ok, Err}
use Rattle.std.specs.BTreeMap.{get}
use Rattle.std.specs.Global.{Vec}
use Rattle.std.specs.Ordering.{nat_cmp}
use Rattle.ldm_made.specs.declared.taken.Taken.{Taken}
use Rattle.ldm_space.specs.Free.{is_taken, IsFirstFree}
use Rattle.ldm_space.specs.Gaps.{Gap, AreGaps}
use Rattle.ldm_space.specs.declared.placed.FreeMaps.{FreeMaps}
use Rattle.ldm_space.specs.declared.placed.Wanted.{Wanted}

-- the first fit of what is asked for
pub record IsFirstFit (taken : List Taken) (w : Wanted) (spot : Taken) : Type 0 where
  pub disk : w.disk ≡ spot.disk
  pub size : w.size ≡ spot.size
  pub first : IsFirstFree taken w.disk w.limit w.size spot.start

-- each is the first fit, where those before it are taken too
abbrev pub AreFirstFits : List Taken → List Wanted → List Taken → Type 0
AreFirstFits taken [] [] = Unit {0}
AreFirstFits taken (w ∷ more) (spot ∷ spots) = IsFirstFit taken w spot × AreFirstFits (spot ∷ taken) more spots
AreFirstFits taken _ _ = ⊥

-- each has no sector of those before it, and none that was taken before
abbrev pub AreDisjoint : List Taken → List Taken → Type 0
AreDisjoint taken [] = Unit {0}
AreDisjoint taken (t ∷ more) = (is_taken taken t.disk t.size t.start ≡ false) × AreDisjoint (t ∷ taken) more

-- each ends within its disk
abbrev pub AllEndWithin : (ℕ → ℕ) → List Taken → Type 0
AllEndWithin sectors taken = All (λ t. t.start + t.size ≤ sectors t.disk) taken

-- each is asked of a disk of so many sectors
abbrev pub AllLimited : (ℕ → ℕ) → List Wanted → Type 0
AllLimited sectors wanted = All (λ w. w.limit ≡ sectors w.disk) wanted

-- exactly that list, or that place
abbrev pub ListsAs : {T : Type 0} → Result (List T) ℕ → Result (Vec T) ℕ → Type 0
ListsAs answer (Ok list) = answer ≡ Ok list.items
ListsAs answer (Err place) = answer ≡ Err place

-- each map is that of the gaps of its disk, which has no limit, beside what is taken
pub record AreMapsOf (maps : FreeMaps) (taken : List Taken) : Type 0 where
  pub each : (disk : ℕ) (gaps : List Gap) → get nat_cmp maps.maps disk ≡ Some gaps → AreGaps gaps taken disk (2 ^ 64 - 1)

-- exactly that list, with the maps beside what it takes too, or that place
abbrev pub PlacesAs : Result (FreeMaps × Vec Taken) ℕ → List Taken → Result (List Taken) ℕ → Type 0
PlacesAs (Ok placed) taken (Ok spots) = (placed.1.items ≡ spots) × AreMapsOf placed.0 (spots ++ taken)
PlacesAs (Err place) taken (Err other) = place ≡ other
PlacesAs _ taken _ = ⊥
