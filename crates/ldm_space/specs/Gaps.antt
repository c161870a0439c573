-- The gaps of a disk: the longest runs of free sectors of its data area.
use Rattle.std.specs.Prelude.{◌≡◌, ℕ, zero, suc, is_some, ◌+◌, ◌-◌, ◌<◌, ◌≤◌, ◌==◌, ◌&&◌, Bool, false, List, [], ◌∷◌, ◌++◌, All, AllPairs, Contains, Option, Some, None, find, nat_le, nat_lt, if◌then◌else◌}
use Rattle.std.specs.Option.{option_map}
use Rattle.ldm_records.specs.declared.types.Record.{Record}
use Rattle.ldm_records.specs.declared.types.Record.TheVariants as kinds
use Rattle.ldm_space.specs.Free.{Taken, taken_of, is_taken, first_free_start}
pub use Rattle.ldm_space.specs.declared.gaps.Gap.{Gap}

-- the sector lies in the gap
pub record IsIn (g : Gap) (sector : ℕ) : Type 0 where
  pub from : g.start ≤ sector
  pub below : sector < g.start + g.len

-- All gaps of the disk, in rising start. Each free sector below the size is in one, and a sector at least lies between two of them:
-- so none could be longer.
pub record AreGaps (gaps : List Gap) (taken : List Taken) (disk size : ℕ) : Type 0 where
  pub some : All (λ g. 0 < g.len) gaps
  pub rising : AllPairs (λ a b. a.start + a.len < b.start) gaps
  pub within : All (λ g. g.start + g.len ≤ size) gaps
  pub free : (g : Gap) (s : ℕ) → Contains gaps g → IsIn g s → is_taken taken disk 1 s ≡ false
  pub all : (s : ℕ) → s < size → is_taken taken disk 1 s ≡ false → (g : Gap) × Contains gaps g × IsIn g s

-- ---- the longest run of free sectors

-- the greatest number from 1 to n that passes, or 0
abbrev pub greatest_to : ℕ → (ℕ → Bool) → ℕ
greatest_to zero test = 0
greatest_to (suc n) test = if test (suc n) then suc n else greatest_to n test

-- the most sectors of the disk in a row that are free below size
unfoldable pub largest_free : List Taken → ℕ → ℕ → ℕ
largest_free taken disk size = greatest_to size (λ len. is_some (first_free_start taken disk size len))

-- ---- len sectors are taken from the first gap that has so many

abbrev pub has_length : ℕ → Gap → Bool
has_length len g = nat_le len g.len

-- where it begins
abbrev pub first_gap : ℕ → List Gap → Option ℕ
first_gap len gaps = option_map (λ g. g.start) (find (has_length len) gaps)

-- what is left of a gap without its first len sectors: no gap, where it had no more
abbrev pub shorter : ℕ → Gap → Gap
shorter len g = record { start = g.start + len; len = g.len - len }

abbrev pub rest_of : ℕ → Gap → List Gap
rest_of len g = if g.len == len then [] else shorter len g ∷ []

-- what is left of all gaps
abbrev pub without_first : ℕ → List Gap → List Gap
without_first len [] = []
without_first len (g ∷ gaps) = if has_length len g then rest_of len g ++ gaps else g ∷ without_first len gaps

-- what is taken then
abbrev pub with_found : List Taken → ℕ → ℕ → Option ℕ → List Taken
with_found taken disk len None = taken
with_found taken disk len (Some start) = record { disk = disk; start = start; size = len } ∷ taken

-- they are the first fit, and the gaps that are left are those of what is taken then
pub record TakesFirst (taken : List Taken) (disk size len : ℕ) (found : Option ℕ) (left : List Gap) : Type 0 where
  pub is : found ≡ first_free_start taken disk size len
  pub gaps : AreGaps left (with_found taken disk len found) disk size

-- ---- how they are found

-- what a partition takes, where it has sectors of the disk
abbrev pub taken_on : ℕ → Record → Option Taken
taken_on disk (kinds.Partition p) = if (p.disk == disk) && nat_lt 0 p.size then Some (taken_of p) else None
taken_on disk _ = None

-- one more, from a sector up to another, where there are sectors between
abbrev pub with_gap : List Gap → ℕ → ℕ → List Gap
with_gap gaps at until = if nat_lt at until then gaps ++ record { start = at; len = until - at } ∷ [] else gaps
