-- Copies and rows that disagree.
use Rattle.std.specs.Prelude.{◌≡◌, ℕ, ◌+◌, ◌-◌, ◌*◌, ◌/◌, ◌%◌, ◌<◌, ◌≤◌, length, Bool, true, false, not, List, replicate, if◌then◌else◌, slice_range, nat_lt, filter}
use Rattle.std.specs.List.{list_any, range_with_len}
use Rattle.std.specs.Option.{option_map, option_to_list}
use Rattle.std.specs.Str.{bytes_eq}
use Rattle.ldm_places.specs.Layouts.{Layout, copies_of, place_in}
use Rattle.ldm_places.specs.Columns.{columns_of, IsColumned, moved}
use Rattle.ldm_places.specs.declared.shape.Shape.TheVariants.{Raid5}
use Rattle.ldm_copy.specs.declared.found.Found.{Found}
use Rattle.ldm_dump.specs.Sources.{is_raid5, copy_spot}
use Rattle.ldm_dump.specs.Bytes.{joined_sector}
use Rattle.ldm_dump.specs.Redundant.{row_spots, IsRedundant}

-- ---- what is bad

-- a copy of the sector
abbrev pub copy_sector : List (List ℕ) → Found → Layout → ℕ → ℕ → List ℕ
copy_sector images found l x copy = joined_sector images (option_to_list (copy_spot found l x copy))

-- A copy of the sector differs from the first. Two copies differ exactly where one of all differs from the first.
abbrev pub copy_differs : List (List ℕ) → Found → Layout → ℕ → ℕ → Bool
copy_differs images found l x copy = not (bytes_eq (copy_sector images found l x 0) (copy_sector images found l x copy))

-- the exclusive-or of all columns at the sector's row and offset isn't zero
abbrev pub row_fails : List (List ℕ) → Found → Layout → ℕ → Bool
row_fails images found l x = not (bytes_eq (joined_sector images (row_spots found l x)) (replicate 512 0))

-- two copies of the sector differ, or the parity of a RAID-5 isn't that of the sector's row
unfoldable pub is_bad : List (List ℕ) → Found → Layout → ℕ → Bool
is_bad images found l x = if is_raid5 l.shape then row_fails images found l x else list_any (copy_differs images found l x) (range_with_len 1 (copies_of l - 1))

-- ---- places

-- The sector of a place. A place of a RAID-5 is a row and an offset in its chunks, place s * u + o for row s and offset o in
-- chunks of u sectors; its sector is the one in the row's first chunk. A place of any other volume is a sector.
unfoldable pub place_sector : Layout → ℕ → ℕ
place_sector l p = if is_raid5 l.shape then p / l.chunk * (length (columns_of l) - 1) * l.chunk + p % l.chunk else p

-- all places, in their order
abbrev pub places_of : Layout → List ℕ
places_of l = filter (λ p. nat_lt (place_sector l p) l.size) (range_with_len 0 l.size)

-- the place is bad
abbrev pub is_bad_at : List (List ℕ) → Found → Layout → ℕ → Bool
is_bad_at images found l p = is_bad images found l (place_sector l p)

-- the volume has this number of places
pub record IsCount (l : Layout) (count : ℕ) : Type 0 where
  pub all : places_of l ≡ range_with_len 0 count
  pub each : (p : ℕ) → p < count → place_sector l p < l.size
  pub others : is_raid5 l.shape ≡ false → count ≡ l.size

-- The n sectors from this one on, in front of the volume's end, lie side by side in each copy.
pub record IsCommonRun (l : Layout) (x n : ℕ) : Type 0 where
  pub some : 0 < n
  pub within : x + n ≤ l.size
  pub places : (copy i : ℕ) → copy < copies_of l → i < n → place_in l (x + i) copy ≡ option_map (moved i) (place_in l x copy)

-- ---- marks

-- sector i of some sectors
abbrev pub sector_in : List ℕ → ℕ → List ℕ
sector_in bytes i = slice_range bytes (512 * i) (512 * i + 512)

-- the mark of a bad place, and of another
abbrev pub mark : Bool → ℕ
mark true = 1
mark false = 0

-- what a mark becomes where sectors are compared: 1 where they differ
abbrev pub marked : Bool → ℕ → ℕ
marked true m = m
marked false m = 1

-- ---- a law

-- where no place is bad, the volume is redundant
abbrev pub CleanIsRedundant : Type 0
CleanIsRedundant = (images : List (List ℕ)) (found : Found) (l : Layout) → (l.shape ≡ Raid5 → IsColumned l)
    → ((p : ℕ) → place_sector l p < l.size → is_bad_at images found l p ≡ false) → IsRedundant images found l
