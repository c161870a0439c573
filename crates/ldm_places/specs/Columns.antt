-- The columns of a stripe or a RAID-5, and sectors that lie side by side.
use Rattle.std.specs.Prelude.{◌≡◌, ℕ, ◌+◌, ◌<◌, ◌≤◌, List, [], length, get_or, Option, Some, slice_get, if◌then◌else◌}
use Rattle.std.specs.Option.{option_map}
use Rattle.ldm_places.specs.Places.{raid5_column, raid5_offset}
use Rattle.ldm_places.specs.Layouts.{Layout, is_tiled, place_at, place_in}
use Rattle.ldm_places.specs.declared.extent.Extent.{Extent}
use Rattle.ldm_places.specs.declared.shape.Place.{Place}
use Rattle.ldm_places.specs.declared.shape.Shape.TheVariants.{Raid5}

-- the columns of a stripe or a RAID-5; other shapes have none
abbrev pub columns_of : Layout → List Extent
columns_of l = if is_tiled l.shape then [] else get_or l.plexes 0 []

-- the sectors of a chunk of a stripe or a RAID-5; other shapes have no chunks
abbrev pub chunk_of : Layout → ℕ
chunk_of l = if is_tiled l.shape then 0 else l.chunk

-- what every plan of a stripe or a RAID-5 has
pub record IsColumned (l : Layout) : Type 0 where
  pub chunked : 0 < l.chunk
  pub many : 2 ≤ length (columns_of l)
  pub first : slice_get l.plexes 0 ≡ Some (columns_of l)

-- the column of a RAID-5 in which a sector lies
abbrev pub own_column : Layout → ℕ → ℕ
own_column l x = raid5_column (length (columns_of l)) l.chunk x

-- where a column of a RAID-5 is in the row of a sector, at the sector's offset in its chunk
abbrev pub column_spot : List Extent → ℕ → ℕ → ℕ → Option (Extent × ℕ)
column_spot es u x column = option_map (λ e. (e, raid5_offset (length es) u x)) (slice_get es column)

abbrev pub column_in : Layout → ℕ → ℕ → Option Place
column_in l x column = option_map place_at (column_spot (columns_of l) l.chunk x column)

-- the place so many sectors behind
abbrev pub moved : ℕ → Place → Place
moved i place = record { disk = place.disk; sector = place.sector + i }

-- A stretch of n sectors from this one on, in front of the volume's end, lies side by side in this copy. In a RAID-5 it lies in one
-- chunk, and what is beside it in each column lies side by side too.
pub record IsStretch (l : Layout) (x copy n : ℕ) : Type 0 where
  pub some : 0 < n
  pub within : x + n ≤ l.size
  pub places : (i : ℕ) → i < n → place_in l (x + i) copy ≡ option_map (moved i) (place_in l x copy)
  pub own : (i : ℕ) → i < n → l.shape ≡ Raid5 → own_column l (x + i) ≡ own_column l x
  pub columns : (i column : ℕ) → i < n → l.shape ≡ Raid5 → column_in l (x + i) column ≡ option_map (moved i) (column_in l x column)
