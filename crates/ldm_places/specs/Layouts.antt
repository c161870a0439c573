-- A layout, its faults, and where its sectors lie.
use Rattle.std.specs.Prelude.{ℕ, ◌+◌, ◌-◌, ◌==◌, ◌&&◌, not, Bool, true, false, List, [], ◌∷◌, length, map, sum_by, Option, None, find, slice_get, nat_lt, nat_le, option_and_then}
use Rattle.std.specs.List.{list_all}
use Rattle.std.specs.Option.{option_map}
use Rattle.ldm_bytes.specs.Tables as tables
use Rattle.ldm_places.specs.Places.{stripe_capacity, stripe_column, stripe_offset, raid5_capacity, raid5_row, parity_column, raid5_column, raid5_offset}
use Rattle.ldm_places.specs.Extents.{tiles, rises_from, least}
use Rattle.ldm_places.specs.declared.extent.Extent.{Extent}
use Rattle.ldm_places.specs.declared.shape.Place.{Place}
use Rattle.ldm_places.specs.declared.shape.Shape.{Shape}
use Rattle.ldm_places.specs.declared.shape.Shape.TheVariants.{Span, Stripe, Mirror, Raid5}
use Rattle.ldm_places.specs.declared.shape.LayoutFault.{LayoutFault}
use Rattle.ldm_places.specs.declared.shape.LayoutFault.TheVariants.{Gap, Chunk, Columns, Short}

-- A volume of this shape and size. Each component is a list of partitions: the tiles of a span or of a copy in rising
-- offset, the columns of a stripe or of a RAID-5 in rising index. The chunk and the number of columns are those that the
-- component says, 0 where it says none.
pub record Layout : Type 0 where
  pub shape : Shape
  pub size : ℕ
  pub chunk : ℕ
  pub columns : ℕ
  pub plexes : List (List Extent)

-- spans and mirrors are tiled, stripes and RAID-5 have columns
abbrev pub is_tiled : Shape → Bool
is_tiled Span = true
is_tiled Mirror = true
is_tiled Stripe = false
is_tiled Raid5 = false

-- ---- faults

abbrev pub has_gap : Layout → Bool
has_gap l = is_tiled l.shape && not (list_all tiles l.plexes)

abbrev pub lacks_chunk : Layout → Bool
lacks_chunk l = not (is_tiled l.shape) && (l.chunk == 0)

-- the fewest columns
abbrev pub fewest : Shape → ℕ
fewest Raid5 = 3
fewest _ = 2

abbrev pub has_columns : Layout → List Extent → Bool
has_columns l es = (l.columns == length es) && (nat_le (fewest l.shape) (length es) && rises_from 0 es)

abbrev pub lacks_columns : Layout → Bool
lacks_columns l = not (is_tiled l.shape) && not (list_all (has_columns l) l.plexes)

-- the sectors that a component holds of the volume
abbrev pub plex_capacity : Shape → ℕ → List Extent → ℕ
plex_capacity Stripe chunk es = stripe_capacity (length es) chunk (least (map (λ e. e.size) es))
plex_capacity Raid5 chunk es = raid5_capacity (length es) chunk (least (map (λ e. e.size) es))
plex_capacity _ chunk es = sum_by (λ e. e.size) es

-- the sectors of the volume that every component holds
abbrev pub capacity_of : Layout → ℕ
capacity_of l = least (map (plex_capacity l.shape l.chunk) l.plexes)

abbrev pub is_short : Layout → Bool
is_short l = nat_lt (capacity_of l) l.size

-- the faults of a layout, in their order
abbrev pub faults_of : Layout → List (LayoutFault × Bool)
faults_of l = (Gap, has_gap l) ∷ (Chunk, lacks_chunk l) ∷ (Columns, lacks_columns l) ∷ (Short, is_short l) ∷ []

-- the first that there is
abbrev pub layout_fault : Layout → Option LayoutFault
layout_fault l = tables.first_fault (faults_of l)

-- ---- places

-- Where a sector lies: a partition, and an offset in it.

abbrev pub covers : ℕ → Extent → Bool
covers x e = nat_le e.offset x && nat_lt x (e.offset + e.size)

abbrev pub tile_spot : List Extent → ℕ → Option (Extent × ℕ)
tile_spot es x = option_map (λ e. (e, x - e.offset)) (find (covers x) es)

abbrev pub stripe_spot : List Extent → ℕ → ℕ → Option (Extent × ℕ)
stripe_spot es u x = option_map (λ e. (e, stripe_offset (length es) u x)) (slice_get es (stripe_column (length es) u x))

abbrev pub raid5_spot : List Extent → ℕ → ℕ → Option (Extent × ℕ)
raid5_spot es u x = option_map (λ e. (e, raid5_offset (length es) u x)) (slice_get es (raid5_column (length es) u x))

abbrev pub parity_spot : List Extent → ℕ → ℕ → Option (Extent × ℕ)
parity_spot es u x = option_map (λ e. (e, raid5_offset (length es) u x)) (slice_get es (parity_column (length es) (raid5_row (length es) u x)))

abbrev pub plex_spot : Shape → ℕ → List Extent → ℕ → Option (Extent × ℕ)
plex_spot Stripe u es x = stripe_spot es u x
plex_spot Raid5 u es x = raid5_spot es u x
plex_spot _ u es x = tile_spot es x

abbrev pub parity_at : Shape → ℕ → List Extent → ℕ → Option (Extent × ℕ)
parity_at Raid5 u es x = parity_spot es u x
parity_at _ u es x = None

-- where sector x lies in the copy of this number
abbrev pub spot_in : Layout → ℕ → ℕ → Option (Extent × ℕ)
spot_in l x copy = option_and_then (λ es. plex_spot l.shape l.chunk es x) (slice_get l.plexes copy)

-- where the parity of sector x lies
abbrev pub parity_spot_in : Layout → ℕ → Option (Extent × ℕ)
parity_spot_in l x = option_and_then (λ es. parity_at l.shape l.chunk es x) (slice_get l.plexes 0)

-- the disk, and the sector of its data
abbrev pub place_at : Extent × ℕ → Place
place_at spot = record { disk = spot.0.disk; sector = spot.0.start + spot.1 }

abbrev pub place_in : Layout → ℕ → ℕ → Option Place
place_in l x copy = option_map place_at (spot_in l x copy)

abbrev pub parity_in : Layout → ℕ → Option Place
parity_in l x = option_map place_at (parity_spot_in l x)

-- how many copies there are of each sector: as many as a mirror has components
abbrev pub copies_by : Shape → ℕ → ℕ
copies_by Mirror components = components
copies_by _ components = 1

abbrev pub copies_of : Layout → ℕ
copies_of l = copies_by l.shape (length l.plexes)
