-- The table of a volume: which targets make a device that has its sectors.
use Rattle.std.specs.Prelude.{ℕ, ◌+◌, ◌-◌, ◌*◌, ◌/◌, ◌==◌, ◌&&◌, Bool, false, List, [], ◌∷◌, ◌++◌, length, map, Option, Some, None, find, option_and_then, slice_get, unwrap_or, if◌then◌else◌}
use Rattle.std.specs.List.{filter_map, range_with_len}
use Rattle.std.specs.Option.{option_map}
use Rattle.ldm_records.specs.declared.types.Record.{Record}
use Rattle.ldm_records.specs.declared.types.Record.TheVariants as kinds
use Rattle.ldm_places.specs.Layouts.{Layout}
use Rattle.ldm_places.specs.Columns.{columns_of, chunk_of}
use Rattle.ldm_places.specs.declared.shape.Place.{Place}
use Rattle.ldm_places.specs.declared.shape.Shape.{Shape}
use Rattle.ldm_places.specs.declared.shape.Shape.TheVariants.{Stripe, Raid5}
use Rattle.ldm_copy.specs.declared.found.Found.{Found}
use Rattle.ldm_dump.specs.Sources.{spot_at, sources_of}
use Rattle.ldm_dump.specs.declared.spots.Spot.{Spot}
use Rattle.ldm_table.specs.declared.parts.Member.{Member}
use Rattle.ldm_table.specs.Targets.{linear, striped, raid5_ls, Line}
use Rattle.ldm_table.specs.Names.{part_device}
use Rattle.ldm_table.specs.declared.stretch.Stretch.{Stretch}

-- ---- sectors that lie side by side on one image

-- sector x, where it is read from one image
abbrev pub one_sector : ℕ → Option (List Spot) → Option Stretch
one_sector x (Some (spot ∷ [])) = Some (record { start = x; sectors = 1; spot = spot })
one_sector x _ = None

abbrev pub sector_at : Found → Layout → ℕ → Option Stretch
sector_at found l x = one_sector x (sources_of found l x)

-- the second lies on the image of the first, right behind it
abbrev pub is_next_to : Stretch → Stretch → Bool
is_next_to a b = (a.spot.image == b.spot.image) && (a.spot.sector + a.sectors == b.spot.sector)

-- this stretch in front of others, as one with the first of them where that lies right behind it
abbrev pub before : Stretch → List Stretch → List Stretch
before a [] = a ∷ []
before a (b ∷ bs) = if is_next_to a b then record a { sectors = a.sectors + b.sectors } ∷ bs else a ∷ b ∷ bs

-- stretches as long as can be
abbrev pub joined : List Stretch → List Stretch
joined [] = []
joined (a ∷ rest) = before a (joined rest)

-- those of so many sectors of the volume, from the first on
unfoldable pub stretches_of : Found → Layout → ℕ → ℕ → List Stretch
stretches_of found l first count = joined (filter_map (sector_at found l) (range_with_len first count))

abbrev pub table_line : Stretch → Line
table_line s = record { start = s.start; sectors = s.sectors; target = linear s.spot }

-- ---- whole rows of a stripe or a RAID-5

-- the columns of a row that hold data
abbrev pub data_columns : Shape → ℕ → ℕ
data_columns Stripe k = k
data_columns Raid5 k = k - 1
data_columns _ k = 0

-- the sectors of a row; 0 where there are no rows
abbrev pub row_sectors : Layout → ℕ
row_sectors l = chunk_of l * data_columns l.shape (length (columns_of l))

abbrev pub whole_rows : Layout → ℕ
whole_rows l = if row_sectors l == 0 then 0 else l.size / row_sectors l

-- where a column begins
abbrev pub column_start : Layout → ℕ → Option Place
column_start l c = option_map (λ e. record { disk = e.disk; sector = e.start }) (slice_get (columns_of l) c)

abbrev pub column_begin : Found → Layout → ℕ → Option Spot
column_begin found l c = spot_at found (column_start l c)

abbrev pub column_spots : Found → Layout → List (Option Spot)
column_spots found l = map (column_begin found l) (range_with_len 0 (length (columns_of l)))

abbrev pub begins_at : Place → Record → Bool
begins_at place (kinds.Partition p) = (p.disk == place.disk) && (p.start == place.sector)
begins_at place _ = false

abbrev pub name_in : Record → List ℕ
name_in (kinds.Partition p) = p.head.name
name_in _ = []

-- the name of the partition that begins there
unfoldable pub partition_name : Place → List Record → List ℕ
partition_name place records = unwrap_or (option_map name_in (find (begins_at place) records)) []

-- some sectors from this place on, as a device
abbrev pub member_of : Found → ℕ → Place → Spot → Member
member_of found sectors place spot = record { name = part_device found.db.header.name (partition_name place found.db.records); spot = spot; sectors = sectors }

abbrev pub member_from : Found → ℕ → Place → Option Member
member_from found sectors place = option_map (member_of found sectors place) (spot_at found (Some place))

-- what whole rows have of a column
abbrev pub member_at : Found → Layout → ℕ → Option Member
member_at found l c = option_and_then (member_from found (whole_rows l * chunk_of l)) (column_start l c)

abbrev pub members_of : Found → Layout → List (Option Member)
members_of found l = map (member_at found l) (range_with_len 0 (length (columns_of l)))

-- the devices of the array; other shapes have none, nor has a RAID-5 without a whole row
abbrev pub array_by : Found → Layout → Shape → List (Option Member)
array_by found l Raid5 = if whole_rows l == 0 then [] else members_of found l
array_by found l _ = []

abbrev pub array_of : Found → Layout → List (Option Member)
array_of found l = array_by found l l.shape

-- the line of the whole rows
abbrev pub row_lines_by : Found → Layout → Shape → List Line
row_lines_by found l Stripe = record { start = 0; sectors = whole_rows l * row_sectors l; target = striped (chunk_of l) (column_spots found l) } ∷ []
row_lines_by found l Raid5 = record { start = 0; sectors = whole_rows l * row_sectors l; target = raid5_ls (chunk_of l) (array_of found l) } ∷ []
row_lines_by found l _ = []

abbrev pub row_lines : Found → Layout → List Line
row_lines found l = if whole_rows l == 0 then [] else row_lines_by found l l.shape

-- ---- the table

-- the sectors that whole rows hold; what is left is linear
abbrev pub in_rows : Layout → ℕ
in_rows l = whole_rows l * row_sectors l

abbrev pub rest_lines : Found → Layout → List Line
rest_lines found l = map table_line (stretches_of found l (in_rows l) (l.size - in_rows l))

abbrev pub table_of : Found → Layout → List Line
table_of found l = row_lines found l ++ rest_lines found l
