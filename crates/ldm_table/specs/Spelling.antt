-- How devices are spelled for `dmsetup create --concise`: the name, the UUID, the minor number (none), `ro` and the lines of the
-- table, with commas between them, and semicolons between devices.
use Rattle.std.specs.Prelude.{ℕ, List, [], ◌++◌, length, flat_map, get_or, codes, decimal, Option, Some, None}
use Rattle.ldm_bytes.specs.Guid.{own_guid}
use Rattle.ldm_records.specs.declared.types.Volume.{Volume}
use Rattle.ldm_places.specs.Layouts.{Layout}
use Rattle.ldm_copy.specs.declared.found.Found.{Found}
use Rattle.ldm_text.specs.Texts.{guid_of_volume}
use Rattle.ldm_dump.specs.declared.spots.Spot.{Spot}
use Rattle.ldm_table.specs.declared.parts.Member.{Member}
use Rattle.ldm_table.specs.Names.{escaped, argument, volume_name}
use Rattle.ldm_table.specs.Targets.{Target, linear, striped, raid5_ls, Line}
use Rattle.ldm_table.specs.Tables.{array_of, table_of}

-- ---- lines

-- IMAGE SECTOR
unfoldable pub text_of_spot : List (List ℕ) → Spot → List ℕ
text_of_spot words spot = argument (get_or words spot.image []) ++ (codes " " ++ decimal spot.sector)

abbrev pub text_of_column : List (List ℕ) → Option Spot → List ℕ
text_of_column words None = codes " - 0"
text_of_column words (Some spot) = codes " " ++ text_of_spot words spot

-- no metadata, and the device; or a missing one
unfoldable pub text_of_device : Member → List ℕ
text_of_device m = codes " - /dev/mapper/" ++ argument m.name

abbrev pub text_of_member : Option Member → List ℕ
text_of_member None = codes " - -"
text_of_member (Some m) = text_of_device m

-- ,START SECTORS
unfoldable pub text_of_sector_range : ℕ → ℕ → List ℕ
text_of_sector_range start sectors = (codes "," ++ decimal start) ++ (codes " " ++ decimal sectors)

-- The array isn't synced when it starts: its parity is taken as it is.
unfoldable pub text_of_target : List (List ℕ) → Target → List ℕ
text_of_target words (linear spot) = codes " linear " ++ text_of_spot words spot
text_of_target words (striped u columns) =
    (codes " striped " ++ decimal (length columns)) ++ (codes " " ++ decimal u) ++ flat_map (text_of_column words) columns
text_of_target words (raid5_ls u devices) =
    (codes " raid raid5_ls 2 " ++ decimal u) ++ (codes " nosync " ++ decimal (length devices)) ++ flat_map text_of_member devices

abbrev pub text_of_line : List (List ℕ) → Line → List ℕ
text_of_line words line = text_of_sector_range line.start line.sectors ++ text_of_target words line.target

-- ---- devices

-- the device of a member of an array
unfoldable pub text_of_part_device : List (List ℕ) → Member → List ℕ
text_of_part_device words m = escaped m.name ++ codes ",,,ro" ++ text_of_sector_range 0 m.sectors ++ text_of_target words (linear m.spot) ++ codes ";"

abbrev pub text_of_part_if : List (List ℕ) → Option Member → List ℕ
text_of_part_if words None = []
text_of_part_if words (Some m) = text_of_part_device words m

-- what stands in front of the lines of the volume's device
unfoldable pub text_of_line_head : List ℕ → Volume → List ℕ
text_of_line_head name v = escaped name ++ (codes ",LDM-" ++ own_guid (guid_of_volume v)) ++ codes ",,ro"

-- What makes the device of a volume of the group, of images that these words name: the devices of the array that it has come
-- first.
unfoldable pub text_of_devices : List (List ℕ) → Found → Volume → Layout → List ℕ
text_of_devices words found v l =
    flat_map (text_of_part_if words) (array_of found l)
    ++ text_of_line_head (volume_name found.db.header.name v) v
    ++ flat_map (text_of_line words) (table_of found l)

-- as a line
abbrev pub text_of_table : List (List ℕ) → Found → Volume → Layout → List ℕ
text_of_table words found v l = text_of_devices words found v l ++ codes "\n"
