-- The text that says where the sectors of a volume lie.
use Rattle.std.specs.Prelude.{ℕ, ◌+◌, List, [], ◌++◌, flat_map, codes, decimal, Option, Some, None}
use Rattle.std.specs.List.{range_with_len}
use Rattle.std.specs.Option.{option_map}
use Rattle.ldm_records.specs.declared.types.Record.{Record}
use Rattle.ldm_records.specs.declared.types.Disk.{Disk}
use Rattle.ldm_group.specs.Looks.{by_id, disk_in}
use Rattle.ldm_label.specs.declared.Label.{Label}
use Rattle.ldm_places.specs.Layouts.{Layout, copies_of, place_in, parity_in}
use Rattle.ldm_places.specs.declared.shape.Place.{Place}
use Rattle.ldm_label.specs.Present.{image_with, data_start_with}
use Rattle.ldm_copy.specs.declared.found.Found.{Found}
use Rattle.ldm_look.specs.declared.mapped.MappedDisk.{MappedDisk}
use Rattle.ldm_words.specs.Names.{esc}

-- ---- disks

-- the name of a disk, its first image, if an image of it is there, and where its data begin on that
abbrev pub mapped_disk : List Label → Disk → MappedDisk
mapped_disk labels d = record { name = d.head.name; image = image_with d.guid labels; data_start = data_start_with d.guid labels }

-- the disk of this id
abbrev pub mapped_at : List Label → List Record → ℕ → Option MappedDisk
mapped_at labels records id = option_map (mapped_disk labels) (disk_in (by_id 2 id records))

-- ---- places

-- at Z, the sector of the image that is sector y of the data; or missing
abbrev pub text_of_image_sector : Option ℕ → ℕ → List ℕ
text_of_image_sector None y = codes " missing"
text_of_image_sector (Some data_start) y = codes " at " ++ decimal (data_start + y)

-- DISKNAME Y, and the sector of the image
unfoldable pub text_of_sector_on : MappedDisk → ℕ → List ℕ
text_of_sector_on d y = (codes " " ++ esc d.name) ++ (codes " " ++ decimal y) ++ text_of_image_sector d.data_start y ++ codes "\n"

-- what is said of a sector of the disk's data
abbrev pub text_on : List ℕ → Option MappedDisk → ℕ → List ℕ
text_on said None y = []
text_on said (Some d) y = said ++ text_of_sector_on d y

-- What is said of a place, where `disks` tells the disk of each id. Nothing where there is no place, or no such disk: in a
-- group that is found each partition has its disk.
abbrev pub text_of_mapped : (ℕ → Option MappedDisk) → List ℕ → Option Place → List ℕ
text_of_mapped disks said None = []
text_of_mapped disks said (Some place) = text_on said (disks place.disk) place.sector

-- ---- sectors

-- X copy C DISKNAME Y at Z
unfoldable pub text_of_copy_number : (ℕ → Option MappedDisk) → Layout → ℕ → ℕ → List ℕ
text_of_copy_number disks l x copy = text_of_mapped disks (decimal x ++ (codes " copy " ++ decimal copy)) (place_in l x copy)

-- X parity DISKNAME Y at Z, where the sector has parity
unfoldable pub text_of_parity : (ℕ → Option MappedDisk) → Layout → ℕ → List ℕ
text_of_parity disks l x = text_of_mapped disks (decimal x ++ codes " parity") (parity_in l x)

-- a line for each copy in rising number, and one for the parity
unfoldable pub text_of_sector : (ℕ → Option MappedDisk) → Layout → ℕ → List ℕ
text_of_sector disks l x = flat_map (text_of_copy_number disks l x) (range_with_len 0 (copies_of l)) ++ text_of_parity disks l x

-- the lines of so many sectors, from the first on
abbrev pub text_of_sectors : (ℕ → Option MappedDisk) → Layout → ℕ → ℕ → List ℕ
text_of_sectors disks l first count = flat_map (text_of_sector disks l) (range_with_len first count)

-- the text of a map of some sectors of a volume of the group, which has this layout
abbrev pub text_of_map : Found → Layout → ℕ → ℕ → List ℕ
text_of_map found l first count = text_of_sectors (mapped_at found.labels found.db.records) l first count
