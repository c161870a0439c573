-- How many private headers and tables of contents of an image are good.
use Rattle.std.specs.Prelude.{ℕ, ◌+◌, ◌==◌, ◌&&◌, Bool, List, [], ◌∷◌, count_by, is_some}
use Rattle.ldm_label.specs.declared.Label.{Label}
use Rattle.ldm_label.specs.declared.Style.{Style}
use Rattle.ldm_label.specs.declared.header.PrivateHeader.{PrivateHeader}
use Rattle.ldm_label.specs.declared.counting.GoodCopies.{GoodCopies}
use Rattle.ldm_label.specs.Fields.{sector, is_privhead, has_version, config_size, disk_guid, header_of, same_header, parses}

-- what a private header says on a disk with this label
abbrev pub header_values : Label → PrivateHeader
header_values label = record {
  disk_guid = label.disk_guid;
  minor = label.minor;
  data_start = label.data_start;
  data_size = label.data_size;
  config_start = label.config_start;
}

-- a sector is a private header
unfoldable pub is_whole_header : List ℕ → Bool
is_whole_header head = is_privhead head && has_version head && (config_size head == 2048) && is_some (disk_guid head)

-- a private header says what it does on a disk with this label
unfoldable pub is_good_header : Label → List ℕ → Bool
is_good_header label head = is_whole_header head && same_header (header_of head) (header_values label)

-- the table of contents in a sector parses
unfoldable pub is_good_table : List ℕ → ℕ → Bool
is_good_table image at = parses (sector image at)

-- The sectors of the private headers. Two are in the database, which begins at a sector, and an MBR disk has one more. Of the
-- three copies of a GPT disk the first and the third are one sector.
abbrev pub header_places : Style → ℕ → List ℕ
header_places Style.Mbr start = 6 ∷ (start + 1856) ∷ (start + 2047) ∷ []
header_places Style.Gpt start = (start + 1856) ∷ (start + 2047) ∷ []

-- how many of some sectors have a good private header
abbrev pub good_among : List ℕ → Label → List ℕ → ℕ
good_among places label image = count_by (λ at. is_good_header label (sector image at)) places

-- how many private headers are good, of an image with this label
abbrev pub good_headers : Label → List ℕ → ℕ
good_headers label image = good_among (header_places label.style label.config_start) label image

-- of the four tables of contents, in sectors 1, 2, 2045 and 2046 of the database
abbrev pub good_tables : ℕ → List ℕ → ℕ
good_tables start image = count_by (is_good_table image) ((start + 1) ∷ (start + 2) ∷ (start + 2045) ∷ (start + 2046) ∷ [])

-- both, of an image with this label
abbrev pub good_copies : List ℕ → Label → GoodCopies
good_copies image label = record { headers = good_headers label image; tables = good_tables label.config_start image }
