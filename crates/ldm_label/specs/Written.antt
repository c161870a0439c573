-- The sectors of a label as they are written, and the images that have them. Offsets are those of the format.
use Rattle.std.specs.Prelude.{◌≡◌, ◌≢◌, ◌⊎◌, ℕ, ◌+◌, ◌/◌, ◌^◌, ◌<◌, List, [], ◌∷◌, length, slice_index, replicate, codes, All}
use Rattle.byteorder.specs.Endian.{big_bytes}
use Rattle.ldm_bytes.specs.Guid.{own_guid}
use Rattle.ldm_bytes.specs.Places.{put_each}
use Rattle.ldm_label.specs.declared.Style.{Style}
use Rattle.ldm_label.specs.declared.Label.{Label}
use Rattle.ldm_label.specs.declared.writing.LabelSectors.{LabelSectors}
use Rattle.ldm_label.specs.Fields.{sector}

-- a sector of zeros, but for these bytes at their offsets
abbrev pub sector_with : List (ℕ × List ℕ) → List ℕ
sector_with fields = put_each (replicate 512 0) fields

-- the type of an LDM disk in the first entry, and the signature
unfoldable pub written_mbr : List ℕ
written_mbr = sector_with (
    (0x1C2, 0x42 ∷ [])
    ∷ (0x1FE, 0x55 ∷ 0xAA ∷ [])
    ∷ [])

-- the fields of the private header: version 2.11 or 2.12, the GUID's text in lower case, the data, and the database with its
-- 2048 sectors
abbrev pub header_fields : Label → List (ℕ × List ℕ)
header_fields label =
    (0x00, codes "PRIVHEAD")
    ∷ (0x0C, big_bytes 2 2)
    ∷ (0x0E, big_bytes 2 label.minor)
    ∷ (0x30, own_guid label.disk_guid)
    ∷ (0x11B, big_bytes 8 label.data_start)
    ∷ (0x123, big_bytes 8 label.data_size)
    ∷ (0x12B, big_bytes 8 label.config_start)
    ∷ (0x133, big_bytes 8 2048)
    ∷ []

unfoldable pub written_header : Label → List ℕ
written_header label = sector_with (header_fields label)

-- the fields of the table of contents: the config area and the log area, each with a zero byte behind its name
abbrev pub toc_fields : Label → List (ℕ × List ℕ)
toc_fields label =
    (0x00, codes "TOCBLOCK")
    ∷ (0x24, codes "config\0")
    ∷ (0x2E, big_bytes 8 label.area_start)
    ∷ (0x36, big_bytes 8 label.area_sectors)
    ∷ (0x46, codes "log\0")
    ∷ (0x50, big_bytes 8 label.log_start)
    ∷ (0x58, big_bytes 8 label.log_sectors)
    ∷ []

unfoldable pub written_toc : Label → List ℕ
written_toc label = sector_with (toc_fields label)

-- one sector of each kind
abbrev pub written_sectors : Label → LabelSectors
written_sectors label = record {
  mbr = written_mbr;
  header = written_header label;
  toc = written_toc label;
}

-- The image has the eight sectors of the label: the MBR, the private header and two copies of it, and four tables of contents.
pub record HasLabel (label : Label) (image : List ℕ) : Type 0 where
  pub mbr : sector image 0 ≡ written_mbr
  pub header : sector image 6 ≡ written_header label
  pub toc_1 : sector image (label.config_start + 1) ≡ written_toc label
  pub toc_2 : sector image (label.config_start + 2) ≡ written_toc label
  pub header_2 : sector image (label.config_start + 1856) ≡ written_header label
  pub toc_3 : sector image (label.config_start + 2045) ≡ written_toc label
  pub toc_4 : sector image (label.config_start + 2046) ≡ written_toc label
  pub header_3 : sector image (label.config_start + 2047) ≡ written_header label

-- where those sectors are, in rising order
abbrev pub label_places : Label → List ℕ
label_places label =
    let start = label.config_start in
    0 ∷ 6 ∷ (start + 1) ∷ (start + 2) ∷ (start + 1856) ∷ (start + 2045) ∷ (start + 2046) ∷ (start + 2047) ∷ []

-- A place of an image, in bytes, is in none of them.
abbrev pub IsOutsideLabel : Label → ℕ → Type 0
IsOutsideLabel label k = All (λ place. k / 512 ≢ place) (label_places label)

-- the image stays, but for any bytes in the sectors of the label
pub record SameOutsideLabel (label : Label) (old new : List ℕ) : Type 0 where
  pub size : length new ≡ length old
  pub outside : (k : ℕ) → IsOutsideLabel label k → slice_index new k ≡ slice_index old k

-- the version is 2.11 or 2.12
abbrev pub IsKnownMinor : ℕ → Type 0
IsKnownMinor minor = (minor ≡ 11) ⊎ (minor ≡ 12)

-- The label is one of an MBR disk, and the fields of the sectors have room for its numbers. Those that aren't named here are below the start of the
-- database, or of its 2048 sectors, where the label fits its disk.
pub record IsWritable (label : Label) : Type 0 where
  pub style : label.style ≡ Style.Mbr
  pub minor : IsKnownMinor label.minor
  pub guid : label.disk_guid < 2 ^ 128
  pub start : label.config_start < 2 ^ 64
