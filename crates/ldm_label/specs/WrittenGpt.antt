-- The label of a GPT disk as it is written: the protective MBR, both GPTs with their checksums, the private header and the tables of
-- contents. Offsets are those of the format. The numbers of a GPT are little-endian.
use Rattle.std.specs.Prelude.{◌≡◌, ◌⊎◌, ℕ, ◌+◌, ◌-◌, ◌*◌, ◌^◌, ◌<◌, ◌≤◌, List, [], ◌∷◌, ◌++◌, length, min, bit_xor, slice_index, slice_range, replicate, codes, All}
use Rattle.std.specs.Int.{w128, to_be_bytes}
use Rattle.byteorder.specs.Endian.{little_bytes}
use Rattle.uuid.specs.Parts.{swap_fields}
use Rattle.ldm_bytes.specs.Places.{put, put_each}
use Rattle.ldm_crc32.specs.Crc32.{crc32}
use Rattle.ldm_label.specs.declared.Style.{Style}
use Rattle.ldm_label.specs.declared.Label.{Label}
use Rattle.ldm_label.specs.declared.writing_gpt.GptSectors.{GptSectors}
use Rattle.ldm_label.specs.Written.{sector_with, written_header, written_toc, IsKnownMinor}

-- the protective MBR, of which one entry is used: it begins in sector 1 and has so many sectors
abbrev pub protective_fields : ℕ → List (ℕ × List ℕ)
protective_fields count =
    (0x1BF, 0x00 ∷ 0x02 ∷ 0x00 ∷ [])
    ∷ (0x1C2, 0xEE ∷ 0xFF ∷ 0xFF ∷ 0xFF ∷ [])
    ∷ (0x1C6, little_bytes 4 1)
    ∷ (0x1CA, little_bytes 4 count)
    ∷ (0x1FE, 0x55 ∷ 0xAA ∷ [])
    ∷ []

-- On a disk of so many sectors they are all but the first, as far as 32 bits count them.
unfoldable pub written_protective : ℕ → List ℕ
written_protective sectors = sector_with (protective_fields (min (sectors - 1) (2 ^ 32 - 1)))

-- ---- GUIDs

-- The bytes of a GUID in a GPT: its first three fields are little-endian.
abbrev pub guid_bytes : ℕ → List ℕ
guid_bytes guid = swap_fields (to_be_bytes w128 guid)

-- The GUIDs that a GPT has beside that of LDM's disk: they are drawn from it, and differ in the first digit of the third group.
abbrev pub drawn_guid : Label → ℕ → ℕ
drawn_guid label k = bit_xor label.disk_guid (k * 2 ^ 76)

-- ---- the entries

-- one that begins at a place: the GUID of its type, its own, its first sector, its last, and its name in UTF-16
abbrev pub entry_fields : ℕ → ℕ → ℕ → ℕ → ℕ → List ℕ → List (ℕ × List ℕ)
entry_fields at kind guid first last name =
    (at, guid_bytes kind)
    ∷ (at + 16, guid_bytes guid)
    ∷ (at + 32, little_bytes 8 first)
    ∷ (at + 40, little_bytes 8 last)
    ∷ (at + 56, name)
    ∷ []

-- the names of the three partitions
abbrev pub metadata_name : List ℕ
metadata_name = codes "L\0D\0M\0 \0m\0e\0t\0a\0d\0a\0t\0a\0 \0p\0a\0r\0t\0i\0t\0i\0o\0n\0"

abbrev pub reserved_name : List ℕ
reserved_name = codes "M\0i\0c\0r\0o\0s\0o\0f\0t\0 \0r\0e\0s\0e\0r\0v\0e\0d\0 \0p\0a\0r\0t\0i\0t\0i\0o\0n\0"

abbrev pub data_name : List ℕ
data_name = codes "L\0D\0M\0 \0d\0a\0t\0a\0 \0p\0a\0r\0t\0i\0t\0i\0o\0n\0"

-- The LDM metadata partition is the database, the LDM data partition has the data, and the Microsoft reserved partition is between
-- them.
abbrev pub metadata_fields : Label → List (ℕ × List ℕ)
metadata_fields label = entry_fields 0 0x5808C8AA7E8F42E085D2E1E90434CFB3 (drawn_guid label 2) label.config_start (label.config_start + 2047) metadata_name

abbrev pub reserved_fields : Label → List (ℕ × List ℕ)
reserved_fields label = entry_fields 128 0xE3C9E3160B5C4DB8817DF92DF00215AE (drawn_guid label 3) (label.config_start + 2048) (label.data_start - 1) reserved_name

abbrev pub data_fields : Label → List (ℕ × List ℕ)
data_fields label = entry_fields 256 0xAF9B60A014314F62BC683311714A69AD (drawn_guid label 4) label.data_start (label.data_start + label.data_size - 1) data_name

-- 128 entries of 128 bytes each, of which three are used
unfoldable pub written_entries : Label → List ℕ
written_entries label = put_each (replicate 16384 0) (metadata_fields label ++ reserved_fields label ++ data_fields label)

-- ---- the headers

-- The fields of a header but its checksum: a GUID and the checksum of the entries, on a disk of so many sectors, with the sector of
-- the header, that of the other header, and the first of the entries. Sectors 34 to the 34th from the end are usable.
abbrev pub gpt_fields : ℕ → ℕ → ℕ → ℕ → ℕ → ℕ → List (ℕ × List ℕ)
gpt_fields guid checksum sectors own other entries =
    (0x00, codes "EFI PART")
    ∷ (0x08, little_bytes 4 0x00010000)
    ∷ (0x0C, little_bytes 4 92)
    ∷ (0x18, little_bytes 8 own)
    ∷ (0x20, little_bytes 8 other)
    ∷ (0x28, little_bytes 8 34)
    ∷ (0x30, little_bytes 8 (sectors - 34))
    ∷ (0x38, guid_bytes guid)
    ∷ (0x48, little_bytes 8 entries)
    ∷ (0x50, little_bytes 4 128)
    ∷ (0x54, little_bytes 4 128)
    ∷ (0x58, little_bytes 4 checksum)
    ∷ []

-- The header has the checksum of its 92 bytes, in which zeros stand in the place of the checksum.
abbrev pub with_checksum : List ℕ → List ℕ
with_checksum head = put head 0x10 (little_bytes 4 (crc32 (slice_range head 0 92)))

unfoldable pub written_gpt : Label → ℕ → ℕ → ℕ → ℕ → List ℕ
written_gpt label sectors own other entries = with_checksum (sector_with (gpt_fields (drawn_guid label 1) (crc32 (written_entries label)) sectors own other entries))

-- ---- a disk

-- the tables of partitions of a disk of so many sectors
abbrev pub written_tables : Label → ℕ → GptSectors
written_tables label sectors = record {
  protective = written_protective sectors;
  primary = written_gpt label sectors 1 (sectors - 1) 2;
  entries = written_entries label;
  backup = written_gpt label sectors (sectors - 1) 1 (sectors - 33);
}

-- What is written of the label of a GPT disk of so many sectors: bytes with their places on the disk, in rising order.
abbrev pub gpt_parts : Label → ℕ → List (ℕ × List ℕ)
gpt_parts label sectors =
    (512 * 0, written_protective sectors)
    ∷ (512 * 1, written_gpt label sectors 1 (sectors - 1) 2)
    ∷ (512 * 2, written_entries label)
    ∷ (512 * (label.config_start + 1), written_toc label)
    ∷ (512 * (label.config_start + 2), written_toc label)
    ∷ (512 * (label.config_start + 1856), written_header label)
    ∷ (512 * (label.config_start + 2045), written_toc label)
    ∷ (512 * (label.config_start + 2046), written_toc label)
    ∷ (512 * (label.config_start + 2047), written_header label)
    ∷ (512 * (sectors - 33), written_entries label)
    ∷ (512 * (sectors - 1), written_gpt label sectors (sectors - 1) 1 (sectors - 33))
    ∷ []

-- the image has these bytes at their places
abbrev pub HasParts : List (ℕ × List ℕ) → List ℕ → Type 0
HasParts parts image = All (λ part. slice_range image part.0 (part.0 + length part.1) ≡ part.1) parts

-- A place of an image, in bytes, is in none of them.
abbrev pub IsOutsideParts : List (ℕ × List ℕ) → ℕ → Type 0
IsOutsideParts parts k = All (λ part. (k < part.0) ⊎ (part.0 + length part.1 ≤ k)) parts

-- the image stays, but for any bytes in the places of the parts
pub record SameOutsideParts (parts : List (ℕ × List ℕ)) (old new : List ℕ) : Type 0 where
  pub size : length new ≡ length old
  pub outside : (k : ℕ) → IsOutsideParts parts k → slice_index new k ≡ slice_index old k

-- The label is one that a GPT disk of so many sectors can be given: the database is the first 2048 of the usable sectors, which
-- begin with sector 34. Then comes at least one reserved sector, and the data are all usable sectors behind.
pub record IsGptWritable (label : Label) (sectors : ℕ) : Type 0 where
  pub style : label.style ≡ Style.Gpt
  pub minor : IsKnownMinor label.minor
  pub guid : label.disk_guid < 2 ^ 128
  pub database : label.config_start ≡ 34
  pub reserved : label.config_start + 2048 < label.data_start
  pub rest : label.data_start + label.data_size + 33 ≡ sectors
  pub few : sectors < 2 ^ 55
