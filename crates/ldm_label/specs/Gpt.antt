-- The fields of a GUID partition table (GPT), and its faults. Offsets are those of the format, in the sector or in the entry.
-- All numbers are little-endian.
use Rattle.std.specs.Prelude.{ℕ, ◌+◌, ◌*◌, ◌==◌, ◌&&◌, ◌||◌, Bool, List, [], ◌∷◌, ◌++◌, drop, slice_range, codes, nat_lt, not, map, find, Option, unwrap_or, is_none}
use Rattle.std.specs.Str.{bytes_eq}
use Rattle.std.specs.Int.{w128, from_be_bytes}
use Rattle.std.specs.List.{range_with_len}
use Rattle.byteorder.specs.Endian.{little_number}
use Rattle.uuid.specs.Parts.{swap_fields}
use Rattle.ldm_crc32.specs.Crc32.{crc32}
use Rattle.ldm_label.specs.declared.LabelFault.{LabelFault}
use Rattle.ldm_label.specs.declared.LabelFault.TheVariants.{NoGpt, GptSize, GptChecksum, GptEntries, GptRange, EntriesChecksum, NoMetadata, MetadataSize, MetadataRange}
use Rattle.ldm_label.specs.declared.gpt.GptHeader.{GptHeader}
use Rattle.ldm_label.specs.declared.gpt.Partition.{Partition}
use Rattle.ldm_label.specs.declared.gpt.GptBounds.{GptBounds}

-- the little-endian number in the 4 or 8 bytes from that place on
abbrev pub le32_at : List ℕ → ℕ → ℕ
le32_at bytes at = little_number 4 (drop at bytes)

abbrev pub le64_at : List ℕ → ℕ → ℕ
le64_at bytes at = little_number 8 (drop at bytes)

-- ---- the header, in sector 1

unfoldable pub is_gpt_header : List ℕ → Bool
is_gpt_header head = bytes_eq (slice_range head 0 8) (codes "EFI PART")

abbrev pub gpt_size : List ℕ → ℕ
gpt_size head = le32_at head 0x0C

-- the header has the bytes of its fields at least, and a sector at most
unfoldable pub has_gpt_size : List ℕ → Bool
has_gpt_size head = not (nat_lt (gpt_size head) 92) && not (nat_lt 512 (gpt_size head))

-- the bytes that the checksum of the header is made of: zeros stand in the place of its own
abbrev pub checked_bytes : List ℕ → List ℕ
checked_bytes head = slice_range head 0 0x10 ++ (0 ∷ 0 ∷ 0 ∷ 0 ∷ []) ++ slice_range head 0x14 (gpt_size head)

unfoldable pub has_gpt_checksum : List ℕ → Bool
has_gpt_checksum head = crc32 (checked_bytes head) == le32_at head 0x10

-- the values of a header
abbrev pub gpt_header_of : List ℕ → GptHeader
gpt_header_of head = record {
  own_sector = le64_at head 0x18;
  first_usable = le64_at head 0x28;
  last_usable = le64_at head 0x30;
  entries_start = le64_at head 0x48;
  entries = le32_at head 0x50;
  entry_size = le32_at head 0x54;
  entries_checksum = le32_at head 0x58;
}

-- there are 1024 entries at most, of 128 bytes each
unfoldable pub has_few_entries : GptHeader → Bool
has_few_entries header = (header.entry_size == 128) && not (nat_lt 1024 header.entries)

-- It isn't the header of sector 1, the entries aren't behind it or not in front of the usable sectors, these begin in front of
-- sector 34, there are none, or they end behind the disk, which has so many sectors.
unfoldable pub is_out_of_disk : GptHeader → ℕ → Bool
is_out_of_disk header sectors = not (header.own_sector == 1)
    || nat_lt header.entries_start 2
    || nat_lt (4 * header.first_usable) (4 * header.entries_start + header.entries)
    || nat_lt header.first_usable 34
    || nat_lt header.last_usable header.first_usable
    || not (nat_lt header.last_usable sectors)

-- of a header on a disk of so many sectors
unfoldable pub gpt_header_faults : List ℕ → ℕ → List (LabelFault × Bool)
gpt_header_faults head sectors =
    (NoGpt, not (is_gpt_header head))
    ∷ (GptSize, not (has_gpt_size head))
    ∷ (GptChecksum, not (has_gpt_checksum head))
    ∷ (GptEntries, not (has_few_entries (gpt_header_of head)))
    ∷ (GptRange, is_out_of_disk (gpt_header_of head) sectors)
    ∷ []

-- ---- the entries

-- the bytes of all entries
abbrev pub entries_bytes : GptHeader → List ℕ → List ℕ
entries_bytes header image = slice_range image (512 * header.entries_start) (512 * header.entries_start + 128 * header.entries)

-- the bytes of one entry
abbrev pub entry_bytes : GptHeader → List ℕ → ℕ → List ℕ
entry_bytes header image k = slice_range image (512 * header.entries_start + 128 * k) (512 * header.entries_start + 128 * k + 128)

-- The values of an entry. The first three fields of a GUID are little-endian too.
abbrev pub partition_of : List ℕ → Partition
partition_of entry = record {
  type_guid = from_be_bytes w128 (swap_fields (slice_range entry 0 16));
  first = le64_at entry 0x20;
  last = le64_at entry 0x28;
}

-- the type of an LDM metadata partition, 5808c8aa-7e8f-42e0-85d2-e1e90434cfb3
abbrev pub is_metadata : Partition → Bool
is_metadata partition = partition.type_guid == 0x5808C8AA7E8F42E085D2E1E90434CFB3

-- the first LDM metadata partition
unfoldable pub metadata_in : GptHeader → List ℕ → Option Partition
metadata_in header image = find is_metadata (map (λ k. partition_of (entry_bytes header image k)) (range_with_len 0 header.entries))

-- its values, and zeros where there is none
abbrev pub partition_or_none : Option Partition → Partition
partition_or_none partition = unwrap_or partition (record { type_guid = 0; first = 0; last = 0 })

-- a partition has 2048 sectors
abbrev pub has_metadata_size : Partition → Bool
has_metadata_size partition = partition.last == partition.first + 2047

-- a partition isn't in the usable sectors
abbrev pub is_unusable : GptHeader → Partition → Bool
is_unusable header partition = nat_lt partition.first header.first_usable || nat_lt header.last_usable partition.last

-- of entries with that checksum, whose first LDM metadata partition is that
unfoldable pub entries_faults : GptHeader → ℕ → Option Partition → List (LabelFault × Bool)
entries_faults header checksum metadata =
    (EntriesChecksum, not (checksum == header.entries_checksum))
    ∷ (NoMetadata, is_none metadata)
    ∷ (MetadataSize, not (has_metadata_size (partition_or_none metadata)))
    ∷ (MetadataRange, is_unusable header (partition_or_none metadata))
    ∷ []

-- ---- an image

abbrev pub gpt_from : GptHeader → Option Partition → GptBounds
gpt_from header metadata = record {
  first_usable = header.first_usable;
  last_usable = header.last_usable;
  metadata = (partition_or_none metadata).first;
}
