-- The label of an image, or its first fault: tables of the faults, in the order in which they are looked for. Each row says
-- where its fault is there.
use Rattle.std.specs.Prelude.{◌≡◌, ◌≢◌, ◌⊎◌, ℕ, ◌+◌, ◌*◌, ◌<◌, ◌≤◌, ◌==◌, ◌&&◌, Bool, List, [], ◌∷◌, ◌++◌, length, slice_index, not, nat_lt, is_none, is_ok, unwrap_or, slice_get, if◌then◌else◌, ◌||◌, Result}
use Rattle.std.specs.List.{filter_map, list_any}
use Rattle.ldm_label.specs.declared.header.PrivateHeader.{PrivateHeader}
use Rattle.ldm_crc32.specs.Crc32.{crc32}
use Rattle.ldm_label.specs.declared.gpt.GptHeader.{GptHeader}
use Rattle.ldm_label.specs.declared.gpt.GptBounds.{GptBounds}
use Rattle.ldm_label.specs.declared.table.Table.{Table}
use Rattle.ldm_label.specs.declared.Style.{Style}
use Rattle.ldm_label.specs.declared.toc.Toc.{Toc}
use Rattle.ldm_label.specs.declared.LabelFault.{LabelFault}
use Rattle.ldm_label.specs.declared.LabelFault.TheVariants.{Short, NoSignature, NoLdmEntry, NoPrivhead, Version, DatabaseSize, Range, Guid, PrivheadsDiffer, NoToc, TocsDiffer, TocRange}
use Rattle.ldm_label.specs.declared.Label.{Label}
use Rattle.ldm_label.specs.Answer.{answer}
use Rattle.ldm_label.specs.Gpt.{gpt_header_of, gpt_header_faults, entries_bytes, metadata_in, entries_faults, gpt_from}
use Rattle.ldm_label.specs.Fields.{sectors_of, sector, has_signature, has_ldm_entry, is_protective, is_privhead, has_version, config_size, disk_guid, header_of, is_out_of_range, same_header, toc_of, is_out_of_database, same_toc}

unfoldable pub mbr_faults : List ℕ → List (LabelFault × Bool)
mbr_faults mbr =
    (NoSignature, not (has_signature mbr))
    ∷ (NoLdmEntry, not (has_ldm_entry mbr || is_protective mbr))
    ∷ []

-- An entry of an LDM disk goes before the type of a protective MBR.
abbrev pub style_of : List ℕ → Style
style_of mbr = if has_ldm_entry mbr then Style.Mbr else Style.Gpt

-- the header of the GPT, and its first LDM metadata partition
abbrev pub gpt_header_in : List ℕ → GptHeader
gpt_header_in image = gpt_header_of (sector image 1)

abbrev pub gpt_of : List ℕ → GptBounds
gpt_of image = gpt_from (gpt_header_in image) (metadata_in (gpt_header_in image) image)

unfoldable pub gpt_faults : List ℕ → List (LabelFault × Bool)
gpt_faults image =
    gpt_header_faults (sector image 1) (sectors_of image)
    ++ entries_faults (gpt_header_in image) (crc32 (entries_bytes (gpt_header_in image) image)) (metadata_in (gpt_header_in image) image)

-- the faults of the table of partitions of either style, and where it says that things lie
abbrev pub styled_faults : Style → List ℕ → List (LabelFault × Bool)
styled_faults Style.Mbr image = []
styled_faults Style.Gpt image = gpt_faults image

abbrev pub styled_table : Style → List ℕ → Table
styled_table Style.Mbr image = Table.Mbr
styled_table Style.Gpt image = Table.Gpt (gpt_of image)

unfoldable pub table_faults : List ℕ → List (LabelFault × Bool)
table_faults image = mbr_faults (sector image 0) ++ styled_faults (style_of (sector image 0)) image

unfoldable pub disk_table : List ℕ → Table
disk_table image = styled_table (style_of (sector image 0)) image

-- the sector of copy 1 of the private header: on a GPT disk the last one of the LDM metadata partition
abbrev pub header_at : Table → ℕ
header_at Table.Mbr = 6
header_at (Table.Gpt bounds) = bounds.metadata + 2047

abbrev pub table_style : Table → Style
table_style Table.Mbr = Style.Mbr
table_style (Table.Gpt bounds) = Style.Gpt

-- of a private header on a disk of so many sectors
unfoldable pub header_faults : List ℕ → Table → ℕ → List (LabelFault × Bool)
header_faults head table sectors =
    (NoPrivhead, not (is_privhead head))
    ∷ (Version, not (has_version head))
    ∷ (DatabaseSize, not (config_size head == 2048))
    ∷ (Range, is_out_of_range (header_of head) table sectors)
    ∷ (Guid, is_none (disk_guid head))
    ∷ []

-- A copy of the private header that has one of those five faults itself is ignored. Another one has to have the same values.
unfoldable pub differs : PrivateHeader → List ℕ → Table → ℕ → Bool
differs header copy table sectors = is_ok (answer (header_faults copy table sectors) (header_of copy)) && not (same_header header (header_of copy))

-- Of copies 2 and 3 of the private header, on a disk whose copy 1 has those values. On a GPT disk copy 3 is copy 1.
unfoldable pub copy_faults : PrivateHeader → Table → List ℕ → List (LabelFault × Bool)
copy_faults header table image =
    (PrivheadsDiffer 2, differs header (sector image (header.config_start + 1856)) table (sectors_of image))
    ∷ (PrivheadsDiffer 3, differs header (sector image (header.config_start + 2047)) table (sectors_of image))
    ∷ []

-- the values of those of the four tables of contents that parse, in the database that begins at a sector
unfoldable pub tocs_in : ℕ → List ℕ → List Toc
tocs_in start image = filter_map (λ a. toc_of (sector image (start + a))) (1 ∷ 2 ∷ 2045 ∷ 2046 ∷ [])

unfoldable pub some_differ : List Toc → Bool
some_differ tocs = list_any (λ a. list_any (λ b. not (same_toc a b)) tocs) tocs

-- the values of the first, and zeros where there is none
abbrev pub first_toc : List Toc → Toc
first_toc tocs = unwrap_or (slice_get tocs 0) (record { area_start = 0; area_sectors = 0; log_start = 0; log_sectors = 0 })

-- of the tables of contents that parse
unfoldable pub toc_faults : List Toc → List (LabelFault × Bool)
toc_faults tocs =
    (NoToc, length tocs == 0)
    ∷ (TocsDiffer, some_differ tocs)
    ∷ (TocRange, is_out_of_database (first_toc tocs))
    ∷ []

-- ---- an image

abbrev pub label_from : Style → PrivateHeader → Toc → Label
label_from style header toc = record {
  style = style;
  disk_guid = header.disk_guid;
  minor = header.minor;
  data_start = header.data_start;
  data_size = header.data_size;
  config_start = header.config_start;
  area_start = toc.area_start;
  area_sectors = toc.area_sectors;
  log_start = toc.log_start;
  log_sectors = toc.log_sectors;
}

-- the values of copy 1 of the private header
abbrev pub header_in : List ℕ → PrivateHeader
header_in image = header_of (sector image (header_at (disk_table image)))

-- All faults in their order. The database begins where copy 1 of the private header says.
abbrev pub label_faults : List ℕ → List (LabelFault × Bool)
label_faults image =
    (Short, nat_lt (sectors_of image) 7)
    ∷ table_faults image
    ++ header_faults (sector image (header_at (disk_table image))) (disk_table image) (sectors_of image)
    ++ copy_faults (header_in image) (disk_table image) image
    ++ toc_faults (tocs_in (header_in image).config_start image)

unfoldable pub label_of : List ℕ → Result Label LabelFault
label_of image =
    answer (label_faults image) (label_from (table_style (disk_table image)) (header_in image) (first_toc (tocs_in (header_in image).config_start image)))

-- The data and the database are apart.
abbrev pub AreSeparate : ℕ → ℕ → ℕ → Type 0
AreSeparate data_start data_size config_start = (data_start + data_size ≤ config_start) ⊎ (config_start + 2048 ≤ data_start)

-- A label fits a disk of so many sectors. On an MBR disk the data are in front of the database.
pub record Fits (label : Label) (sectors : ℕ) : Type 0 where
  pub some_data : label.data_size ≢ 0
  pub before : label.style ≡ Style.Mbr → label.data_start + label.data_size ≤ label.config_start
  pub apart : AreSeparate label.data_start label.data_size label.config_start
  pub within : label.data_start + label.data_size ≤ sectors
  pub room : 7 ≤ label.config_start
  pub inside : label.config_start + 2048 ≤ sectors
  pub some_area : label.area_sectors ≢ 0
  pub area : label.area_start + label.area_sectors ≤ 2048
  pub log : label.log_start + label.log_sectors ≤ 2048

-- A place of an image, in bytes, isn't in the config area.
abbrev pub IsOutsideArea : Label → ℕ → Type 0
IsOutsideArea label k =
    let area = label.config_start + label.area_start in
    (k < 512 * area) ⊎ (512 * (area + label.area_sectors) ≤ k)

-- the image stays, but for any bytes in the config area
pub record SameOutsideArea (label : Label) (old new : List ℕ) : Type 0 where
  pub size : length new ≡ length old
  pub outside : (k : ℕ) → IsOutsideArea label k → slice_index new k ≡ slice_index old k
