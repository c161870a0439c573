-- The disks of the sample groups.
use Rattle.std.specs.Prelude.{◌≡◌, ℕ, ◌+◌, ◌*◌, List, map, length, slice_index}
use Rattle.std.specs.List.{range_with_len}
use Rattle.ldm_label.specs.declared.Style.{Style}
use Rattle.ldm_label.specs.declared.Label.{Label}

-- the GUID whose every hexadecimal digit is this one
abbrev pub guid_with : ℕ → ℕ
guid_with digit = digit * 0x11111111111111111111111111111111

-- The label of the disk of this number, from 0: on a disk of 8192 sectors, 6081 sectors of data from sector 63 on, and the database
-- from sector 6144 on, with a config area of 1481 sectors and a log area of 224.
abbrev pub sample_label : ℕ → Label
sample_label disk = record {
  style = Style.Mbr;
  disk_guid = guid_with (disk + 1);
  minor = 11;
  data_start = 63;
  data_size = 6081;
  config_start = 6144;
  area_start = 17;
  area_sectors = 1481;
  log_start = 1498;
  log_sectors = 224;
}

-- the labels of so many disks
abbrev pub sample_labels : ℕ → List Label
sample_labels disks = map sample_label (range_with_len 0 disks)

-- the bytes are this number of zeros
pub record IsZeros (count : ℕ) (bytes : List ℕ) : Type 0 where
  pub size : length bytes ≡ count
  pub zeros : (k : ℕ) → slice_index bytes k ≡ 0
