-- The copy of a database in the config area of a disk, by plain offsets in the area: the header sector
-- at 0, whose first byte is the gate, and the blocks in use from 512 on. Where q is one fourth of the last
-- VBLK sequence, rounded down, these end at 512 q.
use Rattle.std.specs.Prelude.{◌≡◌, ℕ, ◌+◌, ◌*◌, ◌/◌, ◌^◌, ◌<◌, List, slice_index, slice_range, Some, None, Result, Ok, Err}
use Rattle.ldm_label.specs.declared.Label.{Label}
use Rattle.ldm_vmdb.specs.Sectors.{last_of}
use Rattle.ldm_vmdb.specs.Headers.{vmdb_fault, IsHeaderOf}
use Rattle.ldm_frags.specs.Faults.{first_block_fault}
use Rattle.ldm_records.specs.declared.types.Record.{Record}
use Rattle.ldm_group.specs.Order.{IsLeastTwice}
use Rattle.ldm_group.specs.Database.{Database, IsDatabaseOf}
use Rattle.ldm_copy.specs.declared.answer.CopyState.{CopyState}
use Rattle.ldm_copy.specs.declared.answer.CopyState.TheVariants.{Closed, Valid}
use Rattle.ldm_copy.specs.declared.answer.CopyFault.{CopyFault}
use Rattle.ldm_copy.specs.declared.answer.CopyFault.TheVariants.{Vmdb, Frag, BadRecord, SameId}
use Rattle.ldm_copy.specs.Records.{HoldRecords, HoldBadRecord}

-- the place on its disk of the first byte of the config area, which is the gate
abbrev pub gate_at : Label → ℕ
gate_at label = 512 * (label.config_start + label.area_start)

-- the bytes of the config area that a label says
abbrev pub config_area : Label → List ℕ → List ℕ
config_area label image =
    let start = label.config_start + label.area_start in
    slice_range image (512 * start) (512 * (start + label.area_sectors))

abbrev pub header_sector : List ℕ → List ℕ
header_sector area = slice_range area 0 512

-- the blocks in use, from number 4 on
abbrev pub blocks_in_use : List ℕ → List ℕ
blocks_in_use area = slice_range area 512 (512 * (last_of (header_sector area) / 4))

-- the first byte is the letter V
abbrev pub IsOpen : List ℕ → Type 0
IsOpen area = slice_index area 0 ≡ 0x56

-- the copy is open, and its header has no fault
pub record HasHeader (area : List ℕ) (sectors : ℕ) : Type 0 where
  pub open_is : IsOpen area
  pub faultless : vmdb_fault (header_sector area) sectors ≡ None

-- What the copy in an area of so many sectors is, or its first fault: the header's, then the blocks', then the
-- first record that doesn't read, then the least kind and id that two records have. Ids have 64 bits.
abbrev pub IsCopyOf : List ℕ → ℕ → Result CopyState CopyFault → Type 0
IsCopyOf area sectors (Ok Closed) = IsOpen area → ⊥
IsCopyOf area sectors (Err (Vmdb fault)) =
    IsOpen area × (vmdb_fault (header_sector area) sectors ≡ Some fault)
IsCopyOf area sectors (Err (Frag fault)) =
    HasHeader area sectors × (first_block_fault (blocks_in_use area) ≡ Some fault)
IsCopyOf area sectors (Err (BadRecord block fault)) =
    HasHeader area sectors × HoldBadRecord (blocks_in_use area) block fault
IsCopyOf area sectors (Err (SameId kind id)) =
    HasHeader area sectors × (id < 2 ^ 64)
    × ((records : List Record) × HoldRecords (blocks_in_use area) records × IsLeastTwice records kind id)
IsCopyOf area sectors (Ok (Valid db)) =
    HasHeader area sectors × IsHeaderOf db.header (header_sector area)
    × ((records : List Record) × HoldRecords (blocks_in_use area) records × IsDatabaseOf db db.header records)

-- ---- on a disk

-- the copy is closed
abbrev pub IsShut : Label → List ℕ → Type 0
IsShut label image = IsCopyOf (config_area label image) label.area_sectors (Ok Closed)

-- the copy is that of the database
abbrev pub IsWritten : Label → Database → List ℕ → Type 0
IsWritten label db image = IsCopyOf (config_area label image) label.area_sectors (Ok (Valid db))
