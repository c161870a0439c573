-- What the steps of reading a copy answer.
use Rattle.std.specs.Prelude.{◌≡◌, ◌*◌, ◌^◌, ◌<◌, ℕ, List, length, slice_index, Option, Some, None, Result, Ok, Err}
use Rattle.std.specs.Global.{Vec}
use Rattle.ldm_vmdb.specs.declared.header.Header.{Header}
use Rattle.ldm_vmdb.specs.Headers.{vmdb_fault, IsHeaderOf}
use Rattle.ldm_frags.specs.declared.faults.Joined.{Joined}
use Rattle.ldm_frags.specs.Faults.{first_block_fault}
use Rattle.ldm_frags.specs.Joins.{Joins}
use Rattle.ldm_records.specs.declared.types.Record.{Record}
use Rattle.ldm_records.specs.Plain.{Spells}
use Rattle.ldm_records.specs.Views.{plain_of}
use Rattle.ldm_group.specs.Order.{IsLeastTwice}
use Rattle.ldm_group.specs.Database.{Database, IsDatabaseOf}
use Rattle.ldm_copy.specs.declared.answer.CopyFault.TheVariants.{Vmdb, Frag, BadRecord, SameId}
use Rattle.ldm_copy.specs.declared.answer.CopyError.{CopyError}
use Rattle.ldm_copy.specs.declared.answer.CopyError.TheVariants.{Fault, Disk, NoMemory}
use Rattle.ldm_copy.specs.Alike.{sectors_from}
use Rattle.ldm_copy.specs.Records.{SpellRecords, HasFault, IsFirstFault, HoldRecords, HoldBadRecord}

-- the header of an open copy, or nothing of a closed one
abbrev pub OpensHeader : List ℕ → ℕ → Result (Option Header) CopyError → Type 0
OpensHeader first sectors (Ok None) = slice_index first 0 ≡ 0x56 → ⊥
OpensHeader first sectors (Ok (Some header)) = (slice_index first 0 ≡ 0x56) × (vmdb_fault first sectors ≡ None) × IsHeaderOf header first
OpensHeader first sectors (Err (Fault (Vmdb fault))) = (slice_index first 0 ≡ 0x56) × (vmdb_fault first sectors ≡ Some fault)
OpensHeader first sectors (Err NoMemory) = Unit {0}
OpensHeader first sectors (Err _) = ⊥

-- what a step answers in which a call of the disk may fail, or memory run out
abbrev pub OrDisk : {T : Type 0} → (Result T CopyError → Type 0) → Result T CopyError → Type 0
OrDisk P (Ok value) = P (Ok value)
OrDisk P (Err (Fault fault)) = P (Err (Fault fault))
OrDisk P (Err Disk) = Unit {0}
OrDisk P (Err NoMemory) = Unit {0}

-- the header of the copy that begins with this sector of a disk, or nothing of a closed one
abbrev pub ReadsFirstSector : List ℕ → ℕ → Result (Option Header) CopyError → Type 0
ReadsFirstSector first sectors = OrDisk (OpensHeader first sectors)

-- the records that blocks hold, joined, or the first fault of a block
abbrev pub JoinsBlocks : List ℕ → Result (Vec Joined) CopyError → Type 0
JoinsBlocks blocks (Ok list) = Joins blocks list.items
JoinsBlocks blocks (Err (Fault (Frag fault))) = first_block_fault blocks ≡ Some fault
JoinsBlocks blocks (Err Disk) = Unit {0}
JoinsBlocks blocks (Err NoMemory) = Unit {0}
JoinsBlocks blocks (Err _) = ⊥

-- Bytes that pass. Where the image is told, they are so many sectors of it, from this one on.
pub record IsRead (told : Type 0) (image : List ℕ) (from sectors : ℕ) (Passes : List ℕ → Type 0) : Type 0 where
  pub bytes : List ℕ
  pub size : length bytes ≡ 512 * sectors
  pub there : told → bytes ≡ sectors_from from sectors image
  pub passes : Passes bytes

-- the record that a payload spells, or its fault
abbrev pub ReadsRecord : Joined → Result Record CopyError → Type 0
ReadsRecord joined (Ok r) = Spells (plain_of r) joined.payload
ReadsRecord joined (Err (Fault (BadRecord block fault))) = HasFault joined.payload fault × (joined.block ≡ block)
ReadsRecord joined (Err NoMemory) = Unit {0}
ReadsRecord joined (Err _) = ⊥

-- the records of a list, or the first fault
abbrev pub ReadsRecords : List Joined → Result (Vec Record) CopyError → Type 0
ReadsRecords list (Ok records) = SpellRecords list records.items
ReadsRecords list (Err (Fault (BadRecord block fault))) = IsFirstFault list block fault
ReadsRecords list (Err NoMemory) = Unit {0}
ReadsRecords list (Err _) = ⊥

-- the database of a header and blocks, or the first fault
abbrev pub MakesDatabase : Header → List ℕ → Result Database CopyError → Type 0
MakesDatabase header blocks (Ok db) = (records : List Record) × HoldRecords blocks records × IsDatabaseOf db header records
MakesDatabase header blocks (Err (Fault (Frag fault))) = first_block_fault blocks ≡ Some fault
MakesDatabase header blocks (Err (Fault (BadRecord block fault))) = HoldBadRecord blocks block fault
MakesDatabase header blocks (Err (Fault (SameId kind id))) = (id < 2 ^ 64) × ((records : List Record) × HoldRecords blocks records × IsLeastTwice records kind id)
MakesDatabase header blocks (Err NoMemory) = Unit {0}
MakesDatabase header blocks (Err _) = ⊥

-- the database of a header and blocks of a disk, or the first fault
abbrev pub ReadsDatabase : Header → List ℕ → Result Database CopyError → Type 0
ReadsDatabase header blocks = OrDisk (MakesDatabase header blocks)
