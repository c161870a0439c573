-- The copy of a database as it is written: a header sector, whose first byte is the gate, and written blocks up to the last in
-- use. Any places will do for the records, so what was read as a copy without a fault, each record in its own spelling, is a
-- body too.
use Rattle.std.specs.Prelude.{◌≡◌, ◌⊎◌, ℕ, ◌+◌, ◌*◌, ◌/◌, ◌<◌, ◌≤◌, ◌==◌, List, [], ◌∷◌, map, length, drop, slice_index, count_by, None}
use Rattle.std.specs.List.{All}
use Rattle.std.specs.List.Sorted.{IsPermutation}
use Rattle.ldm_vmdb.specs.Headers.{vmdb_fault, IsHeaderOf}
use Rattle.ldm_written.specs.Headers.{written}
use Rattle.ldm_written.specs.declared.header.Counts.{Counts}
use Rattle.ldm_written.specs.Written.{Placed, Holds, laid_in_order}
use Rattle.ldm_records.specs.declared.types.Record.{Record}
use Rattle.ldm_records.specs.Plain.{own_spelling, IsRecord}
use Rattle.ldm_records.specs.Views.{plain_of}
use Rattle.ldm_label.specs.declared.Label.{Label}
use Rattle.ldm_group.specs.Order.{kind_of, Rising}
use Rattle.ldm_group.specs.Database.{Database}
use Rattle.ldm_copy.specs.Copy.{header_sector, config_area, gate_at, IsShut, IsWritten}

-- a record, and the numbers of the blocks that hold its own spelling, by part
pub record Stored : Type 0 where
  pub record_is : Record
  pub slots : List ℕ

abbrev pub placed_of : Stored → Placed
placed_of s = record { payload = own_spelling (plain_of s.record_is); slots = s.slots }

-- records with the numbers of their blocks, which a table has in the same order
abbrev pub stored_at : List Record → List (List ℕ) → List Stored
stored_at [] slots = []
stored_at (r ∷ records) [] = []
stored_at (r ∷ records) (s ∷ slots) = record { record_is = r; slots = s } ∷ stored_at records slots

-- Each record stands once in written blocks, wherever these are, in its own spelling; all other blocks are unused.
pub record Store (blocks : List ℕ) (records : List Record) : Type 0 where
  pub stored : List Stored
  pub once : IsPermutation (map (λ s. s.record_is) stored) records
  pub sound : All (λ s. IsRecord (plain_of s.record_is)) stored
  pub holds : Holds blocks (map placed_of stored)

-- a header sector that reads as that of the database, and then written blocks up to the last in use
pub record IsBody (db : Database) (body : List ℕ) : Type 0 where
  pub size : length body ≡ 512 * (db.header.last / 4)
  pub gate : slice_index body 0 ≡ 0x56
  pub faultless : (sectors : ℕ) → db.header.last ≤ 4 * sectors → vmdb_fault (header_sector body) sectors ≡ None
  pub header_is : IsHeaderOf db.header (header_sector body)
  pub blocks : Store (drop 512 body) db.records

-- a body of the database, whose blocks in use begin with number 4
pub record IsBodyOf (db : Database) (body : List ℕ) : Type 0 where
  pub is : IsBody db body
  pub rising : Rising db.records
  pub low : 4 ≤ db.header.last

-- a body of some database
abbrev pub IsSomeBody : List ℕ → Type 0
IsSomeBody body = (db : Database) × IsBodyOf db body

-- ---- the body that is made of a database: its header with the counts of its records, and these in their order

-- how many records are of a kind
abbrev pub count_of : ℕ → List Record → ℕ
count_of kind records = count_by (λ r. kind_of r == kind) records

abbrev pub counts_of : List Record → Counts
counts_of records = record {
  volumes = count_of 3 records;
  components = count_of 4 records;
  partitions = count_of 5 records;
  disks = count_of 2 records;
}

-- the own spellings of the records
abbrev pub spellings : List Record → List (List ℕ)
spellings records = map (λ r. own_spelling (plain_of r)) records

-- the header sector with the database's own sequence, and the records one after the other from block 4 on
pub record IsMadeOf (db : Database) (body : List ℕ) : Type 0 where
  pub header_is : header_sector body ≡ written db.header db.header.seq (counts_of db.records)
  pub blocks_are : Holds (drop 512 body) (laid_in_order 4 (spellings db.records))

-- ---- on a disk

-- a body of the database, which the area that the label says has room for
pub record IsBodyOn (db : Database) (label : Label) (body : List ℕ) : Type 0 where
  pub is : IsBody db body
  pub rising : Rising db.records
  pub low : 4 ≤ db.header.last
  pub high : db.header.last ≤ 8192
  pub fits : db.header.last ≤ 4 * label.area_sectors

-- the bytes of the body but the first stand behind the gate
abbrev pub HasBody : Label → List ℕ → List ℕ → Type 0
HasBody label body image = (k : ℕ) → 0 < k → k < length body → slice_index image (gate_at label + k) ≡ slice_index body k

-- the area is that of the old image, or its copy is closed or that of the database
abbrev pub IsBetween : Label → Database → List ℕ → List ℕ → Type 0
IsBetween label db old new = (config_area label new ≡ config_area label old) ⊎ IsShut label new ⊎ IsWritten label db new
