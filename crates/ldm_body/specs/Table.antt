-- A body, with the numbers of the blocks that hold each record.
use Rattle.std.specs.Prelude.{◌≡◌, ℕ, ◌+◌, ◌*◌, ◌/◌, ◌≤◌, List, None, length, slice_range, drop, map, All}
use Rattle.ldm_written.specs.Written.{Holds}
use Rattle.ldm_records.specs.Plain.{IsRecord}
use Rattle.ldm_records.specs.Views.{plain_of}
use Rattle.ldm_label.specs.declared.Label.{Label}
use Rattle.ldm_vmdb.specs.declared.header.Header.{Header}
use Rattle.ldm_vmdb.specs.Headers.{vmdb_fault, IsHeaderOf}
use Rattle.ldm_group.specs.Database.{Database, IsSameHeader, IsSameCore}
use Rattle.ldm_copy.specs.Copy.{header_sector, gate_at}
use Rattle.ldm_body.specs.Body.{placed_of, stored_at, Store, IsBodyOf}

-- the bytes are a body of some database, and the table has the slots of its records in their order
pub record IsTabled (bytes : List ℕ) (table : List (List ℕ)) : Type 0 where
  pub db : Database
  pub body : IsBodyOf db bytes
  pub small : db.header.last ≤ 8192
  pub one_each : length table ≡ length db.records
  pub sound : All (λ r. IsRecord (plain_of r)) db.records
  pub holds : Holds (drop 512 bytes) (map placed_of (stored_at db.records table))

-- a body of a database that is this one but for the carried bytes of its header
abbrev pub IsCoreBody : Database → List ℕ → Type 0
IsCoreBody db body = (other : Database) × IsSameCore other db × IsBodyOf other body

-- the bytes on a disk where a body of the database stands
abbrev pub body_bytes : Database → Label → List ℕ → List ℕ
body_bytes db label image = slice_range image (gate_at label) (gate_at label + 512 * (db.header.last / 4))

-- no header of the bytes reads as that of the database but for the carried bytes, or their blocks don't hold its records in their
-- own spellings
abbrev pub IsNoBody : Database → ℕ → List ℕ → Type 0
IsNoBody db area_sectors bytes =
    (h : Header) → vmdb_fault (header_sector bytes) area_sectors ≡ None → IsHeaderOf h (header_sector bytes) → IsSameHeader h db.header
    → Store (drop 512 bytes) db.records → ⊥
