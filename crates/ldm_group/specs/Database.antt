-- The database of a group, and what makes two databases the same group.
use Rattle.std.specs.Prelude.{◌≡◌, ℕ, List, IsPermutation, Result, Ok, Err}
use Rattle.ldm_records.specs.declared.types.Record.{Record}
use Rattle.ldm_vmdb.specs.declared.header.Header.{Header}
use Rattle.ldm_vmdb.specs.Headers.{with_seq}
use Rattle.ldm_group.specs.Order.{Rising, IsLeastTwice}
use Rattle.ldm_group.specs.declared.error.DbError.{DbError}
use Rattle.ldm_group.specs.declared.error.DbError.TheVariants.{SameId, NoMemory}

-- the header, and the records in rising order of kind and id
pub record Database : Type 0 where
  pub header : Header
  pub records : List Record

-- the database with this sequence
abbrev pub at_seq : ℕ → Database → Database
at_seq seq db = record db { header = with_seq db.header seq }

-- both headers are the same but for the carried bytes
pub record IsSameHeader (a b : Header) : Type 0 where
  pub last : a.last ≡ b.last
  pub seq : a.seq ≡ b.seq
  pub name : a.name ≡ b.name
  pub guid : a.guid ≡ b.guid

-- all of a database but the carried bytes of its header
pub record Core : Type 0 where
  pub last : ℕ
  pub seq : ℕ
  pub name : List ℕ
  pub guid : ℕ
  pub records : List Record

abbrev pub core_of : Database → Core
core_of db = record {
  last = db.header.last;
  seq = db.header.seq;
  name = db.header.name;
  guid = db.header.guid;
  records = db.records;
}

-- both are the same group
abbrev pub IsSameCore : Database → Database → Type 0
IsSameCore a b = core_of a ≡ core_of b

-- the database has this header, and these records in their order
pub record IsDatabaseOf (db : Database) (header : Header) (records : List Record) : Type 0 where
  pub header_is : db.header ≡ header
  pub same : IsPermutation records db.records
  pub rising : Rising db.records

-- the database of a header and records, or the least kind and id that two records have, or want of memory
abbrev pub MakesDb : Result Database DbError → Header → List Record → Type 0
MakesDb (Ok db) header records = IsDatabaseOf db header records
MakesDb (Err (SameId kind id)) header records = IsLeastTwice records kind id
MakesDb (Err NoMemory) header records = Unit {0}
