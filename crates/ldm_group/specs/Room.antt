-- How many blocks (VBLKs) the records of a database take, and how many its header leaves them.
use Rattle.std.specs.Prelude.{◌≢◌, ℕ, ◌+◌, ◌-◌, ◌*◌, ◌/◌, ◌≤◌, nat_le, List, All, length, sum_by, if◌then◌else◌}
use Rattle.ldm_records.specs.declared.types.Record.{Record}
use Rattle.ldm_records.specs.Plain.{own_spelling}
use Rattle.ldm_records.specs.Views.{plain_of}
use Rattle.ldm_vmdb.specs.Parts.{parts_of}
use Rattle.ldm_group.specs.Database.{Database}

-- the length of the record's own spelling
unfoldable pub own_len : Record → ℕ
own_len r = length (own_spelling (plain_of r))

-- the own spelling fits the four blocks that a record may take
abbrev pub IsFitting : Record → Type 0
IsFitting r = own_len r ≤ 448

-- the blocks that the own spellings take together
abbrev pub need_of : List Record → ℕ
need_of records = sum_by (λ r. parts_of (own_len r)) records

-- The blocks in use have the numbers 4 to 4q - 1, where q is a fourth of the last VBLK sequence, rounded
-- down: they are 4q - 4, and none where q is 0.
abbrev pub room_of : ℕ → ℕ
room_of last = 4 * (last / 4) - 4

-- The last VBLK sequence of a group whose records need so many blocks, where it was this before: it stays where it leaves as many, else
-- it is 4q with the least q whose 4q - 4 blocks are enough.
abbrev pub last_for : ℕ → ℕ → ℕ
last_for last need = if nat_le need (room_of last) then last else 4 * ((need + 7) / 4)

-- It is no less than before, leaves so many blocks, fits an area of so many sectors, and where it isn't that before, every other that
-- is a multiple of four and leaves as many is no less.
pub record IsLastFor (area last need next : ℕ) : Type 0 where
  pub rises : last ≤ next
  pub holds : need ≤ room_of next
  pub fits : next ≤ 4 * area
  pub least : next ≢ last → (q : ℕ) → need ≤ room_of (4 * q) → next ≤ 4 * q

-- it is that in every area that has room for so many blocks and for what was there before
abbrev pub LastGrows : Type 0
LastGrows = (area last need : ℕ) → need ≤ room_of (4 * area) → last ≤ 4 * area → IsLastFor area last need (last_for last need)

-- the own spellings take so many blocks at most, and each of them four at most
pub record HasRoom (blocks : ℕ) (records : List Record) : Type 0 where
  pub need : need_of records ≤ blocks
  pub each : All IsFitting records

-- the records have room in the blocks that the header leaves them
abbrev pub FitsHeader : Database → Type 0
FitsHeader db = HasRoom (room_of db.header.last) db.records
