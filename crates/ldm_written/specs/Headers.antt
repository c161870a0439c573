-- What is written for a header.
use Rattle.std.specs.Prelude.{◌≡◌, ℕ, List, ◌++◌, Some}
use Rattle.byteorder.specs.Endian.{big_bytes}
use Rattle.ldm_bytes.specs.Places.{put}
use Rattle.ldm_vmdb.specs.declared.header.Header.{Header}
use Rattle.ldm_written.specs.declared.header.Counts.{Counts}
use Rattle.ldm_vmdb.specs.Sectors.{last_of, group_guid, group_name, sequence_of, carried}

-- the four counts of a kind, one after the other
abbrev pub counts_bytes : Counts → List ℕ
counts_bytes counts = big_bytes 4 counts.volumes ++ (big_bytes 4 counts.components ++ (big_bytes 4 counts.partitions ++ big_bytes 4 counts.disks))

-- The header that is written: the carried bytes with the last VBLK sequence, the sequence as committed and as pending,
-- and the counts as committed and as pending.
unfoldable pub written : Header → ℕ → Counts → List ℕ
written header seq counts =
    put (put (put header.raw 0x04 (big_bytes 4 header.last)) 0x75 (big_bytes 8 seq ++ (big_bytes 8 seq ++ counts_bytes counts))) 0xA1 (counts_bytes counts)

-- the sector reads back as the header, with that sequence
pub record ReadsBack (header : Header) (seq : ℕ) (sector : List ℕ) : Type 0 where
  pub last_is : last_of sector ≡ header.last
  pub seq_is : sequence_of sector ≡ seq
  pub name_is : group_name sector ≡ header.name
  pub guid_is : group_guid sector ≡ Some header.guid
  pub raw_is : carried sector ≡ header.raw
