-- The calls of a host that may fail.
use Rattle.std.specs.Prelude.{ℕ, List}
use Rattle.ldm_host.specs.declared.host.DiskRange.{DiskRange}

-- a call, with what it was given
pub data Act : Type 0 where
  -- what was to be read
  Read : DiskRange → Act
  -- the disk, the place and the bytes
  Write : ℕ → ℕ → List ℕ → Act
  Sync : ℕ → Act
  Hear : Act
  Say : List ℕ → Act
