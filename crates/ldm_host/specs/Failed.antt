-- The reads of a host that failed.
use Rattle.std.specs.Prelude.{ℕ, ◌==◌, Bool, List, length, drop}
use Rattle.std.specs.List.{list_any}
use Rattle.ldm_host.specs.Seen.{Seen}
use Rattle.ldm_host.specs.declared.host.DiskRange.{DiskRange}

-- the reads that failed between two states of a host
abbrev pub failed_since : Seen → Seen → List DiskRange
failed_since old new = drop (length old.failed) new.failed

-- one of these reads was of the disk
abbrev pub fails_on : ℕ → List DiskRange → Bool
fails_on disk failed = list_any (λ read. read.disk == disk) failed
