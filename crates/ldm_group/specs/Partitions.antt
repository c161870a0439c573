-- The sectors of the partitions on their disks.
use Rattle.std.specs.Prelude.{ℕ, ◌+◌, ◌^◌, ◌<◌, ◌==◌, ◌&&◌, max, min, nat_lt, Bool, List, sum_by, if◌then◌else◌}
use Rattle.ldm_records.specs.declared.types.Record.{Record}
use Rattle.ldm_records.specs.declared.types.Record.TheVariants as kinds
use Rattle.ldm_records.specs.declared.types.Partition.{Partition}

-- it ends at or below the greatest sector that a number of the format says
abbrev pub EndsInRange : Record → Type 0
EndsInRange (kinds.Partition p) = p.start + p.size < 2 ^ 64
EndsInRange _ = Unit {0}

-- both have a sector of one disk
abbrev pub meets : Partition → Partition → Bool
meets p q = (p.disk == q.disk) && nat_lt (max p.start q.start) (min (p.start + p.size) (q.start + q.size))

-- the sectors of a partition of the disk
abbrev pub size_on : ℕ → Record → ℕ
size_on disk (kinds.Partition p) = if p.disk == disk then p.size else 0
size_on disk _ = 0

-- the sectors of all partitions of the disk
abbrev pub used_on : List Record → ℕ → ℕ
used_on records disk = sum_by (size_on disk) records
