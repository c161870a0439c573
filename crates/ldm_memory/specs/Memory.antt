-- A host in memory, as the clauses of a host see it.
use Rattle.std.specs.Prelude.{List}
use Rattle.ldm_host.specs.Seen.{Seen}
use Rattle.ldm_host.specs.declared.host.DiskRange.{DiskRange}
use Rattle.ldm_memory.specs.declared.memory.MemoryHost.{MemoryHost}
use Rattle.ldm_host.specs.Images.{items_of}
use Rattle.ldm_memory.specs.Story.{Story, Counts, seen_of}
use Rattle.ldm_memory.specs.Plan.{Plan}

-- the images and the input at its start, and its calls since
abbrev pub story_of : MemoryHost → Story
story_of m = record { first = items_of m.first.items; calls = m.calls.items; script = m.script.items }

-- its counts of failures and of bytes handed, and its account of reads that failed
abbrev pub host_counts : MemoryHost → Counts
host_counts m = record { disk_faults = m.disk_faults; talk_faults = m.talk_faults; dry = m.dry; wrote = m.handed.items; failed = m.failed.items }

-- which of its calls fail
abbrev pub plan_of : MemoryHost → Plan
plan_of m = record { number = m.number; chosen = m.chosen.items; stop = m.stop }

-- the ranges of which no byte reads
abbrev pub bad_ranges : MemoryHost → List DiskRange
bad_ranges m = m.bad.items

abbrev pub memory_seen : MemoryHost → Seen
memory_seen m = seen_of (story_of m) (host_counts m)
