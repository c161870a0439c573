-- The sectors of all partitions on one line, disk after disk, each with 2 ^ 64 places.
use Rattle.std.specs.Prelude.{◌+◌, ◌*◌, ◌^◌, ◌≤◌, List, Option, Some, None, AllPairs}
use Rattle.ldm_records.specs.declared.types.Record.{Record}
use Rattle.ldm_records.specs.declared.types.Record.TheVariants as kinds
use Rattle.ldm_records.specs.declared.types.Partition.{Partition}
use Rattle.ldm_rules.specs.declared.meetings.Span.{Span}

abbrev pub span : Partition → Span
span p = record { start = p.disk * 2 ^ 64 + p.start; end = p.disk * 2 ^ 64 + p.start + p.size }

abbrev pub span_of : Record → Option Span
span_of (kinds.Partition p) = Some (span p)
span_of _ = None

abbrev pub Apart : List Span → Type 0
Apart spans = AllPairs (λ a b. a.end ≤ b.start) spans
