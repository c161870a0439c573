use Rattle.std.proofs.Common.{◌≡◌, take}
use Rattle.std.specs.List.{filter_map}
use Rattle.ldm_rules.specs.Spans.{span_of}
use Rattle.ldm_rules.proofs.meetings.spans_of.Given as goal

abbrev pub invariant-loop-r : goal.invariant-loop-r
invariant-loop-r l = l.spans.items ≡ filter_map span_of (take l.r-index l.records)
