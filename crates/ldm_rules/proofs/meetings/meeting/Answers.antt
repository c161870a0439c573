use Rattle.std.proofs.Common.{rules, subst, sym, IsPermutation, List, length, ◌≤◌}
use Rattle.std.specs.List.{filter_map, AllAdjacentBelow}
use Rattle.ldm_records.specs.declared.types.Record.{Record}
use Rattle.ldm_rules.specs.Spans.{span_of}
use Rattle.ldm_rules.specs.declared.meetings.Span.{Span}
use Rattle.ldm_rules.proofs.FirstLaws.{meets_none, apart_from}
use Rattle.ldm_rules.proofs.meetings.meeting.Goals as goal

pub returns-then-are_apart : goal.returns-then-are_apart
returns-then-are_apart c =
    let neighbors : AllAdjacentBelow (λ a b. a.end ≤ b.start) c.in_ok-spans.spans.items (length c.in_ok-spans.spans.items) =
    subst (λ (xs : List Span). AllAdjacentBelow (λ a b. a.end ≤ b.start) xs (length xs)) c.as_slice-then-all_end_in_range-2.ensures.value (c.if-are_apart.ensures.0 (search rules)) in
    let apart = apart_from c.in_ok-spans.spans.items c.in_ok-spans.ensures.rising neighbors in
    sym (meets_none c.args.db.now.records c.in_ok-spans.spans.items apart
    (subst (λ (records : List Record). IsPermutation (filter_map span_of records) c.in_ok-spans.spans.items) c.as_slice-then-all_end_in_range.ensures.all c.in_ok-spans.ensures.same))
