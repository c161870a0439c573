use Rattle.std.proofs.Common.{sym, ◌∙◌}
use Rattle.ldm_edits.proofs.AskedLaws.{wanted_found, layout_some}
use Rattle.ldm_edits.proofs.creating.open_wanted.Goals as goal

pub is_bad_size-requires-clause-sizes : goal.is_bad_size-requires-clause-sizes
is_bad_size-requires-clause-sizes c =
    rw c.as_slice-2.ensures.value (wanted_found c.args.db.now c.args.labels.now _ _ c.in_ok-wanted.ensures.is).sizes

pub returns-clause-can : goal.returns-clause-can
returns-clause-can c k d lt = (
  layout_some c.args.db.now c.args.labels.now c.args.layout.now _ c.requires (sym c.is_bad_size.ensures ∙ c.if-is_bad_size.false) c.in_ok-wanted.ensures.is k d lt,
  c.in_ok-wanted.ensures.low k d lt,
)
