use Rattle.std.proofs.Common.{◌∙◌}
use Rattle.ldm_edits.proofs.AskedLaws.{bad_pieces}
use Rattle.ldm_edits.proofs.creating.is_bad_size.Goals as goal

pub returns-in-Span : goal.returns-in-Span
returns-in-Span c =
    rw c.in-Span.is (c.is_bad_length.ensures
    ∙ bad_pieces c.in-Span.pieces c.args.wanted.now (rw c.in-Span.is at c.requires.sizes))
