use Rattle.std.proofs.Common.{sym, ◌∙◌, arith}
use Rattle.ldm_dump.proofs.RunLaws.{none_before, none_there}
use Rattle.ldm_dump.proofs.losing.lost_chunk.Goals as goal

pub returns-then-from-at : goal.returns-then-from-at
returns-then-from-at c y low lt =
    let l = c.args.plan.now in
    none_before c.args.found.now l c.args.first c.columns.column y c.requires.chunked (c.columns-column-end.ensures.columned c.requires.chunked) c.columns.invariant low
    (omega (arith, lt, c.if-from-at.true, c.from.ensures, c.chunk_start-at.ensures))

pub returns-then-is_lost : goal.returns-then-is_lost
returns-then-is_lost c =
    let l = c.args.plan.now in (
      omega (arith, c.chunk_start-at.ensures),
      omega (arith, c.if-from-at.false, c.from.ensures),
      sym c.is_lost.ensures ∙ c.if-is_lost.true,
      λ y low lt. none_before c.args.found.now l c.args.first c.columns.column y c.requires.chunked (c.columns-column-end.ensures.columned c.requires.chunked) c.columns.invariant low
          (omega (arith, lt, c.chunk_start-at.ensures)),
    )

pub returns : goal.returns
returns c y low lt = none_there c.args.found.now c.args.plan.now c.args.first y c.requires.chunked (c.columns-column-end.ensures.columned c.requires.chunked)
    (λ d less. c.columns.invariant d (omega (arith, less, c.columns-column-end.ensures.count, c.columns-test.false))) low
