use Rattle.std.proofs.Common.{ℕ, List, ◌-◌, length, slice_range, ◌∙◌, ap}
use Rattle.ldm_bytes.specs.Places.{put}
use Rattle.ldm_view.proofs.LayLaws.{lay_over, lay_beside}
use Rattle.ldm_view.proofs.patch.lay.Goals as goal

pub returns-then-first-end : goal.returns-then-first-end
returns-then-first-end c image inside fits is =
    let first = c.max-first.result in
    let end = c.min-end.result in
    c.put_bytes.ensures
    ∙ ap (λ (l : List ℕ). put l (first - c.args.from) (slice_range c.args.bytes.now (first - c.args.at) (end - c.args.at))) is
    ∙ lay_over image c.args.bytes.now c.args.from (length c.args.piece.now) c.args.at first end inside fits c.max-first.ensures c.min-end.ensures c.if-first-end.true

pub returns-else-first-end : goal.returns-else-first-end
returns-else-first-end c image inside fits is =
    is ∙ lay_beside image c.args.bytes.now c.args.from (length c.args.piece.now) c.args.at c.max-first.result c.min-end.result inside fits c.max-first.ensures c.min-end.ensures c.if-first-end.false
