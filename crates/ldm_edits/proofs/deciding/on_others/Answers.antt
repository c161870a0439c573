use Rattle.std.proofs.Common.{◌∙◌, map, sym, true, false, arith}
use Rattle.std.proofs.lemmas.Grind.{common_steps}
use Rattle.ldm_edits.proofs.CrossLaws.{others_at, others_none}
use Rattle.ldm_edits.proofs.deciding.on_others.Goals as goal

pub returns-then-meets_pieces : goal.returns-then-meets_pieces
returns-then-meets_pieces c =
    let cs = map (λ x. x.now) c.args.components.now in
    let meets = sym c.meets_pieces.ensures ∙ c.if-meets_pieces.true in
    sym (c.loop-r.invariant ∙ others_at _ _ c.r-item.result cs c.args.wanted.now true c.loop-r-test.true c.r-item.is meets)

pub loop-r-preserved : goal.loop-r-preserved
loop-r-preserved c =
    let cs = map (λ x. x.now) c.args.components.now in
    let meets = sym c.meets_pieces.ensures ∙ c.if-meets_pieces.false in
    c.loop-r.invariant ∙ others_at _ _ c.r-item.result cs c.args.wanted.now false c.loop-r-test.true c.r-item.is meets

pub returns : goal.returns
returns c = grind (arith, common_steps, others_none)
