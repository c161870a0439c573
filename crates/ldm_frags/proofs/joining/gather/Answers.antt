use Rattle.std.proofs.Common.{◌++◌, ◌∙◌, List, ℕ, ap, sym, subst, ◌<◌}
use Rattle.ldm_frags.specs.Blocks.{count, is_part}
use Rattle.ldm_frags.specs.Joins.{gathered}
use Rattle.ldm_frags.specs.Kept.{blocks_of}
use Rattle.ldm_frags.proofs.Below.{least_passes}
use Rattle.ldm_frags.proofs.JoinLaws.{gathered_none, gathered_more, part_there}
use Rattle.ldm_frags.proofs.KeptLaws.{part_payload}
use Rattle.ldm_frags.proofs.joining.gather.Goals as goal

pub loop-part-init : goal.loop-part-init
loop-part-init c = c.new-out.ensures.items ∙ sym (gathered_none (blocks_of c.args.pieces.now) c.args.number)

pub piece_at-requires-clause-within : goal.piece_at-requires-clause-within
piece_at-requires-clause-within c =
    let blocks = blocks_of c.args.pieces.now in
    let there = part_there blocks c.args.number c.args.parts c.loop-part.part c.requires.complete c.loop-part-test.true in
    subst (λ (k : ℕ). k < count blocks) (sym c.place_of-k.ensures) (least_passes (count blocks) (is_part blocks c.args.number c.loop-part.part) there).0

pub loop-part-preserved : goal.loop-part-preserved
loop-part-preserved c =
    let blocks = blocks_of c.args.pieces.now in
    let there = part_there blocks c.args.number c.args.parts c.loop-part.part c.requires.complete c.loop-part-test.true in
    let added = c.as_slice.ensures ∙ part_payload blocks c.args.number c.loop-part.part c.place_of-k.result c.piece_at.result.now there c.place_of-k.ensures c.piece_at.ensures in
    c.in_ok-extend_from_slice.ensures.items
    ∙ ap (λ (x : List ℕ). x ++ c.as_slice.result.now) c.loop-part.invariant
    ∙ ap (λ (x : List ℕ). gathered blocks c.args.number c.loop-part.part ++ x) added
    ∙ sym (gathered_more blocks c.args.number c.loop-part.part)
