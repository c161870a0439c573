use Rattle.std.proofs.Common.{◌≡◌, ◌∙◌, true, refl, sym, ap, subst, arith}
use Rattle.ldm_frags.specs.declared.blocks.Head.{Head}
use Rattle.ldm_frags.specs.Blocks.{has_parts}
use Rattle.ldm_frags.specs.Joins.{gathered}
use Rattle.ldm_frags.specs.Kept.{blocks_of}
use Rattle.ldm_frags.proofs.JoinLaws.{has_all_of, frag_is, one_entry, entry_none, entry_later, entry_whole, entry_first}
use Rattle.ldm_frags.proofs.KeptLaws.{kept_few}
use Rattle.ldm_frags.proofs.joining.entry_of.Goals as goal
use Rattle.ldm_frags.proofs.joining.entry_of.Goals.{else-head-ge2-via-then-head-ge2+else-head-eq0, else-head-ge2-via-else-head-ge2}

pub gather-requires-clause-few : goal.gather-requires-clause-few
gather-requires-clause-few c = kept_few c.args.pieces.now c.args.groups.now c.args.k c.piece_at-piece.result.now.head c.requires.kept c.piece_at-piece.ensures.head c.requires.within

pub gather-requires-clause-complete : goal.gather-requires-clause-complete
gather-requires-clause-complete c =
    let blocks = blocks_of c.args.pieces.now in
    let head = c.piece_at-piece.result.now.head in
    let frag = frag_is blocks c.args.k head.parts (ap (λ (h : Head). h.parts) c.piece_at-piece.ensures.head) c.if-head-ge2.true in
    subst (λ (h : Head). has_parts blocks h.group h.parts ≡ true) (sym c.piece_at-piece.ensures.head) (has_all_of blocks c.args.k c.requires.complete frag)

pub returns-then-head-eq1 : goal.returns-then-head-eq1
returns-then-head-eq1 c =
    let blocks = blocks_of c.args.pieces.now in
    let same = ap (λ (h : Head). h.parts) c.piece_at-piece.ensures.head in
    one_entry _ _ _ _ refl (c.in_ok-payload.ensures ∙ c.piece_at-piece.ensures.payload (omega arith)) ∙ sym (entry_whole blocks c.args.k (omega arith))

pub returns-then-head-eq0 : goal.returns-then-head-eq0
returns-then-head-eq0 c =
    let blocks = blocks_of c.args.pieces.now in
    let same = ap (λ (h : Head). h.parts) c.piece_at-piece.ensures.head in
    let first = ap (λ (h : Head). h.part) c.piece_at-piece.ensures.head in
    one_entry _ _ _ _ refl (c.in_ok-payload-2.ensures ∙ ap (λ (h : Head). gathered blocks h.group h.parts) c.piece_at-piece.ensures.head)
    ∙ sym (entry_first blocks c.args.k (omega arith) (omega arith))

pub returns : goal.returns
returns c =
    let blocks = blocks_of c.args.pieces.now in
    let same = ap (λ (h : Head). h.parts) c.piece_at-piece.ensures.head in
    let first = ap (λ (h : Head). h.part) c.piece_at-piece.ensures.head in
    sym (elim c.else-head-ge2.branch [
      | else-head-ge2-via-then-head-ge2+else-head-eq0 w ↦ entry_later blocks c.args.k (omega arith) (omega arith)
      | else-head-ge2-via-else-head-ge2 w ↦ entry_none blocks c.args.k (omega arith)
    ])
