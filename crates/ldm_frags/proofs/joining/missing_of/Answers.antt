use Rattle.std.proofs.Common.{◌≡◌, ◌∙◌, true, false, sym, ap, arith}
use Rattle.ldm_frags.specs.declared.blocks.Head.{Head}
use Rattle.ldm_frags.specs.Kept.{blocks_of}
use Rattle.ldm_frags.proofs.KeptLaws.{kept_few, kept_all, missing_none, missing_is}
use Rattle.ldm_frags.proofs.joining.missing_of.Goals as goal
use Rattle.ldm_frags.proofs.joining.missing_of.Goals.{else-head-ge2-via-then-head-ge2+else-not-has_all, else-head-ge2-via-else-head-ge2}

pub has_all-requires : goal.has_all-requires
has_all-requires c = kept_few c.args.pieces.now c.args.groups.now c.args.k c.piece_at.result.now.head c.requires.kept c.piece_at.ensures.head c.requires.within

pub returns-then-not-has_all : goal.returns-then-not-has_all
returns-then-not-has_all c =
    let pieces = c.args.pieces.now in
    let head = c.piece_at.result.now.head in
    let same = ap (λ (h : Head). h.parts) c.piece_at.ensures.head in
    let few = kept_few pieces c.args.groups.now c.args.k head c.requires.kept c.piece_at.ensures.head c.requires.within in
    let all = kept_all pieces c.args.groups.now c.args.k head c.requires.kept c.piece_at.ensures.head few in
    let none : c.has_all.result ≡ false = cc in
    sym (missing_is (blocks_of pieces) c.args.k false (omega arith) (all ∙ sym c.has_all.ensures ∙ none))

pub returns : goal.returns
returns c =
    let pieces = c.args.pieces.now in
    let head = c.piece_at.result.now.head in
    let same = ap (λ (h : Head). h.parts) c.piece_at.ensures.head in
    let few = kept_few pieces c.args.groups.now c.args.k head c.requires.kept c.piece_at.ensures.head c.requires.within in
    let all = kept_all pieces c.args.groups.now c.args.k head c.requires.kept c.piece_at.ensures.head few in
    sym (elim c.else-head-ge2.branch [
      | else-head-ge2-via-then-head-ge2+else-not-has_all w ↦
          let every : w.has_all.result ≡ true = cc in
          missing_is (blocks_of pieces) c.args.k true (omega arith) (all ∙ sym w.has_all.ensures ∙ every)
      | else-head-ge2-via-else-head-ge2 w ↦ missing_none (blocks_of pieces) c.args.k (omega arith)
    ])
