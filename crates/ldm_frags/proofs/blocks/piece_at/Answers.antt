use Rattle.std.proofs.Common.{arith, subst, sym}
use Rattle.ldm_frags.specs.Kept.{blocks_of, IsPiece}
use Rattle.ldm_frags.proofs.KeptLaws.{count_of, piece_read}
use Rattle.ldm_frags.proofs.blocks.piece_at.Goals as goal

pub returns : goal.returns
returns c =
    subst (IsPiece (blocks_of c.args.pieces.now) c.args.k) (sym c.index-pieces-k.is)
    (piece_read c.args.pieces.now c.args.k c.index-pieces-k.result (omega (arith, count_of c.args.pieces.now)) c.requires.whole)
