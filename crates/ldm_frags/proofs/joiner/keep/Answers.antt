use Rattle.std.proofs.Common.{◌≡◌, ℕ, List, length, sym, subst, arith}
use Rattle.ldm_frags.specs.declared.blocks.Piece.{Piece}
use Rattle.ldm_frags.specs.Kept.{IsKeptTable, IsNextPiece}
use Rattle.ldm_frags.proofs.KeptLaws.{Notes, next_part, kept_more}
use Rattle.ldm_frags.proofs.joiner.keep.Goals as goal

pub note-requires-clause-few : goal.note-requires-clause-few
note-requires-clause-few c =
    let next : IsNextPiece c.args.pieces.now.items c.in_ok-piece.piece c.args.block.now =
    record { len = omega arith; whole = c.in_ok-piece.ensures.whole; is = c.in_ok-piece.ensures.kept; clean = c.requires.sound } in
    next_part c.args.pieces.now.items c.in_ok-piece.piece c.args.block.now next

pub returns : goal.returns
returns c =
    let pieces = c.args.pieces.now.items in
    let piece = c.in_ok-piece.piece in
    let next : IsNextPiece c.args.pieces.now.items c.in_ok-piece.piece c.args.block.now =
    record { len = omega arith; whole = c.in_ok-piece.ensures.whole; is = c.in_ok-piece.ensures.kept; clean = c.requires.sound } in
    let many : c.len.result ≡ length c.args.pieces.now.items = omega arith in
    let noted = subst (λ (n : ℕ). Notes piece.head n c.args.groups.now c.note.new.groups) many c.in_ok-note.ensures in
    record {
      kept = subst (λ (items : List Piece). IsKeptTable items c.note.new.groups) (sym c.in_ok-push.ensures.items) (kept_more pieces piece c.args.block.now c.args.groups.now c.note.new.groups c.requires.kept next noted);
      added = (piece, c.in_ok-push.ensures.items, next);
      stays = tt;
    }
