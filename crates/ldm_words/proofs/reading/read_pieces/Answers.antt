use Rattle.std.proofs.Common.{◌<◌, ◌∙◌, List, length, Some, sym, ap, arith, rules}
use Rattle.ldm_words.specs.declared.command.Piece.{Piece}
use Rattle.ldm_words.specs.Commands.{piece_of}
use Rattle.ldm_words.proofs.CommandLaws.{next_read, not_read, all_read, many_read}
use Rattle.ldm_words.proofs.reading.read_pieces.Goals as goal

pub loop-token-preserved : goal.loop-token-preserved
loop-token-preserved c =
    rw c.in_ok-push.ensures.items (next_read piece_of c.args.tokens.now c.loop-token.token-index c.loop-token.pieces.items _ c.in-Some.piece c.loop-token-test.true (sym c.in-Some.is ∙ c.in_ok-piece.ensures) ∙ c.loop-token.invariant)

pub returns : goal.returns
returns c =
    let tokens = c.args.tokens.now in
    let some : 0 < length tokens = search rules in
    ap (λ (l : List Piece). Some l) c.from_vec.ensures
    ∙ sym (all_read piece_of tokens c.loop-token.token-index c.loop-token.pieces.items c.loop-token-test.false)
    ∙ c.loop-token.invariant
    ∙ sym (many_read 1 piece_of tokens (omega (arith, some)) (omega arith))

pub returns-in_default : goal.returns-in_default
returns-in_default c =
    let tokens = c.args.tokens.now in
    not_read piece_of tokens c.loop-token.token-index c.loop-token.pieces.items _ c.loop-token-test.true (sym c.in_default.is ∙ c.in_ok-piece.ensures)
    ∙ c.loop-token.invariant
    ∙ sym (many_read 1 piece_of tokens (omega arith) (omega arith))
