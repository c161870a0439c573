use Rattle.std.proofs.Common.{◌≡◌, drop}
use Rattle.ldm_words.specs.Commands.{piece_of, token_bytes, each}
use Rattle.ldm_words.proofs.CommandLaws.{behind}
use Rattle.ldm_words.proofs.reading.read_pieces.Given as goal

abbrev pub invariant-loop-token : goal.invariant-loop-token
invariant-loop-token l = behind l.pieces.items (each piece_of (token_bytes (drop l.token-index l.tokens))) ≡ each piece_of (token_bytes l.tokens)
