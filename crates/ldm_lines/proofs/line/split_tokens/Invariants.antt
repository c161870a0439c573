use Rattle.std.proofs.Common.{◌≡◌, filter}
use Rattle.ldm_words.specs.Commands.{token_bytes}
use Rattle.ldm_lines.specs.Lines.{is_token}
use Rattle.ldm_lines.proofs.line.split_tokens.Given as goal

abbrev pub invariant-loop-part : goal.invariant-loop-part
invariant-loop-part l = token_bytes l.tokens.items ≡ filter is_token (token_bytes l.yielded)
