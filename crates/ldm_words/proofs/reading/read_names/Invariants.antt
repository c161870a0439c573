use Rattle.std.proofs.Common.{◌≡◌, drop}
use Rattle.ldm_words.specs.Names.{name_of}
use Rattle.ldm_words.specs.Commands.{token_bytes, each}
use Rattle.ldm_words.proofs.CommandLaws.{behind}
use Rattle.ldm_words.proofs.reading.read_names.Given as goal

abbrev pub invariant-loop-token : goal.invariant-loop-token
invariant-loop-token l = behind l.names.items (each name_of (token_bytes (drop l.token-index l.tokens))) ≡ each name_of (token_bytes l.tokens)
