use Rattle.std.proofs.Common.{◌≡◌, drop}
use Rattle.ldm_bytes.specs.Guid.{guid_of}
use Rattle.ldm_words.specs.Commands.{token_bytes, each}
use Rattle.ldm_words.proofs.CommandLaws.{behind}
use Rattle.ldm_words.proofs.new_group.read_guids.Given as goal

abbrev pub invariant-loop-token : goal.invariant-loop-token
invariant-loop-token l = behind l.guids.items (each guid_of (token_bytes (drop l.token-index l.tokens))) ≡ each guid_of (token_bytes l.tokens)
