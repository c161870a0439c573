use Rattle.std.proofs.Common.{◌≡◌, ◌++◌, drop}
use Rattle.ldm_words.specs.Jobs.{texts}
use Rattle.ldm_words.specs.Commands.{token_bytes}
use Rattle.ldm_words.proofs.job.tokens_of.Given as goal

abbrev pub invariant-loop-word : goal.invariant-loop-word
invariant-loop-word l = token_bytes l.tokens.items ++ texts (drop l.word-index l.words) ≡ texts l.words
