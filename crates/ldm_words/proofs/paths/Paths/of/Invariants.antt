use Rattle.std.proofs.Common.{◌≡◌, ◌++◌, drop}
use Rattle.ldm_words.specs.Jobs.{texts}
use Rattle.ldm_words.proofs.paths.Paths.of.Given as goal

abbrev pub invariant-loop-word : goal.invariant-loop-word
invariant-loop-word l = texts l.copied.items ++ texts (drop l.word-index l.words) ≡ texts l.words
