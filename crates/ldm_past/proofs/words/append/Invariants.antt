use Rattle.std.proofs.Common.{◌≡◌, ◌+◌, ◌++◌, drop, length}
use Rattle.ldm_words.specs.Jobs.{texts}
use Rattle.ldm_past.proofs.words.append.Given as goal

abbrev pub invariant-loop-word : goal.invariant-loop-word
invariant-loop-word l = (texts l.words.items ++ texts (drop l.word-index l.more) ≡ texts l.fn.words.items ++ texts l.more) × (length l.words.items ≡ length l.fn.words.items + l.word-index)
