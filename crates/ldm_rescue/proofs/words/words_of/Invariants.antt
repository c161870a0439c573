use Rattle.std.proofs.Common.{◌≡◌, ◌+◌, ◌∷◌, length, take, string_bytes}
use Rattle.ldm_words.specs.Jobs.{texts}
use Rattle.ldm_rescue.proofs.words.words_of.Given as goal

abbrev pub invariant-loop-word : goal.invariant-loop-word
invariant-loop-word l = record {
  is : texts l.words.items ≡ string_bytes l.job ∷ texts (take l.word-index l.behind);
  count : length l.words.items ≡ l.word-index + 1;
}
