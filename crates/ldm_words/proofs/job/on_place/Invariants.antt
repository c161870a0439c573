use Rattle.std.proofs.Common.{◌≡◌, ◌+◌, drop}
use Rattle.std.specs.List.{position_or_len}
use Rattle.ldm_words.specs.Jobs.{texts, is_on}
use Rattle.ldm_words.proofs.job.on_place.Given as goal

abbrev pub invariant-loop-place : goal.invariant-loop-place
invariant-loop-place l = position_or_len is_on (texts l.words) ≡ l.place + position_or_len is_on (texts (drop l.place l.words))
