use Rattle.std.proofs.Common.{◌≡◌, ◌≤◌, ◌-◌, length, drop}
use Rattle.ldm_words.specs.Names.{spelled}
use Rattle.ldm_words.proofs.SpelledLaws.{onto}
use Rattle.ldm_words.proofs.name.spell.Given as goal

abbrev pub invariant-loop-at : goal.invariant-loop-at
invariant-loop-at l = record { inside : l.at ≤ length l.word; so_far : onto l.name.items (spelled (drop l.at l.word)) ≡ spelled l.word }

abbrev pub decreases-loop-at : goal.decreases-loop-at
decreases-loop-at l = length l.word - l.at
