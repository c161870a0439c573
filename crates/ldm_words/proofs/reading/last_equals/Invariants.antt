use Rattle.std.proofs.Common.{◌≢◌, ℕ, ◌<◌, ◌≤◌, length, get_or}
use Rattle.ldm_words.proofs.reading.last_equals.Given as goal

abbrev pub invariant-loop-at : goal.invariant-loop-at
invariant-loop-at l = record { inside : l.at ≤ length l.token; none : (k : ℕ) → l.at ≤ k → k < length l.token → get_or l.token k 0 ≢ 61 }

abbrev pub decreases-loop-at : goal.decreases-loop-at
decreases-loop-at l = l.at
