use Rattle.std.proofs.Common.{◌≡◌, ℕ, ◌+◌, ◌<◌, slice_index}
use Rattle.ldm_changed.proofs.filling.run_from.Given as goal

abbrev pub invariant-loop-n : goal.invariant-loop-n
invariant-loop-n l = (i : ℕ) → i < l.n → slice_index l.numbers (l.k + i) ≡ slice_index l.numbers l.k + i
