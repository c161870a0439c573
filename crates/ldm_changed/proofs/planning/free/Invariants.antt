use Rattle.std.proofs.Common.{◌≡◌, ◌≢◌, ℕ, ◌≤◌, ◌<◌, slice_index, All}
use Rattle.ldm_written.specs.Written.{unused_block}
use Rattle.ldm_frags.specs.Blocks.{block_at}
use Rattle.ldm_changed.proofs.planning.free.Given as goal

abbrev pub invariant-loop-k : goal.invariant-loop-k
invariant-loop-k l = record {
  unused : (j : ℕ) → j < l.k → block_at l.out (slice_index l.numbers j) ≡ unused_block (slice_index l.numbers j);
  others : (b : ℕ) → 4 ≤ b → All (λ s. s ≢ b) l.numbers → block_at l.out b ≡ block_at l.initial.out b;
}
