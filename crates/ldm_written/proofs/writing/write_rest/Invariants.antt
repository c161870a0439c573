use Rattle.std.proofs.Common.{◌≡◌, ℕ, ◌≤◌, ◌<◌}
use Rattle.ldm_written.specs.Written.{unused_block}
use Rattle.ldm_frags.specs.Blocks.{block_at}
use Rattle.ldm_written.proofs.writing.write_rest.Given as goal

abbrev pub invariant-loop-number : goal.invariant-loop-number
invariant-loop-number l = record {
  unused : (b : ℕ) → l.first ≤ b → b < l.number → block_at l.out b ≡ unused_block b;
  below : (b : ℕ) → 4 ≤ b → b < l.first → block_at l.out b ≡ block_at l.initial.out b;
}
