use Rattle.std.proofs.Common.{◌≡◌, ◌≢◌, ℕ, ◌≤◌, ◌<◌, length, slice_index, All}
use Rattle.ldm_written.specs.Written.{part_bytes}
use Rattle.ldm_frags.specs.Blocks.{written_block, block_at}
use Rattle.ldm_written.proofs.writing.write_parts.Given as goal

abbrev pub invariant-loop-part : goal.invariant-loop-part
invariant-loop-part l = record {
  written : (i : ℕ) → i < l.part → block_at l.out (slice_index l.numbers i)
      ≡ written_block (slice_index l.numbers i) (slice_index l.numbers 0) i (length l.numbers) (part_bytes l.payload i);
  others : (b : ℕ) → 4 ≤ b → All (λ s. s ≢ b) l.numbers → block_at l.out b ≡ block_at l.initial.out b;
}
