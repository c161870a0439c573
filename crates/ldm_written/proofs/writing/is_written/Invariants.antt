use Rattle.std.proofs.Common.{◌≡◌, ◌<◌, ℕ, length, slice_index}
use Rattle.ldm_written.specs.Written.{part_bytes}
use Rattle.ldm_frags.specs.Blocks.{written_block, block_at}
use Rattle.ldm_written.proofs.writing.is_written.Given as goal

abbrev pub invariant-loop-i : goal.invariant-loop-i
invariant-loop-i l = (j : ℕ) → j < l.i → block_at l.blocks (slice_index l.places j)
    ≡ written_block (slice_index l.places j) (slice_index l.places 0) j (length l.places) (part_bytes l.payload j)
