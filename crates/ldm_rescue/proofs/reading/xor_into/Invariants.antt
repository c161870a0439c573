use Rattle.std.proofs.Common.{◌≡◌, ℕ, ◌<◌, ◌≤◌, slice_index, bit_xor}
use Rattle.ldm_rescue.proofs.reading.xor_into.Given as goal

abbrev pub invariant-loop-i : goal.invariant-loop-i
invariant-loop-i l = record {
  joined : (j : ℕ) → j < l.i → slice_index l.out j ≡ bit_xor (slice_index l.fn.out j) (slice_index l.other j);
  left : (j : ℕ) → l.i ≤ j → slice_index l.out j ≡ slice_index l.fn.out j;
}
