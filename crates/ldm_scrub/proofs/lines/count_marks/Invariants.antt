use Rattle.std.proofs.Common.{◌≡◌, ℕ, ◌+◌, ◌<◌, ◌≤◌, Bool, length, slice_index, count_by}
use Rattle.std.specs.List.{range_with_len}
use Rattle.ldm_scrub.specs.Compare.{mark}
use Rattle.ldm_scrub.proofs.lines.count_marks.Given as goal

abbrev pub invariant-marks : goal.invariant-marks
invariant-marks l = record {
  few : l.count ≤ l.i;
  so_far : (place : ℕ) (bad : ℕ → Bool) → ((i : ℕ) → i < length l.marks → slice_index l.marks i ≡ mark (bad (place + i)))
      → l.count ≡ count_by bad (range_with_len place l.i);
}
