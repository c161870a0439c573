use Rattle.std.proofs.Common.{◌≡◌, ℕ, ◌<◌, ◌≤◌, slice_index}
use Rattle.std.specs.Str.{bytes_eq}
use Rattle.ldm_scrub.specs.Compare.{sector_in, marked}
use Rattle.ldm_scrub.proofs.comparing.mark_unlike.Given as goal

abbrev pub invariant-loop-i : goal.invariant-loop-i
invariant-loop-i l = record {
  done : (i : ℕ) → i < l.i → slice_index l.marks i ≡ marked (bytes_eq (sector_in l.bytes i) l.sector) (slice_index l.fn.marks i);
  left : (i : ℕ) → l.i ≤ i → slice_index l.marks i ≡ slice_index l.fn.marks i;
}
