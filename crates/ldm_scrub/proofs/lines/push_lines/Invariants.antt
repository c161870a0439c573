use Rattle.std.proofs.Common.{◌≡◌, ℕ, ◌+◌, ◌*◌, ◌<◌, ◌≤◌, Bool, [], length, take, slice_index, flat_map, if◌then◌else◌}
use Rattle.std.specs.List.{range_with_len}
use Rattle.ldm_scrub.specs.Compare.{mark}
use Rattle.ldm_scrub.specs.Lines.{bad_line}
use Rattle.ldm_scrub.proofs.lines.push_lines.Given as goal

abbrev pub invariant-marks : goal.invariant-marks
invariant-marks l = record {
  few : l.used ≤ 100 * l.i;
  so_far : (bad : ℕ → Bool) → ((i : ℕ) → i < length l.marks → slice_index l.marks i ≡ mark (bad (l.place + i)))
      → take l.used l.page ≡ flat_map (λ p. if bad p then bad_line l.format l.plan p else []) (range_with_len l.place l.i);
}
