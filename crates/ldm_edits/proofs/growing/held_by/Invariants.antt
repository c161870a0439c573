use Rattle.std.proofs.Common.{◌≡◌, ◌≤◌, ◌*◌, ◌^◌, take}
use Rattle.ldm_edits.proofs.Common.{extents_of, held_in}
use Rattle.ldm_edits.proofs.growing.held_by.Given as goal

abbrev pub invariant-loop-r : goal.invariant-loop-r
invariant-loop-r l = record {
  sum : l.sectors ≡ held_in (extents_of l.component (take l.r-index l.r-items));
  low : l.sectors ≤ 2 ^ 64 * l.r-index;
}
