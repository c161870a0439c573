use Rattle.std.proofs.Common.{◌≡◌, ◌==◌, ◌+◌, ◌*◌, ◌^◌, ◌<◌, take, false, sum_by}
use Rattle.std.specs.List.{list_any}
use Rattle.ldm_edits.proofs.asked.is_bad_length.Given as goal

abbrev pub invariant-loop-w : goal.invariant-loop-w
invariant-loop-w l = record {
  none : list_any (λ w. w.size == 0) (take l.w-index l.wanted) ≡ false;
  sum : l.sectors ≡ l.capacity + sum_by (λ w. w.size) (take l.w-index l.wanted);
  low : l.sectors < 2 ^ 64 * (l.w-index + 1);
}
