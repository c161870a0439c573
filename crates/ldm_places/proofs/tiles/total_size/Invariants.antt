use Rattle.std.proofs.Common.{◌≡◌, ◌≤◌, ◌*◌, ◌^◌, take, sum_by}
use Rattle.ldm_places.proofs.tiles.total_size.Given as goal

abbrev pub invariant-loop-e : goal.invariant-loop-e
invariant-loop-e l = (l.total ≡ sum_by (λ e. e.size) (take l.e-index l.extents)) × (l.total ≤ 2 ^ 64 * l.e-index)
