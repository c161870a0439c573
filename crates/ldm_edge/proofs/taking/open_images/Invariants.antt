use Rattle.std.proofs.Common.{◌≡◌, vec_len}
use Rattle.ldm_edge.proofs.taking.open_images.Given as goal

abbrev pub invariant-loop-name : goal.invariant-loop-name
invariant-loop-name g l = vec_len l.images ≡ l.name-index
