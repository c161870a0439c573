use Rattle.ldm_images.specs.Usual.{KeepsHeader}
use Rattle.ldm_images.proofs.usual.write_unused.Given as goal

abbrev pub invariant-loop-block : goal.invariant-loop-block
invariant-loop-block l = KeepsHeader l.fn.image l.image
