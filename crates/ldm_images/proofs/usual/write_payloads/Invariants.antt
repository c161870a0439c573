use Rattle.ldm_images.specs.Usual.{KeepsHeader}
use Rattle.ldm_images.proofs.usual.write_payloads.Given as goal

abbrev pub invariant-loop-place : goal.invariant-loop-place
invariant-loop-place l = KeepsHeader l.fn.image l.image
