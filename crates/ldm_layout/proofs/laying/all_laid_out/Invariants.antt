use Rattle.std.proofs.Common.{◌≡◌, take, map}
use Rattle.ldm_layout.specs.Parts.{extents_at}
use Rattle.ldm_layout.specs.Volumes.{laid_out}
use Rattle.ldm_layout.proofs.laying.all_laid_out.Given as goal

abbrev pub invariant-loop-p : goal.invariant-loop-p
invariant-loop-p l = l.all.items ≡ map (λ p. laid_out l.shape (extents_at p.id l.parts.extents)) (take l.p-index l.plexes)
