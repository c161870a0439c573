use Rattle.ldm_memory.proofs.LeftLaws.{IsLastBy}
use Rattle.ldm_memory.proofs.left.last_sync.Given as goal

abbrev pub invariant-loop-place : goal.invariant-loop-place
invariant-loop-place l = IsLastBy l.calls l.disk l.place l.count
