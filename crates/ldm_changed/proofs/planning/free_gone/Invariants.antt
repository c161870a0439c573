use Rattle.ldm_body.specs.Body.{stored_at}
use Rattle.ldm_changed.proofs.PlanLaws.{IsFreedUpTo}
use Rattle.ldm_changed.proofs.planning.free_gone.Given as goal

abbrev pub invariant-loop-i : goal.invariant-loop-i
invariant-loop-i l = IsFreedUpTo (stored_at l.records l.table) l.new.records l.i l.initial.out l.out l.kept.items
