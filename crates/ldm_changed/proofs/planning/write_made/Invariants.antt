use Rattle.ldm_changed.proofs.PlanLaws.{IsAddedUpTo}
use Rattle.ldm_changed.proofs.planning.write_made.Given as goal

abbrev pub invariant-loop-j : goal.invariant-loop-j
invariant-loop-j l = IsAddedUpTo l.records l.old.records l.free l.j l.initial.out l.out l.at l.made.items
