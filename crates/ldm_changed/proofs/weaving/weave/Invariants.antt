use Rattle.ldm_changed.proofs.NextLaws.{IsWovenUpTo}
use Rattle.ldm_changed.proofs.weaving.weave.Given as goal

abbrev pub invariant-loop-j : goal.invariant-loop-j
invariant-loop-j l = IsWovenUpTo l.records l.old.records l.kept l.made l.j l.taken l.table.items
