use Rattle.ldm_dump.proofs.RunLaws.{Along}
use Rattle.ldm_rescue.proofs.sources.together.Given as goal

abbrev pub invariant-copies : goal.invariant-copies
invariant-copies l = Along l.plan l.sector l.copy l.sectors
