use Rattle.std.proofs.Common.{take}
use Rattle.ldm_group.specs.Index.{IsIndexOf}
use Rattle.ldm_group.proofs.index.Index.note_all.Given as goal

abbrev pub invariant-loop-at : goal.invariant-loop-at
invariant-loop-at l = IsIndexOf l.self (take l.at l.records)
