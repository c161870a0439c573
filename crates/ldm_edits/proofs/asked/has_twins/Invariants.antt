use Rattle.std.proofs.Common.{◌≡◌, drop}
use Rattle.ldm_edits.specs.Asked.{has_twins}
use Rattle.ldm_edits.proofs.asked.has_twins.Given as goal

abbrev pub invariant-loop-at : goal.invariant-loop-at
invariant-loop-at l = has_twins l.wanted ≡ has_twins (drop l.at l.wanted)
