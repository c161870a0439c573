use Rattle.std.proofs.Common.{◌≡◌, map, take}
use Rattle.ldm_body.specs.declared.finding.Found.{Found}
use Rattle.ldm_body.proofs.finding.are_of.Given as goal

abbrev pub invariant-loop-i : goal.invariant-loop-i
invariant-loop-i l = map (λ (f : Found). f.content) (take l.i l.found) ≡ take l.i l.records
