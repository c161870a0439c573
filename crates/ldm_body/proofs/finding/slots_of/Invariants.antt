use Rattle.std.proofs.Common.{◌≡◌, map, take}
use Rattle.ldm_body.specs.declared.finding.Found.{Found}
use Rattle.ldm_body.proofs.finding.slots_of.Given as goal

abbrev pub invariant-loop-f : goal.invariant-loop-f
invariant-loop-f l = l.table.items ≡ map (λ (f : Found). f.slots) (take l.f-index l.found)
