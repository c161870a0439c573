use Rattle.std.proofs.Common.{◌≡◌, ◌++◌, nat_eq}
use Rattle.std.specs.HashMap as hash
use Rattle.ldm_look.specs.Map.{text_of_sectors}
use Rattle.ldm_look.proofs.map_text.push_sectors.Given as goal

abbrev pub invariant-loop-step : goal.invariant-loop-step
invariant-loop-step l = l.text ≡ l.fn.text ++ text_of_sectors (λ id. hash.get nat_eq l.disks id) l.plan l.first l.step
