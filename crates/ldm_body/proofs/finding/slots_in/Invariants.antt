use Rattle.std.proofs.Common.{◌≡◌, ◌-◌, ◌∷◌, map}
use Rattle.ldm_frags.specs.Blocks.{numbers_from}
use Rattle.ldm_body.specs.Finding.{table_place}
use Rattle.ldm_body.proofs.finding.slots_in.Given as goal

abbrev pub invariant-loop-part : goal.invariant-loop-part
invariant-loop-part l = l.items.items ≡ l.number ∷ map (table_place l.places l.number) (numbers_from 1 (l.part - 1))
