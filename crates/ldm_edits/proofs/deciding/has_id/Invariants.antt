use Rattle.std.proofs.Common.{◌≡◌, ◌==◌, drop, map}
use Rattle.std.specs.List.{list_any}
use Rattle.ldm_edits.proofs.deciding.has_id.Given as goal

abbrev pub invariant-loop-c : goal.invariant-loop-c
invariant-loop-c l = list_any (λ c. l.id == c.head.id) (map (λ c. c.now) l.components) ≡ list_any (λ c. l.id == c.head.id) (map (λ c. c.now) (drop l.c-index l.components))
