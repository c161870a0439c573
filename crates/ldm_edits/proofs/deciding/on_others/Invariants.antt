use Rattle.std.proofs.Common.{◌≡◌, drop, map}
use Rattle.ldm_edits.specs.Extended.{on_others}
use Rattle.ldm_edits.proofs.deciding.on_others.Given as goal

abbrev pub invariant-loop-r : goal.invariant-loop-r
invariant-loop-r l =
    on_others l.db.records (map (λ c. c.now) l.components) (map (λ c. c.now) l.components) l.wanted
    ≡ on_others (drop l.r-index l.r-items) (map (λ c. c.now) l.components) (map (λ c. c.now) l.components) l.wanted
