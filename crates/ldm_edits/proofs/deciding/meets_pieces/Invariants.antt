use Rattle.std.proofs.Common.{◌≡◌, drop, map, [], ◌∷◌}
use Rattle.ldm_edits.specs.Extended.{on_others}
use Rattle.ldm_edits.proofs.deciding.meets_pieces.Given as goal

abbrev pub invariant-loop-at : goal.invariant-loop-at
invariant-loop-at l =
    on_others (l.r ∷ []) (map (λ c. c.now) l.components) (map (λ c. c.now) l.components) l.wanted
    ≡ on_others (l.r ∷ []) (map (λ c. c.now) l.components) (map (λ c. c.now) (drop l.at l.components)) (drop l.at l.wanted)
