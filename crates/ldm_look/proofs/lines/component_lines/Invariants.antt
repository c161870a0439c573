use Rattle.std.proofs.Common.{◌≡◌, ℕ, [], take, unwrap_or, nat_eq}
use Rattle.std.specs.HashMap as hash
use Rattle.ldm_look.specs.Volumes.{text_of_components}
use Rattle.ldm_look.proofs.lines.component_lines.Given as goal

abbrev pub invariant-loop-r : goal.invariant-loop-r
invariant-loop-r l = (id : ℕ) → unwrap_or (hash.get nat_eq l.lines id) []
    ≡ text_of_components (λ component. unwrap_or (hash.get nat_eq l.partitions component) []) (take l.r-index l.records) id
