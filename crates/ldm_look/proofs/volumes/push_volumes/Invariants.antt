use Rattle.std.proofs.Common.{◌≡◌, ◌++◌, [], take, unwrap_or, nat_eq}
use Rattle.std.specs.HashMap as hash
use Rattle.ldm_layout.specs.Parts.{plexes_at}
use Rattle.ldm_layout.specs.Volumes.{shape_of}
use Rattle.ldm_look.specs.Volumes.{text_of_volumes}
use Rattle.ldm_look.proofs.volumes.push_volumes.Given as goal

abbrev pub invariant-loop-r : goal.invariant-loop-r
invariant-loop-r l = l.text ≡ l.fn.text ++ text_of_volumes (λ volume. shape_of (plexes_at volume l.parts.plexes))
    (λ volume. unwrap_or (hash.get nat_eq l.components volume) []) (take l.r-index l.records)
