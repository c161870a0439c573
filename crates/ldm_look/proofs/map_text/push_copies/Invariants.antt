use Rattle.std.proofs.Common.{◌≡◌, ◌++◌, nat_eq}
use Rattle.std.specs.HashMap as hash
use Rattle.std.specs.List.{flat_map, range_with_len}
use Rattle.ldm_look.specs.Map.{text_of_copy_number}
use Rattle.ldm_look.proofs.map_text.push_copies.Given as goal

abbrev pub invariant-loop-copy : goal.invariant-loop-copy
invariant-loop-copy l = l.text ≡ l.fn.text ++ flat_map (text_of_copy_number (λ id. hash.get nat_eq l.disks id) l.plan l.sector) (range_with_len 0 l.copy)
