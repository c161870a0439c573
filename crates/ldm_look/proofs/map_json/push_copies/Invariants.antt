use Rattle.std.proofs.Common.{◌≡◌, ◌++◌, nat_eq}
use Rattle.std.specs.HashMap as hash
use Rattle.std.specs.List.{flat_map, range_with_len}
use Rattle.json.specs.Tree.{json_tokens}
use Rattle.ldm_look.specs.MapJson.{copy_number_jsons}
use Rattle.ldm_look.proofs.map_json.push_copies.Given as goal

abbrev pub invariant-loop-copy : goal.invariant-loop-copy
invariant-loop-copy l =
    l.json ≡ l.fn.json ++ flat_map json_tokens (flat_map (copy_number_jsons (λ id. hash.get nat_eq l.disks id) l.paths l.plan l.sector) (range_with_len 0 l.copy))
