use Rattle.std.proofs.Common.{◌≡◌, ◌++◌, nat_eq}
use Rattle.std.specs.HashMap as hash
use Rattle.std.specs.List.{flat_map}
use Rattle.json.specs.Tree.{json_tokens}
use Rattle.ldm_look.specs.MapJson.{sectors_jsons}
use Rattle.ldm_look.proofs.map_json.push_sectors.Given as goal

abbrev pub invariant-loop-step : goal.invariant-loop-step
invariant-loop-step l = l.json ≡ l.fn.json ++ flat_map json_tokens (sectors_jsons (λ id. hash.get nat_eq l.disks id) l.paths l.plan l.first l.step)
