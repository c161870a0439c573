use Rattle.std.proofs.Common.{◌≡◌, ◌++◌, drop}
use Rattle.std.specs.Prelude.{flat_map}
use Rattle.std.specs.List.{enumerate_from}
use Rattle.json.specs.Tree.{json_tokens}
use Rattle.ldm_past.specs.PastAnswer.{damage_jsons_at, damage_jsons}
use Rattle.ldm_past.proofs.past_json.push_damages.Given as goal

abbrev pub invariant-loop-image : goal.invariant-loop-image
invariant-loop-image l = l.json ++ flat_map json_tokens (flat_map (damage_jsons_at l.paths) (enumerate_from l.image (drop l.image l.damages))) ≡ l.fn.json ++ flat_map json_tokens (damage_jsons l.paths l.damages)
