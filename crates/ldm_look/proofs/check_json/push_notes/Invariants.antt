use Rattle.std.proofs.Common.{◌≡◌, ◌++◌, drop, map}
use Rattle.std.specs.Prelude.{flat_map}
use Rattle.std.specs.List.{enumerate_from}
use Rattle.json.specs.Tree.{json_tokens}
use Rattle.ldm_look.specs.CheckJson.{note_json, note_jsons}
use Rattle.ldm_look.proofs.check_json.push_notes.Given as goal

abbrev pub invariant-loop-image : goal.invariant-loop-image
invariant-loop-image l = l.json ++ flat_map json_tokens (map (note_json l.paths l.goods) (enumerate_from l.image (drop l.image l.notes))) ≡ l.fn.json ++ flat_map json_tokens (note_jsons l.paths l.goods l.notes)
