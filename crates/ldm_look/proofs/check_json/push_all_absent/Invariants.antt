use Rattle.std.proofs.Common.{◌≡◌, ◌++◌, take}
use Rattle.std.specs.Prelude.{flat_map}
use Rattle.json.specs.Tree.{json_tokens}
use Rattle.ldm_look.specs.CheckJson.{absent_jsons}
use Rattle.ldm_look.proofs.check_json.push_all_absent.Given as goal

abbrev pub invariant-loop-r : goal.invariant-loop-r
invariant-loop-r l = l.json ≡ l.fn.json ++ flat_map json_tokens (absent_jsons l.found.labels (take l.r-index l.found.db.records))
