use Rattle.std.proofs.Common.{◌≡◌, ◌++◌, drop, map}
use Rattle.std.specs.Prelude.{flat_map}
use Rattle.json.specs.Tree.{json_tokens}
use Rattle.ldm_look.specs.RecordsJson.{record_json}
use Rattle.ldm_look.proofs.records_json.push_records.Given as goal

abbrev pub invariant-loop-r : goal.invariant-loop-r
invariant-loop-r l = l.json ++ flat_map json_tokens (map record_json (drop l.r-index l.records)) ≡ l.fn.json ++ flat_map json_tokens (map record_json l.records)
