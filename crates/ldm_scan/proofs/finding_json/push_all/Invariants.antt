use Rattle.std.proofs.Common.{◌≡◌, ◌++◌, drop, map}
use Rattle.std.specs.Prelude.{flat_map}
use Rattle.std.specs.List.{enumerate_from}
use Rattle.json.specs.Tree.{json_tokens}
use Rattle.ldm_scan.specs.Findings.{finding_json, finding_jsons}
use Rattle.ldm_scan.proofs.finding_json.push_all.Given as goal

abbrev pub invariant-loop-image : goal.invariant-loop-image
invariant-loop-image l = l.json ++ flat_map json_tokens (map (finding_json l.paths) (enumerate_from l.image (drop l.image l.findings))) ≡ l.fn.json ++ flat_map json_tokens (finding_jsons l.paths l.findings)
