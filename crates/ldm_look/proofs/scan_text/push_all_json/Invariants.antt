use Rattle.std.proofs.Common.{◌≡◌, ◌++◌, drop, map}
use Rattle.std.specs.Prelude.{flat_map}
use Rattle.std.specs.List.{enumerate_from}
use Rattle.json.specs.Tree.{json_tokens}
use Rattle.ldm_look.specs.Scan.{scanned_json, scan_jsons}
use Rattle.ldm_look.proofs.scan_text.push_all_json.Given as goal

abbrev pub invariant-loop-image : goal.invariant-loop-image
invariant-loop-image l = l.json ++ flat_map json_tokens (map (scanned_json l.paths) (enumerate_from l.image (drop l.image l.scanned))) ≡ l.fn.json ++ flat_map json_tokens (scan_jsons l.paths l.scanned)
