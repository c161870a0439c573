use Rattle.std.proofs.Common.{◌≡◌, ◌++◌, List, IfOk, subst}
use Rattle.std.specs.Prelude.{codes}
use Rattle.json.specs.Token.{Token}
use Rattle.json.specs.Print.{print}
use Rattle.ldm_look.proofs.JsonLaws.{array_from}
use Rattle.ldm_scan.specs.Findings.{finding_jsons}
use Rattle.ldm_scan.proofs.finding_json.findings_line.Goals as goal

pub returns : goal.returns
returns c =
    subst (λ (ts : List Token). IfOk c.into_line.result (λ text. text ≡ print ts ++ codes "\n"))
    (array_from c.new-json.result c.begin_array.new.self c.push_all.new.json c.end_array.new.self (finding_jsons c.args.paths.now c.args.findings.now)
    c.new-json.ensures c.in_ok-begin_array.ensures c.in_ok-push_all.ensures c.in_ok-end_array.ensures)
    c.into_line.ensures
