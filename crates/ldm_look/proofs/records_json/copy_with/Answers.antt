use Rattle.std.proofs.Common.{◌≡◌, ◌++◌, List, IfOk, map, subst}
use Rattle.std.specs.Prelude.{codes}
use Rattle.json.specs.Token.{Token}
use Rattle.json.specs.Print.{print}
use Rattle.ldm_look.specs.RecordsJson.{record_json}
use Rattle.ldm_look.proofs.RecordsLaws.{opened_alone}
use Rattle.ldm_look.proofs.records_json.copy_with.Goals as goal

pub returns : goal.returns
returns c =
    subst (λ (ts : List Token). IfOk c.into_line.result (λ text. text ≡ print ts ++ codes "\n"))
    (opened_alone c.new-json.result c.open.new.self c.push_records.new.json c.close.new.self c.args.fields.now (codes "records") (map record_json c.args.records.now)
    c.new-json.ensures c.in_ok-open.ensures c.in_ok-push_records.ensures c.in_ok-close.ensures)
    c.into_line.ensures
