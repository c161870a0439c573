use Rattle.std.proofs.Common.{◌≡◌, ◌++◌, ◌∙◌, ℕ, List, IfOk, nat_eq, subst, ap}
use Rattle.std.specs.Prelude.{codes}
use Rattle.std.specs.HashMap as hash
use Rattle.json.specs.Json.{Json}
use Rattle.json.specs.Token.{Token}
use Rattle.json.specs.Tree.{json_tokens}
use Rattle.json.specs.Print.{print}
use Rattle.ldm_json.specs.Values.{json_array}
use Rattle.ldm_look.specs.MapJson.{sectors_jsons}
use Rattle.ldm_look.proofs.JsonLaws.{array_from}
use Rattle.ldm_look.proofs.MapJsonLaws.{same_sectors}
use Rattle.ldm_look.proofs.map_json.map_line.Goals as goal

pub returns : goal.returns
returns c =
    let disks = λ (id : ℕ). hash.get nat_eq c.in_ok-disks.disks id in
    let found = c.args.found.now in
    subst (λ (ts : List Token). IfOk c.into_line.result (λ text. text ≡ print ts ++ codes "\n"))
    (array_from c.new-json.result c.begin_array.new.self c.push_sectors.new.json c.end_array.new.self (sectors_jsons disks c.args.paths.now c.args.plan.now c.args.first c.args.count)
    c.new-json.ensures c.in_ok-begin_array.ensures c.in_ok-push_sectors.ensures c.in_ok-end_array.ensures
    ∙ ap (λ (js : List Json). json_tokens (json_array js))
    (same_sectors disks c.args.paths.now found.labels c.as_slice.result.now found.db.records c.as_slice-2.result.now c.args.plan.now c.args.first c.args.count
    c.in_ok-disks.ensures c.as_slice.ensures c.as_slice-2.ensures.all))
    c.into_line.ensures
