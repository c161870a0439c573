use Rattle.std.proofs.Common.{◌≡◌, IfOk, subst}
use Rattle.json.specs.Json.{Json}
use Rattle.ldm_json.specs.Values.{line_of_json}
use Rattle.ldm_look.proofs.RecordsLaws.{copy_is}
use Rattle.ldm_look.proofs.records_json.open_line.Goals as goal

pub returns : goal.returns
returns c =
    subst (λ (j : Json). IfOk c.copy_with.result (λ text. text ≡ line_of_json j))
    (copy_is c.args.db.now c.header-header.result.now c.as_slice.result.now c.from.result c.as_slice-2.result.now c.header-header.ensures c.as_slice.ensures c.from.ensures c.as_slice-2.ensures.all)
    c.copy_with.ensures
