use Rattle.std.proofs.Common.{◌≡◌, ◌++◌, OnOk, subst}
use Rattle.json.specs.Json.{Json}
use Rattle.json.specs.Tree.{json_tokens}
use Rattle.ldm_look.proofs.RecordsLaws.{record_is}
use Rattle.ldm_look.proofs.records_json.push_record.Goals as goal

pub returns : goal.returns
returns c =
    subst (λ (j : Json). OnOk c.push_own.result (c.push_own.new.json ≡ c.args.json.now ++ json_tokens j))
    (record_is c.args.r.now c.head_of-head.result.now c.kind_text.result.now c.type_of.result.now c.as_slice.result.now c.own_len.result c.from.result c.from-2.result
    c.kind_text.ensures c.type_of.ensures c.as_slice.ensures c.own_len.ensures.is c.from.ensures c.from-2.ensures c.head_of-head.ensures)
    c.push_own.ensures
