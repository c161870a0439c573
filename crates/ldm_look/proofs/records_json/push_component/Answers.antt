use Rattle.std.proofs.Common.{◌≡◌, ◌++◌, List, OnOk, map, subst}
use Rattle.json.specs.Tree.{json_tokens}
use Rattle.ldm_json.specs.Values.{Member, json_member, json_object}
use Rattle.ldm_look.proofs.RecordsLaws.{component_is}
use Rattle.ldm_look.proofs.records_json.push_component.Goals as goal

pub returns : goal.returns
returns c =
    subst (λ (ms : List Member). OnOk c.object_of_both.result (c.object_of_both.new.self ≡ c.args.json.now ++ json_tokens (json_object (map json_member c.args.common.now ++ ms))))
    (component_is c.args.c.now c.as_slice.result.now c.from.result c.chunk_of.result c.columns_of.result c.as_slice.ensures c.from.ensures c.chunk_of.ensures c.columns_of.ensures)
    c.object_of_both.ensures
