use Rattle.std.proofs.Common.{◌≡◌, ◌++◌, List, OnOk, map, subst}
use Rattle.std.specs.Option.{option_map}
use Rattle.json.specs.Tree.{json_tokens}
use Rattle.ldm_json.specs.Values.{Member, json_member, json_object}
use Rattle.ldm_look.proofs.RecordsLaws.{group_is}
use Rattle.ldm_look.proofs.records_json.push_group.Goals as goal

pub returns : goal.returns
returns c =
    subst (λ (ms : List Member). OnOk c.object_of_both.result (c.object_of_both.new.self ≡ c.args.json.now ++ json_tokens (json_object (map json_member c.args.common.now ++ ms))))
    (group_is c.args.g.now (option_map (λ n. n.now) c.carried_guid.result) (option_map (λ n. n.now) c.first_id.result) (option_map (λ n. n.now) c.second_id.result) c.carried_guid.ensures c.first_id.ensures c.second_id.ensures)
    c.object_of_both.ensures
