use Rattle.std.proofs.Common.{◌≡◌, ◌++◌, List, OnOk, map, subst}
use Rattle.std.specs.Option.{option_map}
use Rattle.json.specs.Tree.{json_tokens}
use Rattle.ldm_json.specs.Values.{Member, json_member, json_object}
use Rattle.ldm_look.proofs.RecordsLaws.{volume_is}
use Rattle.ldm_look.proofs.records_json.push_volume.Goals as goal

pub returns : goal.returns
returns c =
    subst (λ (ms : List Member). OnOk c.object_of_both.result (c.object_of_both.new.self ≡ c.args.json.now ++ json_tokens (json_object (map json_member c.args.common.now ++ ms))))
    (volume_is c.args.v.now c.as_slice.result.now c.as_slice-2.result.now c.from.result c.guid_of.result (option_map (λ n. n.now) c.name_in.result) (option_map (λ n. n.now) c.name_in-2.result)
    (option_map (λ n. n.now) c.name_in-3.result) c.as_slice.ensures c.as_slice-2.ensures c.from.ensures c.guid_of.ensures c.name_in.ensures c.name_in-2.ensures c.name_in-3.ensures)
    c.object_of_both.ensures
