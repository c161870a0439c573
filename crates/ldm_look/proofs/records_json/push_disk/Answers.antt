use Rattle.std.proofs.Common.{◌≡◌, ◌++◌, List, OnOk, map, subst}
use Rattle.std.specs.Option.{option_map}
use Rattle.json.specs.Tree.{json_tokens}
use Rattle.ldm_json.specs.Values.{Member, json_member, json_object}
use Rattle.ldm_look.proofs.RecordsLaws.{disk_is}
use Rattle.ldm_look.proofs.records_json.push_disk.Goals as goal

pub returns : goal.returns
returns c =
    subst (λ (ms : List Member). OnOk c.object_of_both.result (c.object_of_both.new.self ≡ c.args.json.now ++ json_tokens (json_object (map json_member c.args.common.now ++ ms))))
    (disk_is c.args.d.now (option_map (λ n. n.now) c.alternative_name.result) c.alternative_name.ensures)
    c.object_of_both.ensures
