use Rattle.std.proofs.Common.{◌≡◌, ◌++◌, OnOk, List, nat_eq, subst, unwrap_or}
use Rattle.std.specs.Prelude.{flat_map}
use Rattle.indexmap.specs.IndexMap as map
use Rattle.ldm_space.specs.Free.{taken_in}
use Rattle.json.specs.Json.{Json}
use Rattle.json.specs.Tree.{json_tokens}
use Rattle.ldm_look.proofs.JsonLaws.{same_disk_jsons}
use Rattle.ldm_look.proofs.show_json.push_all_disks.Goals as goal

pub returns : goal.returns
returns c =
    subst (λ (js : List Json). OnOk c.push_disks.result (c.push_disks.new.json ≡ c.args.json.now ++ flat_map json_tokens js))
    (same_disk_jsons c.args.paths.now (λ disk. unwrap_or (map.get nat_eq c.in_ok-used.used disk) 0) (taken_in c.args.found.now.db.records) c.args.found.now.labels c.as_slice.result.now c.args.found.now.db.records c.in_ok-used.ensures c.as_slice.ensures.all)
    c.push_disks.ensures
