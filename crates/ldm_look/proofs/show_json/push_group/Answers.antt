use Rattle.std.proofs.Common.{◌≡◌, ◌++◌, ◌∙◌, List, OnOk, ap, refl, subst}
use Rattle.std.specs.Prelude.{codes, ◌∷◌, []}
use Rattle.json.specs.Json.{Json}
use Rattle.ldm_json.specs.Values.{number_json, name_json, guid_json}
use Rattle.json.specs.Token.{Token}
use Rattle.json.specs.Tree.{json_tokens}
use Rattle.ldm_space.specs.Free.{taken_in}
use Rattle.ldm_group.specs.Partitions.{used_on}
use Rattle.ldm_look.specs.ShowJson.{disk_jsons, all_volume_jsons}
use Rattle.ldm_look.proofs.JsonLaws.{both_from, group_is}
use Rattle.ldm_look.proofs.show_json.push_group.Goals as goal

pub returns : goal.returns
returns c =
    let found = c.args.found.now in
    let disks : List Json = disk_jsons c.args.paths.now (used_on found.db.records) (taken_in found.db.records) found.labels found.db.records in
    let volumes : List Json = all_volume_jsons found in
    subst (λ (ts : List Token). OnOk c.close.result (c.close.new.self ≡ ts))
    (both_from c.args.json.now c.open.new.self c.push_all_disks.new.json c.next.new.self c.push_all_volumes.new.json _
    ((codes "sector_size", number_json 512) ∷ (codes "name", name_json c.as_slice.result.now) ∷ (codes "guid", guid_json c.header-header.result.now.guid)
    ∷ (codes "sequence", number_json c.header-header.result.now.seq) ∷ (codes "blocks", number_json c.need.result) ∷ (codes "blocks_room", number_json c.room.result) ∷ [])
    (codes "disks") (codes "volumes") disks volumes
    c.in_ok-open.ensures refl c.in_ok-push_all_disks.ensures c.in_ok-next.ensures c.in_ok-push_all_volumes.ensures
    ∙ ap (λ (j : Json). c.args.json.now ++ json_tokens j)
    (group_is disks volumes found c.header-header.result.now c.as_slice.result.now c.need.result c.room.result c.header-header.ensures c.as_slice.ensures c.need.ensures c.room.ensures))
    c.close.ensures
