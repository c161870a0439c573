use Rattle.std.proofs.Common.{◌≡◌, ◌++◌, OnOk, subst}
use Rattle.std.specs.Option.{option_map}
use Rattle.json.specs.Json.{Json}
use Rattle.json.specs.Tree.{json_tokens}
use Rattle.ldm_look.proofs.MapJsonLaws.{place_is}
use Rattle.ldm_look.proofs.map_json.push_place.Goals as goal

pub returns : goal.returns
returns c =
    subst (λ (j : Json). OnOk c.object.result (c.object.new.self ≡ c.args.json.now ++ json_tokens j))
    (place_is c.args.paths.now c.args.sector c.args.copy c.args.disk.now c.args.start c.is_parity.result c.as_slice.result.now c.image_number.result
    (option_map (λ w. w.now) c.path_of.result) c.image_sector.result c.is_parity.ensures c.as_slice.ensures c.image_number.ensures c.path_of.ensures c.image_sector.ensures)
    c.object.ensures
