use Rattle.std.proofs.Common.{◌≡◌, ◌++◌, OnOk, Option, Some, nat_eq, subst, sym}
use Rattle.std.specs.Prelude.{flat_map}
use Rattle.std.specs.HashMap as hash
use Rattle.json.specs.Tree.{json_tokens}
use Rattle.ldm_places.specs.declared.shape.Place.{Place}
use Rattle.ldm_look.specs.MapJson.{place_jsons}
use Rattle.ldm_look.proofs.map_json.push_copy.Goals as goal

pub returns : goal.returns
returns c =
    subst (λ (p : Option Place). OnOk c.push_at.result (c.push_at.new.json ≡ c.args.json.now ++ flat_map json_tokens (place_jsons (λ id. hash.get nat_eq c.args.disks.now id) c.args.paths.now c.args.sector (Some c.args.copy) p)))
    (sym c.place-place.ensures) c.push_at.ensures
