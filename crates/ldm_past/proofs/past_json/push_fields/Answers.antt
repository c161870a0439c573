use Rattle.std.proofs.Common.{◌≡◌, ◌++◌, OnOk, subst}
use Rattle.std.specs.Option.{option_map}
use Rattle.json.specs.Json.{Json}
use Rattle.json.specs.Tree.{json_tokens}
use Rattle.ldm_json.specs.Values.{json_of}
use Rattle.ldm_past.proofs.TextLaws.{damage_is}
use Rattle.ldm_past.proofs.past_json.push_fields.Goals as goal

pub returns : goal.returns
returns c =
    subst (λ (j : Json). OnOk c.object.result (c.object.new.self ≡ c.args.json.now ++ json_tokens j))
    (damage_is c.args.paths.now c.args.image c.args.mended.now c.args.passed_over.now (option_map (λ w. w.now) c.get.result) (json_of c.scalar_of.result) (json_of c.scalar_of-2.result)
    c.get.ensures c.scalar_of.ensures c.scalar_of-2.ensures)
    c.object.ensures
