use Rattle.std.proofs.Common.{◌≡◌, ◌++◌, OnOk, subst}
use Rattle.std.specs.Option.{option_map}
use Rattle.json.specs.Json.{Json}
use Rattle.json.specs.Tree.{json_tokens}
use Rattle.ldm_look.proofs.JsonLaws.{refusal_is}
use Rattle.ldm_look.proofs.fault_json.push_refusal.Goals as goal

pub returns : goal.returns
returns c =
    subst (λ (j : Json). OnOk c.object_in.result (c.object_in.new.self ≡ c.args.json.now ++ json_tokens j))
    (refusal_is c.args.paths.now c.args.kind.now c.args.text.now c.args.named c.image_number.result c.image_number-2.result (option_map (λ w. w.now) c.path_of.result)
    (option_map (λ w. w.now) c.path_of-2.result) c.image_number.ensures c.path_of.ensures c.image_number-2.ensures c.path_of-2.ensures)
    c.object_in.ensures
