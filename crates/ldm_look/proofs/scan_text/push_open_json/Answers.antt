use Rattle.std.proofs.Common.{◌≡◌, ◌++◌, OnOk, subst}
use Rattle.std.specs.Option.{option_map}
use Rattle.json.specs.Json.{Json}
use Rattle.json.specs.Tree.{json_tokens}
use Rattle.ldm_look.proofs.JsonLaws.{open_is}
use Rattle.ldm_look.proofs.scan_text.push_open_json.Goals as goal

pub returns : goal.returns
returns c =
    subst (λ (j : Json). OnOk c.object.result (c.object.new.self ≡ c.args.json.now ++ json_tokens j))
    (open_is c.args.paths.now c.args.image (option_map (λ w. w.now) c.get.result) c.args.m.now c.as_slice.result.now (option_map (λ n. n.now) c.name_in.result) c.style_word.result.now
    c.get.ensures c.as_slice.ensures c.name_in.ensures c.style_word.ensures)
    c.object.ensures
