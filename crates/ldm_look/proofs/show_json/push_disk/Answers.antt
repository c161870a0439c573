use Rattle.std.proofs.Common.{rules, ◌≡◌, ◌++◌, OnOk, subst}
use Rattle.std.specs.Option.{option_copied, option_map}
use Rattle.json.specs.Json.{Json}
use Rattle.json.specs.Tree.{json_tokens}
use Rattle.ldm_label.specs.Present.{label_with}
use Rattle.ldm_space.specs.Free.{taken_in}
use Rattle.ldm_space.specs.Gaps.{largest_free}
use Rattle.ldm_look.proofs.JsonLaws.{disk_is}
use Rattle.ldm_look.proofs.show_json.push_disk.Goals as goal

pub returns : goal.returns
returns c =
    let label : option_copied c.label_with-label.result ≡ label_with c.args.d.now.guid c.args.found.now.labels = search rules in
    let largest : c.in_ok-largest.largest ≡ option_map (λ l. largest_free (taken_in c.args.found.now.db.records) c.args.d.now.head.id l.data_size) (option_copied c.label_with-label.result) = search rules in
    subst (λ (j : Json). OnOk c.object.result (c.object.new.self ≡ c.args.json.now ++ json_tokens j))
    (disk_is c.args.paths.now c.args.used (taken_in c.args.found.now.db.records) c.args.found.now.labels c.args.d.now c.as_slice-2.result.now c.image_number.result c.image_with-image.result (option_map (λ w. w.now) c.path_of.result) c.space_on-start.result.0 c.space_on-start.result.1 c.space_on-start.result.2 c.in_ok-largest.largest
    (option_copied c.label_with-label.result) c.as_slice-2.ensures c.image_number.ensures c.path_of.ensures c.image_with-image.ensures label c.space_on-start.ensures.start c.space_on-start.ensures.size c.space_on-start.ensures.free largest)
    c.object.ensures
