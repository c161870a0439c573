use Rattle.std.proofs.Common.{refl}
use Rattle.ldm_json.specs.Values.{json_of}
use Rattle.ldm_look.proofs.JsonLaws.{begins_check}
use Rattle.ldm_look.proofs.check_json.begin_with.Goals as goal

pub returns : goal.returns
returns c =
    begins_check c.new-json.result c.open.new.self c.push_notes.new.json c.next.new.self c.push_all_absent.new.json _ c.args.paths.now c.args.goods.now c.args.found.now
    c.is_editable.result (json_of c.args.kind) (json_of c.args.reason) c.as_slice.result.now c.is_editable.ensures c.requires.kind c.requires.reason c.as_slice.ensures
    c.new-json.ensures c.in_ok-open.ensures refl c.in_ok-push_notes.ensures c.in_ok-next.ensures c.in_ok-push_all_absent.ensures
