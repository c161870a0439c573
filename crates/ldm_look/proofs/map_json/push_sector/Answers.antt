use Rattle.std.proofs.Common.{ℕ, List, None, nat_eq}
use Rattle.std.specs.HashMap as hash
use Rattle.std.specs.List.{flat_map, range_with_len}
use Rattle.std.proofs.lemmas.Result.{on_ok_weaker}
use Rattle.json.specs.Json.{Json}
use Rattle.ldm_places.specs.Layouts.{copies_of, parity_in}
use Rattle.ldm_look.specs.MapJson.{copy_number_jsons, place_jsons, sector_jsons}
use Rattle.ldm_look.proofs.MapJsonLaws.{both_added}
use Rattle.ldm_look.proofs.map_json.push_sector.Goals as goal

pub returns : goal.returns
unfolding sector_jsons
returns c =
    let disks = λ (id : ℕ). hash.get nat_eq c.args.disks.now id in
    let plan = c.args.plan.now in
    let copies : List Json = flat_map (copy_number_jsons disks c.args.paths.now plan c.args.sector) (range_with_len 0 (copies_of plan)) in
    let parity : List Json = place_jsons disks c.args.paths.now c.args.sector None (parity_in plan c.args.sector) in
    on_ok_weaker c.push_parity.result
    (both_added c.args.json.now c.push_copies.new.json c.push_parity.new.json copies parity c.in_ok-push_copies.ensures)
    c.push_parity.ensures
