use Rattle.std.proofs.Common.{arith, nat_eq}
use Rattle.std.specs.HashMap as hash
use Rattle.ldm_look.specs.MapJson.{copy_number_jsons}
use Rattle.ldm_look.proofs.MapJsonLaws.{jsons_more}
use Rattle.ldm_look.proofs.map_json.push_copies.Goals as goal

pub loop-copy-preserved : goal.loop-copy-preserved
loop-copy-preserved c =
    jsons_more (copy_number_jsons (λ id. hash.get nat_eq c.args.disks.now id) c.args.paths.now c.args.plan.now c.args.sector) 0 c.loop-copy.copy c.loop-copy.copy c.args.json.now c.loop-copy.json c.push_copy.new.json
    (omega arith) c.loop-copy.invariant c.in_ok-push_copy.ensures
