use Rattle.std.proofs.Common.{refl, nat_eq}
use Rattle.std.specs.HashMap as hash
use Rattle.ldm_look.specs.MapJson.{sector_jsons}
use Rattle.ldm_look.proofs.MapJsonLaws.{jsons_more}
use Rattle.ldm_look.proofs.map_json.push_sectors.Goals as goal

pub loop-step-preserved : goal.loop-step-preserved
loop-step-preserved c =
    jsons_more (sector_jsons (λ id. hash.get nat_eq c.args.disks.now id) c.args.paths.now c.args.plan.now) c.args.first c.loop-step.step _ c.args.json.now c.loop-step.json c.push_sector.new.json
    refl c.loop-step.invariant c.in_ok-push_sector.ensures
