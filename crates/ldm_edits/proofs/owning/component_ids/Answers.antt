use Rattle.std.proofs.Common.{arith, sym, append-nil}
use Rattle.std.proofs.lemmas.Grind.{common_steps}
use Rattle.ldm_edits.proofs.OwnLaws.{ids_more}
use Rattle.ldm_edits.proofs.owning.component_ids.Goals as goal

pub loop-r-preserved : goal.loop-r-preserved
loop-r-preserved c =
    let more = ids_more c.args.volume c.args.records.now c.loop-r.r-index c.r-item.result _ c.loop-r-test.true c.r-item.is (sym c.component_id.ensures) in
    grind (arith, common_steps, append-nil)
