use Rattle.ldm_made.proofs.PartWalk.{columns_more}
use Rattle.ldm_made.proofs.volumes.with_columns.Goals as goal

pub loop-at-preserved : goal.loop-at-preserved
loop-at-preserved c =
    columns_more c.args.records.items c.loop-at.records.items c.push.new.self.items c.args.spots.now c.args.id c.args.component c.loop-at.at (record { disk = 0; start = 0; size = 0 }) c.in_ok-column.column c.loop-at-test.true
    c.loop-at.invariant c.in_ok-column.ensures c.in_ok-push.ensures.items
