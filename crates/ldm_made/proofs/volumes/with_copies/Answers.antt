use Rattle.ldm_made.proofs.CopyWalk.{copies_more}
use Rattle.ldm_made.proofs.volumes.with_copies.Goals as goal

pub loop-at-preserved : goal.loop-at-preserved
loop-at-preserved c =
    copies_more c.args.records.items c.loop-at.records.items c.push.new.self.items c.push-in-loop-at.new.self.items c.args.spots.now c.args.id c.args.volume c.loop-at.at (record { disk = 0; start = 0; size = 0 }) c.in_ok-new_component.field-0 c.in_ok-part.part
    c.loop-at-test.true c.loop-at.invariant c.in_ok-new_component.ensures c.in_ok-part.ensures c.in_ok-push.ensures.items c.in_ok-push-2.ensures.items
