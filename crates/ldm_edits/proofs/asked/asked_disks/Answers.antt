use Rattle.ldm_edits.proofs.AskedLaws.{asks_more, asks_none}
use Rattle.ldm_edits.proofs.asked.asked_disks.Goals as goal

pub loop-at-preserved : goal.loop-at-preserved
loop-at-preserved c =
    asks_more _ c.args.disks.now _ _ _ _ _ _ c.in-Some.one c.loop-at-test.true c.index-disks-at.is c.as_slice.ensures
    c.in-Some.ensures.is c.in-Some.ensures.low c.in_ok-push-in-Some.ensures.items c.loop-at.invariant

pub returns-in-None-clause-is : goal.returns-in-None-clause-is
returns-in-None-clause-is c =
    asks_none _ c.args.disks.now _ _ _ _ _ c.loop-at-test.true c.index-disks-at.is
    c.as_slice.ensures c.in-None.ensures.is c.loop-at.invariant
