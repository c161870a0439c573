use Rattle.ldm_table.proofs.GroupLaws.{again_at}
use Rattle.ldm_explain.proofs.tables.judged_volumes.Goals as goal

pub judge-requires-clause-again : goal.judge-requires-clause-again
judge-requires-clause-again g c =
    again_at c.args.found.now.db.records _ c.loop-record.record-index c.record-item.result c.as_slice-record-items.ensures.all c.as_slice-record-items.ensures.rising c.loop-record-test.true c.record-item.is
