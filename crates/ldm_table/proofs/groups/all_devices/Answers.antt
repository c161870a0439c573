use Rattle.ldm_table.specs.Groups.{laid_volumes}
use Rattle.ldm_table.proofs.GroupLaws.{again_at, place_more}
use Rattle.ldm_table.proofs.groups.all_devices.Goals as goal

pub push_record-requires-clause-again : goal.push_record-requires-clause-again
push_record-requires-clause-again g c =
    again_at c.args.found.now.db.records _ c.loop-record.record-index c.record-item.result c.as_slice-record-items.ensures.all c.as_slice-record-items.ensures.rising c.loop-record-test.true c.record-item.is

pub loop-record-preserved : goal.loop-record-preserved
loop-record-preserved g c =
    let more =
    place_more c.args.words.now c.args.found.now (laid_volumes c.args.found.now.db.records) _ c.loop-record.record-index c.record-item.result c.loop-record.devices c.push_record.new.devices c.loop-record.first c.in_ok-fault.fault
    c.as_slice-record-items.ensures.all c.loop-record-test.true c.record-item.is c.in_ok-fault.ensures c.loop-record.invariant in
    rw c.or-first.ensures more
