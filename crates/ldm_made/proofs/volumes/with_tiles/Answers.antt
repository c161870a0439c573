use Rattle.std.proofs.Common.{◌+◌, arith}
use Rattle.std.proofs.lemmas.List.Sums.{sum_by_more, sum_by-take-le}
use Rattle.ldm_made.specs.declared.taken.Taken.{Taken}
use Rattle.ldm_made.proofs.PartWalk.{tiles_more}
use Rattle.ldm_made.proofs.volumes.with_tiles.Goals as goal

pub overflow_add-offset : goal.overflow_add-offset
overflow_add-offset c =
    let more = sum_by_more (λ (t : Taken). t.size) c.args.spots.now c.loop-at.at (record { disk = 0; start = 0; size = 0 }) c.loop-at-test.true in
    let all = sum_by-take-le (λ (t : Taken). t.size) c.args.spots.now (c.loop-at.at + 1) in
    omega arith

pub loop-at-preserved : goal.loop-at-preserved
loop-at-preserved c = record {
  items = tiles_more c.args.records.items c.loop-at.records.items c.push.new.self.items c.args.spots.now c.args.id c.args.component c.args.from c.loop-at.at c.loop-at.offset (record { disk = 0; start = 0; size = 0 }) c.in_ok-tile.tile
      c.loop-at-test.true c.loop-at.invariant.items c.loop-at.invariant.sums c.in_ok-tile.ensures c.in_ok-push.ensures.items;
  sums = (let more = sum_by_more (λ (t : Taken). t.size) c.args.spots.now c.loop-at.at (record { disk = 0; start = 0; size = 0 }) c.loop-at-test.true in omega arith);
}
