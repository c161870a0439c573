use Rattle.std.proofs.Common.{◌≤◌, length, sym, arith}
use Rattle.std.specs.Prelude.{filter}
use Rattle.std.proofs.lemmas.List.{append-nil, take_all, drop_all}
use Rattle.ldm_body.specs.Body.{Stored, stored_at}
use Rattle.ldm_changed.specs.Plan.{record_stays}
use Rattle.ldm_body.proofs.BodyLaws.{stored_length, stored_get}
use Rattle.ldm_changed.proofs.PlanLaws.{freed_step, slots_used}
use Rattle.ldm_changed.proofs.planning.free_gone.Goals as goal

pub keep_or_free-requires : goal.keep_or_free-requires
keep_or_free-requires c =
    let S = stored_at c.args.records.now c.args.table.now in
    let x : Stored = record { record_is = c.index-records-i.result; slots = c.index-table-i.result } in
    let size = stored_length c.args.records.now c.args.table.now c.requires.one_each in
    let at = stored_get c.args.records.now c.args.table.now c.loop-i.i c.index-records-i.result c.index-table-i.result x c.loop-i-test.true c.requires.one_each c.index-records-i.is c.index-table-i.is in
    record { within = slots_used S c.args.new.now.records c.loop-i.i x (omega (arith, size, c.loop-i-test.true)) at c.args.out.now c.loop-i.out c.loop-i.kept.items c.loop-i.invariant }

pub loop-i-preserved : goal.loop-i-preserved
loop-i-preserved c =
    let S = stored_at c.args.records.now c.args.table.now in
    let x : Stored = record { record_is = c.index-records-i.result; slots = c.index-table-i.result } in
    let size = stored_length c.args.records.now c.args.table.now c.requires.one_each in
    let at = stored_get c.args.records.now c.args.table.now c.loop-i.i c.index-records-i.result c.index-table-i.result x c.loop-i-test.true c.requires.one_each c.index-records-i.is c.index-table-i.is in
    freed_step S c.args.new.now.records c.loop-i.i x (omega (arith, size, c.loop-i-test.true)) at c.args.out.now c.loop-i.out c.keep_or_free.new.out c.loop-i.kept.items c.keep_or_free.new.kept.items
    c.has-stays.result (omega (arith, c.keep_or_free.auto.out)) (omega (arith, c.loop-i.auto.out, c.requires.small)) (sym c.has-stays.ensures.is) (λ e. c.has-stays.ensures.there e) c.in_ok-keep_or_free.ensures c.loop-i.invariant

pub returns : goal.returns
returns c =
    let S = stored_at c.args.records.now c.args.table.now in
    let le : length S ≤ c.loop-i.i = omega (
      arith,
      stored_length c.args.records.now c.args.table.now
          c.requires.one_each,
      c.loop-i-test.false,
    ) in
    let all = take_all c.loop-i.i S le in
    let w = c.loop-i.invariant in
    record {
      kept = rw all at w.kept_is;
      holds = rw (
        all,
        drop_all c.loop-i.i S le,
        append-nil (filter (record_stays c.args.new.now.records) S),
      ) at w.holds;
      others = rw all at w.others;
      there = rw all at w.there;
    }
