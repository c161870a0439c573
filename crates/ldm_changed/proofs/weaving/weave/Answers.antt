use Rattle.std.proofs.Common.{sym, arith}
use Rattle.ldm_changed.proofs.NextLaws.{woven_within, woven_step, woven_all}
use Rattle.ldm_changed.proofs.weaving.weave.Goals as goal

pub weave_one-requires : goal.weave_one-requires
weave_one-requires c = record {
  within = woven_within c.args.records.now c.args.old.now.records c.args.kept.now c.args.made.now c.loop-j.j c.index-records-j.result c.loop-j-test.true (sym c.index-records-j.is)
      c.requires.kept c.requires.made c.has-there.result c.loop-j.taken c.loop-j.table.items (sym c.has-there.ensures.is) c.loop-j.invariant;
}

pub loop-j-preserved : goal.loop-j-preserved
loop-j-preserved c =
    woven_step c.args.records.now c.args.old.now.records c.args.kept.now c.args.made.now c.loop-j.j c.index-records-j.result c.loop-j-test.true (sym c.index-records-j.is)
    c.requires.kept c.requires.made c.has-there.result c.loop-j.taken c.in_ok-taken.taken c.loop-j.table.items c.weave_one.new.table.items (sym c.has-there.ensures.is) c.in_ok-taken.ensures c.loop-j.invariant

pub returns-clause-same : goal.returns-clause-same
returns-clause-same c =
    (woven_all c.args.records.now c.args.old.now.records c.args.kept.now c.args.made.now c.loop-j.j
    c.loop-j.taken c.loop-j.table.items (omega arith) c.requires.kept c.requires.made
    c.loop-j.invariant).1
