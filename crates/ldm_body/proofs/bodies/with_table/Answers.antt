use Rattle.std.proofs.Common.{sym, subst}
use Rattle.std.proofs.lemmas.List.{take_rest}
use Rattle.ldm_group.specs.Order.{Rising}
use Rattle.ldm_body.proofs.bodies.with_table.Goals as goal

pub table_of-requires-clause-rising : goal.table_of-requires-clause-rising
table_of-requires-clause-rising c = subst Rising (sym c.as_slice.ensures.all) c.as_slice.ensures.rising

pub unreachable-requires : goal.unreachable-requires
unreachable-requires c =
    (rw (
      take_rest c.as_slice-all.result.now 512,
      c.as_slice-all.ensures,
      c.as_slice.ensures.all,
    ) at (c.in_ok-table.ensures.none c.in_default.is))
    c.requires.body.is.blocks

pub new-requires : goal.new-requires
new-requires c =
    let held = rw (
      c.in-Some.is,
      take_rest c.as_slice-all.result.now 512,
      c.as_slice-all.ensures,
      c.as_slice.ensures.all,
    ) at c.in_ok-table.ensures.held in
    record {
      db = c.args.db.now;
      body = c.requires.body;
      small = c.requires.high;
      one_each = held.one_each;
      sound = held.sound;
      holds = held.holds;
    }
