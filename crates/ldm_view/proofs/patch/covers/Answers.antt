use Rattle.std.proofs.Common.{length, refl, arith}
use Rattle.std.proofs.lemmas.Option.{slice_get_read}
use Rattle.ldm_view.proofs.patch.covers.Goals as goal

pub returns-then-from-n : goal.returns-then-from-n
returns-then-from-n c same = record {
  number = c.loop-p.p-index;
  patch = c.p-item.result;
  there = slice_get_read c.args.patches.now (length c.args.patches.now) c.loop-p.p-index c.p-item.result refl c.loop-p-test.true c.p-item.is;
  here = c.if-p-disk.true;
  first = c.if-p-from.true;
  last = omega (arith, c.if-from-n.true, c.len.ensures);
}
