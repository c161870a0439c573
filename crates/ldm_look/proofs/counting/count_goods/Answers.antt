use Rattle.std.proofs.Common.{rules, arith}
use Rattle.ldm_host.proofs.Relations.{looks_then, looks_as}
use Rattle.ldm_look.proofs.GoodLaws.{goods_next, goods_all}
use Rattle.ldm_look.proofs.counting.count_goods.Goals as goal

pub returns-in_err-count_good-clause-looks : goal.returns-in_err-count_good-clause-looks
returns-in_err-count_good-clause-looks g c = looks_then c.loop-disk.invariant.looks c.in_err-count_good.ensures.looks (λ is. search rules)

pub returns-in_err-push-clause-looks : goal.returns-in_err-push-clause-looks
returns-in_err-push-clause-looks g c = looks_then c.loop-disk.invariant.looks c.in_ok-count_good.ensures.looks (λ is. search rules)

pub loop-disk-preserved : goal.loop-disk-preserved
loop-disk-preserved g c =
    let content = (g.H.Host.seen c.args.host.now).content in
    record {
      looks = looks_then c.loop-disk.invariant.looks c.in_ok-count_good.ensures.looks (λ is. absurd is);
      goods = λ tells.
          let is = rw c.loop-disk.invariant.looks.still.content at (c.in_ok-count_good.ensures.is tells) in
          goods_next content c.args.labels.now c.loop-disk.disk _ c.loop-disk.goods.items c.push.new.self.items _ c.in_ok-count_good.field-0 c.loop-disk-test.true is
          c.in_ok-push.ensures.items (c.loop-disk.invariant.goods tells);
    }

pub returns-clause-is : goal.returns-clause-is
returns-clause-is g c tells =
    goods_all (g.H.Host.seen c.args.host.now).content c.args.labels.now c.loop-disk.disk c.loop-disk.goods.items _ (omega (arith, c.loop-disk-test.false)) (c.loop-disk.invariant.goods tells)
