use Rattle.std.proofs.Common.{◌≡◌, ◌++◌, drop}
use Rattle.ldm_host.specs.Moves.{Looks}
use Rattle.ldm_look.specs.CheckJson.{goods_of}
use Rattle.ldm_look.proofs.GoodLaws.{goods_from}
use Rattle.ldm_look.proofs.counting.count_goods.Given as goal

abbrev pub invariant-loop-disk : goal.invariant-loop-disk
invariant-loop-disk g l =
    let start = g.H.Host.seen l.fn.host in
    record {
      looks : Looks start (g.H.Host.seen l.host) ⊥;
      goods : g.H.Host.tells_disks → l.goods.items ++ goods_from start.content l.disk (drop l.disk l.labels) ≡ goods_of start.content l.labels;
    }
