use Rattle.std.proofs.Common.{◌∙◌, sym, ap, length}
use Rattle.ldm_view.proofs.ViewLaws.{view_still, still_carries, lie_still}
use Rattle.ldm_view.proofs.view.ViewHost.say.Goals as goal

pub invariant_of-self : goal.invariant_of-self
invariant_of-self g c =
    let now = c.args.self.now in
    let a = g.H.Host.seen now.host in
    let b = g.H.Host.seen c.say.new.self in
    let still = c.say.ensures.still in
    record {
      counted = now.counted ∙ ap length (sym still.later.sizes);
      lie = lie_still now.patches.items a b still now.lie;
      fixed = now.fixed;
      unrefused = now.unrefused;
      still = still_carries g.S.Start.start a b now.still still;
    }

pub returns-clause-still : goal.returns-clause-still
returns-clause-still g c =
    let now = c.args.self.now in
    view_still g.H.Host.tells_disks now.patches.items now.wrote.items now.refused (g.H.Host.seen now.host) (g.H.Host.seen c.say.new.self) c.say.ensures.still
