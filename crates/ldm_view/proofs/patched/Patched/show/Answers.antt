use Rattle.std.proofs.Common.{is_ok}
use Rattle.ldm_view.proofs.ViewLaws.{lie_more}
use Rattle.ldm_view.proofs.patched.Patched.show.Goals as goal

pub invariant_of-self : goal.invariant_of-self
invariant_of-self g c =
    let now = c.args.self.now in
    record { lie = lie_more (g.H.Host.seen now.host).sizes now.patches.items c.push.new.self.items c.args.patch (is_ok c.push.result) c.push.ensures.items c.requires now.lie }
