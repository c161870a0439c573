use Rattle.std.proofs.Common.{◌<◌, ◌∙◌, ℕ, List, length, drop, sym, ap, subst}
use Rattle.ldm_host.specs.Failed.{fails_on}
use Rattle.ldm_scan.proofs.LoneLaws.{still_carries}
use Rattle.ldm_host.specs.declared.host.DiskRange.{DiskRange}
use Rattle.ldm_scan.proofs.lone.LoneHost.say.Goals as goal

pub invariant_of-self : goal.invariant_of-self
invariant_of-self g c =
    let now = c.args.self.now in
    let a = g.H.Host.seen now.host in
    let b = g.H.Host.seen c.say.new.self in
    let still = c.say.ensures.still in
    record {
      there = subst (λ (l : List ℕ). now.disk < length l) (sym still.later.sizes) now.there;
      fixed = now.fixed;
      noted = λ tells other. ap (λ (l : List DiskRange). fails_on other (drop (length g.S.Start.start.failed) l)) c.say.ensures.account ∙ now.noted tells other;
      unrefused = now.unrefused;
      still = still_carries g.S.Start.start a b now.still still;
    }
