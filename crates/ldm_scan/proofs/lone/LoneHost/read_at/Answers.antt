use Rattle.std.proofs.Common.{◌<◌, ◌+◌, ◌∙◌, ℕ, List, length, drop, sym, ap, subst, arith}
use Rattle.ldm_host.specs.declared.host.DiskRange.{DiskRange}
use Rattle.ldm_host.specs.Failed.{fails_on}
use Rattle.ldm_scan.proofs.LoneLaws.{lone_looks, still_carries}
use Rattle.ldm_scan.proofs.FailLaws.{fails_more, more_rose, note_more}
use Rattle.ldm_scan.proofs.lone.LoneHost.read_at.Goals as goal

pub invariant_of-self : goal.invariant_of-self
invariant_of-self g c =
    let now = c.args.self.now in
    let a = g.H.Host.seen now.host in
    let b = g.H.Host.seen c.read_at.new.self in
    let still = c.in-Ok.ensures.looks.still in
    record {
      there = subst (λ (l : List ℕ). now.disk < length l) (sym still.later.sizes) now.there;
      fixed = now.fixed;
      noted = λ tells other. ap (λ (l : List DiskRange). fails_on other (drop (length g.S.Start.start.failed) l)) (c.in-Ok.ensures.read tells) ∙ now.noted tells other;
      unrefused = now.unrefused;
      still = still_carries g.S.Start.start a b now.still still;
    }

pub invariant_of-self-in-Err : goal.invariant_of-self-in-Err
invariant_of-self-in-Err g c =
    let now = c.args.self.now in
    let a = g.H.Host.seen now.host in
    let b = g.H.Host.seen c.read_at.new.self in
    let still = c.in-Err.ensures.looks.still in
    record {
      there = subst (λ (l : List ℕ). now.disk < length l) (sym still.later.sizes) now.there;
      fixed = now.fixed;
      noted = λ tells other.
          fails_more other g.S.Start.start a b.failed _ now.still (c.in-Err.ensures.failed tells)
          ∙ note_more other g.S.Start.chosen now.disk now.unread c.saturating_add-self.result (fails_on other (drop (length g.S.Start.start.failed) a.failed)) now.fixed c.saturating_add-self.ensures (now.noted tells other);
      unrefused = now.unrefused;
      still = still_carries g.S.Start.start a b now.still still;
    }

pub returns-in-Ok-clause-looks : goal.returns-in-Ok-clause-looks
returns-in-Ok-clause-looks g c =
    let now = c.args.self.now in
    lone_looks g.H.Host.tells_disks now.disk now.wrote (now.unread + now.refused) (now.unread + now.refused) (g.H.Host.seen now.host) (g.H.Host.seen c.read_at.new.self) _ _ (omega arith) (λ failed. absurd (cc failed)) c.in-Ok.ensures.looks

pub returns-in-Err-clause-looks : goal.returns-in-Err-clause-looks
returns-in-Err-clause-looks g c =
    let now = c.args.self.now in
    let more = c.saturating_add-self.result in
    lone_looks g.H.Host.tells_disks now.disk now.wrote (now.unread + now.refused) (more + now.refused) (g.H.Host.seen now.host) (g.H.Host.seen c.read_at.new.self) _ _
    (omega (arith, c.saturating_add-self.ensures)) (λ failed. more_rose now.unread more now.refused c.saturating_add-self.ensures) c.in-Err.ensures.looks
