use Rattle.std.proofs.Common.{◌*◌, ◌-◌, ◌<◌, ◌≤◌, take, is_some}
use Rattle.std.specs.Option.{IfSome}
use Rattle.ldm_host.specs.Moves.{Looks}
use Rattle.ldm_rescue.specs.Rescued.{AreRescued, HaveCause}
use Rattle.ldm_host.specs.Failed.{failed_since}
use Rattle.ldm_rescue.proofs.reading.rescue_singly.Given as goal

abbrev pub invariant-sectors : goal.invariant-sectors
invariant-sectors g l = record {
  looks : Looks (g.H.Host.seen l.fn.host) (g.H.Host.seen l.host) ⊥;
  some : 0 < l.count;
  few : l.count ≤ l.most;
  bytes : g.H.Host.tells_disks → AreRescued (g.H.Host.seen l.fn.host).content (failed_since (g.H.Host.seen l.fn.host) (g.H.Host.seen l.host)) l.found l.plan l.sector l.count (λ x. is_some l.lost) (take (512 * l.count) l.out);
  cause : g.H.Host.tells_disks → IfSome l.lost (HaveCause l.found l.plan (failed_since (g.H.Host.seen l.fn.host) (g.H.Host.seen l.host)) l.sector l.count);
}

abbrev pub decreases-sectors : goal.decreases-sectors
decreases-sectors g l = l.most - l.count
