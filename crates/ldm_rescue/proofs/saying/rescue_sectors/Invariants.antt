use Rattle.std.proofs.Common.{◌≡◌, ℕ, ◌+◌, ◌-◌, ◌≤◌, ◌++◌, List}
use Rattle.ldm_host.specs.Moves.{Still, SameInput}
use Rattle.ldm_host.specs.Failed.{failed_since}
use Rattle.ldm_rescue.specs.Told.{SoFar}
use Rattle.ldm_rescue.proofs.saying.rescue_sectors.Given as goal

abbrev pub invariant-pieces : goal.invariant-pieces
invariant-pieces g l = record {
  still : Still (g.H.Host.seen l.fn.host) (g.H.Host.seen l.host);
  input : SameInput (g.H.Host.seen l.fn.host) (g.H.Host.seen l.host);
  within : l.done ≤ l.count;
  lost : l.losing.lost ≤ l.first + l.done;
  bytes : List ℕ;
  said : g.H.Host.tells_disks → (g.H.Host.seen l.host).said ≡ (g.H.Host.seen l.fn.host).said ++ bytes;
  so_far : SoFar g.H.Host.tells_disks g.L.Losses.tells (g.H.Host.seen l.fn.host).content (failed_since (g.H.Host.seen l.fn.host) (g.H.Host.seen l.host)) (g.L.Losses.lost l.fn.losses) (g.L.Losses.lost l.losses) l.losing l.found l.plan l.first l.done bytes;
}

abbrev pub decreases-pieces : goal.decreases-pieces
decreases-pieces g l = l.count - l.done
