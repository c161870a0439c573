use Rattle.std.proofs.Common.{◌≡◌, ℕ, ◌+◌, ◌-◌, ◌*◌, ◌≤◌, ◌++◌, List, take}
use Rattle.ldm_host.specs.Moves.{Looks}
use Rattle.ldm_host.specs.declared.host.DiskRange.{DiskRange}
use Rattle.ldm_rescue.specs.declared.losses.Loss.{Loss}
use Rattle.ldm_host.specs.Failed.{failed_since}
use Rattle.ldm_rescue.specs.Told.{SoFar}
use Rattle.ldm_rescue.proofs.saying.rescue_piece.Given as goal

abbrev pub invariant-steps : goal.invariant-steps
invariant-steps g l = record {
  looks : Looks (g.H.Host.seen l.fn.host) (g.H.Host.seen l.host) ⊥;
  few : l.done ≤ l.count;
  lost : l.losing.lost ≤ l.sector + l.done;
  so_far : (failed : List DiskRange) (before : List Loss) (first n : ℕ) (bytes : List ℕ) → l.sector ≡ first + n
      → SoFar g.H.Host.tells_disks g.L.Losses.tells (g.H.Host.seen l.fn.host).content failed before (g.L.Losses.lost l.fn.losses) l.fn.losing l.found l.plan first n bytes
      → SoFar g.H.Host.tells_disks g.L.Losses.tells (g.H.Host.seen l.fn.host).content (failed ++ failed_since (g.H.Host.seen l.fn.host) (g.H.Host.seen l.host)) before (g.L.Losses.lost l.losses) l.losing l.found l.plan first (n + l.done) (bytes ++ take (512 * l.done) l.buffer);
}

abbrev pub decreases-steps : goal.decreases-steps
decreases-steps g l = l.count - l.done
