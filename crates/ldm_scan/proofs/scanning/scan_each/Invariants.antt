use Rattle.std.proofs.Common.{◌≡◌, ◌-◌, ◌≤◌, ℕ, drop, false}
use Rattle.ldm_host.specs.Moves.{Quiet, Still}
use Rattle.ldm_host.specs.Failed.{failed_since, fails_on}
use Rattle.ldm_scan.specs.Findings.{opened_count}
use Rattle.ldm_scan.proofs.FindingLaws.{Continues}
use Rattle.ldm_scan.proofs.scanning.scan_each.Given as goal

abbrev pub invariant-loop-cause : goal.invariant-loop-cause
invariant-loop-cause g l =
    let start = g.H.Host.seen l.fn.host in
    let now = g.H.Host.seen l.host in
    let rest = drop l.cause-index l.causes in
    record {
      still : ∥ Still start now ∥₁;
      quiet : Quiet start now;
      left : l.left ≡ opened_count rest;
      most : l.left ≤ l.disks;
      ahead : g.H.Host.tells_disks → (d : ℕ) → l.disks - l.left ≤ d → fails_on d (failed_since start now) ≡ false;
      found : g.H.Host.tells_disks → Continues (failed_since start now) start.content (l.disks - l.left) rest l.causes l.findings.items;
    }
