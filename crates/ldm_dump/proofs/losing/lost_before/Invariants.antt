use Rattle.std.proofs.Common.{◌≡◌, ◌-◌, ◌≤◌}
use Rattle.ldm_dump.specs.Sources.{lost_before}
use Rattle.ldm_dump.proofs.losing.lost_before.Given as goal

abbrev pub invariant-runs : goal.invariant-runs
invariant-runs l = record {
  inside : l.sector ≤ l.end;
  few : l.lost ≤ l.sector;
  counted : l.lost ≡ lost_before l.found l.plan l.sector;
}

abbrev pub decreases-runs : goal.decreases-runs
decreases-runs l = l.end - l.sector
