use Rattle.std.proofs.Common.{◌≡◌, ℕ, ◌-◌, ◌<◌, ◌≤◌, false}
use Rattle.ldm_table.specs.Faults.{is_rebuilt}
use Rattle.ldm_table.proofs.faults.first_rebuilt.Given as goal

abbrev pub invariant-runs : goal.invariant-runs
invariant-runs l = record {
  from : l.first ≤ l.sector;
  within : l.sector ≤ l.plan.size;
  copied : (y : ℕ) → l.first ≤ y → y < l.sector → is_rebuilt l.found l.plan y ≡ false;
}

abbrev pub decreases-runs : goal.decreases-runs
decreases-runs l = l.plan.size - l.sector
