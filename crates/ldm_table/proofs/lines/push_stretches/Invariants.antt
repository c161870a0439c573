use Rattle.std.proofs.Common.{◌≡◌, ◌-◌, ◌≤◌, ◌++◌}
use Rattle.ldm_table.specs.Tables.{before, stretches_of}
use Rattle.ldm_table.proofs.LineLaws.{lines_text}
use Rattle.ldm_table.proofs.lines.push_stretches.Given as goal

abbrev pub invariant-stretches : goal.invariant-stretches
invariant-stretches g l = record {
  text : l.text ++ lines_text l.words (before l.last (stretches_of l.found l.plan l.sector (l.plan.size - l.sector))) ≡ l.fn.text ++ lines_text l.words (stretches_of l.found l.plan l.first (l.plan.size - l.first));
  from : l.first ≤ l.sector;
  within : l.sector ≤ l.plan.size;
  few : l.last.sectors ≤ l.sector;
}

abbrev pub decreases-stretches : goal.decreases-stretches
decreases-stretches g l = l.plan.size - l.sector
