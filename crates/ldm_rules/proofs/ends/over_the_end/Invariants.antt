use Rattle.std.proofs.Common.{◌≡◌, ℕ, ◌<◌, false, get_or}
use Rattle.ldm_records.specs.declared.types.Record.{Record}
use Rattle.ldm_group.specs.Partitions.{EndsInRange}
use Rattle.ldm_rules.specs.Ends.{data_size}
use Rattle.ldm_rules.specs.Rules.{passes_end}
use Rattle.ldm_rules.proofs.ends.over_the_end.Given as goal

abbrev pub invariant-loop-r : goal.invariant-loop-r
invariant-loop-r l = record {
  keeps : (k : ℕ) (r : Record) → k < l.r-index → passes_end (data_size l.labels l.db.records) (get_or l.records k r) ≡ false;
  ends : (k : ℕ) (r : Record) → k < l.r-index → EndsInRange (get_or l.records k r);
}
