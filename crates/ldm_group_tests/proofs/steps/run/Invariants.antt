use Rattle.ldm_rules.specs.Facts.{IsSoundOn}
use Rattle.ldm_group_tests.proofs.steps.run.Given as goal

abbrev pub invariant-loop-row : goal.invariant-loop-row
invariant-loop-row l =
    record {
      can_next : (goal.iterator-loop-row).can_next l.row-iterator;
      finite : (goal.iterator-loop-row).is_finite l.row-iterator;
      sound : IsSoundOn l.db l.labels;
    }
