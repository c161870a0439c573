use Rattle.ldm_group_tests.proofs.steps.run.Goals as goal

pub loop-row-preserved-in-Next : goal.loop-row-preserved-in-Next
loop-row-preserved-in-Next c =
    record {
      can_next = tt;
      finite = tt;
      sound = c.in_ok-outcome.ensures c.in-Next.next c.in-Next.is;
    }
