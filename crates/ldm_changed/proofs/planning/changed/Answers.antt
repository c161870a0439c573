use Rattle.std.proofs.Common.{refl}
use Rattle.ldm_changed.specs.Plan.{block_differs}
use Rattle.ldm_written.proofs.HoldEdits.{pass_more}
use Rattle.ldm_changed.proofs.planning.changed.Goals as goal

pub loop-k-preserved : goal.loop-k-preserved
loop-k-preserved c = pass_more (block_differs c.args.old.now c.args.new.now) c.loop-k.k _ _ _ _ c.loop-k.invariant c.differs.ensures refl c.in_ok-push_if.ensures
