use Rattle.std.proofs.Common.{refl}
use Rattle.ldm_written.specs.Free.{is_free}
use Rattle.ldm_written.proofs.HoldEdits.{pass_more}
use Rattle.ldm_changed.proofs.planning.free_blocks.Goals as goal

pub loop-k-preserved : goal.loop-k-preserved
loop-k-preserved c = pass_more (is_free c.args.out.now) c.loop-k.k _ _ _ _ c.loop-k.invariant c.is_free.ensures refl c.in_ok-push_if.ensures
