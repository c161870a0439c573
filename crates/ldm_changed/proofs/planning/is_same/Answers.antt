use Rattle.ldm_changed.proofs.PlanLaws.{same_spelled}
use Rattle.ldm_changed.proofs.planning.is_same.Goals as goal

pub returns-clause-spelled : goal.returns-clause-spelled
returns-clause-spelled c = same_spelled c.args.a.now c.args.b.now c.same.result c.spelled_len-len.ensures.sound c.spelled_len-other.ensures.sound c.same.ensures
