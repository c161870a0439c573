use Rattle.ldm_dump.proofs.RunLaws.{least_of}
use Rattle.ldm_dump.proofs.losing.lost.Goals as goal

pub returns : goal.returns
returns c = least_of c.args.found.now c.args.plan.now c.size.result c.lost_in.result c.size.ensures c.lost_in.ensures
