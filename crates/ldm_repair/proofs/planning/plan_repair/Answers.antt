use Rattle.std.proofs.Common.{inr, subst}
use Rattle.ldm_view.specs.Patches.{shown}
use Rattle.ldm_found.specs.Answers.{FindsIn}
use Rattle.ldm_repair.proofs.planning.plan_repair.Goals as goal

pub returns-in-Ok-clause-fault : goal.returns-in-Ok-clause-fault
returns-in-Ok-clause-fault g c tells fault failed =
    let views = shown c.args.under.patches.items (g.H.Host.seen c.args.under.host).content in
    inr (c.in-Ok.found, subst (FindsIn views) c.in-Ok.is (c.find_shown-under.ensures.found tells), c.plan_of.ensures.fault fault failed)
