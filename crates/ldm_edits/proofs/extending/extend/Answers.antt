use Rattle.std.proofs.Common.{ap}
use Rattle.ldm_edits.proofs.Common.{Database}
use Rattle.ldm_edits.proofs.extending.extend.Goals as goal

pub change-requires-clause-rising : goal.change-requires-clause-rising
change-requires-clause-rising c up =
    rw (ap (λ (d : Database). d.records) c.none-added.ensures.whole) at c.in_ok-step.ensures.is.1.rising
