use Rattle.std.proofs.Common.{arith}
use Rattle.std.proofs.lemmas.Grind.{common_steps}
use Rattle.ldm_edits.specs.Changes.{limits}
use Rattle.ldm_edits.specs.Staying.{change_of}
use Rattle.ldm_edits.proofs.limits.first_limit.Goals as goal

pub returns-then-has_ids : goal.returns-then-has_ids
unfolding limits
returns-then-has_ids c =
    let change = change_of c.args.leaving c.args.db.now.records c.args.made.now in
    grind (arith, common_steps, c.later_limit.ensures c.args.db.now change)
