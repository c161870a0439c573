use Rattle.std.proofs.Common.{ℕ, ap, ◌∙◌}
use Rattle.ldm_dump.specs.Sources.{lost_before, lost_sectors}
use Rattle.ldm_dump.proofs.losing.lost_sectors.Goals as goal

pub returns-in_default : goal.returns-in_default
unfolding lost_sectors
returns-in_default c = c.lost_before.ensures ∙ ap (λ (n : ℕ). lost_before c.args.found.now c.args.plan.now n) c.size.ensures
