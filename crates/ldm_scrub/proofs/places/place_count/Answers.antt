use Rattle.std.proofs.Common.{ℕ, subst, sym, ◌∙◌}
use Rattle.ldm_scrub.specs.Compare.{IsCount}
use Rattle.ldm_scrub.proofs.CompareLaws.{count_others, other_shape}
use Rattle.ldm_scrub.proofs.places.place_count.Goals as goal

pub returns-in_default : goal.returns-in_default
returns-in_default c =
    subst (λ (n : ℕ). IsCount c.args.plan.now n) (sym c.size.ensures)
    (count_others c.args.plan.now (other_shape c.args.plan.now.shape (λ is. c.in_default.not-Raid5 (c.shape.ensures ∙ is))))
