use Rattle.std.proofs.Common.{ℕ, Option, ap, sym, ◌∙◌}
use Rattle.ldm_scrub.proofs.CompleteLaws.{is_some_of, owner_test}
use Rattle.ldm_scrub.proofs.missing.is_of.Goals as goal

pub returns-in-Some : goal.returns-in-Some
returns-in-Some c = sym (owner_test c.args.db.now.records c.args.volume c.args.p.now.parent c.requires
    ∙ ap (λ (o : Option ℕ). is_some_of c.args.volume o) (sym c.owner.ensures ∙ c.in-Some.is))

pub returns-in-None : goal.returns-in-None
returns-in-None c = sym (owner_test c.args.db.now.records c.args.volume c.args.p.now.parent c.requires
    ∙ ap (λ (o : Option ℕ). is_some_of c.args.volume o) (sym c.owner.ensures ∙ c.in-None.is))
