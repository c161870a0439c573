use Rattle.std.proofs.Common.{ℕ, List, refl, sym, subst}
use Rattle.ldm_label.specs.declared.Label.{Label}
use Rattle.ldm_init.specs.Moments.{AllTake}
use Rattle.ldm_init.proofs.InitLaws.{writes_as, writes_stopped, writes_done}
use Rattle.ldm_init.proofs.group.write_plan.Goals as goal

pub write_group-requires-clause-takes : goal.write_group-requires-clause-takes
write_group-requires-clause-takes g c =
    let sizes = (g.H.Host.seen c.args.host.now).sizes in
    subst (λ (l : List Label). AllTake l c.as_slice.result.now sizes) (sym c.deref.ensures.value)
    (subst (λ (b : List ℕ). AllTake c.args.plan.labels.items b sizes) (sym c.as_slice.ensures.value) c.requires.takes)

pub returns-in-Ok-clause-writes : goal.returns-in-Ok-clause-writes
returns-in-Ok-clause-writes g c = writes_as (g.H.Host.seen c.args.host.now) (g.H.Host.seen c.write_group.new.host) c.deref.ensures.value c.as_slice.ensures.value (writes_done c.in-Ok.ensures)

pub returns-clause-writes : goal.returns-clause-writes
returns-clause-writes g c =
    writes_as (g.H.Host.seen c.args.host.now) (g.H.Host.seen c.write_group.new.host) c.deref.ensures.value c.as_slice.ensures.value
    (writes_stopped _ _ _ _ _ refl c.in-Err.ensures.any_moment c.in-Err.ensures.works refl)
