use Rattle.std.proofs.Common.{◌≡◌, ℕ, Some, None, sym, ap, ◌∙◌}
use Rattle.ldm_group.specs.Order.{kind_of, id_of}
use Rattle.ldm_group.specs.Looks.{by_id}
use Rattle.ldm_changed.proofs.PlanLaws.{has_by}
use Rattle.ldm_changed.proofs.planning.has.Goals as goal

pub returns-in-Some-clause-is : goal.returns-in-Some-clause-is
returns-in-Some-clause-is c =
    let records = c.args.db.now.records in
    let r = c.args.r.now in
    let found : by_id (kind_of r) (id_of r) records ≡ Some c.in-Some.other.now =
    ap (λ (k : ℕ). by_id k (id_of r) records) (sym c.kind_of.ensures) ∙ ap (λ (i : ℕ). by_id c.kind_of.result i records) (sym c.id_of.ensures) ∙ sym c.in-Some.ensures.is in
    c.is_same.ensures.spelled ∙ sym (has_by records r (Some c.in-Some.other.now) found)

pub returns-in-None-clause-is : goal.returns-in-None-clause-is
returns-in-None-clause-is c =
    let records = c.args.db.now.records in
    let r = c.args.r.now in
    let found : by_id (kind_of r) (id_of r) records ≡ None =
    ap (λ (k : ℕ). by_id k (id_of r) records) (sym c.kind_of.ensures) ∙ ap (λ (i : ℕ). by_id c.kind_of.result i records) (sym c.id_of.ensures) ∙ sym c.in-None.ensures.is in
    sym (has_by records r None found)
