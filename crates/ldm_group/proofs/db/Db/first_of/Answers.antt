use Rattle.std.proofs.Common.{◌≡◌, None, Some, option_copied, slice_get, rules, sym, ap, ◌∙◌, List, arith}
use Rattle.std.proofs.lemmas.Grind.{common_steps}
use Rattle.std.proofs.lemmas.Option.{gets}
use Rattle.ldm_records.specs.declared.types.Record.{Record}
use Rattle.ldm_group.proofs.HitLaws.{first_found, first_in}
use Rattle.ldm_group.proofs.LookLaws.{again_at, there_at}
use Rattle.ldm_group.proofs.db.Db.first_of.Goals as goal

pub returns-in_err-found-clause-is : goal.returns-in_err-found-clause-is
returns-in_err-found-clause-is c = λ test is.
    let none : c.args.found ≡ None = search rules in
    let nothing : option_copied c.from_residual.result ≡ None = search rules in
    nothing ∙ sym (first_found test c.args.self.now.records ∙ ap (first_in c.args.self.now.records) (sym is ∙ none))

got : (c : goal.After-get) → option_copied c.get.result ≡ slice_get c.args.self.now.records c.in_ok-found.field-0.first
got c =
    let seen : option_copied c.get.result ≡ slice_get c.as_slice.result.now c.in_ok-found.field-0.first = grind (arith, common_steps, gets, c.get.ensures.lookup) in
    seen ∙ ap (λ (records : List Record). slice_get records c.in_ok-found.field-0.first) c.as_slice.ensures.all

pub returns-clause-is : goal.returns-clause-is
returns-clause-is c = λ test is.
    let some : c.args.found ≡ Some c.in_ok-found.field-0 = search rules in
    got c ∙ sym (first_found test c.args.self.now.records ∙ ap (first_in c.args.self.now.records) (sym is ∙ some))

pub returns-clause-there : goal.returns-clause-there
returns-clause-there c = there_at c.get.result _ _ (got c)

pub returns-clause-again : goal.returns-clause-again
returns-clause-again c = again_at c.get.result _ _ c.as_slice.ensures.rising (got c)
