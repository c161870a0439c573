use Rattle.std.proofs.Common.{◌≡◌, true, false, ap, sym, ◌∙◌, arith, Option, is_some, Some}
use borrow.Author.Count.{below_more}
use Rattle.ldm_places.specs.declared.shape.Place.{Place}
use Rattle.ldm_places.specs.Columns.{own_column}
use Rattle.ldm_dump.specs.Sources.{is_here, is_beside}
use Rattle.ldm_dump.proofs.RunLaws.{beside_false, beside_own, beside_here, others_in, others_out}
use Rattle.ldm_rescue.proofs.sources.are_others_here.Goals.{else-column-own-via-then-column-own+else-is_none, else-column-own-via-else-column-own}
use Rattle.ldm_rescue.proofs.sources.are_others_here.Goals as goal

pub returns-then-is_none : goal.returns-then-is_none
returns-then-is_none c =
    let here : is_here c.args.found.now (Some c.column.result) ≡ false = ap is_some (sym c.image_of.ensures) ∙ c.if-is_none.ensures in
    sym (others_out c.args.found.now c.args.plan.now c.args.sector c.columns.column c.requires.raid5 (omega (arith, c.columns-column-end.ensures.count, c.columns-test.true))
    (beside_false c.columns.column (own_column c.args.plan.now c.args.sector) _ (λ e. c.if-column-own.true (e ∙ sym c.own_column-own.ensures.is)) (ap (λ (p : Option Place). is_here c.args.found.now p) c.column.ensures ∙ here)))

pub columns-preserved : goal.columns-preserved
columns-preserved c =
    below_more (λ d. is_beside c.args.found.now c.args.plan.now c.args.sector d ≡ true) c.columns.column c.columns.invariant
    (elim c.else-column-own.branch [
      | else-column-own-via-then-column-own+else-is_none w ↦ beside_here c.columns.column (own_column c.args.plan.now c.args.sector) _
          (ap (λ (p : Option Place). is_here c.args.found.now p) w.column.ensures ∙ (ap is_some (sym w.image_of.ensures) ∙ w.if-is_none.ensures))
      | else-column-own-via-else-column-own w ↦ beside_own c.columns.column (own_column c.args.plan.now c.args.sector) _ (w.if-column-own.false ∙ c.own_column-own.ensures.is)
    ])

pub returns : goal.returns
returns c = sym (others_in c.args.found.now c.args.plan.now c.args.sector c.requires.raid5
    (λ d lt. c.columns.invariant d (omega (arith, lt, c.columns-column-end.ensures.count, c.columns-test.false))))
