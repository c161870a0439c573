use Rattle.std.proofs.Common.{◌≡◌, ℕ, ◌+◌, ap, sym, subst, ◌∙◌, arith, Option}
use Rattle.ldm_places.specs.Layouts.{copies_of}
use Rattle.ldm_places.specs.declared.shape.Place.{Place}
use Rattle.ldm_dump.specs.Sources.{is_here}
use Rattle.ldm_dump.proofs.RunLaws.{Along, AllAbsent, along_more, absent_more, run_found, run_none}
use Rattle.ldm_dump.proofs.runs.run_at.Goals as goal

pub returns-then-is_here : goal.returns-then-is_here
returns-then-is_here c =
    run_found c.args.found.now c.args.plan.now c.args.sector c.copies.copy c.min-sectors.result
    (subst (λ (n : ℕ). Along c.args.plan.now c.args.sector (c.copies.copy + 1) n) (sym c.min-sectors.ensures)
    (along_more c.args.plan.now c.args.sector c.copies.copy c.copies.sectors c.stretch.result c.copies.invariant.so c.stretch.ensures))
    (omega (arith, c.copies-copy-end.ensures.is, c.copies-test.true)) c.copies.invariant.absent
    (ap (λ (p : Option Place). is_here c.args.found.now p) c.place.ensures ∙ (sym c.is_here.ensures ∙ c.if-is_here.true))

pub copies-preserved : goal.copies-preserved
copies-preserved c = record {
  so = subst (λ (n : ℕ). Along c.args.plan.now c.args.sector (c.copies.copy + 1) n) (sym c.min-sectors.ensures)
      (along_more c.args.plan.now c.args.sector c.copies.copy c.copies.sectors c.stretch.result c.copies.invariant.so c.stretch.ensures);
  absent = absent_more c.args.found.now c.args.plan.now c.args.sector c.copies.copy c.copies.invariant.absent
      (ap (λ (p : Option Place). is_here c.args.found.now p) c.place.ensures ∙ (sym c.is_here.ensures ∙ c.if-is_here.false));
}

pub returns : goal.returns
returns c =
    let all : c.copies.copy ≡ copies_of c.args.plan.now = omega (arith, c.copies-copy-end.ensures.is, c.copies-test.false, c.copies.auto.copy-end) in
    run_none c.args.found.now c.args.plan.now c.args.sector c.copies.sectors
    (subst (λ (n : ℕ). Along c.args.plan.now c.args.sector n c.copies.sectors) all c.copies.invariant.so)
    (subst (λ (n : ℕ). AllAbsent c.args.found.now c.args.plan.now c.args.sector n) all c.copies.invariant.absent)
