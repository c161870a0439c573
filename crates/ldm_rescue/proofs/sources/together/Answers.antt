use Rattle.std.proofs.Common.{◌≡◌, ℕ, ◌+◌, sym, subst, arith}
use Rattle.ldm_places.specs.Layouts.{copies_of}
use Rattle.ldm_dump.proofs.RunLaws.{Along, along_more}
use Rattle.ldm_rescue.proofs.SourceLaws.{together_all}
use Rattle.ldm_rescue.proofs.sources.together.Goals as goal

pub copies-preserved : goal.copies-preserved
copies-preserved c =
    subst (λ (n : ℕ). Along c.args.plan.now c.args.sector (c.copies.copy + 1) n) (sym c.min-sectors.ensures)
    (along_more c.args.plan.now c.args.sector c.copies.copy c.copies.sectors c.stretch.result c.copies.invariant c.stretch.ensures)

pub returns : goal.returns
returns c =
    let all : c.copies.copy ≡ copies_of c.args.plan.now = omega (arith, c.copies-copy-end.ensures.is, c.copies-test.false, c.copies.auto.copy-end) in
    together_all c.args.plan.now c.args.sector c.copies.sectors (subst (λ (n : ℕ). Along c.args.plan.now c.args.sector n c.copies.sectors) all c.copies.invariant)
