use Rattle.std.proofs.Common.{◌≡◌, ℕ, ◌+◌, ◌≤◌, Bool, true, false, cond, ap, sym, ◌∙◌, arith}
use Rattle.ldm_dump.specs.Sources.{is_lost}
use Rattle.ldm_dump.proofs.CountLaws.{lost_more}
use Rattle.ldm_dump.proofs.losing.lost_before.Goals.{then-is_run_lost, else-is_run_lost}
use Rattle.ldm_dump.proofs.losing.lost_before.Goals as goal

pub runs-preserved : goal.runs-preserved
runs-preserved c =
    let found = c.args.found.now in
    let l = c.args.plan.now in
    let n = c.min-sectors.result in
    let le : n ≤ c.run_at-run.result.sectors = omega (arith, c.min-sectors.ensures) in
    let more = lost_more found l c.runs.sector n c.run_at-run.result c.run_at-run.ensures le in
    let lost : c.if-is_run_lost.lost ≡ c.runs.lost + cond (is_lost found l c.runs.sector) n 0 =
    elim c.if-is_run_lost.branch [
      | then-is_run_lost w ↦ w.lost-is ∙ ap (λ (b : Bool). c.runs.lost + cond b n 0) (sym (sym c.is_run_lost.ensures ∙ w.if-is_run_lost.true))
      | else-is_run_lost w ↦ w.lost-is ∙ (omega arith ∙ ap (λ (b : Bool). c.runs.lost + cond b n 0) (sym (sym c.is_run_lost.ensures ∙ w.if-is_run_lost.false)))
    ] in
    let few : cond (is_lost found l c.runs.sector) n 0 ≤ n = go (is_lost found l c.runs.sector) n in
    record {
      inside = omega (arith, c.min-sectors.ensures, c.runs-test.true);
      few = omega (arith, lost, few, c.runs.invariant.few);
      counted = omega (arith, lost, more, c.runs.invariant.counted);
    }
  where
    go : (b : Bool) (m : ℕ) → cond b m 0 ≤ m
    go true m = omega arith
    go false m = omega arith
