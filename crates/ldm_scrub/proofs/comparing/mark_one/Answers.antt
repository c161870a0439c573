use Rattle.std.proofs.Common.{◌≡◌, ◌+◌, ℕ, arith, ap, ◌∙◌}
use Rattle.ldm_dump.proofs.ReadLaws.{on_ok}
use Rattle.ldm_scrub.specs.Compare.{is_bad, is_bad_at, mark}
use Rattle.ldm_scrub.proofs.comparing.mark_one.Goals as goal

pub returns-in-Raid5-clause-marks : goal.returns-in-Raid5-clause-marks
returns-in-Raid5-clause-marks g c tells =
    let images = (g.H.Host.seen c.args.host.now).content in
    let here : c.row_place-place.result + 0 ≡ c.row_place-place.result = omega arith in
    on_ok c.mark_rows.result _ _ (c.mark_rows.ensures.marks tells)
    (λ marked. marked 0 (omega arith)
    ∙ (ap (λ (p : ℕ). mark (is_bad_at images c.args.found.now c.args.plan.now p)) here
    ∙ ap (λ (x : ℕ). mark (is_bad images c.args.found.now c.args.plan.now x)) c.row_place-place.ensures))

pub returns-in_default : goal.returns-in_default
returns-in_default g c =
    let images = (g.H.Host.seen c.args.host.now).content in
    let here : c.args.sector + 0 ≡ c.args.sector = omega arith in
    record {
      marks = λ tells. on_ok c.mark_copies.result _ _ (c.mark_copies.ensures.marks tells)
          (λ marked. marked 0 (omega arith) ∙ ap (λ (x : ℕ). mark (is_bad images c.args.found.now c.args.plan.now x)) here);
      looks = c.mark_copies.ensures.looks;
    }
