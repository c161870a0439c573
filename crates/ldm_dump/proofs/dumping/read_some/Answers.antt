use Rattle.std.proofs.Common.{◌≡◌, ◌*◌, ◌++◌, length, take, drop, sym, ap, ◌∙◌, arith, ℕ}
use Rattle.std.proofs.lemmas.List.{length-take}
use Rattle.std.proofs.Math.Seq.{take-append_seam}
use Rattle.ldm_dump.proofs.ByteLaws.{run_text}
use Rattle.ldm_dump.proofs.ReadLaws.{kept_sources}
use Rattle.ldm_dump.proofs.dumping.read_some.Goals as goal

pub returns-clause-bytes : goal.returns-clause-bytes
returns-clause-bytes g c tells =
    let spots = kept_sources c.args.found.now c.args.plan.now c.args.sector c.requires.kept in
    let out = c.read_run.new.out in
    let n = c.min-count.result in
    let size : length out ≡ 512 * n = omega (arith, c.read_run.auto.out, length-take {A = ℕ}) in
    ap (λ (m : ℕ). take m (out ++ drop (512 * n) c.args.out.now)) (sym size)
    ∙ (take-append_seam out (drop (512 * n) c.args.out.now)
    ∙ run_text (g.H.Host.seen c.args.host.now).content c.args.found.now c.args.plan.now c.args.sector n spots.0 out
    (λ i lt. c.run_at-run.ensures.sources i (omega (arith, lt))) spots.1 size
    (λ j lt. c.in_ok-read_run.ensures.bytes tells spots.0 spots.1 j (omega (arith, lt))))
