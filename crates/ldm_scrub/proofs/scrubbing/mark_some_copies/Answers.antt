use Rattle.std.proofs.Common.{◌≡◌, ◌+◌, ℕ, length, drop, arith, ap, sym, ◌∙◌}
use Rattle.std.proofs.lemmas.List.{length-take, get_or_append_left}
use Rattle.ldm_scrub.specs.Compare.{is_bad, mark}
use Rattle.ldm_scrub.proofs.CompareLaws.{sector_other}
use Rattle.ldm_scrub.proofs.scrubbing.mark_some_copies.Goals as goal

pub returns-clause-marks : goal.returns-clause-marks
returns-clause-marks g c tells i lt =
    let l = c.args.plan.now in
    let size : length c.mark_copies.new.marks ≡ c.min-count.result = omega (arith, c.mark_copies.auto.marks, length-take {A = ℕ}) in
    get_or_append_left c.mark_copies.new.marks (drop c.min-count.result c.args.marks.now) 0 i (omega (arith, size, lt))
    ∙ (c.in_ok-mark_copies.ensures.marks tells i (omega (arith, size, lt))
    ∙ ap (λ (x : ℕ). mark (is_bad (g.H.Host.seen c.args.host.now).content c.args.found.now l x)) (sym (sector_other l (c.args.place + i) c.requires.other)))
