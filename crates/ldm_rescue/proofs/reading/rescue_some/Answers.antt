use Rattle.std.proofs.Common.{◌≡◌, ℕ, List, ◌*◌, ◌≤◌, sym, subst, arith, length, take, drop, true}
use Rattle.std.proofs.lemmas.List.{length-take-le}
use Rattle.ldm_rescue.specs.Rescued.{sources_in_order, AreRescued}
use Rattle.ldm_host.specs.Failed.{failed_since}
use Rattle.ldm_rescue.proofs.SourceLaws.{first_absent, together_less}
use Rattle.ldm_rescue.proofs.RescueLaws.{none_first, lost_run, front_part, absent_along}
use Rattle.ldm_rescue.proofs.reading.rescue_some.Goals as goal

pub returns-in-None-clause-bytes : goal.returns-in-None-clause-bytes
returns-in-None-clause-bytes g c tells =
    let old = g.H.Host.seen c.args.host.now in
    let found = c.args.found.now in
    let l = c.args.plan.now in
    let n = c.min-most.result in
    let so = together_less l c.args.sector c.together.result n c.together.ensures (omega (arith, c.min-most.ensures, c.min.ensures, c.together.ensures.some, c.requires.some, c.requires.room)) (omega (arith, c.min-most.ensures, c.min.ensures)) in
    let none = none_first (sources_in_order found l c.args.sector) (sym c.in-None.ensures.is) in
    let few : 512 * n ≤ length c.args.buffer.now = omega (arith, c.min-most.ensures) in
    let part : length (take (512 * n) c.args.buffer.now) ≡ 512 * n = length-take-le (512 * n) c.args.buffer.now few in
    let size : length c.clear.new.out ≡ 512 * n = omega (arith, c.clear.auto.out, part) in
    subst (λ (t : List ℕ). AreRescued old.content (failed_since old old) found l c.args.sector n (λ y. true) t) (sym (front_part c.clear.new.out (drop (512 * n) c.args.buffer.now) (512 * n) size))
    (lost_run old.content (failed_since old old) found l c.args.sector n c.clear.new.out so none size (λ j lt. c.clear.ensures j (omega (arith, lt, size, part))))

pub returns-in-None-clause-cause : goal.returns-in-None-clause-cause
returns-in-None-clause-cause g c tells i lt =
    let found = c.args.found.now in
    let l = c.args.plan.now in
    let none = none_first (sources_in_order found l c.args.sector) (sym c.in-None.ensures.is) in
    absent_along found l c.args.sector c.together.result i c.first_disk.result c.together.ensures (omega (arith, lt, c.min-most.ensures, c.min.ensures)) c.first_disk.ensures.some
    (record { first = c.first_disk.ensures.is; absent = first_absent found l c.args.sector none c.first_disk.ensures.some; none = none })
