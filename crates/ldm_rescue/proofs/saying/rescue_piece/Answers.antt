use Rattle.std.proofs.Common.{◌≡◌, ℕ, ◌+◌, ◌*◌, ◌≤◌, ◌++◌, List, length, take, refl, sym, ◌∙◌, ap, subst, arith, append_assoc, is_some}
use Rattle.ldm_host.specs.declared.host.DiskRange.{DiskRange}
use Rattle.ldm_host.proofs.Relations.{looks_then}
use Rattle.ldm_rescue.specs.Rescued.{AreRescued}
use Rattle.ldm_host.specs.Failed.{failed_since}
use Rattle.ldm_rescue.proofs.LossLaws.{lost_few}
use Rattle.ldm_rescue.proofs.ToldLaws.{so_far_more, so_far_as, since_then, step_bytes, full_bytes}
use Rattle.ldm_rescue.proofs.saying.rescue_piece.Goals as goal

pub steps-preserved : goal.steps-preserved
steps-preserved g c =
    let next = c.rescue_some-read.ensures in
    let read = c.rescue_some-read.result in
    let old = g.H.Host.seen c.args.host.now in
    let mid = g.H.Host.seen c.steps.host in
    let new = g.H.Host.seen c.rescue_some-read.new.host in
    let done = c.steps.done in
    let front : List ℕ = take (512 * done) c.steps.buffer in
    let part : List ℕ = c.rescue_some-read.new.buffer in
    let more : List ℕ = take (512 * read.count) part in
    let here : 512 * done ≤ length c.steps.buffer = omega arith in
    let adds = c.add_read.ensures.adds in
    let looks = c.steps.invariant.looks in
    record {
      looks = looks_then looks next.looks (λ is. is);
      few = omega (arith, next.fits);
      lost = omega (arith, c.add_read.ensures.lost, lost_few read.lost read.count);
      so_far = λ failed before first n bytes at so.
          so_far_as _ _ _ ((failed ++ failed_since old mid) ++ failed_since mid new) _ _ _ _ _ _ _ (n + done + read.count) _ ((bytes ++ front) ++ more) _
          (ap (λ (l : List DiskRange). failed ++ l) (since_then old.failed mid.failed new.failed looks.still.later.failed next.looks.still.later.failed) ∙ sym (append_assoc failed (failed_since old mid) (failed_since mid new)))
          (omega arith)
          (ap (λ (t : List ℕ). bytes ++ t) (step_bytes done read.count c.steps.buffer part _ here (omega (arith, next.room))) ∙ sym (append_assoc bytes front more))
          (so_far_more _ _ old.content (failed ++ failed_since old mid) (failed_since mid new) before _ _ _ _ c.args.found.now c.args.plan.now first (n + done) (c.args.sector + done) read.count (bytes ++ front) more read.lost adds.0
          (omega (arith, at)) next.some (c.steps.invariant.so_far failed before first n bytes at so)
          (λ tells. subst (λ (i : List (List ℕ)). AreRescued i (failed_since mid new) c.args.found.now c.args.plan.now (c.args.sector + done) read.count (λ x. is_some read.lost) more) looks.still.content (next.bytes tells))
          next.cause adds.1 c.add_read.ensures.lost adds.2);
    }

pub returns-clause-so_far : goal.returns-clause-so_far
returns-clause-so_far g c failed before first n bytes at so =
    let whole : c.steps.done ≡ c.args.count = omega (arith, c.steps.invariant.few, c.steps-test.false) in
    let size : length c.steps.buffer ≡ 512 * c.args.count = omega (arith, c.steps.auto.buffer, c.requires.whole) in
    so_far_as _ _ _ (failed ++ failed_since (g.H.Host.seen c.args.host.now) (g.H.Host.seen c.steps.host)) _ _ _ _ _ _ _ (n + c.steps.done) _ (bytes ++ take (512 * c.steps.done) c.steps.buffer) _
    refl (omega (arith, whole)) (ap (λ (t : List ℕ). bytes ++ t) (sym (full_bytes c.args.count c.steps.done c.steps.buffer size whole)))
    (c.steps.invariant.so_far failed before first n bytes at so)
