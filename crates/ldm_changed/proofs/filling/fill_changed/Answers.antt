use Rattle.std.proofs.Common.{◌≡◌, ◌+◌, ◌-◌, ◌*◌, ℕ, List, [], length, slice_index, drop, sym, ap, subst, ◌∙◌, arith}
use Rattle.std.proofs.lemmas.List.{drop_all}
use Rattle.ldm_host.specs.Seen.{image}
use Rattle.ldm_host.specs.Moves.{Writes}
use Rattle.ldm_host.proofs.ChangeLaws.{writes_change, changes_trans, changes_syncs}
use Rattle.ldm_copy.specs.Copy.{gate_at}
use Rattle.ldm_body.proofs.RewriteLaws.{on_ok_map}
use Rattle.ldm_changed.specs.Change.{Changed, IsChangedBody, ChangesFrom}
use Rattle.ldm_changed.proofs.FillLaws.{HasAllBut, all_there, run_within, filled_first, filled_step, same_change}
use Rattle.ldm_changed.proofs.filling.fill_changed.Goals as goal

-- the parts of a change, as they were read
parts : {inside_body inside_numbers body numbers : List ℕ} (change : Changed)
    → record { body = inside_body; numbers = inside_numbers } ≡ change
    → IsChangedBody inside_body inside_numbers
    → body ≡ inside_body → numbers ≡ inside_numbers
    → (record { body = body; numbers = numbers } ≡ change) × IsChangedBody body numbers
parts {inside_numbers = inside_numbers} {body = body} change view is e f = (
  (λ i. record { body = e i; numbers = f i })
      ∙ view,
  subst (λ (l : List ℕ). IsChangedBody body l) (sym f)
      (subst (λ (l : List ℕ). IsChangedBody l inside_numbers) (sym e) is),
)

pub write_part-requires-clause-small : goal.write_part-requires-clause-small
write_part-requires-clause-small g c =
    let it = parts c.args.change.now c.change.view_is c.change.invariant c.as_slice-body.ensures.value c.as_slice-numbers.ensures in
    let size = ap (λ (v : Changed). length v.body) it.0 in
    omega (arith, size, c.requires.room, c.gate_at-at.ensures.small)

pub write_part-requires-in-loop-k-clause-small : goal.write_part-requires-in-loop-k-clause-small
write_part-requires-in-loop-k-clause-small g c =
    let it = parts c.args.change.now c.change.view_is c.change.invariant c.as_slice-body.ensures.value c.as_slice-numbers.ensures in
    let size = ap (λ (v : Changed). length v.body) it.0 in
    omega (arith, size, c.requires.room, c.gate_at-at.ensures.small)

pub returns-in_err-write_part-clause-changes : goal.returns-in_err-write_part-clause-changes
returns-in_err-write_part-clause-changes g c =
    let seen = g.H.Host.seen in
    let it = parts c.args.change.now c.change.view_is c.change.invariant c.as_slice-body.ensures.value c.as_slice-numbers.ensures in
    let size = ap (λ (v : Changed). length v.body) it.0 in
    let some = it.1.some in
    writes_change c.args.disk (c.gate_at-at.result + 1) 511 (gate_at c.args.label.now + 1) (length c.args.change.now.body - 1) (seen c.args.host.now) (seen c.write_part.new.host)
    (omega (arith, c.gate_at-at.ensures.is)) (omega (arith, c.gate_at-at.ensures.is, some, size)) c.write_part.ensures.writes

pub loop-k-init : goal.loop-k-init
loop-k-init g c =
    let seen = g.H.Host.seen in
    let start = seen c.args.host.now in
    let at = c.gate_at-at.result in
    let it = parts c.args.change.now c.change.view_is c.change.invariant c.as_slice-body.ensures.value c.as_slice-numbers.ensures in
    record {
      filled = filled_first g.H.Host.tells_disks c.args.disk at c.as_slice-body.result.now c.as_slice-numbers.result.now start
          (seen c.write_part.new.host) it.1.some c.write_part.ensures.writes
          (λ t.
          let before = c.requires.before t in (
            before.0,
            subst (λ (v : Changed). ChangesFrom before.0 v) (sym it.0) before.1,
            λ k low high. ap (λ (n : ℕ). slice_index (image start.content c.args.disk) (n + k)) c.gate_at-at.ensures.is ∙ before.2 k low high,
          ))
          (λ t. c.in_ok-write_part.ensures.written t);
      within = omega arith;
    }

pub overflow_add-from : goal.overflow_add-from
overflow_add-from g c =
    let it = parts c.args.change.now c.change.view_is c.change.invariant c.as_slice-body.ensures.value c.as_slice-numbers.ensures in
    let in_body = run_within c.as_slice-body.result.now c.as_slice-numbers.result.now c.loop-k.k
    c.run_from-run.result it.1 c.run_from-run.ensures.some c.run_from-run.ensures.within c.run_from-run.ensures.run in
    omega (arith, in_body.1)

pub overflow_mul-run : goal.overflow_mul-run
overflow_mul-run g c = omega (arith, overflow_add-from g c)

pub write_part-requires-in-loop-k-clause-within : goal.write_part-requires-in-loop-k-clause-within
write_part-requires-in-loop-k-clause-within g c =
    let it = parts c.args.change.now c.change.view_is c.change.invariant c.as_slice-body.ensures.value c.as_slice-numbers.ensures in (
    run_within c.as_slice-body.result.now c.as_slice-numbers.result.now c.loop-k.k
    c.run_from-run.result it.1 c.run_from-run.ensures.some c.run_from-run.ensures.within
    c.run_from-run.ensures.run).1

pub returns-in_err-write_part-2-clause-changes : goal.returns-in_err-write_part-2-clause-changes
returns-in_err-write_part-2-clause-changes g c =
    let seen = g.H.Host.seen in
    let start = seen c.args.host.now in
    let now = seen c.loop-k.host in
    let next = seen c.write_part-in-loop-k.new.host in
    let at = c.gate_at-at.result in
    let numbers = c.as_slice-numbers.result.now in
    let n = slice_index numbers c.loop-k.k in
    let m = c.run_from-run.result in
    let it = parts c.args.change.now c.change.view_is c.change.invariant c.as_slice-body.ensures.value c.as_slice-numbers.ensures in
    let size = ap (λ (v : Changed). length v.body) it.0 in
    let in_body = run_within c.as_slice-body.result.now numbers c.loop-k.k m it.1
    c.run_from-run.ensures.some c.run_from-run.ensures.within c.run_from-run.ensures.run in
    let low = in_body.0 in
    let high = in_body.1 in
    same_change c.args.disk (at + 1) (gate_at c.args.label.now + 1) (length c.as_slice-body.result.now - 1) (length c.args.change.now.body - 1) start next
    (ap (λ (m : ℕ). m + 1) c.gate_at-at.ensures.is) (ap (λ (m : ℕ). m - 1) size)
    (changes_trans c.args.disk (at + 1) (length c.as_slice-body.result.now - 1) start now next c.requires.disk c.loop-k.invariant.filled.changes
    (writes_change c.args.disk (at + 128 * n) (128 * n + 128 * m - 128 * n) (at + 1) (length c.as_slice-body.result.now - 1) now next (omega (arith, low)) (omega (arith, high, low)) c.write_part-in-loop-k.ensures.writes))

pub loop-k-preserved : goal.loop-k-preserved
loop-k-preserved g c =
    let seen = g.H.Host.seen in
    let start = seen c.args.host.now in
    let now = seen c.loop-k.host in
    let next = seen c.write_part-in-loop-k.new.host in
    let at = c.gate_at-at.result in
    let numbers = c.as_slice-numbers.result.now in
    let n = slice_index numbers c.loop-k.k in
    let m = c.run_from-run.result in
    let it = parts c.args.change.now c.change.view_is c.change.invariant c.as_slice-body.ensures.value c.as_slice-numbers.ensures in
    let in_body = run_within c.as_slice-body.result.now numbers c.loop-k.k m it.1
    c.run_from-run.ensures.some c.run_from-run.ensures.within c.run_from-run.ensures.run in
    let span : 128 * n + 128 * m - 128 * n ≡ 128 * m = omega arith in
    record {
      filled = filled_step g.H.Host.tells_disks c.args.disk at c.as_slice-body.result.now numbers c.loop-k.k m n start now next c.requires.disk
          c.run_from-run.ensures.run c.run_from-run.ensures.within in_body.0 in_body.1 c.loop-k.invariant.filled
          (subst (λ (m : ℕ). Writes c.args.disk (at + 128 * n) m now next) span c.write_part-in-loop-k.ensures.writes)
          (λ t. c.in_ok-write_part-2.ensures.written t);
      within = c.run_from-run.ensures.within;
    }

pub returns-clause-filled : goal.returns-clause-filled
returns-clause-filled g c tells =
    let seen = g.H.Host.seen in
    let now = seen c.loop-k.host in
    let at = c.gate_at-at.result in
    let body = c.as_slice-body.result.now in
    let it = parts c.args.change.now c.change.view_is c.change.invariant c.as_slice-body.ensures.value c.as_slice-numbers.ensures in
    let body_is = ap (λ (v : Changed). v.body) it.0 in
    let none : drop c.loop-k.k c.as_slice-numbers.result.now ≡ [] = drop_all c.loop-k.k c.as_slice-numbers.result.now c.loop-k-test.false in
    let has = subst (λ (l : List ℕ). HasAllBut at body l (image now.content c.args.disk)) none (c.loop-k.invariant.filled.there tells) in
    on_ok_map c.sync.result _ _ (λ settled x left k low high.
    ap (λ (l : List ℕ). slice_index l (gate_at c.args.label.now + k)) (settled x left ∙ ap (λ (l : List (List ℕ)). image l c.args.disk) c.sync.ensures.syncs.content)
    ∙ ap (λ (n : ℕ). slice_index (image now.content c.args.disk) (n + k)) (sym c.gate_at-at.ensures.is)
    ∙ all_there at body (image now.content c.args.disk) has k low (omega (arith, high, ap (λ (l : List ℕ). length l) body_is))
    ∙ ap (λ (l : List ℕ). slice_index l k) body_is)
    c.sync.ensures.settled

pub returns-clause-changes : goal.returns-clause-changes
returns-clause-changes g c =
    let seen = g.H.Host.seen in
    let start = seen c.args.host.now in
    let at = c.gate_at-at.result in
    let it = parts c.args.change.now c.change.view_is c.change.invariant c.as_slice-body.ensures.value c.as_slice-numbers.ensures in
    let size = ap (λ (v : Changed). length v.body) it.0 in
    same_change c.args.disk (at + 1) (gate_at c.args.label.now + 1) (length c.as_slice-body.result.now - 1) (length c.args.change.now.body - 1) start (seen c.sync.new.self)
    (ap (λ (m : ℕ). m + 1) c.gate_at-at.ensures.is) (ap (λ (m : ℕ). m - 1) size)
    (changes_syncs c.args.disk (at + 1) (length c.as_slice-body.result.now - 1) start (seen c.loop-k.host) (seen c.sync.new.self) c.requires.disk c.loop-k.invariant.filled.changes c.sync.ensures.syncs)
