use Rattle.std.proofs.Common.{◌≡◌, ◌+◌, ◌≤◌, ◌∙◌, List, ℕ, All, ap, sym, subst, length, take, get_or, arith}
use Rattle.std.proofs.lemmas.List.{get_or_read}
use Rattle.ldm_frags.specs.Blocks.{count}
use Rattle.ldm_vmdb.specs.Parts.{parts_of, blocks_needed, IsSized}
use Rattle.ldm_written.specs.Written.{IsPlaced, laid_in_order}
use Rattle.ldm_written.proofs.HoldLaws.{need_next, need_within, need_push, placed_more}
use Rattle.ldm_written.proofs.splitting.write_records.Goals as goal

pub write_next-requires-clause-within : goal.write_next-requires-clause-within
write_next-requires-clause-within c =
    let payloads = c.args.payloads.now in
    let bytes = ap (λ (b : List ℕ). parts_of (length b)) c.as_slice-bytes.ensures in
    let within = need_within payloads c.loop-payload.payload-index c.payload-item.result c.loop-payload-test.true c.payload-item.is in
    omega arith

pub loop-payload-preserved : goal.loop-payload-preserved
loop-payload-preserved c =
    let payloads = c.args.payloads.now in
    let i = c.loop-payload.payload-index in
    let bytes = c.as_slice-bytes.result.now in
    let item : bytes ≡ get_or payloads i bytes = c.as_slice-bytes.ensures ∙ get_or_read payloads i c.payload-item.result c.loop-payload-test.true c.payload-item.is bytes in
    let next = need_next payloads i bytes c.loop-payload-test.true item in
    let need = ap blocks_needed next ∙ need_push (take i payloads) bytes in
    let within = need_within payloads i bytes c.loop-payload-test.true item in
    let sized : IsSized bytes = subst IsSized (sym item) (c.requires.sized i bytes c.loop-payload-test.true) in
    let room : c.loop-payload.number + parts_of (length bytes) ≤ count c.write_next.new.out + 4 = omega arith in
    record {
      next = omega arith;
      placed = subst (λ (before : List (List ℕ)). All (IsPlaced c.write_next.new.out) (laid_in_order 4 before)) (sym next)
          (placed_more c.loop-payload.out c.write_next.new.out (take i payloads) bytes c.loop-payload.number c.write_next.auto.out sized c.loop-payload.invariant.next room
          c.loop-payload.invariant.placed c.write_next.ensures.below c.write_next.ensures.written);
    }
