use Rattle.std.proofs.Common.{◌+◌, ◌-◌, ◌*◌, ◌<◌, ◌≤◌, ◌∙◌, ℕ, List, ap, sym, length, slice_index, arith, below_more}
use Rattle.ldm_bytes.specs.Places.{put}
use Rattle.ldm_frags.specs.Blocks.{count, written_block}
use Rattle.ldm_vmdb.specs.Parts.{parts_of}
use Rattle.ldm_written.specs.Written.{part_bytes}
use Rattle.ldm_written.proofs.HoldLaws.{part_length}
use Rattle.ldm_written.proofs.WriteLaws.{Writes, written_here, written_other}
use Rattle.ldm_frags.proofs.BlockLaws.{written_length}
use Rattle.ldm_written.proofs.writing.write_parts.Goals as goal

pub loop-part-preserved : goal.loop-part-preserved
loop-part-preserved c =
    let payload = c.args.payload.now in
    let numbers = c.args.numbers.now in
    let part = c.loop-part.part in
    let number = slice_index numbers part in
    let first = slice_index numbers 0 in
    let n = length numbers in
    let within : part < parts_of (length payload) = omega (arith, c.requires.whole, c.loop-part-test.true) in
    let block = written_block number first part n (part_bytes payload part) in
    let in_use = c.requires.within part 0 c.loop-part-test.true in
    let low : 4 ≤ number = in_use.0 in
    let high : number < count c.loop-part.out + 4 = omega (arith, in_use.1, c.loop-part.auto.out) in
    let w : Writes c.loop-part.out c.write_block.new.out number block = record {
      from = low;
      within = high;
      block = written_length number first part n (part_bytes payload part) (part_length payload part within);
      put = c.write_block.ensures
          ∙ ap (λ (b : List ℕ). put c.loop-part.out (128 * (number - 4)) (written_block number first part n b)) c.part_of-bytes.ensures.bytes;
    } in
    record {
      written = below_more _ _
          (λ i lt. written_other c.loop-part.out c.write_block.new.out number block w (slice_index numbers i)
          (c.requires.within i 0 (omega (arith, lt, c.loop-part-test.true))).0
          (λ e. c.requires.apart i part 0 lt c.loop-part-test.true e)
          ∙ c.loop-part.invariant.written i lt)
          (written_here c.loop-part.out c.write_block.new.out number block w);
      others = λ b from avoid.
          written_other c.loop-part.out c.write_block.new.out number block w b from (λ e. avoid part 0 c.loop-part-test.true (sym e))
          ∙ c.loop-part.invariant.others b from avoid;
    }
