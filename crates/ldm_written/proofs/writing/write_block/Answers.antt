use Rattle.std.proofs.Common.{◌+◌, ◌-◌, ◌*◌, ◌++◌, ◌∙◌, List, ℕ, ap, length, replicate, arith}
use Rattle.ldm_bytes.specs.Places.{put}
use Rattle.ldm_frags.specs.Blocks.{head, written_block}
use Rattle.ldm_bytes.proofs.PlaceLaws.{put-put}
use Rattle.ldm_written.proofs.writing.write_block.Goals as goal

pub returns : goal.returns
unfolding written_block
returns c =
    let number = c.args.number in
    let first = head number c.args.group c.args.part c.args.parts in
    let bytes = c.args.bytes.now ++ replicate (112 - length c.args.bytes.now) 0 in
    c.put_bytes-2.ensures
    ∙ ap (put c.put_bytes.new.buf (128 * (number - 4) + 16)) c.payload_of.ensures
    ∙ ap (λ (b : List ℕ). put b (128 * (number - 4) + 16) bytes) (c.put_bytes.ensures ∙ ap (put c.args.out.now (128 * (number - 4))) c.head_of.ensures)
    ∙ put-put c.args.out.now (128 * (number - 4)) first bytes (omega arith)
