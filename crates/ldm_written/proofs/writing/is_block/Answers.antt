use Rattle.ldm_written.proofs.WriteLaws.{block_then, block_else}
use Rattle.ldm_written.proofs.writing.is_block.Goals as goal

pub returns-then-eq : goal.returns-then-eq
returns-then-eq c =
    block_then c.args.blocks.now c.args.number c.args.group c.args.part c.args.parts _ c.head_of-head.result c.payload_of-payload.result c.eq.result c.eq-then-eq.result c.head_of-head.ensures c.payload_of-payload.ensures
    c.eq.ensures c.if-eq.true c.eq-then-eq.ensures

pub returns-else-eq : goal.returns-else-eq
returns-else-eq c = block_else c.args.blocks.now c.args.number c.args.group c.args.part c.args.parts _ c.head_of-head.result c.eq.result c.head_of-head.ensures c.eq.ensures c.if-eq.false
