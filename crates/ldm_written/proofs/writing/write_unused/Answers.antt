use Rattle.std.proofs.Common.{replicate, refl}
use Rattle.ldm_written.specs.Written.{unused_block}
use Rattle.ldm_written.proofs.WriteLaws.{written_here, written_other}
use Rattle.ldm_frags.proofs.BlockLaws.{written_length}
use Rattle.ldm_written.proofs.writing.write_unused.Goals as goal

pub returns-clause-here : goal.returns-clause-here
returns-clause-here c =
    written_here c.args.out.now c.write_block.new.out c.args.number (unused_block c.args.number)
    (record { from = c.requires.within.0; within = c.requires.within.1; block = written_length c.args.number 0 0 0 (replicate 112 0) refl; put = c.write_block.ensures })

pub returns-clause-others : goal.returns-clause-others
returns-clause-others c b low ne =
    written_other c.args.out.now c.write_block.new.out c.args.number (unused_block c.args.number)
    (record { from = c.requires.within.0; within = c.requires.within.1; block = written_length c.args.number 0 0 0 (replicate 112 0) refl; put = c.write_block.ensures }) b low ne
