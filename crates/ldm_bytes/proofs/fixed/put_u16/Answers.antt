use Rattle.ldm_bytes.proofs.Written.{written}
use Rattle.ldm_bytes.proofs.fixed.put_u16.Goals as goal

pub returns : goal.returns
returns c = written c.args.buf.now c.args.at 2 _ c.write_u16.new.buf c.requires c.write_u16.ensures
