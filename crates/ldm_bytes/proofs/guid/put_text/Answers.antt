use Rattle.std.proofs.Common.{arith, length-take}
use Rattle.ldm_bytes.proofs.guid.put_text.Goals as goal

pub copy_from_slice-requires : goal.copy_from_slice-requires
copy_from_slice-requires c = omega (arith, length-take 36 c.args.out.now, c.requires.room, c.requires.whole)
