use Rattle.std.proofs.Common.{arith}
use Rattle.ldm_bytes.proofs.NumberLaws.{own_len, width_fits}
use Rattle.ldm_written.proofs.records.push_number.Goals as goal

pub put_number-end-requires : goal.put_number-end-requires
put_number-end-requires c = omega (arith, own_len c.args.v, (width_fits c.args.v (omega arith)).1)
