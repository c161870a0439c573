use Rattle.std.proofs.Common.{arith}
use Rattle.ldm_records.proofs.Sound.{partition_sound}
use Rattle.ldm_records.proofs.listing.partition_sound.Goals as goal

pub returns : goal.returns
returns c =
    partition_sound c.args.p.now (omega arith) (omega arith) (omega arith) (omega arith) (omega arith) (omega arith) (omega arith) (omega arith) c.number_field-index.ensures.fits
