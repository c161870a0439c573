use Rattle.std.proofs.Common.{arith}
use Rattle.ldm_records.proofs.Sound.{volume_sound}
use Rattle.ldm_records.proofs.listing.volume_sound.Goals as goal

pub returns : goal.returns
returns c =
    volume_sound c.args.v.now (omega arith) (omega arith) (omega arith) (omega arith) (omega arith) (omega arith) (omega arith) (omega arith) c.number_field-size2.ensures.fits
