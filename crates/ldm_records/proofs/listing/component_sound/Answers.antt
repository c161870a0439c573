use Rattle.std.proofs.Common.{arith}
use Rattle.ldm_records.proofs.Sound.{component_sound}
use Rattle.ldm_records.proofs.listing.component_sound.Goals as goal

pub returns : goal.returns
returns c =
    component_sound c.args.c.now (omega arith) (omega arith) (omega arith) (omega arith) (omega arith) (omega arith) c.chunk_field-chunk.ensures.fits
