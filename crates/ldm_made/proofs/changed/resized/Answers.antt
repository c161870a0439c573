use Rattle.std.proofs.Common.{refl}
use Rattle.ldm_made.proofs.MadeLaws.{resized_is}
use Rattle.ldm_made.proofs.changed.resized.Goals as goal

pub returns : goal.returns
returns c = resized_is c.args.volume.now c.in_ok-resized.resized _ c.args.size c.requires c.in_ok-resized.ensures refl
