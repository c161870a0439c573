use Rattle.std.proofs.Common.{arith}
use Rattle.ldm_scrub.proofs.CompareLaws.{other_shape}
use Rattle.ldm_scrub.proofs.scrubbing.mark_some.Goals as goal

pub mark_some_copies-requires : goal.mark_some_copies-requires
mark_some_copies-requires g c = grind (arith, other_shape)

pub returns-in_default : goal.returns-in_default
returns-in_default g c = grind (arith, other_shape)
