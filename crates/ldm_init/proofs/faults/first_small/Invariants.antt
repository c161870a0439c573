use Rattle.std.proofs.Common.{None, take}
use Rattle.ldm_found.specs.Gathers.{IsFirst}
use Rattle.ldm_init.specs.Faults.{IsSmall}
use Rattle.ldm_init.proofs.faults.first_small.Given as goal

abbrev pub invariant-loop-disk : goal.invariant-loop-disk
invariant-loop-disk g l = IsFirst IsSmall (take l.disk (g.H.Host.seen l.host).sizes) None
