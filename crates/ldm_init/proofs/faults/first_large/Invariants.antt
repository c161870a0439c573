use Rattle.std.proofs.Common.{None, take}
use Rattle.ldm_found.specs.Gathers.{IsFirst}
use Rattle.ldm_init.specs.Faults.{IsTooLarge}
use Rattle.ldm_init.proofs.faults.first_large.Given as goal

abbrev pub invariant-loop-disk : goal.invariant-loop-disk
invariant-loop-disk g l = IsFirst IsTooLarge (take l.disk (g.H.Host.seen l.host).sizes) None
