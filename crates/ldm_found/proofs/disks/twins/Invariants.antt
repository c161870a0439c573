use Rattle.ldm_found.proofs.DiskLaws.{NoneBefore}
use Rattle.ldm_found.proofs.disks.twins.Given as goal

abbrev pub invariant-loop-i : goal.invariant-loop-i
invariant-loop-i l = NoneBefore l.labels l.i
