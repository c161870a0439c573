use Rattle.std.proofs.Common.{◌≡◌, ◌+◌, drop}
use Rattle.ldm_scan.specs.Findings.{opened_count}
use Rattle.ldm_job_tests.proofs.scanning.are_disks.Given as goal

abbrev pub invariant-loop-cause : goal.invariant-loop-cause
invariant-loop-cause l = l.disks + opened_count (drop l.cause-index l.causes) ≡ l.left + opened_count l.causes
