use Rattle.std.proofs.Common.{◌≡◌, ◌-◌, ◌*◌, ◌≤◌, take}
use Rattle.ldm_host.specs.Moves.{Looks}
use Rattle.ldm_dump.specs.Bytes.{bytes_of_sectors}
use Rattle.ldm_dump.proofs.dumping.read_many.Given as goal

abbrev pub invariant-runs : goal.invariant-runs
invariant-runs g l = record {
  looks : Looks (g.H.Host.seen l.fn.host) (g.H.Host.seen l.host) ⊥;
  few : l.count ≤ l.most;
  bytes : g.H.Host.tells_disks → take (512 * l.count) l.out ≡ bytes_of_sectors (g.H.Host.seen l.fn.host).content l.found l.plan l.sector l.count;
}

abbrev pub decreases-runs : goal.decreases-runs
decreases-runs g l = l.most - l.count
