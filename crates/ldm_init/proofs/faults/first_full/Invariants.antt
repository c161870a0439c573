use Rattle.std.proofs.Common.{None, take}
use Rattle.ldm_host.specs.Moves.{Looks}
use Rattle.ldm_found.specs.Gathers.{IsFirst}
use Rattle.ldm_init.specs.Faults.{IsFull}
use Rattle.ldm_init.proofs.faults.first_full.Given as goal

abbrev pub invariant-loop-disk : goal.invariant-loop-disk
invariant-loop-disk g l =
    let start = g.H.Host.seen l.fn.host in
    record {
      looks : Looks start (g.H.Host.seen l.host) ⊥;
      before : g.H.Host.tells_disks → IsFirst IsFull (take l.disk start.content) None;
    }
