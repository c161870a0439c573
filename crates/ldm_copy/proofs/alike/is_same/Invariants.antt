use Rattle.std.proofs.Common.{◌≡◌, ◌*◌, min}
use Rattle.ldm_host.specs.Seen.{image}
use Rattle.ldm_host.specs.Moves.{Looks}
use Rattle.ldm_copy.specs.Alike.{sectors_from}
use Rattle.ldm_copy.proofs.alike.is_same.Given as goal

abbrev pub invariant-loop-chunk : goal.invariant-loop-chunk
invariant-loop-chunk g l =
    let start = g.H.Host.seen l.fn.host in
    let done = min (8 * l.chunk) l.sectors in
    record {
      looks : Looks start (g.H.Host.seen l.host) ⊥;
      same : g.H.Host.tells_disks → sectors_from l.from done (image start.content l.disk) ≡ sectors_from l.other_from done (image start.content l.other);
    }
