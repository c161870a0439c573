use Rattle.std.proofs.Common.{◌≡◌, ◌*◌, min}
use Rattle.ldm_frags.specs.Fed.{IsFed}
use Rattle.ldm_host.specs.Moves.{Looks}
use Rattle.ldm_host.specs.Seen.{image}
use Rattle.ldm_copy.specs.Steps.{IsRead}
use Rattle.ldm_copy.proofs.reading.feed_sectors.Given as goal

abbrev pub invariant-loop-chunk : goal.invariant-loop-chunk
invariant-loop-chunk g l =
    let start = g.H.Host.seen l.fn.host in
    record {
      looks : Looks start (g.H.Host.seen l.host) ⊥;
      limit : l.joiner.limit ≡ l.fn.joiner.limit;
      read : IsRead g.H.Host.tells_disks (image start.content l.disk) l.from (min (8 * l.chunk) l.sectors) (IsFed l.joiner);
    }
