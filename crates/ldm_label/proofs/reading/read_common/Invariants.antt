use Rattle.std.proofs.Common.{◌≡◌, drop, None}
use Rattle.ldm_host.specs.Moves.{Looks}
use Rattle.ldm_host.specs.Seen.{image}
use Rattle.ldm_label.proofs.ReadLaws.{all_joined, reads, places}
use Rattle.ldm_label.proofs.reading.read_common.Given as goal

abbrev pub invariant-loop-at : goal.invariant-loop-at
invariant-loop-at g l = record {
  looks : Looks (g.H.Host.seen l.fn.host) (g.H.Host.seen l.host) ⊥;
  common : g.H.Host.tells_disks → (let disk = image (g.H.Host.seen l.fn.host).content l.fn.disk in
      all_joined (reads disk l.fn.start) None places ≡ all_joined (reads disk l.fn.start) l.common (drop l.at-index places));
}
