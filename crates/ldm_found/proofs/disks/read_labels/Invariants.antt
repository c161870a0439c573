use Rattle.std.proofs.Common.{◌≡◌, length, take, Ok}
use Rattle.ldm_host.specs.Moves.{Looks}
use Rattle.ldm_found.specs.Gathers.{Gathers}
use Rattle.ldm_found.specs.Labels.{IsLabelOf}
use Rattle.ldm_found.proofs.DiskLaws.{AllFit}
use Rattle.ldm_found.proofs.disks.read_labels.Given as goal

abbrev pub invariant-loop-disk : goal.invariant-loop-disk
invariant-loop-disk g l =
    let start = g.H.Host.seen l.fn.host in
    record {
      looks : Looks start (g.H.Host.seen l.host) ⊥;
      one_each : length l.labels.items ≡ l.disk;
      fit : AllFit l.labels.items start.sizes;
      labels : g.H.Host.tells_disks → Gathers IsLabelOf (take l.disk start.content) (Ok l.labels.items);
    }
