use Rattle.std.proofs.Common.{◌<◌, ℕ}
use Rattle.ldm_host.specs.Moves.{Settled, Settles}
use Rattle.ldm_store.proofs.settling.sync_all.Given as goal

abbrev pub invariant-loop-disk : goal.invariant-loop-disk
invariant-loop-disk g l = record {
  settles : Settles (g.H.Host.seen l.fn.host) (g.H.Host.seen l.host);
  settled : (disk : ℕ) → disk < l.disk → Settled (g.H.Host.seen l.host) disk;
}
