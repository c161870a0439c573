use Rattle.std.proofs.Common.{◌<◌, ℕ}
use Rattle.ldm_host.specs.Moves.{Looks}
use Rattle.ldm_store.specs.Bodies.{KeepsBody}
use Rattle.ldm_store.proofs.sharing.all_have.Given as goal

abbrev pub invariant-loop-disk : goal.invariant-loop-disk
invariant-loop-disk g l =
    let start = g.H.Host.seen l.fn.host in
    let now = g.H.Host.seen l.host in
    record {
      looks : Looks start now ⊥;
      keeps : g.H.Host.tells_disks → (k : ℕ) → k < l.disk → KeepsBody l.seq l.labels l.notes l.db l.body start.content k;
    }
