use Rattle.std.proofs.Common.{◌≡◌, length, IfSome}
use Rattle.ldm_host.specs.Moves.{Looks}
use Rattle.ldm_found.specs.Steps.{IsAmong}
use Rattle.ldm_found.proofs.CopyLaws.{HaveCopies}
use Rattle.ldm_found.proofs.copies.read_copies.Given as goal

abbrev pub invariant-loop-disk : goal.invariant-loop-disk
invariant-loop-disk g l =
    let start = g.H.Host.seen l.fn.host in
    record {
      looks : Looks start (g.H.Host.seen l.host) ⊥;
      one_note : length l.notes.items ≡ l.disk;
      newest : IfSome l.newest (λ n. IsAmong l.disk n);
      copies : g.H.Host.tells_disks → HaveCopies l.labels start.content l.disk l.newest l.notes.items;
    }
