use Rattle.std.proofs.Common.{ℕ, List, length}
use Rattle.ldm_host.specs.Moves.{Works}
use Rattle.ldm_init.specs.Images.{NothingPending}
use Rattle.ldm_damage.specs.Views.{AreDamaged}
use Rattle.ldm_repair.proofs.StepLaws.{IsLabelled, IsBelow, IsHanded}
use Rattle.ldm_repair.proofs.closing.close_all.Given as goal

abbrev pub invariant-loop-disk : goal.invariant-loop-disk
invariant-loop-disk g l =
    let start = g.H.Host.seen l.fn.host in
    let now = g.H.Host.seen l.host in
    record {
      works : Works start now ⊥;
      settled : NothingPending now;
      handed : IsHanded l.damages start.wrote now.wrote l.disk;
      labelled : g.H.Host.tells_disks → IsLabelled l.labels (length start.sizes) start.content;
      below : g.H.Host.tells_disks → (views : List (List ℕ)) → AreDamaged start.content l.damages views → IsBelow l.labels views start now l.disk;
    }
