use Rattle.std.proofs.Common.{◌≡◌, ◌<◌, ◌≤◌, ◌+◌, ℕ, Some, slice_index, slice_get}
use Rattle.ldm_host.specs.Seen.{image}
use Rattle.ldm_host.specs.Moves.{Works}
use Rattle.ldm_label.specs.declared.Label.{Label}
use Rattle.ldm_group.specs.Database.{Database}
use Rattle.ldm_body.specs.Body.{HasBody}
use Rattle.ldm_store.specs.Kept.{IsCurrent}
use Rattle.ldm_store.specs.Turning.{IsBodyOnEach, AllSettled, AllHave, IsTurned}
use Rattle.ldm_changed.specs.Nexts.{bytes_in, most_in}
use Rattle.ldm_store.proofs.rewriting.rewrite_all.Given as goal

abbrev pub invariant-loop-disk : goal.invariant-loop-disk
invariant-loop-disk g l =
    let start = g.H.Host.seen l.fn.host in
    let now = g.H.Host.seen l.host in
    record {
      works : Works start now ⊥;
      wrote_below : (k : ℕ) → k < l.disk → slice_index now.wrote k ≤ slice_index start.wrote k + most_in l.next;
      wrote_above : (k : ℕ) → l.disk ≤ k → slice_index now.wrote k ≡ slice_index start.wrote k;
      untouched : (k : ℕ) → l.disk ≤ k → image now.content k ≡ image start.content k;
      has : g.H.Host.tells_disks → (k : ℕ) (label : Label) → k < l.disk → slice_get l.labels k ≡ Some label → HasBody label (bytes_in l.next) (image now.content k);
      settled : AllSettled l.labels now;
      turned : g.H.Host.tells_disks → (o n : Database) → AllHave l.labels start.content (IsCurrent o) → IsBodyOnEach n l.labels (bytes_in l.next) → IsTurned l.labels o n start now l.disk;
    }
