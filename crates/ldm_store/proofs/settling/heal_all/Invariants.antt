use Rattle.std.proofs.Common.{◌≡◌, ℕ, ◌<◌, ◌≤◌, ◌+◌, Some, true, false, length, slice_index, slice_get}
use Rattle.ldm_host.specs.Seen.{image}
use Rattle.ldm_host.specs.Moves.{Works}
use Rattle.ldm_label.specs.declared.Label.{Label}
use Rattle.ldm_body.specs.Body.{HasBody}
use Rattle.ldm_copy.specs.declared.notes.Note.{Note}
use Rattle.ldm_store.specs.Turning.{AllSettled}
use Rattle.ldm_store.specs.Healing.{is_behind, IsHealed, AreSpared}
use Rattle.ldm_store.proofs.settling.heal_all.Given as goal

abbrev pub invariant-loop-disk : goal.invariant-loop-disk
invariant-loop-disk g l =
    let start = g.H.Host.seen l.fn.host in
    let now = g.H.Host.seen l.host in
    record {
      works : Works start now ⊥;
      settled : AllSettled l.found.labels now;
      wrote_below : (k : ℕ) → k < l.disk → slice_index now.wrote k ≤ slice_index start.wrote k + (length l.body + 1);
      wrote_above : (k : ℕ) → l.disk ≤ k → slice_index now.wrote k ≡ slice_index start.wrote k;
      spared : AreSpared l.found.db.header.seq l.found.notes start.wrote now.wrote;
      stays : (k : ℕ) (note : Note) → slice_get l.found.notes k ≡ Some note → is_behind l.found.db.header.seq note ≡ false → image now.content k ≡ image start.content k;
      has : g.H.Host.tells_disks → (k : ℕ) (label : Label) (note : Note) → k < l.disk → slice_get l.found.labels k ≡ Some label → slice_get l.found.notes k ≡ Some note
          → is_behind l.found.db.header.seq note ≡ true → HasBody label l.body (image now.content k);
      healed : g.H.Host.tells_disks → IsHealed l.found.labels l.found.db start now l.disk;
    }
