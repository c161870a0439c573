-- The laws of a host, of a host in memory.
use Rattle.std.proofs.Common.{◌≡◌, ℕ, ◌/◌, ◌≤◌, List, length, slice_index, sym, ◌∙◌, ap, subst}
use Rattle.std.proofs.Math.Nat.{le_refl}
use Rattle.std.proofs.lemmas.List.{length-map}
use Rattle.ldm_bytes.specs.Numbers.{IsBytes}
use Rattle.ldm_host.specs.Images.{items_of}
use Rattle.ldm_host.specs.Seen.{Leaves, image}
use Rattle.ldm_memory.specs.declared.memory.MemoryHost.{MemoryHost}
use Rattle.ldm_memory.specs.Memory.{memory_seen, host_counts}
use Rattle.ldm_memory.specs.Kept.{IsHeld}
use Rattle.ldm_memory.specs.Story.{StoryState, Agrees, disk_at, fresh_state, run}
use Rattle.ldm_memory.specs.StoryLaws.{image_at, size_at, one_each, stays, all_calls, counts_now, only_now, bytes_since}

pub law_one_each : (m : MemoryHost) → length (memory_seen m).content ≡ length (memory_seen m).sizes
law_one_each m = one_each (run (fresh_state (items_of m.first.items)) m.calls.items).disks

pub law_counts_each : (m : MemoryHost) → length (memory_seen m).wrote ≡ length (memory_seen m).sizes
law_counts_each m =
    m.kept.each ∙ sym (length-map m.held.items (λ v. v.items)) ∙ ap length m.kept.content ∙ one_each (run (fresh_state (items_of m.first.items)) m.calls.items).disks

pub law_lengths : (m : MemoryHost) (disk : ℕ) → length (image (memory_seen m).content disk) / 512 ≡ slice_index (memory_seen m).sizes disk
law_lengths m disk = size_at (run (fresh_state (items_of m.first.items)) m.calls.items).disks disk

pub law_same_length : (m : MemoryHost) (disk : ℕ) (c : List ℕ) → (memory_seen m).may_leave disk c → length c ≡ length (image (memory_seen m).content disk)
law_same_length m disk c left = left.size ∙ sym (ap length (image_at (run (fresh_state (items_of m.first.items)) m.calls.items).disks disk))

-- each disk as it is now
pub held_now : (m : MemoryHost) (disk : ℕ) → IsHeld (disk_at (run (fresh_state (items_of m.first.items)) m.calls.items).disks disk)
held_now m disk =
    subst (λ (s : StoryState). IsHeld (disk_at s.disks disk)) (all_calls (fresh_state (items_of m.first.items)) m.calls.items (length m.calls.items) (le_refl (length m.calls.items)))
    (m.kept.held (length m.calls.items) disk)

pub law_may_stay : (m : MemoryHost) (disk : ℕ) → (memory_seen m).may_leave disk (image (memory_seen m).content disk)
law_may_stay m disk =
    let now = disk_at (run (fresh_state (items_of m.first.items)) m.calls.items).disks disk in
    subst (λ (c : List ℕ). Agrees now c) (sym (image_at (run (fresh_state (items_of m.first.items)) m.calls.items).disks disk)) (stays now (held_now m disk).bytes)

pub law_left_bytes : (m : MemoryHost) (disk : ℕ) (c : List ℕ) → (memory_seen m).may_leave disk c → IsBytes c
law_left_bytes m disk c left = left.bytes

pub law_bytes_since : (m : MemoryHost) (t : ℕ) (images : List (List ℕ)) (said : List ℕ) → (memory_seen m).left_since t images said → (disk : ℕ) → IsBytes (image images disk)
law_bytes_since m t images said left = bytes_since (fresh_state (items_of m.first.items)) m.calls.items t images said left

pub law_counts_now : (m : MemoryHost) (t : ℕ) (images : List (List ℕ)) → t ≤ (memory_seen m).clock → Leaves (memory_seen m) images → (memory_seen m).left_since t images (memory_seen m).said
law_counts_now m t images le left = counts_now (fresh_state (items_of m.first.items)) m.calls.items m.script.items (host_counts m) t images le left

pub law_only_now : (m : MemoryHost) (images : List (List ℕ)) (said : List ℕ) → (memory_seen m).left_since (memory_seen m).clock images said → Leaves (memory_seen m) images × (said ≡ (memory_seen m).said)
law_only_now m images said left = only_now (fresh_state (items_of m.first.items)) m.calls.items m.script.items (host_counts m) images said left
