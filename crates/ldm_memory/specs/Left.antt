-- What a stop leaves where the ranges that are pending hold what a filling says.
use Rattle.std.specs.Prelude.{◌≡◌, ◌≢◌, ◌⊎◌, ℕ, ◌-◌, ◌<◌, ◌≤◌, ◌==◌, List, [], ◌∷◌, length, get_or, map, replicate, if◌then◌else◌}
use Rattle.ldm_bytes.specs.Places.{put}
use Rattle.ldm_memory.specs.declared.call.Call.{Call}
use Rattle.ldm_memory.specs.declared.call.Call.TheVariants.{Write, Sync, Hear, Say, Nothing}
use Rattle.ldm_memory.specs.declared.left.Filling.{Filling}
use Rattle.ldm_memory.specs.declared.left.Filling.TheVariants.{Old, New, Fill}
use Rattle.ldm_memory.specs.Story.{Disk, Story, run, fresh_state}

-- the bytes, with one byte throughout these ranges
abbrev pub overlaid : ℕ → List (ℕ × ℕ) → List ℕ → List ℕ
overlaid byte [] bytes = bytes
overlaid byte (range ∷ ranges) bytes = put (overlaid byte ranges bytes) range.0 (replicate range.1 byte)

-- of one disk
abbrev pub left_on : Filling → Disk → List ℕ
left_on Old disk = disk.synced
left_on New disk = disk.content
left_on (Fill byte) disk = overlaid byte disk.pending disk.content

-- of each disk after a story
abbrev pub left_of : Filling → Story → List (List ℕ)
left_of filling story = map (left_on filling) (run (fresh_state story.first) story.calls).disks

-- The first `count` calls end with the last sync of a disk, and are none where it was never synced.
pub record IsLastSync (calls : List Call) (disk count : ℕ) : Type 0 where
  pub within : count ≤ length calls
  pub is_sync : (count ≡ 0) ⊎ (get_or calls (count - 1) Nothing ≡ Sync disk)
  pub none_since : (k : ℕ) → count ≤ k → k < length calls → get_or calls k Nothing ≢ Sync disk

-- the bytes of a disk, with what a call wrote there
abbrev pub written_on : ℕ → Call → List ℕ → List ℕ
written_on disk (Write written at bytes asked) image = if written == disk then put image at bytes.items else image
written_on disk (Sync synced) image = image
written_on disk (Hear count) image = image
written_on disk (Say bytes) image = image
written_on disk Nothing image = image

-- the bytes, with one byte throughout the range of a write to the disk
abbrev pub filled_on : ℕ → ℕ → Call → List ℕ → List ℕ
filled_on disk byte (Write written at bytes asked) image = if written == disk then put image at (replicate asked byte) else image
filled_on disk byte (Sync synced) image = image
filled_on disk byte (Hear count) image = image
filled_on disk byte (Say bytes) image = image
filled_on disk byte Nothing image = image
