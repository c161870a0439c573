-- What a host in memory is after a list of calls.
use Rattle.std.specs.Prelude.{◌≡◌, ◌⊎◌, ◌||◌, ◌==◌, Bool, false, ℕ, ◌+◌, ◌/◌, ◌<◌, ◌≤◌, List, [], ◌∷◌, ◌++◌, length, get_or, set, map, take, drop, slice_index}
use Rattle.ldm_host.specs.Seen.{Seen, Heard, image}
use Rattle.ldm_bytes.specs.Numbers.{IsBytes}
use Rattle.ldm_bytes.specs.Places.{put}
use Rattle.ldm_host.specs.Moves.{Begins}
use Rattle.ldm_host.specs.declared.host.DiskRange.{DiskRange}
use Rattle.ldm_memory.specs.declared.call.Call.{Call}
use Rattle.ldm_memory.specs.declared.call.Call.TheVariants.{Write, Sync, Hear, Say, Nothing}

-- a disk: its bytes, those that it had after its last sync, or at the start, and the places and lengths of the ranges
-- that are pending
pub record Disk : Type 0 where
  pub content : List ℕ
  pub synced : List ℕ
  pub pending : List (ℕ × ℕ)

-- the disks, what was said, how many bytes of the script were heard, and whether its end was
pub record StoryState : Type 0 where
  pub disks : List Disk
  pub said : List ℕ
  pub heard : ℕ
  pub ended : Bool

abbrev pub no_disk : Disk
no_disk = record { content = []; synced = []; pending = [] }

abbrev pub disk_at : List Disk → ℕ → Disk
disk_at disks disk = get_or disks disk no_disk

-- the place is in none of the ranges
abbrev pub Outside : List (ℕ × ℕ) → ℕ → Type 0
Outside [] k = Unit {0}
Outside (range ∷ ranges) k = ((k < range.0) ⊎ (range.0 + range.1 ≤ k)) × Outside ranges k

-- a stop may leave this of a disk: the content, but for any bytes in the pending ranges
pub record Agrees (disk : Disk) (c : List ℕ) : Type 0 where
  pub size : length c ≡ length disk.content
  pub bytes : IsBytes c
  pub outside : (k : ℕ) → Outside disk.pending k → slice_index c k ≡ slice_index disk.content k

-- after a write of so many bytes, of which these were taken at their front
abbrev pub written_disk : Disk → ℕ → List ℕ → ℕ → Disk
written_disk disk at bytes asked = record { content = put disk.content at bytes; synced = disk.synced; pending = (at, asked) ∷ disk.pending }

-- after a sync
abbrev pub synced_disk : Disk → Disk
synced_disk disk = record { content = disk.content; synced = disk.content; pending = [] }

-- after one call more
abbrev pub after : StoryState → Call → StoryState
after s (Write disk at bytes asked) = record { disks = set s.disks disk (written_disk (disk_at s.disks disk) at bytes.items asked); said = s.said; heard = s.heard; ended = s.ended }
after s (Sync disk) = record { disks = set s.disks disk (synced_disk (disk_at s.disks disk)); said = s.said; heard = s.heard; ended = s.ended }
after s (Hear count) = record { disks = s.disks; said = s.said; heard = s.heard + count; ended = s.ended || count == 0 }
after s (Say bytes) = record { disks = s.disks; said = s.said ++ bytes.items; heard = s.heard; ended = s.ended }
after s Nothing = s

-- after these calls
abbrev pub run : StoryState → List Call → StoryState
run s [] = s
run s (call ∷ calls) = run (after s call) calls

-- the lengths of the disks in sectors, rounded down
abbrev pub sizes_of : List Disk → List ℕ
sizes_of disks = map (λ disk. length disk.content / 512) disks

abbrev pub contents : List Disk → List (List ℕ)
contents disks = map (λ disk. disk.content) disks

-- a stop in this state may leave these images
pub record MayLeave (s : StoryState) (images : List (List ℕ)) : Type 0 where
  pub one_each : length images ≡ length (sizes_of s.disks)
  pub each : (disk : ℕ) → disk < length (sizes_of s.disks) → Agrees (disk_at s.disks disk) (image images disk)

-- the state after the first k calls
abbrev pub state_at : StoryState → List Call → ℕ → StoryState
state_at first calls k = run first (take k calls)

-- After some number of calls, t at least, a stop could leave these images. By then was said what those calls said, and
-- some of what the next call said.
pub record LeftSince (first : StoryState) (calls : List Call) (t : ℕ) (images : List (List ℕ)) (said : List ℕ) : Type 0 where
  pub k : ℕ
  pub from : t ≤ k
  pub to : k ≤ length calls
  pub may : MayLeave (state_at first calls k) images
  pub said_before : Begins (state_at first calls k).said said
  pub said_after : Begins said (state_at first calls (k + 1)).said

-- how often a call of a disk, and of the talk, has failed; how many calls found no memory; the bytes that were handed to
-- each disk; and the reads that failed
pub record Counts : Type 0 where
  pub disk_faults : ℕ
  pub talk_faults : ℕ
  pub dry : ℕ
  pub wrote : List ℕ
  pub failed : List DiskRange

-- what was heard of a script in this state
abbrev pub heard_in : StoryState → List ℕ → Heard
heard_in s script = record { bytes = take s.heard script; ended = s.ended }

-- What is seen after these calls. What a stop may leave is all that agrees with the content outside what is pending.
abbrev pub seen_from : StoryState → List Call → List ℕ → Counts → Seen
seen_from first calls script counts = record {
  sizes = sizes_of (run first calls).disks;
  content = contents (run first calls).disks;
  may_leave = λ disk c. Agrees (disk_at (run first calls).disks disk) c;
  clock = length calls;
  left_since = LeftSince first calls;
  said = (run first calls).said;
  heard = heard_in (run first calls) script;
  input = drop (run first calls).heard script;
  disk_faults = counts.disk_faults;
  talk_faults = counts.talk_faults;
  failed = counts.failed;
  wrote = counts.wrote;
}

-- these images, with nothing pending, said or heard
abbrev pub fresh_state : List (List ℕ) → StoryState
fresh_state images = record { disks = map (λ bytes. record { content = bytes; synced = bytes; pending = [] }) images; said = []; heard = 0; ended = false }

-- the images and the input at the start, and the calls since
pub record Story : Type 0 where
  pub first : List (List ℕ)
  pub calls : List Call
  pub script : List ℕ

-- what is seen after a story
abbrev pub seen_of : Story → Counts → Seen
seen_of story counts = seen_from (fresh_state story.first) story.calls story.script counts
