-- How each call of a host in memory ends.
use Rattle.std.specs.Prelude.{◌≡◌, ◌↔◌, ◌/◌, ◌||◌, ◌&&◌, ◌==◌, ◌+◌, nat_lt, ℕ, List, ◌++◌, length, set, take, Bool, true, false, not, IsTrue, IsFalse, if◌then◌else◌, ⊤}
use Rattle.std.specs.List.{list_any}
use Rattle.ldm_bytes.specs.Numbers.{IsBytes}
use Rattle.ldm_bytes.specs.Places.{put}
use Rattle.ldm_host.specs.Seen.{Seen, image}
use Rattle.ldm_host.specs.Moves.{Quiet, SameLeft, Torn}
use Rattle.ldm_host.specs.declared.host.DiskRange.{DiskRange}
use Rattle.ldm_host.specs.Acts.{Act, Read, Write, Sync, Hear, Say}
use Rattle.ldm_memory.specs.declared.memory.MemoryHost.{MemoryHost}
use Rattle.ldm_memory.specs.Plan.{Plan, next, next_plan, is_past, is_chosen}
use Rattle.ldm_memory.specs.Memory.{host_counts, plan_of, bad_ranges, memory_seen}

-- the call hears or says
abbrev pub is_talk : Act → Bool
is_talk (Read range) = false
is_talk (Write disk at bytes) = false
is_talk (Sync disk) = false
is_talk Hear = true
is_talk (Say bytes) = true

-- the first half of the bytes, rounded down
abbrev pub first_half : List ℕ → List ℕ
first_half bytes = take (length bytes / 2) bytes

-- the content, what a stop may leave, and the talk are as they were
pub record TakesNothing (old new : Seen) : Type 0 where
  pub content : new.content ≡ old.content
  pub left : SameLeft old new
  pub quiet : Quiet old new

-- The first half of what was to be written is in the content, or the first half of what was to be said was said. The
-- clauses of a host say what stays. A call that neither writes nor says takes nothing.
abbrev pub TakesHalf : Act → Seen → Seen → Type 0
TakesHalf (Read range) old new = TakesNothing old new
TakesHalf (Write disk at bytes) old new = new.content ≡ set old.content disk (put (image old.content disk) at (first_half bytes))
TakesHalf (Sync disk) old new = TakesNothing old new
TakesHalf Hear old new = TakesNothing old new
TakesHalf (Say bytes) old new = new.said ≡ old.said ++ first_half bytes

-- A stop may leave any bytes in the range of a write, besides what it could leave before.
abbrev pub Pends : Act → Seen → Seen → Type 0
Pends (Write disk at bytes) old new = (before after : List ℕ) → old.may_leave disk before → Torn at (length bytes) before after → IsBytes after → new.may_leave disk after
Pends (Read range) old new = ⊤
Pends (Sync disk) old new = ⊤
Pends Hear old new = ⊤
Pends (Say bytes) old new = ⊤

-- two ranges share a byte
abbrev pub touches : DiskRange → DiskRange → Bool
touches a b = (a.disk == b.disk) && (nat_lt a.at (b.at + b.length) && nat_lt b.at (a.at + a.length))

-- one of the bad ranges has a byte of this one
abbrev pub is_unreadable : List DiskRange → DiskRange → Bool
is_unreadable bad range = list_any (touches range) bad

-- The last call is to fail: it is past the stop, or was chosen, or found no memory, or reads a bad range. A read that is to
-- fail, and finds no memory for the account of it, reads.
abbrev pub is_to_fail : Act → Plan → List DiskRange → Bool → Bool
is_to_fail (Read range) plan bad ran_dry = (is_past plan || is_chosen plan || is_unreadable bad range) && not ran_dry
is_to_fail _ plan bad ran_dry = is_past plan || is_chosen plan || ran_dry

-- The last call was chosen, isn't past the stop, and found memory.
abbrev pub takes_half : Plan → Bool → Bool
takes_half plan ran_dry = is_chosen plan && not (is_past plan || ran_dry)

-- How a call ends, and whether it was Ok. The trait's clauses say the rest of what an Ok call does.
pub record EndsCall (act : Act) (old new : MemoryHost) (ok : Bool) : Type 0 where
  -- the call found no memory
  pub ran_dry : Bool
  -- it was counted
  pub plan : plan_of new ≡ next_plan (plan_of old)
  pub bad : bad_ranges new ≡ bad_ranges old
  -- it failed exactly where it was to fail
  pub fails : IsFalse ok ↔ IsTrue (is_to_fail act (plan_of new) (bad_ranges new) ran_dry)
  -- that it found no memory was counted, up to the counter's last value
  pub dry : (host_counts new).dry ≡ (if ran_dry then next (host_counts old).dry else (host_counts old).dry)
  -- that it failed was counted among the calls of a disk, or of the talk
  pub disk_faults : (host_counts new).disk_faults ≡ (if ok || is_talk act then (host_counts old).disk_faults else next (host_counts old).disk_faults)
  pub talk_faults : (host_counts new).talk_faults ≡ (if ok || not (is_talk act) then (host_counts old).talk_faults else next (host_counts old).talk_faults)
  -- a write that took any bytes leaves its whole range pending
  pub pending : IsTrue (ok || takes_half (plan_of new) ran_dry) → Pends act (memory_seen old) (memory_seen new)
  -- what a failing call took
  pub took_half : IsFalse ok → IsTrue (takes_half (plan_of new) ran_dry) → TakesHalf act (memory_seen old) (memory_seen new)
  pub took_nothing : IsFalse ok → IsFalse (takes_half (plan_of new) ran_dry) → TakesNothing (memory_seen old) (memory_seen new)
