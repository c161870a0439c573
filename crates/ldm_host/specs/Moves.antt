-- What a call of a host may change.
use Rattle.std.specs.Prelude.{◌≡◌, ◌≢◌, ◌⊎◌, ◌↔◌, ℕ, ◌+◌, ◌-◌, ◌^◌, ◌<◌, ◌≤◌, List, ◌++◌, length, slice_index}
use Rattle.ldm_host.specs.Seen.{Seen, Leaves, image}
use Rattle.ldm_host.specs.declared.host.DiskRange.{DiskRange}

-- a count rose in the call, or stands at the counter's last value
abbrev pub Rose : ℕ → ℕ → Type 0
Rose before after = (before < after) ⊎ (2 ^ 64 - 1 ≤ after)

-- a disk failed in the call
abbrev pub DiskFailed : Seen → Seen → Type 0
DiskFailed old new = Rose old.disk_faults new.disk_faults

-- the talk failed in it
abbrev pub TalkFailed : Seen → Seen → Type 0
TalkFailed old new = Rose old.talk_faults new.talk_faults

-- This holds of the images that a stop leaves and of what was said by then, at each moment since the first of two states.
abbrev pub AtEachMoment : Seen → Seen → (List (List ℕ) → List ℕ → Type 0) → Type 0
AtEachMoment start host P = (images : List (List ℕ)) (said : List ℕ) → host.left_since start.clock images said → P images said

-- the second text begins with the first
abbrev pub Begins : List ℕ → List ℕ → Type 0
Begins front whole = (rest : List ℕ) × (whole ≡ front ++ rest)

-- the second list of ranges begins with the first
abbrev pub Grows : List DiskRange → List DiskRange → Type 0
Grows before after = (more : List DiskRange) × (after ≡ before ++ more)

-- the bytes stay, but for any bytes in a range
pub record Torn (at n : ℕ) (old new : List ℕ) : Type 0 where
  pub size : length new ≡ length old
  pub outside : (k : ℕ) → (k < at) ⊎ (at + n ≤ k) → slice_index new k ≡ slice_index old k

-- the images stay, but for any bytes in a range of one disk
pub record TornAt (disk at n : ℕ) (old new : List (List ℕ)) : Type 0 where
  pub count : length new ≡ length old
  pub here : Torn at n (image old disk) (image new disk)
  pub others : (other : ℕ) → other ≢ disk → image new other ≡ image old other

-- What holds over every call of every crate. What was left since a time that isn't after the call's start is what was
-- left before the call, and what was left since its start.
pub record Later (old new : Seen) : Type 0 where
  pub sizes : new.sizes ≡ old.sizes
  pub disk_faults : old.disk_faults ≤ new.disk_faults
  pub talk_faults : old.talk_faults ≤ new.talk_faults
  pub failed : Grows old.failed new.failed
  pub said : Begins old.said new.said
  pub clock : old.clock ≤ new.clock
  pub keeps : (t : ℕ) (images : List (List ℕ)) (said : List ℕ) → t ≤ old.clock → old.left_since t images said → new.left_since t images said
  pub adds : (t : ℕ) (images : List (List ℕ)) (said : List ℕ) → t ≤ old.clock → new.left_since old.clock images said → new.left_since t images said
  pub nothing_else : (t : ℕ) (images : List (List ℕ)) (said : List ℕ) → t ≤ old.clock → new.left_since t images said → old.left_since t images said ⊎ new.left_since old.clock images said

-- the talk is as it was
pub record Quiet (old new : Seen) : Type 0 where
  pub said : new.said ≡ old.said
  pub heard : new.heard ≡ old.heard
  pub input : new.input ≡ old.input

-- the input is left as it was
pub record SameInput (old new : Seen) : Type 0 where
  pub input : new.input ≡ old.input
  pub heard : new.heard ≡ old.heard

-- A stop may leave the same of each disk.
abbrev pub SameLeft : Seen → Seen → Type 0
SameLeft old new = (disk : ℕ) (c : List ℕ) → new.may_leave disk c ↔ old.may_leave disk c

-- No disk has changed. At each moment since the old state a stop leaves what it could leave then, when the bytes said
-- were those said then and some of those said since.
pub record Still (old new : Seen) : Type 0 where
  pub later : Later old new
  pub content : new.content ≡ old.content
  pub wrote : new.wrote ≡ old.wrote
  pub left : SameLeft old new
  pub moments : AtEachMoment old new (λ images said. Leaves old images × Begins old.said said × Begins said new.said)

-- A call that only looks at the disks: neither they nor the talk have changed. Where it failed by a disk, a disk failed in it.
pub record Looks (old new : Seen) (failed : Type 0) : Type 0 where
  pub still : Still old new
  pub quiet : Quiet old new
  pub cause : failed → DiskFailed old new

-- A call that works on the disks: the talk hasn't changed. Where it failed by a disk, a disk failed in it.
pub record Works (old new : Seen) (failed : Type 0) : Type 0 where
  pub later : Later old new
  pub quiet : Quiet old new
  pub cause : failed → DiskFailed old new

-- A range of one disk is written. At each moment since the old state, and in the content, all other bytes are as they
-- were, and so is the talk.
pub record Writes (disk at n : ℕ) (old new : Seen) : Type 0 where
  pub later : Later old new
  pub quiet : Quiet old new
  pub content : TornAt disk at n old.content new.content
  pub wrote : slice_index new.wrote disk ≤ slice_index old.wrote disk + n
  pub wrote_others : (other : ℕ) → other ≢ disk → slice_index new.wrote other ≡ slice_index old.wrote other
  pub left : (c : List ℕ) → new.may_leave disk c → (b : List ℕ) × old.may_leave disk b × Torn at n b c
  pub left_others : (other : ℕ) (c : List ℕ) → other ≢ disk → new.may_leave other c ↔ old.may_leave other c
  pub moments : AtEachMoment old new (λ images said. (before : List (List ℕ)) × Leaves old before × TornAt disk at n before images × (said ≡ old.said))

-- A range of one disk may have changed, by any number of writes and syncs: what Writes says, but for how many bytes were
-- handed.
pub record Changes (disk at n : ℕ) (old new : Seen) : Type 0 where
  pub later : Later old new
  pub quiet : Quiet old new
  pub content : TornAt disk at n old.content new.content
  pub wrote_others : (other : ℕ) → other ≢ disk → slice_index new.wrote other ≡ slice_index old.wrote other
  pub left : (c : List ℕ) → new.may_leave disk c → (b : List ℕ) × old.may_leave disk b × Torn at n b c
  pub left_others : (other : ℕ) (c : List ℕ) → other ≢ disk → new.may_leave other c ↔ old.may_leave other c
  pub moments : AtEachMoment old new (λ images said. (before : List (List ℕ)) × Leaves old before × TornAt disk at n before images × (said ≡ old.said))

-- One disk is synced. At each moment since the old state a stop leaves what it could leave then.
pub record Syncs (disk : ℕ) (old new : Seen) : Type 0 where
  pub later : Later old new
  pub quiet : Quiet old new
  pub content : new.content ≡ old.content
  pub wrote : new.wrote ≡ old.wrote
  pub left : (c : List ℕ) → new.may_leave disk c → old.may_leave disk c
  pub left_others : (other : ℕ) (c : List ℕ) → other ≢ disk → new.may_leave other c ↔ old.may_leave other c
  pub moments : AtEachMoment old new (λ images said. Leaves old images × (said ≡ old.said))

-- A disk has no write pending: a stop leaves what a read gives.
abbrev pub Settled : Seen → ℕ → Type 0
Settled host disk = (c : List ℕ) → host.may_leave disk c → c ≡ image host.content disk

-- the call changed the images, the input or the bytes said only if the clock rose
pub record Ticks (old new : Seen) : Type 0 where
  pub rises : (old.clock < new.clock) ⊎ (SameLeft old new × (new.input ≡ old.input) × (new.said ≡ old.said))

-- Some disks are synced. At each moment since the old state a stop leaves what it could leave then.
pub record Settles (old new : Seen) : Type 0 where
  pub later : Later old new
  pub quiet : Quiet old new
  pub content : new.content ≡ old.content
  pub wrote : new.wrote ≡ old.wrote
  pub left : (disk : ℕ) (c : List ℕ) → new.may_leave disk c → old.may_leave disk c
  pub moments : AtEachMoment old new (λ images said. Leaves old images × (said ≡ old.said))
