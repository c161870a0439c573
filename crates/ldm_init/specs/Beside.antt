-- One disk is written but for some bytes that are kept.
use Rattle.std.specs.Prelude.{◌≡◌, ◌≢◌, ◌⊎◌, ◌↔◌, ℕ, ◌+◌, ◌-◌, ◌*◌, ◌<◌, ◌≤◌, List, length, slice_index}
use Rattle.ldm_host.specs.Seen.{Seen, Leaves, image}
use Rattle.ldm_host.specs.Moves.{Later, Quiet, AtEachMoment}

-- the image stays, but for any bytes at the places that aren't kept
pub record SameAt (kept : ℕ → Type 0) (old new : List ℕ) : Type 0 where
  pub size : length new ≡ length old
  pub same : (k : ℕ) → kept k → slice_index new k ≡ slice_index old k

-- the images stay, but for any bytes of one disk at the places that aren't kept
pub record SameAtOn (kept : ℕ → Type 0) (disk : ℕ) (old new : List (List ℕ)) : Type 0 where
  pub count : length new ≡ length old
  pub here : SameAt kept (image old disk) (image new disk)
  pub others : (other : ℕ) → other ≢ disk → image new other ≡ image old other

-- Bytes of one disk that aren't kept may have changed, by any number of writes and syncs. At each moment since the old
-- state, and in the content, all other bytes are as they were, and so is the talk.
pub record ChangesBeside (kept : ℕ → Type 0) (disk : ℕ) (old new : Seen) : Type 0 where
  pub later : Later old new
  pub quiet : Quiet old new
  pub content : SameAtOn kept disk old.content new.content
  pub left : (c : List ℕ) → new.may_leave disk c → (b : List ℕ) × old.may_leave disk b × SameAt kept b c
  pub left_others : (other : ℕ) (c : List ℕ) → other ≢ disk → new.may_leave other c ↔ old.may_leave other c
  pub moments : AtEachMoment old new (λ images said. (before : List (List ℕ)) × Leaves old before × SameAtOn kept disk before images × (said ≡ old.said))

-- what is kept while all is written but the last byte of the signature: so many bytes are written from a place on, and those of the
-- sectors 0 and 6
pub record IsBeside (begin n k : ℕ) : Type 0 where
  pub front : 0x1FF ≤ k
  pub copy : (k < 0xC00) ⊎ (0xE00 ≤ k)
  pub last : (k < begin) ⊎ (begin + n ≤ k)

-- the places of a disk of so many sectors that a new group leaves alone: all but sector 0, sector 6 and the last 2048 sectors
pub record IsUntouched (sectors k : ℕ) : Type 0 where
  pub front : 512 ≤ k
  pub copy : (k < 512 * 6) ⊎ (512 * 7 ≤ k)
  pub last : (k < 512 * (sectors - 2048)) ⊎ (512 * sectors ≤ k)

-- the bytes of each disk there are those of the old images
pub record AreUntouched (sizes : List ℕ) (old new : List (List ℕ)) : Type 0 where
  pub count : length new ≡ length sizes
  pub each : (disk : ℕ) → disk < length sizes → SameAt (IsUntouched (slice_index sizes disk)) (image old disk) (image new disk)
