-- The sectors of a volume on disks that fail: where each can be read, in the order in which that is tried, and what is said of it.
use Rattle.std.specs.Prelude.{◌≡◌, ◌⊎◌, ℕ, ◌+◌, ◌-◌, ◌*◌, ◌<◌, ◌≤◌, Bool, true, false, not, nat_lt, List, [], ◌∷◌, ◌++◌, length, replicate, drop, Contains, Option, Some, None, option_and_then, slice_get, take, ⊤, Result, Ok, Err, if◌then◌else◌}
use Rattle.std.specs.List.{filter_map, range_with_len}
use Rattle.std.specs.Option.{option_map}
use Rattle.ldm_host.specs.declared.host.DiskRange.{DiskRange}
use Rattle.ldm_places.specs.Layouts.{Layout, copies_of, place_in}
use Rattle.ldm_places.specs.Columns.{own_column, column_in, moved}
use Rattle.ldm_places.specs.declared.shape.Shape.TheVariants.{Raid5}
use Rattle.ldm_copy.specs.declared.found.Found.{Found}
use Rattle.ldm_copy.specs.declared.notes.Note.{Note}
use Rattle.ldm_copy.specs.declared.notes.Note.TheVariants as notes
use Rattle.ldm_dump.specs.declared.spots.Spot.{Spot}
use Rattle.ldm_dump.specs.Sources.{is_here, copy_spot, other_spots, can_rebuild}
use Rattle.ldm_dump.specs.Bytes.{joined_sector, sector_of}
use Rattle.ldm_rescue.specs.declared.sources.Source.{Source}
use Rattle.ldm_rescue.specs.declared.sources.Source.TheVariants.{Copy, Others}
use Rattle.ldm_rescue.specs.declared.reading.Cause.{Cause}
use Rattle.ldm_rescue.specs.declared.reading.Cause.TheVariants.{Absent, Unread}

-- ---- sources

-- a copy of the database that isn't of this sequence
abbrev pub is_older : ℕ → Option Note → Bool
is_older seq None = false
is_older seq (Some notes.Closed) = true
is_older seq (Some (notes.Sequence held)) = nat_lt held seq

-- the image's copy of the database is older than the group, so its disk may have missed what was written to others
abbrev pub is_stale : Found → ℕ → Bool
is_stale found image = is_older found.db.header.seq (slice_get found.notes image)

-- the sector of an image as a source, if the image is one of these
abbrev pub source_if : Bool → Spot → Option (List Spot)
source_if true spot = Some (spot ∷ [])
source_if false spot = None

-- a copy of the sector on a disk that isn't behind
abbrev pub fresh_source : Found → Layout → ℕ → ℕ → Option (List Spot)
fresh_source found l x copy = option_and_then (λ spot. source_if (not (is_stale found spot.image)) spot) (copy_spot found l x copy)

-- a copy of the sector on a disk that is behind
abbrev pub stale_source : Found → Layout → ℕ → ℕ → Option (List Spot)
stale_source found l x copy = option_and_then (λ spot. source_if (is_stale found spot.image) spot) (copy_spot found l x copy)

-- what is beside the sector of a RAID-5 in all other columns
abbrev pub rebuilt_source : Found → Layout → ℕ → Option (List Spot)
rebuilt_source found l x = if can_rebuild found l x then Some (other_spots found l x) else None

-- What is tried in turn: each copy on a disk that isn't behind, each copy on one that is, and at last the other columns.
abbrev pub source_in : Found → Layout → ℕ → ℕ → Option (List Spot)
source_in found l x turn =
    if nat_lt turn (copies_of l) then fresh_source found l x turn
    else if nat_lt turn (2 * copies_of l) then stale_source found l x (turn - copies_of l)
    else rebuilt_source found l x

abbrev pub turn_count : Layout → ℕ
turn_count l = 2 * copies_of l + 1

-- The sources of sector x whose disks are there, in the order in which they are tried. Each is a list of sectors of images,
-- whose exclusive-or is the sector.
unfoldable pub sources_in_order : Found → Layout → ℕ → List (List Spot)
sources_in_order found l x = filter_map (source_in found l x) (range_with_len 0 (turn_count l))

-- the sectors of a source that code names
abbrev pub source_spots : Found → Layout → ℕ → Source → List Spot
source_spots found l x (Copy spot) = spot ∷ []
source_spots found l x Others = other_spots found l x

-- Sectors x to x + n - 1 lie side by side in each copy and in each column.
pub record AreTogether (l : Layout) (x n : ℕ) : Type 0 where
  pub some : 0 < n
  pub within : x + n ≤ l.size
  pub copies : (i copy : ℕ) → i < n → copy < copies_of l → place_in l (x + i) copy ≡ option_map (moved i) (place_in l x copy)
  pub own : (i : ℕ) → i < n → l.shape ≡ Raid5 → own_column l (x + i) ≡ own_column l x
  pub columns : (i column : ℕ) → i < n → l.shape ≡ Raid5 → column_in l (x + i) column ≡ option_map (moved i) (column_in l x column)

-- ---- reads that failed

-- a range of bytes from the start of a sector of an image on
abbrev pub range_of : Spot → ℕ → DiskRange
range_of spot bytes = record { disk = spot.image; at = 512 * spot.sector; length = bytes }

-- a read of just this sector of an image failed
abbrev pub HasFailed : List DiskRange → Spot → Type 0
HasFailed failed spot = Contains failed (range_of spot 512)

-- this sector is one of the source's, and a read of just it failed
pub record IsMissed (failed : List DiskRange) (source : List Spot) (spot : Spot) : Type 0 where
  pub part : Contains source spot
  pub missed : HasFailed failed spot

-- a read of just a sector of this image failed, which is one of the last source's
pub record IsMissedOn (failed : List DiskRange) (sources : List (List Spot)) (image : ℕ) : Type 0 where
  pub before : List (List Spot)
  pub source : List Spot
  pub last : sources ≡ before ++ source ∷ []
  pub spot : Spot
  pub unread : IsMissed failed source spot
  pub on : spot.image ≡ image

-- ---- what is said of a sector

-- The bytes are those of the first of these sources of which no sector has failed to be read: of each source before it one
-- has. Where that is so of all, the sector is lost, and zeros are said.
abbrev pub IsRescued : List (List ℕ) → List DiskRange → List (List Spot) → List ℕ → Bool → Type 0
IsRescued images failed [] bytes lost = (bytes ≡ replicate 512 0) × (lost ≡ true)
IsRescued images failed (source ∷ more) bytes lost =
    ((bytes ≡ joined_sector images source) × (lost ≡ false))
    ⊎ (((spot : Spot) × IsMissed failed source spot) × IsRescued images failed more bytes lost)

-- sector i of some bytes
abbrev pub nth_sector : List ℕ → ℕ → List ℕ
nth_sector bytes i = take 512 (drop (512 * i) bytes)

-- This is said of so many sectors of the volume, from the first on, of which some are lost.
pub record AreRescued (images : List (List ℕ)) (failed : List DiskRange) (found : Found) (l : Layout) (first count : ℕ) (lost : ℕ → Bool) (bytes : List ℕ) : Type 0 where
  pub size : length bytes ≡ 512 * count
  pub each : (i : ℕ) → i < count → IsRescued images failed (sources_in_order found l (first + i)) (nth_sector bytes i) (lost (first + i))

-- ---- what is tried of a sector

-- a range of bytes from one of these sectors on, which is on this image, could not be read since the account was the first of the two
pub record FailedOn (spots : List Spot) (bytes : ℕ) (before after : List DiskRange) (image : ℕ) : Type 0 where
  pub spot : Spot
  pub part : Contains spots spot
  pub on : spot.image ≡ image
  pub failed : Contains (drop (length before) after) (range_of spot bytes)

-- of each of these sources a sector has failed to be read
abbrev pub AreUnread : List DiskRange → List (List Spot) → Type 0
AreUnread failed [] = ⊤
AreUnread failed (source ∷ more) = ((spot : Spot) × IsMissed failed source spot) × AreUnread failed more

-- an image of the last of these sources, which could not be read; none where there is no source
abbrev pub IsLastUnread : List DiskRange → List (List Spot) → Option ℕ → Type 0
IsLastUnread failed sources None = sources ≡ []
IsLastUnread failed sources (Some image) = IsMissedOn failed sources image

-- the bytes are those of the first of these sources that could be read, or none could
abbrev pub IsOutcome : List (List ℕ) → List DiskRange → List (List Spot) → List ℕ → Result (Unit {0}) (Option ℕ) → Type 0
IsOutcome images failed sources bytes (Ok _) = IsRescued images failed sources bytes false
IsOutcome images failed sources bytes (Err image) = AreUnread failed sources × IsLastUnread failed sources image

-- ---- why a sector is lost

-- the disk of the sector's first copy is absent, and each other source too
pub record IsAbsent (found : Found) (l : Layout) (x disk : ℕ) : Type 0 where
  pub first : option_map (λ place. place.disk) (place_in l x 0) ≡ Some disk
  pub absent : is_here found (place_in l x 0) ≡ false
  pub none : sources_in_order found l x ≡ []

-- the cause for which sector x is lost
abbrev pub IsCause : Found → Layout → List DiskRange → ℕ → Cause → Type 0
IsCause found l failed x (Absent disk) = IsAbsent found l x disk
IsCause found l failed x (Unread image) = IsMissedOn failed (sources_in_order found l x) image

-- each of so many sectors, from the first on, is lost for this cause
abbrev pub HaveCause : Found → Layout → List DiskRange → ℕ → ℕ → Cause → Type 0
HaveCause found l failed first count cause = (i : ℕ) → i < count → IsCause found l failed (first + i) cause

-- ---- beside dump

-- Where no read has failed and no disk is behind, a sector that isn't lost is what dump reads of it.
abbrev pub RescuesAsDump : Type 0
RescuesAsDump = (images : List (List ℕ)) (found : Found) (l : Layout) (x : ℕ) (bytes : List ℕ) → ((image : ℕ) → is_stale found image ≡ false)
    → IsRescued images [] (sources_in_order found l x) bytes false → sector_of images found l x ≡ Some bytes
