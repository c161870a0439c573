-- The records that written blocks hold, found by the heads of the blocks.
use Rattle.std.specs.Prelude.{◌≡◌, ◌⊎◌, ℕ, ◌+◌, ◌-◌, ◌*◌, ◌<◌, ◌≤◌, List, ◌∷◌, length, map, slice_index, Option, Some, None, All}
use Rattle.std.specs.List.{flat_map}
use Rattle.std.specs.List.Sorted.{IsPermutation}
use Rattle.ldm_frags.specs.Blocks.{count, group, part, parts, payload, is_part, least_below, numbers_from, block_at}
use Rattle.ldm_frags.specs.Groups.{first_passing}
use Rattle.ldm_written.specs.Written.{unused_block, IsPlaced, Holds}
use Rattle.ldm_records.specs.Plain.{IsRecord}
use Rattle.ldm_records.specs.Views.{plain_of}
use Rattle.ldm_body.specs.Body.{Stored, placed_of, stored_at}
use Rattle.ldm_records.specs.declared.types.Record.{Record}
use Rattle.ldm_body.specs.declared.finding.Found.{Found}
use Rattle.ldm_body.specs.declared.finding.Look.{Look}
use Rattle.ldm_body.specs.declared.finding.Look.TheVariants as looks

-- the number of the block that is this part of a group, the least where there are more; that of the end where there is none
unfoldable pub part_at : List ℕ → ℕ → ℕ → ℕ
part_at blocks g p = least_below (count blocks) (is_part blocks g p) + 4

-- the blocks of the record that begins in this block and has so many parts, by their heads
unfoldable pub slots_by : List ℕ → ℕ → ℕ → List ℕ
slots_by blocks number n = number ∷ map (part_at blocks number) (numbers_from 1 (n - 1))

-- the number of the first block that passes, or that of the end
abbrev pub first_number : Option ℕ → ℕ → ℕ
first_number None end = end
first_number (Some k) end = k + 4

-- what a list of places says of this part of a group: four places stand there for each group
abbrev pub table_place : List ℕ → ℕ → ℕ → ℕ
table_place places g p = slice_index places (4 * (g - 4) + p)

-- the places say of each part of each group which of the first k blocks it is
pub record HasPlaces (blocks : List ℕ) (k : ℕ) (places : List ℕ) : Type 0 where
  pub size : length places ≡ 4 * count blocks
  pub at : (g p : ℕ) → 4 ≤ g → g < count blocks + 4 → p < 4
      → table_place places g p ≡ first_number (first_passing k (is_part blocks g p)) (count blocks + 4)

-- the blocks of the record that begins in this block and has so many parts, by the places
abbrev pub slots_in : List ℕ → ℕ → ℕ → List ℕ
slots_in places number n = number ∷ map (table_place places number) (numbers_from 1 (n - 1))

-- what so many blocks hold
abbrev pub payloads : List ℕ → List ℕ → List ℕ
payloads blocks slots = flat_map (λ b. payload blocks (b - 4)) slots

abbrev pub stored_of : Found → Stored
stored_of f = record { record_is = f.content; slots = f.slots }

-- block b is part 0 of a record, or a whole one
pub record IsFirstPart (blocks : List ℕ) (b : ℕ) : Type 0 where
  pub part_is : part blocks (b - 4) ≡ 0
  pub group_is : group blocks (b - 4) ≡ b

-- block b is a later part of a record that begins in another block
pub record IsLater (blocks : List ℕ) (b : ℕ) : Type 0 where
  pub low : 4 ≤ group blocks (b - 4)
  pub high : group blocks (b - 4) < count blocks + 4
  pub first : IsFirstPart blocks (group blocks (b - 4))
  pub some : 1 ≤ part blocks (b - 4)
  pub few : part blocks (b - 4) < 4
  pub below : part blocks (b - 4) < parts blocks (group blocks (b - 4) - 4)
  pub at : part_at blocks (group blocks (b - 4)) (part blocks (b - 4)) ≡ b

-- this record begins in block b, and stands in written blocks
pub record IsFoundAt (blocks : List ℕ) (b : ℕ) (s : Stored) : Type 0 where
  pub first : IsFirstPart blocks b
  pub some : 1 ≤ parts blocks (b - 4)
  pub slots_are : s.slots ≡ slots_by blocks b (parts blocks (b - 4))
  pub placed : IsPlaced blocks (placed_of s)
  pub sound : IsRecord (plain_of s.record_is)

-- the blocks hold no records, each in its own spelling
abbrev pub HoldNone : List ℕ → Type 0
HoldNone blocks = (stored : List Stored) → All (λ s. IsRecord (plain_of s.record_is)) stored → Holds blocks (map placed_of stored) → ⊥

-- what stands in block k
abbrev pub StandsAt : List ℕ → ℕ → Look → Type 0
StandsAt blocks k looks.Nothing = (block_at blocks (k + 4) ≡ unused_block (k + 4)) ⊎ IsLater blocks (k + 4)
StandsAt blocks k looks.Wrong = HoldNone blocks
StandsAt blocks k (looks.Record f) = IsFoundAt blocks (k + 4) (stored_of f)

-- the blocks hold these records, and no others
pub record AreFound (blocks : List ℕ) (found : List Stored) : Type 0 where
  pub holds : Holds blocks (map placed_of found)
  pub sound : All (λ s. IsRecord (plain_of s.record_is)) found
  pub only : (stored : List Stored) → All (λ s. IsRecord (plain_of s.record_is)) stored → Holds blocks (map placed_of stored) → IsPermutation stored found

-- the blocks hold these records, each at the slots that the table has for it, and no others
pub record HoldsTable (blocks : List ℕ) (records : List Record) (table : List (List ℕ)) : Type 0 where
  pub one_each : length table ≡ length records
  pub sound : All (λ r. IsRecord (plain_of r)) records
  pub holds : Holds blocks (map placed_of (stored_at records table))
