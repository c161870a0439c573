-- Blocks as they are written: the sequence of a block is its number, a record takes as few blocks as hold
-- it, its group is the number of the block that holds part 0, and its last payload is filled with zeros.
use Rattle.std.specs.Prelude.{◌≡◌, ◌≢◌, ℕ, ◌+◌, ◌-◌, ◌*◌, ◌<◌, ◌≤◌, ◌==◌, List, [], ◌∷◌, ◌++◌, length, take, drop, map, filter, replicate, slice_index, All, AllPairs}
use Rattle.std.specs.List.{flat_map}
use Rattle.ldm_frags.specs.declared.faults.Joined.{Joined}
use Rattle.ldm_frags.specs.Blocks.{count, numbers_from, written_block, block_at}
use Rattle.ldm_vmdb.specs.Parts.{parts_of}

-- a payload with the zeros that fill its last block
abbrev pub filled : List ℕ → List ℕ
filled bytes = bytes ++ replicate (112 * parts_of (length bytes) - length bytes) 0

-- the 112 bytes of one part
abbrev pub part_bytes : List ℕ → ℕ → List ℕ
part_bytes bytes i = take 112 (drop (112 * i) (filled bytes))

abbrev pub unused_block : ℕ → List ℕ
unused_block number = written_block number 0 0 0 (replicate 112 0)

abbrev pub IsInUse : List ℕ → ℕ → Type 0
IsInUse blocks number = (4 ≤ number) × (number < count blocks + 4)

-- a record's payload, and the numbers of the blocks that hold it, by part
pub record Placed : Type 0 where
  pub payload : List ℕ
  pub slots : List ℕ

abbrev pub slot : Placed → ℕ → ℕ
slot r i = slice_index r.slots i

-- each part of the record stands at its slot, wherever that is
pub record IsPlaced (blocks : List ℕ) (r : Placed) : Type 0 where
  pub some : 1 ≤ length r.payload
  pub few : length r.payload ≤ 448
  pub whole : length r.slots ≡ parts_of (length r.payload)
  pub within : (i : ℕ) → i < length r.slots → IsInUse blocks (slot r i)
  pub written : (i : ℕ) → i < length r.slots
      → block_at blocks (slot r i) ≡ written_block (slot r i) (slot r 0) i (length r.slots) (part_bytes r.payload i)

-- the blocks hold these records: each at its slots, in groups that differ, and all other blocks are unused
pub record Holds (blocks : List ℕ) (records : List Placed) : Type 0 where
  pub placed : All (IsPlaced blocks) records
  pub apart : AllPairs (λ r s. slot r 0 ≢ slot s 0) records
  pub unused : (number : ℕ) → IsInUse blocks number → All (λ r. All (λ s. s ≢ number) r.slots) records
      → block_at blocks number ≡ unused_block number

-- the blocks with unused ones behind them, so many in all
pub record AddsUnused (old : List ℕ) (blocks : ℕ) (new : List ℕ) : Type 0 where
  pub size : length new ≡ 128 * blocks
  pub same : (number : ℕ) → IsInUse old number → block_at new number ≡ block_at old number
  pub unused : (number : ℕ) → count old + 4 ≤ number → number < blocks + 4 → block_at new number ≡ unused_block number

-- what a record joins to
abbrev pub joined_of : Placed → Joined
joined_of r = record { block = slot r 0; payload = filled r.payload }

-- what the records join to whose part 0 stands below number n + 4, in rising number
unfoldable pub joined_below : List Placed → ℕ → List Joined
joined_below records n =
    flat_map (λ k. map joined_of (filter (λ r. slot r 0 == k + 4) records)) (numbers_from 0 n)

-- the records of these payloads one after the other without gaps, from this block on
abbrev pub laid_in_order : ℕ → List (List ℕ) → List Placed
laid_in_order number [] = []
laid_in_order number (bytes ∷ more) =
    record { payload = bytes; slots = numbers_from number (parts_of (length bytes)) }
    ∷ laid_in_order (number + parts_of (length bytes)) more
