-- What changes of the blocks of a database when its records change: a record that both databases have keeps its blocks, those of
-- a record that is gone become unused, and a new record takes unused ones.
use Rattle.std.specs.Prelude.{◌≡◌, ◌≢◌, ℕ, ◌+◌, ◌-◌, ◌*◌, ◌/◌, ◌≤◌, not, Bool, true, false, List, [], ◌∷◌, ◌++◌, take, drop, filter, bytes_eq, slice_index_or, Option, Some, None, All}
use Rattle.ldm_frags.specs.Blocks.{count, numbers_from, block_at}
use Rattle.ldm_vmdb.specs.Parts.{parts_of}
use Rattle.ldm_written.specs.Written.{unused_block, IsPlaced}
use Rattle.ldm_records.specs.declared.types.Record.{Record}
use Rattle.ldm_records.specs.Plain.{own_spelling, IsRecord}
use Rattle.ldm_records.specs.Views.{plain_of}
use Rattle.ldm_group.specs.Order.{kind_of, id_of}
use Rattle.ldm_group.specs.Looks.{by_id}
use Rattle.ldm_group.specs.Room.{own_len, need_of}
use Rattle.ldm_body.specs.Body.{Stored, placed_of}

abbrev pub is_spelled_as : Record → Option Record → Bool
is_spelled_as r None = false
is_spelled_as r (Some s) = bytes_eq (own_spelling (plain_of s)) (own_spelling (plain_of r))

-- the records have this one: that of its kind and id has the same own spelling
unfoldable pub has_record : List Record → Record → Bool
has_record records r = is_spelled_as r (by_id (kind_of r) (id_of r) records)

abbrev pub lacks : List Record → Record → Bool
lacks records r = not (has_record records r)

-- how many blocks the records take together that are in one of two databases and not in the other
abbrev pub touched_blocks : List Record → List Record → ℕ
touched_blocks old new = need_of (filter (lacks new) old) + need_of (filter (lacks old) new)

-- how many blocks more there are with a greater last VBLK sequence
abbrev pub added_blocks : ℕ → ℕ → ℕ
added_blocks old new = 4 * (new / 4 - old / 4)

-- ---- records that stay or go

-- the record stays, or goes
abbrev pub record_stays : List Record → Stored → Bool
record_stays new s = has_record new s.record_is

abbrev pub record_goes : List Record → Stored → Bool
record_goes new s = not (has_record new s.record_is)

-- no block of the record has this number
abbrev pub Avoids : ℕ → Stored → Type 0
Avoids b s = All (λ n. n ≢ b) s.slots

-- these blocks became unused, and all others stay
pub record AreFreed (slots : List ℕ) (old new : List ℕ) : Type 0 where
  pub unused : All (λ b. block_at new b ≡ unused_block b) slots
  pub others : (b : ℕ) → 4 ≤ b → All (λ n. n ≢ b) slots → block_at new b ≡ block_at old b

-- where a record stays its slots are kept, else its blocks are freed
abbrev pub KeepsOrFrees : Bool → List ℕ → List (List ℕ) → List (List ℕ) → List ℕ → List ℕ → Type 0
KeepsOrFrees true slots kept next old new = (next ≡ kept ++ slots ∷ []) × (new ≡ old)
KeepsOrFrees false slots kept next old new = (next ≡ kept) × AreFreed slots old new

-- ---- records that are added

-- the slots that a record takes of free ones, from this place of their list on
abbrev pub slots_from : Record → List ℕ → ℕ → List ℕ
slots_from r free at = take (parts_of (own_len r)) (drop at free)

-- a record was written into free blocks
pub record IsAdded (r : Record) (free : List ℕ) (at next : ℕ) (made more : List (List ℕ)) (old new : List ℕ) : Type 0 where
  pub next_is : next ≡ at + parts_of (own_len r)
  pub made_is : more ≡ made ++ slots_from r free at ∷ []
  pub sound : IsRecord (plain_of r)
  pub placed : IsPlaced new (placed_of (record { record_is = r; slots = slots_from r free at }))
  pub others : (b : ℕ) → 4 ≤ b → All (λ n. n ≢ b) (slots_from r free at) → block_at new b ≡ block_at old b

-- a record that was there is left alone, a new one is added
abbrev pub LeavesOrAdds : Bool → Record → List ℕ → ℕ → ℕ → List (List ℕ) → List (List ℕ) → List ℕ → List ℕ → Type 0
LeavesOrAdds true r free at next made more old new = (next ≡ at) × (more ≡ made) × (new ≡ old)
LeavesOrAdds false r free at next made more old new = IsAdded r free at next made more old new

-- ---- blocks that differ

abbrev pub block_differs : List ℕ → List ℕ → ℕ → Bool
block_differs old new b = not (bytes_eq (block_at old b) (block_at new b))

-- the numbers of the blocks that differ, in rising order
abbrev pub changed_numbers : List ℕ → List ℕ → List ℕ
changed_numbers old new = filter (block_differs old new) (numbers_from 4 (count new))

-- ---- the slots of all records, from two lists

abbrev pub one_of : {X : Type 0} → Bool → X × X → X
one_of true both = both.0
one_of false both = both.1

-- the next slots are those of one of two lists; how many of each were taken
abbrev pub Weaves : Bool → List (List ℕ) → List (List ℕ) → ℕ × ℕ → ℕ × ℕ → List (List ℕ) → List (List ℕ) → Type 0
Weaves true kept made taken next old new = (next ≡ (taken.0 + 1, taken.1)) × (new ≡ old ++ slice_index_or kept taken.0 [] ∷ [])
Weaves false kept made taken next old new = (next ≡ (taken.0, taken.1 + 1)) × (new ≡ old ++ slice_index_or made taken.1 [] ∷ [])
