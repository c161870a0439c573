-- Free sectors of a disk: all numbers are of sectors of its data area, as the starts and sizes of partition records are.
use Rattle.std.specs.Prelude.{◌≡◌, ℕ, zero, suc, ◌+◌, ◌-◌, ◌<◌, ◌≤◌, ◌==◌, ◌&&◌, max, min, not, Bool, true, false, List, Option, Some, None, nat_lt, if◌then◌else◌}
use Rattle.std.specs.List.{list_any, filter_map}
use Rattle.ldm_records.specs.declared.types.Record.{Record}
use Rattle.ldm_records.specs.declared.types.Record.TheVariants as kinds
use Rattle.ldm_records.specs.declared.types.Partition.{Partition}
pub use Rattle.ldm_made.specs.declared.taken.Taken.{Taken}

-- the sectors of a partition
abbrev pub taken_of : Partition → Taken
taken_of p = record { disk = p.disk; start = p.start; size = p.size }

abbrev pub taken_by : Record → Option Taken
taken_by (kinds.Partition p) = Some (taken_of p)
taken_by _ = None

-- what the partitions among the records take
abbrev pub taken_in : List Record → List Taken
taken_in records = filter_map taken_by records

-- both have a sector of one disk
abbrev pub clash : Taken → Taken → Bool
clash a b = (a.disk == b.disk) && nat_lt (max a.start b.start) (min (a.start + a.size) (b.start + b.size))

-- one of the len sectors of the disk from p on is taken
abbrev pub takes_one : ℕ → ℕ → ℕ → Taken → Bool
takes_one disk len p t = clash (record { disk = disk; start = p; size = len }) t

unfoldable pub is_taken : List Taken → ℕ → ℕ → ℕ → Bool
is_taken taken disk len p = list_any (takes_one disk len p) taken

-- the first of n numbers from p on that passes
abbrev pub first_from : ℕ → ℕ → (ℕ → Bool) → Option ℕ
first_from zero p test = None
first_from (suc n) p test = if test p then Some p else first_from n (p + 1) test

-- the least start of len free sectors below size
unfoldable pub first_free_start : List Taken → ℕ → ℕ → ℕ → Option ℕ
first_free_start taken disk size len = if nat_lt size len then None else first_from (suc (size - len)) 0 (λ p. not (is_taken taken disk len p))

-- the least free start in words: the sectors lie below size, none of them is taken, and no lower start is free
pub record IsFirstFree (taken : List Taken) (disk size len p : ℕ) : Type 0 where
  pub ends : p + len ≤ size
  pub free : is_taken taken disk len p ≡ false
  pub least : (q : ℕ) → q < p → is_taken taken disk len q ≡ true

-- there is none
abbrev pub HasNoFree : List Taken → ℕ → ℕ → ℕ → Type 0
HasNoFree taken disk size len = (q : ℕ) → q + len ≤ size → is_taken taken disk len q ≡ true

-- where a walk that looks for len free sectors goes on behind what is taken
abbrev pub past : ℕ → ℕ → ℕ → Option Taken → ℕ
past disk len at None = at
past disk len at (Some t) = if takes_one disk len at t then t.start + t.size else at
