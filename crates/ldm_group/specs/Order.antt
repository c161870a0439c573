-- The order of the records in a group of the Windows Logical Disk Manager: by kind, then by object id.
use Rattle.std.specs.Prelude.{◌≡◌, ◌≢◌, ℕ, ◌+◌, ◌*◌, ◌-◌, ◌^◌, ◌<◌, ◌≤◌, ◌==◌, List, [], ◌∷◌, AllPairs, count_by, length, slice_index_or, nat_le, if◌then◌else◌}
use Rattle.std.specs.List.{AllAdjacentBelow}
use Rattle.ldm_records.specs.declared.types.Record.{Record}
use Rattle.ldm_records.specs.declared.types.Record.TheVariants as kinds

-- 1 group, 2 disk, 3 volume, 4 component, 5 partition
abbrev pub kind_of : Record → ℕ
kind_of (kinds.Group g) = 1
kind_of (kinds.Disk d) = 2
kind_of (kinds.Volume v) = 3
kind_of (kinds.Component c) = 4
kind_of (kinds.Partition p) = 5

abbrev pub id_of : Record → ℕ
id_of (kinds.Group g) = g.head.id
id_of (kinds.Disk d) = d.head.id
id_of (kinds.Volume v) = v.head.id
id_of (kinds.Component c) = c.head.id
id_of (kinds.Partition p) = p.head.id

-- the place of a kind and an id in the order: by kind, and then by id, which is below 2 ^ 64
abbrev pub place : ℕ → ℕ → ℕ
place kind id = kind * 2 ^ 64 + id

unfoldable pub place_of : Record → ℕ
place_of r = place (kind_of r) (id_of r)

-- in rising order of kind and id, so that no two have both the same
abbrev pub Rising : List Record → Type 0
Rising records = AllPairs (λ a b. place_of a < place_of b) records

-- how many records stand at a place of the order
abbrev pub count_at : ℕ → List Record → ℕ
count_at n records = count_by (λ r. place_of r == n) records

-- two records have this kind and id, and no two have a lower kind, or this kind and a lower id
pub record IsLeastTwice (records : List Record) (kind id : ℕ) : Type 0 where
  pub twice : 2 ≤ count_at (place kind id) records
  pub least : (n : ℕ) → 2 ≤ count_at n records → place kind id ≤ n

-- neighbours of a sorted list differ
abbrev pub Differ : Record → Record → Type 0
Differ a b = place_of a ≢ place_of b

abbrev pub NoneTwice : List Record → Type 0
NoneTwice records = AllAdjacentBelow Differ records (length records)

-- the first record of a sorted list that is at the same place of the order as the one before it
pub record IsFirstTwice (records : List Record) (at : ℕ) : Type 0 where
  pub above : 1 ≤ at
  pub within : at < length records
  pub same : (d : Record) → place_of (slice_index_or records (at - 1) d) ≡ place_of (slice_index_or records at d)
  pub before : AllAdjacentBelow Differ records at

-- into a list of records in rising order: in front of the first that stands at no lower place
abbrev pub insert : Record → List Record → List Record
insert r [] = r ∷ []
insert r (s ∷ rest) = if nat_le (place_of r) (place_of s) then r ∷ (s ∷ rest) else s ∷ insert r rest

-- the records in rising order of kind and id
unfoldable pub in_order : List Record → List Record
in_order [] = []
in_order (r ∷ records) = insert r (in_order records)
