-- The records that a list of blocks holds. This speaks of the whole list at once.
use Rattle.std.specs.Prelude.{◌≡◌, ℕ, ◌+◌, ◌<◌, ◌≤◌, ◌==◌, true, ◌&&◌, List, [], ◌∷◌, if◌then◌else◌}
use Rattle.std.specs.List.{flat_map}
use Rattle.ldm_frags.specs.declared.faults.Joined.{Joined}
use Rattle.ldm_frags.specs.Blocks.{count, has_magic, group, part, parts, payload, is_fragment, is_of, is_part, least_below, numbers_from}

-- the payloads of the parts below n of the group g, by part
unfoldable pub gathered : List ℕ → ℕ → ℕ → List ℕ
gathered blocks g n =
    flat_map (λ p. payload blocks (least_below (count blocks) (is_part blocks g p))) (numbers_from 0 n)

-- what block k adds: itself where it is whole, its group where it is part 0
unfoldable pub entry : List ℕ → ℕ → List Joined
entry blocks k =
    if parts blocks k == 1 then record { block = k + 4; payload = payload blocks k } ∷ []
    else if is_fragment blocks k && (part blocks k == 0) then
    record { block = k + 4; payload = gathered blocks (group blocks k) (parts blocks k) } ∷ []
    else []

-- what the first n blocks add, in rising number
unfoldable pub entries : List ℕ → ℕ → List Joined
entries blocks n = flat_map (entry blocks) (numbers_from 0 n)

-- The blocks join to the list: every block begins with `VBLK` and has at most 4 parts, a fragment's part
-- is below its number of parts, the fragments of one group have one number of parts, each part of a group
-- stands exactly once, and the list has an entry for each whole block and each part 0, in rising number.
pub record Joins (blocks : List ℕ) (list : List Joined) : Type 0 where
  pub magic : (k : ℕ) → k < count blocks → has_magic blocks k ≡ true
  pub few : (k : ℕ) → k < count blocks → parts blocks k ≤ 4
  pub below : (k : ℕ) → k < count blocks → is_fragment blocks k ≡ true → part blocks k < parts blocks k
  pub one_count : (j k : ℕ) → j < count blocks → k < count blocks → is_fragment blocks k ≡ true
      → is_of blocks (group blocks k) j ≡ true → parts blocks j ≡ parts blocks k
  pub once : (j k : ℕ) → j < count blocks → k < count blocks → is_fragment blocks k ≡ true
      → is_part blocks (group blocks k) (part blocks k) j ≡ true → j ≡ k
  pub complete : (k p : ℕ) → k < count blocks → is_fragment blocks k ≡ true → p < parts blocks k
      → (j : ℕ) × (j < count blocks) × (is_part blocks (group blocks k) p j ≡ true)
  pub entries_are : list ≡ entries blocks (count blocks)
