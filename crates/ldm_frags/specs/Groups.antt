-- What a table of groups says of the blocks that were met, those below k.
use Rattle.std.specs.Prelude.{◌≡◌, ℕ, ◌<◌, ◌==◌, Bool, true, false, not, List, [], ◌∷◌, length, Option, Some, None, slice_index_or, if◌then◌else◌}
use Rattle.std.specs.Ordering.{nat_cmp}
use Rattle.std.specs.BTreeMap.{BTreeMap, get}
use Rattle.ldm_frags.specs.declared.groups.Group.{Group}
use Rattle.ldm_frags.specs.Blocks.{parts, is_of, is_part, some_below, least_below}

-- a group of which no part was met
abbrev pub empty_group : ℕ → Group
empty_group count = record { parts = count; places = None ∷ None ∷ None ∷ None ∷ [] }

-- where a part of a group stands
abbrev pub part_place : Option Group → ℕ → Option ℕ
part_place None part = None
part_place (Some group) part = slice_index_or group.places part None

-- the group has another number of parts
abbrev pub has_other : Option Group → ℕ → Bool
has_other None count = false
has_other (Some group) count = not (group.parts == count)

-- the least number below n that passes, if there is one
abbrev pub first_passing : ℕ → (ℕ → Bool) → Option ℕ
first_passing n p = if some_below n p then Some (least_below n p) else None

-- some fragment of the group g was met, and all that were have as many parts
pub record IsMet (blocks : List ℕ) (k g : ℕ) (group : Group) : Type 0 where
  pub some : some_below k (is_of blocks g) ≡ true
  pub one_count : (j : ℕ) → j < k → is_of blocks g j ≡ true → parts blocks j ≡ group.parts
  pub places : length group.places ≡ 4

abbrev pub Knows : List ℕ → ℕ → ℕ → Option Group → Type 0
Knows blocks k g None = some_below k (is_of blocks g) ≡ false
Knows blocks k g (Some group) = IsMet blocks k g group

-- the table has each group that was met, and where its parts stand
pub record IsTable (blocks : List ℕ) (k : ℕ) (groups : BTreeMap ℕ Group) : Type 0 where
  pub known : (g : ℕ) → Knows blocks k g (get nat_cmp groups g)
  pub places : (g p : ℕ) → p < 4 → part_place (get nat_cmp groups g) p ≡ first_passing k (is_part blocks g p)
