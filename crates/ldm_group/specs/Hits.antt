-- The records that a key finds: the place of the first, and how many they are.
use Rattle.std.specs.Prelude.{ℕ, ◌+◌, ◌==◌, ◌&&◌, Bool, List, Option, Some, None, bytes_eq, count_by, position}
use Rattle.std.specs.Option.{option_map}
use Rattle.std.specs.declared.vec.Vec.{Vec}
use Rattle.indexmap.specs.IndexMap.{IndexMap, get_by}
use Rattle.ldm_records.specs.declared.types.Record.{Record}
use Rattle.ldm_group.specs.declared.index.Hits.{Hits}
use Rattle.ldm_group.specs.declared.index.ObjectId.{ObjectId}

-- the records that pass a test, where one does
abbrev pub hits : (Record → Bool) → List Record → Option Hits
hits test records = option_map (λ first. record { first = first; count = count_by test records }) (position test records)

-- how many they are
abbrev pub count_in : Option Hits → ℕ
count_in None = 0
count_in (Some found) = found.count

-- with one more, at this place
abbrev pub one_more : Option Hits → ℕ → Hits
one_more None at = record { first = at; count = 1 }
one_more (Some found) at = record { first = found.first; count = found.count + 1 }

-- what a map has at an object
abbrev pub is_object : ℕ → ℕ → ObjectId → Bool
is_object kind id key = (kind == key.kind) && (id == key.id)

abbrev pub at_object : {S : Type 0} → IndexMap ObjectId Hits S → ℕ → ℕ → Option Hits
at_object map kind id = get_by (is_object kind id) map

-- what a map has at a name
abbrev pub at_name : {A S : Type 0} → IndexMap (Vec ℕ A) Hits S → List ℕ → Option Hits
at_name map name = get_by (λ key. bytes_eq name key.items) map
