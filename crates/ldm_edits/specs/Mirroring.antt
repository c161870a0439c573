-- extend of a mirror: the group whose mirror is longer, where its pieces take given sectors.
use Rattle.std.specs.Prelude.{◌≡◌, ℕ, ◌+◌, ◌-◌, ◌^◌, ◌<◌, ◌≤◌, ◌==◌, ◌||◌, ◌++◌, Bool, false, List, [], ◌∷◌, length, map, filter, Option, Some, None, Ok, All, Contains}
use Rattle.std.specs.List.{filter_map}
use Rattle.std.specs.Option.{option_map}
use Rattle.ldm_records.specs.declared.types.Record.{Record}
use Rattle.ldm_records.specs.declared.types.Record.TheVariants as kinds
use Rattle.ldm_records.specs.declared.types.Volume.{Volume}
use Rattle.ldm_records.specs.declared.types.Component.{Component}
use Rattle.ldm_made.specs.Made.{resized, with_children, new_partition}
use Rattle.ldm_label.specs.declared.Label.{Label}
use Rattle.ldm_group.specs.Database.{Database}
use Rattle.ldm_group.specs.Looks.{is_at, is_child, max_id}
use Rattle.ldm_places.specs.declared.shape.Shape.TheVariants.{Mirror}
use Rattle.ldm_layout.specs.Parts.{plexes_of, extents_of, by_offset, held_in}
use Rattle.ldm_layout.specs.Volumes.{layout_of, shape_of}
use Rattle.ldm_rules.specs.Ends.{data_size}
use Rattle.ldm_made.specs.declared.taken.Taken.{Taken}
use Rattle.ldm_space.specs.Free.{taken_in}
use Rattle.ldm_space.specs.declared.placed.Wanted.{Wanted}
use Rattle.ldm_space.specs.Wanted.{placed}
use Rattle.ldm_made.specs.Volumes.{there}
use Rattle.ldm_edits.specs.Asked.{asked_for}
use Rattle.ldm_edits.specs.declared.leaving.Leaving.TheVariants as leavings
use Rattle.ldm_edits.specs.Staying.{change_of}
use Rattle.ldm_edits.specs.Changes.{Change}
use Rattle.ldm_edits.specs.Extending.{held}

-- the volume and its components are changed
abbrev pub mirror_changes : Volume → Record → Bool
mirror_changes v r = is_at 3 v.head.id r || is_child 3 v.head.id r

abbrev pub component_in_record : Record → Option Component
component_in_record (kinds.Component c) = Some c
component_in_record _ = None

-- the components of a volume, in rising id
abbrev pub components_of : Volume → List Record → List Component
components_of v records = filter_map component_in_record (filter (is_child 3 v.head.id) records)

-- what a component holds: where its new partition begins
abbrev pub component_holds : List Record → Component → ℕ
component_holds records c = held_in (by_offset (extents_of c.head.id records))

-- each component, with one partition more
abbrev pub grown_components : List Component → List (Option Record)
grown_components cs = map (λ c. option_map kinds.Component (with_children c (c.children + 1))) cs

-- a new partition for each component, with ids from one on, behind the partitions that the component has
abbrev pub grown_parts : List Record → ℕ → List Component → List Taken → List (Option Record)
grown_parts records id [] taken = []
grown_parts records id (c ∷ cs) [] = []
grown_parts records id (c ∷ cs) (t ∷ ts) = new_partition id t.start (component_holds records c) t.size c.head.id t.disk None ∷ grown_parts records (id + 1) cs ts

-- the volume of this size, its components, and the new partitions
abbrev pub grown_made : List Record → Volume → ℕ → ℕ → List Taken → List Record
grown_made records v size id taken =
    there (option_map kinds.Volume (resized v size) ∷ (grown_components (components_of v records) ++ grown_parts records id (components_of v records) taken))

-- the mirror is so many sectors longer than what its components hold together
abbrev pub grown : List Record → Volume → ℕ → List Taken → Change
grown records v size taken = change_of (leavings.Grown v.head.id) records (grown_made records v size (max_id records + 1) taken)

-- nothing refuses it before the limits but for IdsSpent: one piece of these sectors for each component, each placed
pub record MayGrow (db : Database) (labels : List Label) (v : Volume) (len : ℕ) (wanted : List Wanted) (spots : List Taken) : Type 0 where
  pub there : Contains db.records (kinds.Volume v)
  pub shape : shape_of (plexes_of v.head.id db.records) ≡ Some Mirror
  pub words : List (List ℕ × ℕ)
  pub asked : asked_for (data_size labels db.records) db.records 0 words ≡ Ok wanted
  pub one_each : length wanted ≡ length (components_of v db.records)
  pub sizes : All (λ w. w.size ≡ len) wanted
  pub some : (len == 0) ≡ false
  pub fits : held (layout_of db.records v) + len ≤ 2 ^ 64 - 1
  pub places : placed (taken_in db.records) 0 wanted ≡ Ok spots
  pub ids : max_id db.records + length wanted ≤ 2 ^ 64 - 1
  pub low : db.header.last < 2 ^ 32
