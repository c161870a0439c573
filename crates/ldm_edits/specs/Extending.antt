-- extend: the group with a longer span, or the first reason that it is refused.
use Rattle.std.specs.Prelude.{◌≡◌, ℕ, ◌+◌, ◌-◌, ◌^◌, ◌≤◌, ◌==◌, ◌||◌, not, Bool, true, false, List, [], ◌∷◌, length, sum_by, find, Option, Some, None, is_some, Result, Ok, Err, Contains}
use Rattle.std.specs.List.{list_any}
use Rattle.std.specs.Option.{option_map}
use Rattle.ldm_bytes.specs.Tables.{first_of}
use Rattle.ldm_records.specs.declared.types.Record.{Record}
use Rattle.ldm_records.specs.declared.types.Record.TheVariants as kinds
use Rattle.ldm_records.specs.declared.types.Volume.{Volume}
use Rattle.ldm_records.specs.declared.types.Component.{Component}
use Rattle.ldm_made.specs.Made.{resized, with_children}
use Rattle.ldm_label.specs.declared.Label.{Label}
use Rattle.ldm_group.specs.Database.{Database}
use Rattle.ldm_group.specs.Looks.{is_at, is_child, max_id}
use Rattle.ldm_places.specs.declared.shape.Shape.{Shape}
use Rattle.ldm_places.specs.declared.shape.Shape.TheVariants.{Span}
use Rattle.ldm_places.specs.declared.shape.LayoutFault.{LayoutFault}
use Rattle.ldm_layout.specs.Parts.{plexes_of}
use Rattle.ldm_places.specs.Layouts.{Layout, capacity_of}
use Rattle.ldm_layout.specs.Volumes.{layout_of, shape_of}
use Rattle.ldm_rules.specs.Ends.{data_size}
use Rattle.ldm_made.specs.declared.taken.Taken.{Taken}
use Rattle.ldm_space.specs.Free.{taken_in}
use Rattle.ldm_space.specs.declared.placed.Wanted.{Wanted}
use Rattle.ldm_space.specs.Wanted.{placed}
use Rattle.ldm_words.specs.declared.command.Piece.{Piece}
use Rattle.ldm_edits.specs.declared.reply.Refusal.{Refusal}
use Rattle.ldm_edits.specs.declared.reply.Refusal.TheVariants as refusals
use Rattle.ldm_edits.specs.Asked.{words_by, asked_for, is_much}
use Rattle.ldm_edits.specs.declared.leaving.Leaving.TheVariants as leavings
use Rattle.ldm_edits.specs.Staying.{change_of}
use Rattle.ldm_edits.specs.Changes.{Change, when, change_to}
use Rattle.ldm_edits.specs.Spots.{refused_or, and_then, open_wanted, spots_for}
use Rattle.ldm_made.specs.Volumes.{span_parts, there}

-- ---- the records

-- the volume, and its component
abbrev pub span_changes : Volume → Component → Record → Bool
span_changes v c r = is_at 3 v.head.id r || is_at 4 c.head.id r

-- The longer volume and its component, and the new partitions from an id on. These begin behind the capacity of the component,
-- which has so many partitions more. The volume's size is the new capacity.
abbrev pub longer_parts : Volume → Component → ℕ → ℕ → List Taken → List Record
longer_parts v c capacity id taken =
    there (
    option_map kinds.Volume (resized v (capacity + sum_by (λ t. t.size) taken))
    ∷ option_map kinds.Component (with_children c (c.children + length taken))
    ∷ span_parts id c.head.id capacity taken)

abbrev pub lengthened : List Record → Volume → Component → ℕ → List Taken → Change
lengthened records v c capacity taken = change_of (leavings.Changed v.head.id c.head.id) records (longer_parts v c capacity (max_id records + 1) taken)

-- ---- the command

-- the sectors that the components of a volume hold
abbrev pub held : Result Layout LayoutFault → ℕ
held (Ok l) = capacity_of l
held (Err fault) = 0

abbrev pub component_in : Option Record → Option Component
component_in (Some (kinds.Component c)) = Some c
component_in _ = None

-- the component of a span
abbrev pub component_of : Volume → List Record → Option Component
component_of v records = component_in (find (is_child 3 v.head.id) records)

abbrev pub is_span : Option Shape → Bool
is_span (Some Span) = true
is_span _ = false

-- why the volume can't be extended
abbrev pub unlengthened : List Record → Volume → Option Refusal
unlengthened records v = first_of (when (not (is_span (shape_of (plexes_of v.head.id records)))) refusals.NotSpan ∷ (when (is_some v.size2) refusals.ExtraSize ∷ []))

-- a length of 0, or too large a volume
abbrev pub is_bad_length : ℕ → List Wanted → Bool
is_bad_length capacity wanted = list_any (λ w. w.size == 0) wanted || is_much (capacity + sum_by (λ w. w.size) wanted)

-- what stands against it, where all disks are there
abbrev pub against_longer : List Record → Volume → List Wanted → Option Refusal
against_longer records v wanted = when (is_bad_length (held (layout_of records v)) wanted) refusals.BadSize

abbrev pub lengthen : Database → List Label → Volume → Option Component → List Wanted → Result Database Refusal
lengthen db labels v (Some c) wanted =
    and_then (spots_for db wanted) (λ spots. change_to db labels (length wanted) (lengthened db.records v c (held (layout_of db.records v)) spots))
lengthen db labels v None wanted = Err refusals.NotSpan

-- the group whose span is longer
abbrev pub longer_span : Database → List Label → List Piece → Volume → Result Database Refusal
longer_span db labels pieces v = and_then (open_wanted db labels (words_by pieces) (against_longer db.records v)) (lengthen db labels v (component_of v db.records))

abbrev pub extended_span : Database → List Label → List Piece → Option Volume → Result Database Refusal
extended_span db labels pieces None = Err refusals.NoVolume
extended_span db labels pieces (Some v) = refused_or (unlengthened db.records v) (longer_span db labels pieces v)

-- nothing refuses it before the limits but for IdsSpent
pub record MayExtend (db : Database) (labels : List Label) (v : Volume) (c : Component) (wanted : List Wanted) (spots : List Taken) : Type 0 where
  pub there : Contains db.records (kinds.Volume v)
  pub span : shape_of (plexes_of v.head.id db.records) ≡ Some Span
  pub component : component_of v db.records ≡ Some c
  pub words : List (List ℕ × ℕ)
  pub asked : asked_for (data_size labels db.records) db.records 0 words ≡ Ok wanted
  pub sizes : is_bad_length (held (layout_of db.records v)) wanted ≡ false
  pub places : placed (taken_in db.records) 0 wanted ≡ Ok spots
  pub ids : max_id db.records + length wanted ≤ 2 ^ 64 - 1
