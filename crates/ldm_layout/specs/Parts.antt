-- What a layout is made of: the components of a volume (plexes), and the partitions of a component (extents), in their orders.
use Rattle.std.specs.Prelude.{ℕ, ◌+◌, ◌*◌, ◌^◌, ◌==◌, Bool, false, List, [], ◌∷◌, Option, Some, None, filter, nat_le, sum_by, unwrap_or, if◌then◌else◌}
use Rattle.std.specs.List.{filter_map, list_any}
use Rattle.ldm_records.specs.declared.types.Record.{Record}
use Rattle.ldm_records.specs.declared.types.Record.TheVariants as kinds
use Rattle.ldm_records.specs.declared.types.Component.{Component}
use Rattle.ldm_records.specs.declared.types.Partition.{Partition}
use Rattle.ldm_layout.specs.declared.parts.Plex.{Plex}
use Rattle.ldm_places.specs.declared.extent.Extent.{Extent}

-- what a layout reads of a component: its volume, id, layout type, and chunk and columns
abbrev pub plex_of : Component → Plex
plex_of c = record { volume = c.parent; id = c.head.id; layout = c.layout; striping = c.striping }

abbrev pub plex_in : Record → Option Plex
plex_in (kinds.Component c) = Some (plex_of c)
plex_in _ = None

-- the components of a volume among these
abbrev pub plexes_at : ℕ → List Plex → List Plex
plexes_at volume plexes = filter (λ p. p.volume == volume) plexes

-- the components of a volume, in rising id
abbrev pub plexes_of : ℕ → List Record → List Plex
plexes_of volume records = plexes_at volume (filter_map plex_in records)

-- what a layout reads of a partition, whose index is 0 where it has none
abbrev pub extent_of : Partition → Extent
extent_of p = record { component = p.parent; disk = p.disk; start = p.start; size = p.size; offset = p.offset; index = unwrap_or p.index 0 }

abbrev pub extent_in : Record → Option Extent
extent_in (kinds.Partition p) = Some (extent_of p)
extent_in _ = None

-- the partitions of a component among these
abbrev pub extents_at : ℕ → List Extent → List Extent
extents_at component extents = filter (λ e. e.component == component) extents

-- the partitions of a component, in rising id
abbrev pub extents_of : ℕ → List Record → List Extent
extents_of component records = extents_at component (filter_map extent_in records)

-- in rising number, where those of one number keep their order
abbrev pub insert_by : (Extent → ℕ) → Extent → List Extent → List Extent
insert_by n e [] = e ∷ []
insert_by n e (f ∷ fs) = if nat_le (n e) (n f) then e ∷ (f ∷ fs) else f ∷ insert_by n e fs

abbrev pub in_rising : (Extent → ℕ) → List Extent → List Extent
in_rising n [] = []
in_rising n (e ∷ es) = insert_by n e (in_rising n es)

-- by offset, and at one offset by size
abbrev pub tile_key : Extent → ℕ
tile_key e = e.offset * 2 ^ 64 + e.size

abbrev pub by_offset : List Extent → List Extent
by_offset es = in_rising tile_key es

-- what partitions hold
abbrev pub held_in : List Extent → ℕ
held_in es = sum_by (λ e. e.size) es

abbrev pub by_index : List Extent → List Extent
by_index es = in_rising (λ e. e.index) es

-- a partition of one of the components of this volume
abbrev pub is_partition_of : ℕ → List Record → Record → Bool
is_partition_of volume records (kinds.Partition p) = list_any (λ plex. plex.id == p.parent) (plexes_of volume records)
is_partition_of volume records _ = false

-- the volume of this id, one of its components, or one of their partitions
abbrev pub is_of_volume : ℕ → List Record → Record → Bool
is_of_volume volume records (kinds.Volume v) = v.head.id == volume
is_of_volume volume records (kinds.Component c) = c.parent == volume
is_of_volume volume records (kinds.Partition p) = is_partition_of volume records (kinds.Partition p)
is_of_volume volume records _ = false
