-- The layout of a volume, and where its sectors lie.
use Rattle.std.specs.Prelude.{ℕ, ◌==◌, Bool, List, [], ◌∷◌, map, Option, Some, None, Result, Ok, Err, option_and_then, if◌then◌else◌}
use Rattle.std.specs.List.{list_all, filter_map}
use Rattle.std.specs.Option.{option_map}
use Rattle.std.specs.Result.{result_ok}
use Rattle.ldm_bytes.specs.Tables.{unless}
use Rattle.ldm_records.specs.declared.pieces.Striping.{Striping}
use Rattle.ldm_records.specs.declared.types.Record.{Record}
use Rattle.ldm_records.specs.declared.types.Record.TheVariants as kinds
use Rattle.ldm_records.specs.declared.types.Volume.{Volume}
use Rattle.ldm_group.specs.Looks.{by_id, volume_in}
use Rattle.ldm_layout.specs.Parts.{plexes_of, extents_of, by_offset, by_index}
use Rattle.ldm_places.specs.Layouts.{Layout, is_tiled, layout_fault, place_in, parity_in}
use Rattle.ldm_layout.specs.declared.parts.Plex.{Plex}
use Rattle.ldm_places.specs.declared.extent.Extent.{Extent}
use Rattle.ldm_places.specs.declared.shape.Place.{Place}
use Rattle.ldm_places.specs.declared.shape.Shape.{Shape}
use Rattle.ldm_places.specs.declared.shape.Shape.TheVariants.{Span, Stripe, Mirror, Raid5}
use Rattle.ldm_places.specs.declared.shape.LayoutFault.{LayoutFault}
use Rattle.ldm_places.specs.declared.shape.LayoutFault.TheVariants.{Unknown}
use Rattle.ldm_layout.specs.declared.faulty.VolumeFault.{VolumeFault}

abbrev pub is_basic : Plex → Bool
is_basic p = p.layout == 2

-- the shape of a volume of these components
abbrev pub shape_of : List Plex → Option Shape
shape_of [] = None
shape_of (p ∷ []) = if p.layout == 2 then Some Span else if p.layout == 1 then Some Stripe else if p.layout == 3 then Some Raid5 else None
shape_of (p ∷ (q ∷ ps)) = if list_all is_basic (p ∷ (q ∷ ps)) then Some Mirror else None

-- how the first component is striped, all 0 where it says nothing
abbrev pub striping_of : List Plex → Striping
striping_of [] = record { chunk = 0; columns = 0 }
striping_of (p ∷ ps) = striping p.striping
  where
    striping : Option Striping → Striping
    striping (Some s) = s
    striping None = record { chunk = 0; columns = 0 }

-- the partitions of a component in the order of the volume's sectors
abbrev pub laid_out : Shape → List Extent → List Extent
laid_out shape es = if is_tiled shape then by_offset es else by_index es

-- the layout of a volume of this size, faulty or not, where extents tells the partitions of a component
abbrev pub draft_of : ℕ → List Plex → (ℕ → List Extent) → Option Layout
draft_of size plexes extents = option_map (λ shape. record {
  shape = shape;
  size = size;
  chunk = (striping_of plexes).chunk;
  columns = (striping_of plexes).columns;
  plexes = map (λ p. laid_out shape (extents p.id)) plexes;
}) (shape_of plexes)

-- a layout, or its first fault
abbrev pub checked : Option Layout → Result Layout LayoutFault
checked None = Err Unknown
checked (Some l) = unless (layout_fault l) l

-- the layout of a volume, or its first fault
unfoldable pub layout_of : List Record → Volume → Result Layout LayoutFault
layout_of records v = checked (draft_of v.size (plexes_of v.head.id records) (λ component. extents_of component records))

-- where sector x of a volume lies, in the copy of this number
abbrev pub volume_place : List Record → Volume → ℕ → ℕ → Option Place
volume_place records v x copy = option_and_then (λ l. place_in l x copy) (result_ok (layout_of records v))

-- where its parity does
abbrev pub parity_of : List Record → Volume → ℕ → Option Place
parity_of records v x = option_and_then (λ l. parity_in l x) (result_ok (layout_of records v))

-- the volume of this id
abbrev pub volume_with : ℕ → List Record → Option Volume
volume_with id records = volume_in (by_id 3 id records)

-- ---- all faults of a group

abbrev pub fault_of : Result Layout LayoutFault → Option LayoutFault
fault_of (Ok l) = None
fault_of (Err f) = Some f

-- the fault of a volume
abbrev pub fault_at : List Record → Record → Option VolumeFault
fault_at records (kinds.Volume v) = option_map (λ f. record { volume = v.head.id; fault = f }) (fault_of (layout_of records v))
fault_at records _ = None

-- the faults of all volumes, in rising id
abbrev pub layout_faults : List Record → List VolumeFault
layout_faults records = filter_map (fault_at records) records
