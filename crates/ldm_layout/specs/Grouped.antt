-- The components and partitions of a group, side by side.
use Rattle.std.specs.Prelude.{◌≡◌, ℕ, List}
use Rattle.ldm_records.specs.declared.types.Record.{Record}
use Rattle.ldm_layout.specs.Parts.{plexes_at, plexes_of, extents_at, extents_of}
use Rattle.ldm_layout.specs.declared.parts.Plex.{Plex}
use Rattle.ldm_places.specs.declared.extent.Extent.{Extent}

pub record Lists : Type 0 where
  pub plexes : List Plex
  pub extents : List Extent

-- the lists have the components of each volume and the partitions of each component of these records
pub record IsListsOf (lists : Lists) (records : List Record) : Type 0 where
  pub plexes_are : (q : ℕ) → plexes_at q lists.plexes ≡ plexes_of q records
  pub extents_are : (q : ℕ) → extents_at q lists.extents ≡ extents_of q records
