-- What every plan keeps.
use Rattle.std.specs.Prelude.{◌≡◌, ◌+◌, ◌<◌, ◌≤◌, ◌^◌, true, false, All, List, length, None}
use Rattle.ldm_places.specs.Layouts.{Layout, is_tiled, fewest, plex_capacity, layout_fault, copies_of}
use Rattle.ldm_places.specs.Extents.{tiles}
use Rattle.ldm_places.specs.declared.extent.Extent.{Extent}

-- each partition ends within the numbers of the format
abbrev pub AllEnd : List Extent → Type 0
AllEnd es = All (λ e. e.start + e.size < 2 ^ 64) es

-- what every plan keeps
pub record IsPlan (l : Layout) : Type 0 where
  pub sound : layout_fault l ≡ None
  pub copies : length l.plexes ≡ copies_of l
  pub ends : All AllEnd l.plexes

-- what a component of a plan keeps
pub record IsPlexOf (l : Layout) (es : List Extent) : Type 0 where
  pub tiled : is_tiled l.shape ≡ true → tiles es ≡ true
  pub chunked : is_tiled l.shape ≡ false → 0 < l.chunk
  pub columned : is_tiled l.shape ≡ false → fewest l.shape ≤ length es
  pub holds : l.size ≤ plex_capacity l.shape l.chunk es
  pub ends : AllEnd es
