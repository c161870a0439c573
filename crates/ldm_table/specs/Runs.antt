-- Stretches of a volume that the code goes over.
use Rattle.std.specs.Prelude.{◌≡◌, ℕ, ◌+◌, ◌<◌, ◌≤◌, Some}
use Rattle.ldm_places.specs.Layouts.{Layout}
use Rattle.ldm_copy.specs.declared.found.Found.{Found}
use Rattle.ldm_dump.specs.Runs.{behind}
use Rattle.ldm_table.specs.Tables.{sector_at}
use Rattle.ldm_table.specs.declared.stretch.Stretch.{Stretch}

-- sectors of the volume from this one on, side by side on one image
pub record IsStretchOf (found : Found) (l : Layout) (x : ℕ) (s : Stretch) : Type 0 where
  pub start : s.start ≡ x
  pub some : 0 < s.sectors
  pub within : x + s.sectors ≤ l.size
  pub sectors : (i : ℕ) → i < s.sectors → sector_at found l (x + i) ≡ Some (record { start = x + i; sectors = 1; spot = behind i s.spot })
