-- What can be read of a volume of a group that was found.
use Rattle.std.specs.Prelude.{ℕ, zero, suc, Bool, true, false, List, codes, Option, Some, None, is_some, Result, Ok, Err}
use Rattle.std.specs.List.{list_all}
use Rattle.ldm_records.specs.declared.types.Volume.{Volume}
use Rattle.ldm_layout.specs.Parts.{plexes_of, extents_of}
use Rattle.ldm_layout.specs.Volumes.{layout_of}
use Rattle.ldm_layout.specs.declared.parts.Plex.{Plex}
use Rattle.ldm_places.specs.declared.extent.Extent.{Extent}
use Rattle.ldm_places.specs.Layouts.{Layout}
use Rattle.ldm_places.specs.declared.shape.LayoutFault.{LayoutFault}
use Rattle.ldm_copy.specs.declared.found.Found.{Found}
use Rattle.ldm_copy.specs.Images.{image_of}
use Rattle.ldm_dump.specs.Sources.{lost_sectors}
use Rattle.ldm_look.specs.declared.states.VolumeState.{VolumeState}
use Rattle.ldm_look.specs.declared.states.VolumeState.TheVariants.{Whole, Degraded, Lost}

-- the disk of this id has an image
abbrev pub has_image : Found → ℕ → Bool
has_image found disk = is_some (image_of disk found.db.records found.labels)

-- each disk of the partitions of these components has one
abbrev pub have_images : Found → (ℕ → List Extent) → List Plex → Bool
have_images found extents plexes = list_all (λ p. list_all (λ e. has_image found e.disk) (extents p.id)) plexes

-- each disk of the partitions of the volume has one
unfoldable pub has_all_images : Found → ℕ → Bool
has_all_images found volume = have_images found (λ component. extents_of component found.db.records) (plexes_of volume found.db.records)

-- how many sectors are lost of a volume with this layout; a group that is found has no volume whose layout has a fault
abbrev pub lost_by_layout : Found → Result Layout LayoutFault → ℕ
lost_by_layout found (Ok l) = lost_sectors found l
lost_by_layout found (Err fault) = 0

unfoldable pub lost_of : Found → Volume → ℕ
lost_of found v = lost_by_layout found (layout_of found.db.records v)

-- whole where all images are there; else lost where some sectors are, and degraded where none is
abbrev pub state_with : Bool → ℕ → VolumeState
state_with true lost = Whole
state_with false zero = Degraded
state_with false (suc n) = Lost (suc n)

abbrev pub state_of : Found → Volume → VolumeState
state_of found v = state_with (has_all_images found v.head.id) (lost_of found v)

abbrev pub state_word : VolumeState → List ℕ
state_word Whole = codes "whole"
state_word Degraded = codes "degraded"
state_word (Lost lost) = codes "lost"

-- how many sectors are lost, where some are
abbrev pub lost_count : VolumeState → Option ℕ
lost_count (Lost lost) = Some lost
lost_count _ = None
