-- Areas of two disks that hold the same bytes.
use Rattle.std.specs.Prelude.{◌≡◌, ℕ, ◌+◌, ◌*◌, ◌/◌, ◌≤◌, max, List, slice_range}
use Rattle.ldm_label.specs.declared.Label.{Label}
use Rattle.ldm_copy.specs.Copy.{config_area}

-- n sectors of an image, from this one on
abbrev pub sectors_from : ℕ → ℕ → List ℕ → List ℕ
sectors_from from n image = slice_range image (512 * from) (512 * (from + n))

-- the header sector and the blocks in use of an area, where this is the last VBLK sequence
abbrev pub in_use : ℕ → List ℕ → List ℕ
in_use last area = slice_range area 0 (512 * max 1 (last / 4))

-- The areas of two images, each beside its label, have room for this last VBLK sequence, and the same bytes in use.
pub record AreAlike (last : ℕ) (one other : Label × List ℕ) : Type 0 where
  pub room : last ≤ 4 * one.0.area_sectors
  pub other_room : last ≤ 4 * other.0.area_sectors
  pub same : in_use last (config_area one.0 one.1) ≡ in_use last (config_area other.0 other.1)
