-- Images that are shown with other bytes at some places.
use Rattle.std.specs.Prelude.{ℕ, suc, ◌≡◌, ◌+◌, ◌*◌, ◌<◌, ◌≤◌, ◌==◌, nat_le, List, [], ◌∷◌, length, slice_index, slice_get, Some, if◌then◌else◌}
use Rattle.ldm_bytes.specs.Numbers.{IsBytes}
use Rattle.ldm_bytes.specs.Places.{put}
use Rattle.ldm_view.specs.declared.patch.Patch.{Patch}

-- the old bytes with these in place of those that stood there, where there is room
unfoldable pub laid : List ℕ → ℕ → List ℕ → List ℕ
laid old at bytes = if nat_le (at + length bytes) (length old) then put old at bytes else old

-- an image of the disk of this number, with a patch that may be of another disk
abbrev pub with_patch : ℕ → Patch → List ℕ → List ℕ
with_patch disk p image = if p.disk == disk then laid image p.at p.bytes.items else image

-- with all of them, each over those before it
unfoldable pub patched : List Patch → ℕ → List ℕ → List ℕ
patched [] disk image = image
patched (p ∷ more) disk image = patched more disk (with_patch disk p image)

-- all images with their patches, the first of which is of this number
unfoldable pub patched_from : List Patch → ℕ → List (List ℕ) → List (List ℕ)
patched_from patches disk [] = []
patched_from patches disk (image ∷ images) = patched patches disk image ∷ patched_from patches (suc disk) images

abbrev pub shown : List Patch → List (List ℕ) → List (List ℕ)
shown patches images = patched_from patches 0 images

-- each patch of a disk has room in so many bytes
abbrev pub FitAll : List Patch → ℕ → ℕ → Type 0
FitAll patches disk size = (k : ℕ) (p : Patch) → slice_get patches k ≡ Some p → p.disk ≡ disk → p.at + length p.bytes.items ≤ size

-- one of the patches gives all bytes of a piece of a disk
pub record Covers (patches : List Patch) (disk from n : ℕ) : Type 0 where
  pub number : ℕ
  pub patch : Patch
  pub there : slice_get patches number ≡ Some patch
  pub here : patch.disk ≡ disk
  pub first : patch.at ≤ from
  pub last : from + n ≤ patch.at + length patch.bytes.items

-- a patch lies on one of the disks with so many sectors each
pub record IsOnDisk (sizes : List ℕ) (p : Patch) : Type 0 where
  pub disk : p.disk < length sizes
  pub range : p.at + length p.bytes.items ≤ 512 * slice_index sizes p.disk
  pub bytes : IsBytes p.bytes.items
