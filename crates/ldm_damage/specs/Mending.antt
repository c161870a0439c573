-- The view of an image that mends the label of an MBR disk: the MBR, and copy 1 of the private header in sector 6, where these are damaged. Copies 2
-- and 3 of the private header are in sectors 1856 and 2047 of the database, which has 2048 sectors and mostly ends with the disk.
use Rattle.std.specs.Prelude.{ℕ, ◌-◌, ◌*◌, nat_lt, ◌||◌, Bool, true, false, List, [], ◌∷◌, Option, Some, None, Result, Ok, Err, is_ok, if◌then◌else◌}
use Rattle.ldm_label.specs.declared.Label.{Label}
use Rattle.ldm_label.specs.declared.LabelFault.{LabelFault}
use Rattle.ldm_label.specs.declared.LabelFault.TheVariants.{NoPrivhead, Version, DatabaseSize, Range, Guid}
use Rattle.ldm_label.specs.Fields.{sectors_of, sector, is_protective}
use Rattle.ldm_label.specs.LabelOf.{label_of}
use Rattle.ldm_view.specs.Patches.{laid}

-- the type of an LDM disk in the first entry of the MBR, and the signature at its end
abbrev pub with_mbr : List ℕ → List ℕ
with_mbr image = laid (laid image 0x1C2 (0x42 ∷ [])) 0x1FE (0x55 ∷ 0xAA ∷ [])

-- besides, in place of copy 1 of the private header the bytes of another sector
abbrev pub with_header : ℕ → List ℕ → List ℕ
with_header from image = laid (with_mbr image) (512 * 6) (sector image from)

-- copy 1 of the private header has one of its own five faults
abbrev pub lacks_header : Result Label LabelFault → Bool
lacks_header (Err NoPrivhead) = true
lacks_header (Err Version) = true
lacks_header (Err DatabaseSize) = true
lacks_header (Err Range) = true
lacks_header (Err Guid) = true
lacks_header _ = false

-- with copy 3, and with copy 2, of a database that ends with the disk
abbrev pub header_tries : List ℕ → List (List ℕ)
header_tries image = with_header (sectors_of image - 1) image ∷ with_header (sectors_of image - 192) image ∷ []

-- The MBR is tried alone. So another copy of the private header never takes the place of a good copy 1 that it differs from.
abbrev pub tries : List ℕ → List (List ℕ)
tries image = with_mbr image ∷ (if lacks_header (label_of (with_mbr image)) then header_tries image else [])

-- the first of these views that has a label, else the image
abbrev pub first_labelled : List (List ℕ) → List ℕ → List ℕ
first_labelled [] image = image
first_labelled (view ∷ more) image = if is_ok (label_of view) then view else first_labelled more image

-- An image of fewer than 2055 sectors isn't tried, since none has a label: the database begins behind sector 6. Nor is one with a
-- protective MBR: it is a GPT disk, which may still have private headers of the MBR disk that it was.
abbrev pub is_left : List ℕ → Bool
is_left image = nat_lt (sectors_of image) 2055 || is_protective (sector image 0)

-- An image that has a label is left as it is, and so is one for which no try has one.
unfoldable pub mended : List ℕ → List ℕ
mended image = if is_left image then image else first_labelled (image ∷ tries image) image

-- the fault of the first label, where the second is a label
abbrev pub mended_by : Result Label LabelFault → Result Label LabelFault → Option LabelFault
mended_by (Err fault) (Ok label) = Some fault
mended_by _ _ = None

-- the fault of the image's own label, where its mended view has a label and it has none
abbrev pub mended_fault : List ℕ → Option LabelFault
mended_fault image = mended_by (label_of image) (label_of (mended image))
