-- What an image without LDM is: a container, by the bytes that it begins with (the magic numbers of QCOW2, of VMDK's sparse
-- extents, of the footer of VHD, of VHDX and of the Expert Witness Format), or a GPT disk, by the type of the protective entry of
-- its MBR.
use Rattle.std.specs.Prelude.{ℕ, ◌==◌, ◌&&◌, Bool, true, false, List, [], ◌∷◌, codes, slice_index, slice_range, nat_lt, Option, Some, None, if◌then◌else◌}
use Rattle.std.specs.Str.{bytes_eq}
use Rattle.ldm_label.specs.declared.LabelFault.{LabelFault}
use Rattle.ldm_label.specs.declared.LabelFault.TheVariants.{NoSignature, NoLdmEntry, NoMetadata}
use Rattle.ldm_label.specs.Fields.{sector, sectors_of}
use Rattle.ldm_look.specs.declared.foreign.Foreign.{Foreign}
use Rattle.ldm_look.specs.declared.foreign.Foreign.TheVariants.{Qcow2, Vmdk, Vhd, Vhdx, Ewf, Gpt}

-- an MBR whose first entry has the type 0xEE
unfoldable pub is_gpt : List ℕ → Bool
is_gpt first = (slice_index first 0x1FE == 0x55) && (slice_index first 0x1FF == 0xAA) && (slice_index first 0x1C2 == 0xEE)

-- what the first sector shows an image to be
unfoldable pub foreign_of : List ℕ → Option Foreign
foreign_of first =
    if bytes_eq (slice_range first 0 4) (0x51 ∷ 0x46 ∷ 0x49 ∷ 0xFB ∷ []) then Some Qcow2
    else if bytes_eq (slice_range first 0 4) (codes "KDMV") then Some Vmdk
    else if bytes_eq (slice_range first 0 8) (codes "conectix") then Some Vhd
    else if bytes_eq (slice_range first 0 8) (codes "vhdxfile") then Some Vhdx
    else if bytes_eq (slice_range first 0 3) (codes "EVF") then Some Ewf
    else if is_gpt first then Some Gpt
    else None

-- the fault is that of an image that isn't a disk of LDM's at all
abbrev pub lacks_ldm : LabelFault → Bool
lacks_ldm NoSignature = true
lacks_ldm NoLdmEntry = true
lacks_ldm NoMetadata = true
lacks_ldm fault = false

-- what an image with this fault is
abbrev pub foreign_in : LabelFault → List ℕ → Option Foreign
foreign_in fault image = if lacks_ldm fault && nat_lt 0 (sectors_of image) then foreign_of (sector image 0) else None

-- ---- what is said of it

abbrev pub format_word : Foreign → List ℕ
format_word Qcow2 = codes "qcow2"
format_word Vmdk = codes "vmdk"
format_word Vhd = codes "vhd"
format_word Vhdx = codes "vhdx"
format_word Ewf = codes "ewf"
format_word Gpt = codes "gpt"

abbrev pub text_of_foreign : Option Foreign → List ℕ
text_of_foreign None = []
text_of_foreign (Some Qcow2) = codes ": a QCOW2 container"
text_of_foreign (Some Vmdk) = codes ": a VMDK container"
text_of_foreign (Some Vhd) = codes ": a VHD container"
text_of_foreign (Some Vhdx) = codes ": a VHDX container"
text_of_foreign (Some Ewf) = codes ": an EWF container"
text_of_foreign (Some Gpt) = codes ": a GPT disk"
