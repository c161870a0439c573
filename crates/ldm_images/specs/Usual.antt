-- The images of the usual group: three disks, each with its label, and a copy of the database behind an open gate.
use Rattle.std.specs.Prelude.{◌≡◌, ℕ, ◌*◌, ◌<◌, List, [], ◌∷◌, length, slice_index, codes, Ok}
use Rattle.byteorder.specs.Endian.{big_bytes}
use Rattle.ldm_bytes.specs.Guid.{own_guid}
use Rattle.ldm_host.specs.Seen.{image}
use Rattle.ldm_label.specs.Fields.{sector}
use Rattle.ldm_label.specs.LabelOf.{label_of}
use Rattle.ldm_label.specs.Written.{sector_with}
use Rattle.ldm_sample_disks.specs.Disks.{guid_with, sample_label}

-- The fields of the database's header, by their offsets: the last VBLK sequence 5924, blocks of 128 bytes from byte 512 on, no
-- update in hand, version 4.10, the group `Dg0`, sequence 7 in both places, and three disks in both sets of counts.
abbrev pub usual_header_fields : List (ℕ × List ℕ)
usual_header_fields =
    (0x00, codes "VMDB")
    ∷ (0x04, big_bytes 4 5924)
    ∷ (0x08, big_bytes 4 128)
    ∷ (0x0C, big_bytes 4 512)
    ∷ (0x10, big_bytes 2 1)
    ∷ (0x12, big_bytes 2 4)
    ∷ (0x14, big_bytes 2 10)
    ∷ (0x16, codes "Dg0")
    ∷ (0x35, own_guid (guid_with 0xA))
    ∷ (0x75, big_bytes 8 7)
    ∷ (0x7D, big_bytes 8 7)
    ∷ (0x91, big_bytes 4 3)
    ∷ (0xAD, big_bytes 4 3)
    ∷ []

unfoldable pub usual_header : List ℕ
usual_header = sector_with usual_header_fields

-- an image of 8192 sectors with the label of its disk, and with that header in the first sector of the config area
pub record IsUsualImage (disk : ℕ) (image : List ℕ) : Type 0 where
  pub size : length image ≡ 8192 * 512
  pub label : label_of image ≡ Ok (sample_label disk)
  pub header : sector image 6161 ≡ usual_header

-- an image for each of so many disks, in their order
pub record AreUsualImages (disks : ℕ) (images : List (List ℕ)) : Type 0 where
  pub count : length images ≡ disks
  pub each : (disk : ℕ) → disk < disks → IsUsualImage disk (image images disk)

-- the image stays up to the end of sector 6161, which holds the header
pub record KeepsHeader (old new : List ℕ) : Type 0 where
  pub size : length new ≡ length old
  pub before : (k : ℕ) → k < 512 * 6162 → slice_index new k ≡ slice_index old k
