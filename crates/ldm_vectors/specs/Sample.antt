-- The sample group: `Dg0`, sequence 7, a group record, and one to three disks without a volume.
use Rattle.std.specs.Prelude.{◌≡◌, ◌⊎◌, ℕ, ◌+◌, ◌*◌, ◌/◌, ◌<◌, ◌≤◌, nat_lt, List, map, length, slice_index, codes, Some, None, if◌then◌else◌}
use Rattle.std.specs.List.{range_with_len}
use Rattle.ldm_host.specs.Seen.{image}
use Rattle.ldm_init.specs.NewGroup.{IsNewGroup}
use Rattle.ldm_label.specs.declared.Label.{Label}
use Rattle.ldm_label.specs.Written.{HasLabel, IsOutsideLabel}
use Rattle.ldm_group.specs.Database.{Database}
use Rattle.ldm_copy.specs.Copy.{gate_at}
use Rattle.ldm_body.specs.Body.{IsMadeOf}
use Rattle.ldm_copy.specs.declared.found.Found.{Found}
use Rattle.ldm_copy.specs.declared.fault.OpenFault.TheVariants as faults
use Rattle.ldm_copy.specs.declared.notes.Note.TheVariants as notes
use Rattle.ldm_sample_disks.specs.Disks.{guid_with, sample_label, sample_labels}

-- the name of the group
abbrev pub sample_name : List ℕ
sample_name = codes "Dg0"

-- the GUIDs of so many disks, by digits from 1 on
abbrev pub sample_guids : ℕ → List ℕ
sample_guids disks = map (λ disk. guid_with (disk + 1)) (range_with_len 0 disks)

-- the group of so many disks, whose last VBLK sequence is this
abbrev pub IsSampleDatabase : ℕ → ℕ → Database → Type 0
IsSampleDatabase disks last db = IsNewGroup sample_name (guid_with 0xA) (sample_guids disks) last 7 db

-- ---- its images

-- an image of 8192 sectors, which has the sectors of the label and a body at the start of the config area, and is zero elsewhere
pub record IsSampleImage (label : Label) (body image : List ℕ) : Type 0 where
  pub size : length image ≡ 8192 * 512
  pub label_is : HasLabel label image
  pub body_is : (k : ℕ) → k < length body → slice_index image (gate_at label + k) ≡ slice_index body k
  pub zeros : (k : ℕ) → IsOutsideLabel label k → (k < gate_at label) ⊎ (gate_at label + length body ≤ k) → slice_index image k ≡ 0

-- an image for each of so many disks, with its label and this body
pub record AreImagesWith (disks : ℕ) (body : List ℕ) (images : List (List ℕ)) : Type 0 where
  pub count : length images ≡ disks
  pub each : (disk : ℕ) → disk < disks → IsSampleImage (sample_label disk) body (image images disk)

-- the images of the group of so many disks, with the body that is made of it
pub record AreSampleImages (disks last : ℕ) (images : List (List ℕ)) : Type 0 where
  pub db : Database
  pub database : IsSampleDatabase disks last db
  pub body : List ℕ
  pub made : IsMadeOf db body
  pub size : length body ≡ 512 * (last / 4)
  pub images_are : AreImagesWith disks body images

-- ---- what they are found to hold

-- the group with the labels of its disks, which may be edited where there are two at least
pub record IsSampleGroup (disks last : ℕ) (found : Found) : Type 0 where
  pub database : IsSampleDatabase disks last found.db
  pub labels_are : found.labels ≡ sample_labels disks
  pub notes_are : found.notes ≡ map (λ _. notes.Sequence 7) (sample_labels disks)
  pub blocked_is : found.blocked ≡ (if nat_lt disks 2 then Some faults.FewDisks else None)
