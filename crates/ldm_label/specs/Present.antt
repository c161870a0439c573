-- Which image is of a disk: the first whose label has the disk's GUID.
use Rattle.std.specs.Prelude.{ℕ, ◌==◌, ◌-◌, ◌^◌, Bool, List, Option, Some, None, find, position}
use Rattle.std.specs.Option.{option_map}
use Rattle.ldm_label.specs.declared.Label.{Label}

-- the label is of the disk with this GUID
abbrev pub has_guid : ℕ → Label → Bool
has_guid guid label = label.disk_guid == guid

-- the first image of the disk
abbrev pub image_with : ℕ → List Label → Option ℕ
image_with guid labels = position (has_guid guid) labels

-- the label of the first image of the disk
abbrev pub label_with : ℕ → List Label → Option Label
label_with guid labels = find (has_guid guid) labels

-- where the data of the disk begin on that image
abbrev pub data_start_with : ℕ → List Label → Option ℕ
data_start_with guid labels = option_map (λ label. label.data_start) (label_with guid labels)

-- the sectors of a disk with this label; of an absent disk, the most that a number of the format says
abbrev pub sectors_by : Option Label → ℕ
sectors_by (Some l) = l.data_size
sectors_by None = 2 ^ 64 - 1
