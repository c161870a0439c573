-- The images of a group's disks.
use Rattle.std.specs.Prelude.{ℕ, List, Option, option_and_then}
use Rattle.ldm_records.specs.declared.types.Record.{Record}
use Rattle.ldm_group.specs.Looks.{by_id, disk_in}
use Rattle.ldm_label.specs.declared.Label.{Label}
use Rattle.ldm_label.specs.Present.{image_with}

-- the first image of the disk record of this id
abbrev pub image_of : ℕ → List Record → List Label → Option ℕ
image_of disk records labels = option_and_then (λ d. image_with d.guid labels) (disk_in (by_id 2 disk records))
