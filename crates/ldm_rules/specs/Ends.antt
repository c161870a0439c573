-- Where the data of a disk of the group end: its label says so, where an image of the disk is there.
use Rattle.std.specs.Prelude.{ℕ, List, option_and_then}
use Rattle.ldm_records.specs.declared.types.Record.{Record}
use Rattle.ldm_group.specs.Looks.{by_id, disk_in}
use Rattle.ldm_label.specs.declared.Label.{Label}
use Rattle.ldm_label.specs.Present.{label_with, sectors_by}

-- the sectors of the disk of this id
abbrev pub data_size : List Label → List Record → ℕ → ℕ
data_size labels records disk = sectors_by (option_and_then (λ d. label_with d.guid labels) (disk_in (by_id 2 disk records)))
