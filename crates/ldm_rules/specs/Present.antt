-- A disk of the group without an image is absent.
use Rattle.std.specs.Prelude.{Bool, false, List, is_none}
use Rattle.ldm_records.specs.declared.types.Record.{Record}
use Rattle.ldm_records.specs.declared.types.Record.TheVariants as kinds
use Rattle.ldm_label.specs.declared.Label.{Label}
use Rattle.ldm_label.specs.Present.{image_with}

-- a disk record without an image
abbrev pub is_absent : List Label → Record → Bool
is_absent labels (kinds.Disk d) = is_none (image_with d.guid labels)
is_absent labels _ = false
