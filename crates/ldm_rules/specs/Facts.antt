-- What holds of a group and the labels of its images, and is kept from command to command.
use Rattle.std.specs.Prelude.{◌≡◌, ℕ, ◌<◌, List, All, Option, Some, None, position, is_none, slice_get}
use Rattle.ldm_records.specs.declared.types.Record.{Record}
use Rattle.ldm_group.specs.Database.{Database}
use Rattle.ldm_group.specs.Looks.{disk_with}
use Rattle.ldm_group.specs.Partitions.{EndsInRange}
use Rattle.ldm_group.specs.Room.{FitsHeader}
use Rattle.ldm_label.specs.declared.Label.{Label}
use Rattle.ldm_rules.specs.Disjoint.{AllLaidOut}
use Rattle.ldm_rules.specs.Table.{IsSound}

-- the images of these numbers, the first of which is the less, are of one disk
pub record AreOneDisk (labels : List Label) (i j : ℕ) : Type 0 where
  pub order : i < j
  pub first : Label
  pub first_is : slice_get labels i ≡ Some first
  pub second : Label
  pub second_is : slice_get labels j ≡ Some second
  pub same : first.disk_guid ≡ second.disk_guid

-- no two images are of one disk
abbrev pub AreApart : List Label → Type 0
AreApart labels = (i j : ℕ) → AreOneDisk labels i j → ⊥

-- the first image of a disk that the records don't have
abbrev pub stranger : List Record → List Label → Option ℕ
stranger records labels = position (λ label. is_none (disk_with label.disk_guid records)) labels

-- Of a database on disks with these labels: its records keep the rules, end in range, have layouts and fit the blocks that
-- the header leaves; no two images are of one disk, and none is of a disk that the records don't have.
pub record IsSoundOn (db : Database) (labels : List Label) : Type 0 where
  pub sound : IsSound db.records labels
  pub ends : All EndsInRange db.records
  pub laid_out : AllLaidOut db.records
  pub room : FitsHeader db
  pub apart : AreApart labels
  pub own : stranger db.records labels ≡ None
