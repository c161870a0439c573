-- A new group.
use Rattle.std.specs.Prelude.{◌≡◌, List, ◌∷◌, map}
use Rattle.ldm_records.specs.declared.types.Record.{Record}
use Rattle.ldm_records.specs.declared.types.Record.TheVariants as kinds
use Rattle.ldm_records.specs.declared.types.Disk.{Disk}
use Rattle.ldm_records.specs.declared.types.GroupRec.{GroupRec}
use Rattle.ldm_label.specs.declared.Label.{Label}
use Rattle.ldm_rules.specs.Facts.{AreApart}
use Rattle.ldm_rules.specs.Table.{IsSound}

-- a group record, then a disk record for each label, with its GUID, and nothing else
pub record IsNewOn (records : List Record) (labels : List Label) : Type 0 where
  pub group : GroupRec
  pub disks : List Disk
  pub records_are : records ≡ kinds.Group group ∷ map kinds.Disk disks
  pub guids_are : map (λ d. d.guid) disks ≡ map (λ l. l.disk_guid) labels

-- it keeps the rules, where no two images are of one disk
abbrev pub NewIsSound : Type 0
NewIsSound = (records : List Record) (labels : List Label) → IsNewOn records labels → AreApart labels → IsSound records labels
