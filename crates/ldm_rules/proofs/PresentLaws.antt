-- Which image is that of a disk.
use Rattle.std.proofs.Common.{arith, ◌≡◌, ℕ, Bool, true, List, ap}
use Rattle.std.proofs.lemmas.Grind.{common_steps}
use Rattle.ldm_label.specs.declared.Label.{Label}
use Rattle.std.specs.Prelude.{position, is_none}
use Rattle.ldm_records.specs.declared.types.Record.{Record}
use Rattle.ldm_group.specs.Order.{kind_of}
use Rattle.ldm_group.specs.Looks.{is_disk_with, disk_in, disk_with, HasSameDisks}
use Rattle.ldm_group.proofs.KinLaws.{same_found}
use Rattle.ldm_rules.specs.Facts.{stranger}

-- ---- What depends on the disk records of a group alone: the disk of a GUID, and so the first image of a strange disk.

guid_disk : (guid : ℕ) (r : Record) → is_disk_with guid r ≡ true → kind_of r ≡ 2
guid_disk guid r e = grind (arith, common_steps)

same_disk : (a b : List Record) (guid : ℕ) → HasSameDisks a b → disk_with guid a ≡ disk_with guid b
same_disk a b guid disks = ap disk_in (same_found 2 (is_disk_with guid) a b (guid_disk guid) disks)

pub same_stranger : (a b : List Record) (labels : List Label) → HasSameDisks a b → stranger a labels ≡ stranger b labels
same_stranger a b labels disks = by (λ (label : Label). is_none (disk_with label.disk_guid a)) (λ (label : Label). is_none (disk_with label.disk_guid b)) labels (λ label. ap is_none (same_disk a b label.disk_guid disks))
  where
    by : (p q : Label → Bool) (labels : List Label) → ((label : Label) → p label ≡ q label) → position p labels ≡ position q labels
    by p q labels same = ap (λ (t : Label → Bool). position t labels) (λ i label. same label i)
