-- What the maps of a database say of its records: for each key, the records that have it.
use Rattle.std.specs.Prelude.{◌≡◌, ℕ, List, nat_eq}
use Rattle.indexmap.specs.IndexMap.{get}
use Rattle.ldm_records.specs.declared.types.Record.{Record}
use Rattle.ldm_group.specs.Hits.{hits, at_name, at_object}
use Rattle.ldm_group.specs.Looks.{is_at, is_child, is_disk_named, is_disk_with, is_volume_named}
use Rattle.ldm_group.specs.declared.index.Index.{Index}

pub record IsIndexOf (index : Index) (records : List Record) : Type 0 where
  pub ids : (kind id : ℕ) → at_object index.ids kind id ≡ hits (is_at kind id) records
  pub volumes : (name : List ℕ) → at_name index.volumes name ≡ hits (is_volume_named name) records
  pub disks : (name : List ℕ) → at_name index.disks name ≡ hits (is_disk_named name) records
  pub guids : (guid : ℕ) → get nat_eq index.guids guid ≡ hits (is_disk_with guid) records
  pub children : (kind id : ℕ) → at_object index.children kind id ≡ hits (is_child kind id) records
