-- The records, seen as plain values.
use Rattle.ldm_records.specs.declared.types.Volume.{Volume}
use Rattle.ldm_records.specs.declared.types.Component.{Component}
use Rattle.ldm_records.specs.declared.types.Partition.{Partition}
use Rattle.ldm_records.specs.declared.types.Disk.{Disk}
use Rattle.ldm_records.specs.declared.types.GroupRec.{GroupRec}
use Rattle.ldm_records.specs.declared.types.Record.{Record}
use Rattle.ldm_records.specs.declared.types.Record.TheVariants as kinds
use Rattle.ldm_records.specs.Fields.{volume_values, component_values, partition_values}
use Rattle.ldm_records.specs.Forms.{chunk_value, columns_value, first_value, second_value, disk_type, disk_values, group_type, group_values}
use Rattle.ldm_records.specs.Plain.{Plain}

abbrev pub plain_volume : Volume → Plain
plain_volume v = record {
  mark = v.head.mark;
  flags = v.head.flags;
  type = 0x51;
  fields = volume_values v.head.id v.head.name v.kind v.second v.fixed21 v.children v.fixed16 v.size v.fixed4 v.part_type v.guid v.id1 v.id2 v.size2 v.hint;
  tail = v.tail;
}

abbrev pub plain_component : Component → Plain
plain_component c = record {
  mark = c.head.mark;
  flags = c.head.flags;
  type = 0x32;
  fields = component_values c.head.id c.head.name c.state c.layout c.fixed4 c.children c.fixed16 c.parent c.fixed1 (chunk_value c.striping) (columns_value c.striping);
  tail = c.tail;
}

abbrev pub plain_partition : Partition → Plain
plain_partition p = record {
  mark = p.head.mark;
  flags = p.head.flags;
  type = 0x33;
  fields = partition_values p.head.id p.head.name p.fixed12 p.start p.offset p.size p.parent p.disk p.index;
  tail = p.tail;
}

abbrev pub plain_disk : Disk → Plain
plain_disk d = record {
  mark = d.head.mark;
  flags = d.head.flags;
  type = disk_type d.form;
  fields = disk_values d.head.id d.head.name d.guid d.form;
  tail = d.tail;
}

abbrev pub plain_group : GroupRec → Plain
plain_group g = record {
  mark = g.head.mark;
  flags = g.head.flags;
  type = group_type g.form;
  fields = group_values g.head.id g.head.name g.form (first_value g.ids) (second_value g.ids);
  tail = g.tail;
}

abbrev pub plain_of : Record → Plain
plain_of (kinds.Volume v) = plain_volume v
plain_of (kinds.Component c) = plain_component c
plain_of (kinds.Partition p) = plain_partition p
plain_of (kinds.Disk d) = plain_disk d
plain_of (kinds.Group g) = plain_group g
