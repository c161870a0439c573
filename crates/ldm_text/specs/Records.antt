-- The text of one copy of the database.
use Rattle.std.specs.Prelude.{ℕ, List, ◌++◌, flat_map, codes, decimal}
use Rattle.ldm_bytes.specs.Guid.{own_guid}
use Rattle.ldm_vmdb.specs.declared.header.Header.{Header}
use Rattle.ldm_vmdb.specs.declared.header.VmdbFault.{VmdbFault}
use Rattle.ldm_vmdb.specs.declared.header.VmdbFault.TheVariants as vmdb
use Rattle.ldm_frags.specs.declared.faults.FragFault.{FragFault}
use Rattle.ldm_frags.specs.declared.faults.FragFault.TheVariants as frag
use Rattle.ldm_records.specs.declared.types.Record.{Record}
use Rattle.ldm_records.specs.declared.types.Record.TheVariants as kinds
use Rattle.ldm_records.specs.declared.pieces.DiskForm.{DiskForm}
use Rattle.ldm_records.specs.declared.pieces.DiskForm.TheVariants as disk_forms
use Rattle.ldm_records.specs.declared.pieces.GroupForm.{GroupForm}
use Rattle.ldm_records.specs.declared.pieces.GroupForm.TheVariants as group_forms
use Rattle.ldm_payloads.specs.declared.fault.RecordFault.{RecordFault}
use Rattle.ldm_payloads.specs.declared.fault.RecordFault.TheVariants.{UnknownType, Malformed}
use Rattle.ldm_group.specs.Order.{id_of}
use Rattle.ldm_group.specs.Room.{own_len}
use Rattle.ldm_copy.specs.declared.answer.CopyState.{CopyState}
use Rattle.ldm_copy.specs.declared.answer.CopyState.TheVariants.{Closed, Valid}
use Rattle.ldm_copy.specs.declared.answer.CopyFault.{CopyFault}
use Rattle.ldm_copy.specs.declared.answer.CopyFault.TheVariants as faults
use Rattle.ldm_words.specs.Names.{hex_byte, esc}

abbrev pub disk_type_text : DiskForm → List ℕ
disk_type_text (disk_forms.V3 alt fixed) = codes "dsk3"
disk_type_text (disk_forms.V4 fixed) = codes "dsk4"

abbrev pub group_type_text : GroupForm → List ℕ
group_type_text (group_forms.V3 guid fixed) = codes "dgr3"
group_type_text (group_forms.V4 fixed) = codes "dgr4"

abbrev pub type_of : Record → List ℕ
type_of (kinds.Volume v) = codes "vol5"
type_of (kinds.Component c) = codes "cmp3"
type_of (kinds.Partition p) = codes "prt3"
type_of (kinds.Disk d) = disk_type_text d.form
type_of (kinds.Group g) = group_type_text g.form

abbrev pub record_name : Record → List ℕ
record_name (kinds.Volume v) = v.head.name
record_name (kinds.Component c) = c.head.name
record_name (kinds.Partition p) = p.head.name
record_name (kinds.Disk d) = d.head.name
record_name (kinds.Group g) = g.head.name

-- TYPE ID NAME LENGTH, where LENGTH is that of the own spelling
unfoldable pub text_of_record : Record → List ℕ
text_of_record r = (type_of r ++ codes " " ++ decimal (id_of r)) ++ (codes " " ++ esc (record_name r)) ++ (codes " " ++ decimal (own_len r)) ++ codes "\n"

-- vmdb GROUPNAME GUID sequence S last L
unfoldable pub text_of_header : Header → List ℕ
text_of_header header =
    (codes "vmdb " ++ esc header.name) ++ (codes " " ++ own_guid header.guid) ++ (codes " sequence " ++ decimal header.seq) ++ (codes " last " ++ decimal header.last) ++ codes "\n"

-- one line for a closed copy; else the header's line and a line for each record
abbrev pub text_of_copy : CopyState → List ℕ
text_of_copy Closed = codes "closed\n"
text_of_copy (Valid db) = text_of_header db.header ++ flat_map text_of_record db.records

abbrev pub text_of_vmdb_fault : VmdbFault → List ℕ
text_of_vmdb_fault vmdb.Magic = codes "VMDB magic"
text_of_vmdb_fault vmdb.Version = codes "VMDB version"
text_of_vmdb_fault vmdb.BlockSize = codes "VBLK size"
text_of_vmdb_fault vmdb.Offset = codes "first VBLK offset"
text_of_vmdb_fault vmdb.Unsettled = codes "VMDB not settled"
text_of_vmdb_fault vmdb.Last = codes "last VBLK"
text_of_vmdb_fault vmdb.Guid = codes "group GUID"

-- block B: FAULT
abbrev pub at_block : ℕ → List ℕ → List ℕ
at_block block fault = codes "block " ++ decimal block ++ codes ": " ++ fault

abbrev pub text_of_frag_fault : FragFault → List ℕ
text_of_frag_fault (frag.NoMagic b) = at_block b (codes "no VBLK")
text_of_frag_fault (frag.Parts b) = at_block b (codes "parts")
text_of_frag_fault (frag.Part b) = at_block b (codes "part")
text_of_frag_fault (frag.Mixed b) = at_block b (codes "mixed group")
text_of_frag_fault (frag.Repeated b) = at_block b (codes "repeated part")
text_of_frag_fault (frag.Missing b) = at_block b (codes "missing part")

abbrev pub text_of_record_fault : RecordFault → List ℕ
text_of_record_fault (UnknownType t) = codes "type 0x" ++ hex_byte t
text_of_record_fault Malformed = codes "malformed"

abbrev pub text_of_copy_fault : CopyFault → List ℕ
text_of_copy_fault (faults.Vmdb fault) = text_of_vmdb_fault fault
text_of_copy_fault (faults.Frag fault) = text_of_frag_fault fault
text_of_copy_fault (faults.BadRecord b fault) = at_block b (text_of_record_fault fault)
text_of_copy_fault (faults.SameId kind id) = codes "kind " ++ decimal kind ++ codes " id " ++ decimal id ++ codes " twice"
