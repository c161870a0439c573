-- The values of fields that come in two forms or in pairs.
use Rattle.std.specs.Prelude.{ℕ, List, [], ◌∷◌, Option, Some, None}
use Rattle.ldm_records.specs.declared.pieces.Striping.{Striping}
use Rattle.ldm_records.specs.declared.pieces.TwoIds.{TwoIds}
use Rattle.ldm_records.specs.declared.pieces.DiskForm.{DiskForm}
use Rattle.ldm_records.specs.declared.pieces.DiskForm.TheVariants as disks
use Rattle.ldm_records.specs.declared.pieces.GroupForm.{GroupForm}
use Rattle.ldm_records.specs.declared.pieces.GroupForm.TheVariants as groups
use Rattle.ldm_records.specs.Values.{Value, Fixed, Wide, GuidText, Number, Text, Absent}

abbrev pub chunk_value : Option Striping → Value
chunk_value None = Absent
chunk_value (Some s) = Number s.chunk

abbrev pub columns_value : Option Striping → Value
columns_value None = Absent
columns_value (Some s) = Number s.columns

abbrev pub first_value : Option TwoIds → Value
first_value None = Absent
first_value (Some ids) = Text ids.first

abbrev pub second_value : Option TwoIds → Value
second_value None = Absent
second_value (Some ids) = Text ids.second

abbrev pub disk_type : DiskForm → ℕ
disk_type (disks.V3 alt fixed12) = 0x34
disk_type (disks.V4 fixed29) = 0x44

-- the alternative name, if the form has one
abbrev pub alt_of : DiskForm → List ℕ
alt_of (disks.V3 alt fixed12) = alt
alt_of (disks.V4 fixed29) = []

abbrev pub disk_values : ℕ → List ℕ → ℕ → DiskForm → List Value
disk_values id name guid (disks.V3 alt fixed12) = Number id ∷ Text name ∷ GuidText guid ∷ Text alt ∷ Fixed fixed12 ∷ []
disk_values id name guid (disks.V4 fixed29) = Number id ∷ Text name ∷ Wide 16 guid ∷ Fixed fixed29 ∷ []

abbrev pub group_type : GroupForm → ℕ
group_type (groups.V3 guid fixed12) = 0x35
group_type (groups.V4 fixed44) = 0x45

-- the GUID's text, if the form has one
abbrev pub guid_text_of : GroupForm → List ℕ
guid_text_of (groups.V3 guid fixed12) = guid
guid_text_of (groups.V4 fixed44) = []

abbrev pub group_values : ℕ → List ℕ → GroupForm → Value → Value → List Value
group_values id name (groups.V3 guid fixed12) first second = Number id ∷ Text name ∷ Text guid ∷ Fixed fixed12 ∷ first ∷ second ∷ []
group_values id name (groups.V4 fixed44) first second = Number id ∷ Text name ∷ Fixed fixed44 ∷ first ∷ second ∷ []
