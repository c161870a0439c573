-- The values of the fields after the name, where they stand.
use Rattle.std.specs.Prelude.{ℕ, List, [], ◌∷◌, take, drop}
use Rattle.ldm_payloads.specs.declared.component.ComponentFields.{ComponentFields}
use Rattle.ldm_payloads.specs.declared.disk.Disk3Fields.{Disk3Fields}
use Rattle.ldm_payloads.specs.declared.disk.Disk4Fields.{Disk4Fields}
use Rattle.ldm_payloads.specs.declared.group.Group3Fields.{Group3Fields}
use Rattle.ldm_payloads.specs.declared.group.Group4Fields.{Group4Fields}
use Rattle.ldm_payloads.specs.declared.partition.PartitionFields.{PartitionFields}
use Rattle.ldm_payloads.specs.declared.volume_text.VolumeMain.{VolumeMain}
use Rattle.ldm_payloads.specs.declared.volume_text.VolumeMore.{VolumeMore}
use Rattle.ldm_records.specs.Values.{Value, Fixed, Wide, GuidText, Number, Text, FieldKind}
use Rattle.ldm_records.specs.Table.{volume_kinds}
use Rattle.ldm_records.specs.Fields.{number_option, text_option}
use Rattle.ldm_records.specs.Forms.{chunk_value, columns_value}
use Rattle.ldm_payloads.specs.Seen.{seen}
use Rattle.ldm_payloads.specs.IdsViews.{first_seen, second_seen}

abbrev pub component_seen : ComponentFields → List Value
component_seen f =
    Text f.state.now ∷ Fixed (f.layout ∷ []) ∷ Fixed f.fixed4 ∷ Number f.children ∷ Fixed f.fixed16 ∷ Number f.parent ∷ Fixed (f.fixed1 ∷ [])
    ∷ chunk_value f.striping ∷ columns_value f.striping ∷ []

abbrev pub partition_seen : PartitionFields → List Value
partition_seen f =
    Fixed f.fixed12 ∷ Wide 8 f.start ∷ Wide 8 f.offset ∷ Number f.size ∷ Number f.parent ∷ Number f.disk ∷ number_option f.index ∷ []

abbrev pub disk3_seen : Disk3Fields → List Value
disk3_seen f = GuidText f.guid ∷ Text f.alt.now ∷ Fixed f.fixed12 ∷ []

abbrev pub disk4_seen : Disk4Fields → List Value
disk4_seen f = Wide 16 f.guid ∷ Fixed f.fixed29 ∷ []

abbrev pub group3_seen : Group3Fields → List Value
group3_seen f = Text f.guid.now ∷ Fixed f.fixed12 ∷ first_seen f.ids ∷ second_seen f.ids ∷ []

abbrev pub group4_seen : Group4Fields → List Value
group4_seen f = Fixed f.fixed44 ∷ first_seen f.ids ∷ second_seen f.ids ∷ []

-- the first nine fields of a volume, and their kinds
abbrev pub main_kinds : List FieldKind
main_kinds = take 9 (drop 2 (volume_kinds 0))

abbrev pub main_seen : VolumeMain → List Value
main_seen f =
    Text f.kind.now ∷ Text f.second.now ∷ Fixed f.fixed21 ∷ Number f.children ∷ Fixed f.fixed16 ∷ Number f.size ∷ Fixed f.fixed4
    ∷ Fixed (f.part_type ∷ []) ∷ Fixed f.guid ∷ []

-- the optional fields of a volume, and their kinds
abbrev pub more_kinds : ℕ → List FieldKind
more_kinds flags = drop 11 (volume_kinds flags)

abbrev pub more_seen : VolumeMore → List Value
more_seen f = text_option (seen f.id1) ∷ text_option (seen f.id2) ∷ number_option f.size2 ∷ text_option (seen f.hint) ∷ []
