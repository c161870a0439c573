-- The tables of all volumes of a group that have one, in one text.
use Rattle.std.specs.Prelude.{◌≡◌, ℕ, Bool, true, false, List, [], ◌∷◌, ◌++◌, map, filter, flat_map, codes, Option, Some, None, is_none, unwrap_or, Result, Ok, Err, if◌then◌else◌}
use Rattle.std.specs.List.{filter_map, join_by}
use Rattle.std.specs.Option.{option_map}
use Rattle.ldm_bytes.specs.Tables.{first_of, unless}
use Rattle.ldm_records.specs.declared.types.Record.{Record}
use Rattle.ldm_records.specs.declared.types.Record.TheVariants as kinds
use Rattle.ldm_records.specs.declared.types.Volume.{Volume}
use Rattle.ldm_places.specs.Layouts.{Layout}
use Rattle.ldm_places.specs.declared.shape.LayoutFault.{LayoutFault}
use Rattle.ldm_layout.specs.Volumes.{layout_of}
use Rattle.ldm_copy.specs.declared.found.Found.{Found}
use Rattle.ldm_words.specs.Names.{esc}
use Rattle.ldm_table.specs.declared.parts.Member.{Member}
use Rattle.ldm_table.specs.declared.faults.TableFault.{TableFault}
use Rattle.ldm_table.specs.declared.groups.Devices.{Devices}
use Rattle.ldm_table.specs.declared.groups.TablesFault.{TablesFault}
use Rattle.ldm_table.specs.declared.groups.TablesFault.TheVariants.{NoVolume, NoTable, OneName}
use Rattle.ldm_table.specs.Tables.{array_of}
use Rattle.ldm_table.specs.Spelling.{text_of_devices}
use Rattle.ldm_table.specs.Faults.{fault_if, has_namesakes, table_fault, text_of_fault}

-- ---- the volumes

-- a volume with its layout, which each volume of a group that was found has
abbrev pub laid_by : Volume → Result Layout LayoutFault → Option (Volume × Layout)
laid_by v (Ok l) = Some (v, l)
laid_by v (Err fault) = None

abbrev pub laid_in : List Record → Record → Option (Volume × Layout)
laid_in records (kinds.Volume v) = laid_by v (layout_of records v)
laid_in records _ = None

-- all of a group, in rising id
abbrev pub laid_volumes : List Record → List (Volume × Layout)
laid_volumes records = filter_map (laid_in records) records

-- ---- their tables

abbrev pub has_table : List (List ℕ) → Found → Volume × Layout → Bool
has_table words found volume = is_none (table_fault words found volume.0 volume.1)

-- all of a group that have a table of images that these words name
abbrev pub tabled_volumes : List (List ℕ) → Found → List (Volume × Layout)
tabled_volumes words found = filter (has_table words found) (laid_volumes found.db.records)

abbrev pub volume_devices : List (List ℕ) → Found → Volume × Layout → List ℕ
volume_devices words found volume = text_of_devices words found volume.0 volume.1

-- the devices of these volumes as one line, with semicolons between the volumes as between the devices of one
abbrev pub text_of_tables : List (List ℕ) → Found → List (Volume × Layout) → List ℕ
text_of_tables words found volumes = join_by (volume_devices words found) (codes ";") volumes ++ codes "\n"

-- the devices of their arrays
abbrev pub all_members : Found → List (Volume × Layout) → List (Option Member)
all_members found volumes = flat_map (λ volume. array_of found volume.1) volumes

-- ---- faults

-- why a volume has no table, with its name
abbrev pub named_fault : List (List ℕ) → Found → Volume × Layout → Option TablesFault
named_fault words found volume = option_map (NoTable volume.0.head.name) (table_fault words found volume.0 volume.1)

-- that of the first volume that has none
abbrev pub first_without : List (List ℕ) → Found → List (Volume × Layout) → Option TablesFault
first_without words found volumes = first_of (map (named_fault words found) volumes)

abbrev pub are_none : {A : Type 0} → List A → Bool
are_none [] = true
are_none (x ∷ xs) = false

-- why none of these volumes has a table: for what the first has none, or since there is no volume
abbrev pub fault_of_none : List (List ℕ) → Found → List (Volume × Layout) → TablesFault
fault_of_none words found volumes = unwrap_or (first_without words found volumes) NoVolume

-- the first fault: that no volume has a table, then of the names of all devices
abbrev pub tables_fault : List (List ℕ) → Found → Option TablesFault
tables_fault words found =
    first_of
    (fault_if (are_none (tabled_volumes words found)) (fault_of_none words found (laid_volumes found.db.records))
    ∷ fault_if (has_namesakes (all_members found (tabled_volumes words found))) OneName
    ∷ [])

-- the text of the tables of a group, or why there is none
abbrev pub tables_text : List (List ℕ) → Found → Result (List ℕ) TablesFault
tables_text words found = unless (tables_fault words found) (text_of_tables words found (tabled_volumes words found))

-- ---- what is said of a fault

unfoldable pub text_of_tables_fault : TablesFault → List ℕ
text_of_tables_fault NoVolume = codes "no volume"
text_of_tables_fault (NoTable name fault) = (codes "volume " ++ esc name) ++ codes ": " ++ text_of_fault fault
text_of_tables_fault OneName = codes "two parts have one name"

-- ---- volume after volume

-- a semicolon behind what is there
abbrev pub separator : Bool → List ℕ
separator some = if some then codes ";" else []

-- what a volume with a table adds to the devices of those in front of it
pub record AddsDevices (words : List (List ℕ)) (found : Found) (volume : Volume × Layout) (old new : Devices) : Type 0 where
  pub text : new.text ≡ old.text ++ (separator old.some ++ volume_devices words found volume)
  pub members : new.members.items ≡ old.members.items ++ array_of found volume.1
  pub some : new.some ≡ true

-- one with a fault adds nothing
abbrev pub AddsUnless : List (List ℕ) → Found → Volume × Layout → Devices → Devices → Option TableFault → Type 0
AddsUnless words found volume old new None = AddsDevices words found volume old new
AddsUnless words found volume old new (Some fault) = new ≡ old

-- what a volume adds
pub record AddsTable (words : List (List ℕ)) (found : Found) (v : Volume) (old new : Devices) (fault : Option TableFault) : Type 0 where
  pub layout : Layout
  pub laid : layout_of found.db.records v ≡ Ok layout
  pub fault_is : fault ≡ table_fault words found v layout
  pub adds : AddsUnless words found (v, layout) old new fault

-- what a record adds: one that is no volume adds nothing
abbrev pub AddsRecord : List (List ℕ) → Found → Record → Devices → Devices → Option TablesFault → Type 0
AddsRecord words found (kinds.Volume v) old new fault = (own : Option TableFault) × AddsTable words found v old new own × (fault ≡ option_map (NoTable v.head.name) own)
AddsRecord words found _ old new fault = (new ≡ old) × (fault ≡ None)

-- the devices of all these volumes
pub record HoldsDevices (words : List (List ℕ)) (found : Found) (volumes : List (Volume × Layout)) (devices : Devices) : Type 0 where
  pub some : are_none volumes ≡ false
  pub text : devices.text ≡ join_by (volume_devices words found) (codes ";") volumes
  pub members : devices.members.items ≡ all_members found volumes

-- those of all volumes that have a table, or why none has one
abbrev pub IsAllDevices : List (List ℕ) → Found → Result Devices TablesFault → Type 0
IsAllDevices words found (Ok devices) = HoldsDevices words found (tabled_volumes words found) devices
IsAllDevices words found (Err fault) = (are_none (tabled_volumes words found) ≡ true) × (fault ≡ fault_of_none words found (laid_volumes found.db.records))
