-- The table of the record types of the Windows Logical Disk Manager's database: the fields of each type,
-- in their order. Each row begins with the object id and the name.
use Rattle.std.specs.Prelude.{ℕ, Bool, ◌==◌, ◌||◌, not, List, [], ◌∷◌, Option, Some, None, bit_and, if◌then◌else◌}
use Rattle.ldm_records.specs.Values.{FieldKind, FixedKind, WideKind, GuidKind, NumberKind, TextKind, When}

abbrev pub has_flag : ℕ → ℕ → Bool
has_flag flags flag = not (bit_and flags flag == 0)

-- VOL5: kind, second text, 21 bytes, children, 16 bytes, size, 4 bytes, partition type, GUID, and by their
-- flags the two ids, the second size and the drive hint
abbrev pub volume_kinds : ℕ → List FieldKind
volume_kinds flags =
    NumberKind ∷ TextKind ∷ TextKind ∷ TextKind ∷ FixedKind 21 ∷ NumberKind ∷ FixedKind 16 ∷ NumberKind ∷ FixedKind 4
    ∷ FixedKind 1 ∷ FixedKind 16
    ∷ When (has_flag flags 0x08) TextKind ∷ When (has_flag flags 0x20) TextKind
    ∷ When (has_flag flags 0x80) NumberKind ∷ When (has_flag flags 0x02) TextKind ∷ []

-- CMP3: state, layout type, 4 bytes, children, 16 bytes, parent, 1 byte, and by their flag the stripe size
-- and the number of columns
abbrev pub component_kinds : ℕ → List FieldKind
component_kinds flags =
    NumberKind ∷ TextKind ∷ TextKind ∷ FixedKind 1 ∷ FixedKind 4 ∷ NumberKind ∷ FixedKind 16 ∷ NumberKind ∷ FixedKind 1
    ∷ When (has_flag flags 0x10) NumberKind ∷ When (has_flag flags 0x10) NumberKind ∷ []

-- PRT3: 12 bytes, start, offset in the volume, size, parent, disk, and by its flag the index
abbrev pub partition_kinds : ℕ → List FieldKind
partition_kinds flags =
    NumberKind ∷ TextKind ∷ FixedKind 12 ∷ WideKind 8 ∷ WideKind 8 ∷ NumberKind ∷ NumberKind ∷ NumberKind
    ∷ When (has_flag flags 0x08) NumberKind ∷ []

-- DSK3: GUID text, alternative name, 12 bytes
abbrev pub disk3_kinds : List FieldKind
disk3_kinds = NumberKind ∷ TextKind ∷ GuidKind ∷ TextKind ∷ FixedKind 12 ∷ []

-- DSK4: GUID, 29 bytes
abbrev pub disk4_kinds : List FieldKind
disk4_kinds = NumberKind ∷ TextKind ∷ WideKind 16 ∷ FixedKind 29 ∷ []

-- DGR3: GUID text, which is carried as it stands, 12 bytes, and by their flag two texts
abbrev pub group3_kinds : ℕ → List FieldKind
group3_kinds flags =
    NumberKind ∷ TextKind ∷ TextKind ∷ FixedKind 12
    ∷ When (has_flag flags 0x08) TextKind ∷ When (has_flag flags 0x08) TextKind ∷ []

-- DGR4: 44 bytes, and by their flag two texts
abbrev pub group4_kinds : ℕ → List FieldKind
group4_kinds flags =
    NumberKind ∷ TextKind ∷ FixedKind 44
    ∷ When (has_flag flags 0x08) TextKind ∷ When (has_flag flags 0x08) TextKind ∷ []

-- the row of a type byte
abbrev pub kinds_of : ℕ → ℕ → Option (List FieldKind)
kinds_of type flags =
    if type == 0x51 then Some (volume_kinds flags)
    else if type == 0x32 then Some (component_kinds flags)
    else if type == 0x33 then Some (partition_kinds flags)
    else if type == 0x34 then Some disk3_kinds
    else if type == 0x44 then Some disk4_kinds
    else if type == 0x35 then Some (group3_kinds flags)
    else if type == 0x45 then Some (group4_kinds flags)
    else None

-- one of the seven type bytes
abbrev pub is_known : ℕ → Bool
is_known type =
    (type == 0x51) || ((type == 0x32) || ((type == 0x33) || ((type == 0x34) || ((type == 0x44) || ((type == 0x35) || (type == 0x45))))))
