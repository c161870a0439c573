-- What a sound group of the Windows Logical Disk Manager doesn't have: the tests of its rules, each on one record. Where a
-- rule counts, `count` tells how many records have an id, a GUID or a name, or name a record as their parent.
use Rattle.std.specs.Prelude.{ℕ, ◌+◌, ◌==◌, ◌&&◌, not, nat_lt, nat_le, Bool, true, false, List, [], ◌∷◌, Option, Some, None, Result, Ok, Err, find}
use Rattle.std.specs.List.{list_any}
use Rattle.std.specs.Option.{option_map}
use Rattle.ldm_records.specs.declared.types.Record.{Record}
use Rattle.ldm_records.specs.declared.types.Record.TheVariants as kinds
use Rattle.ldm_records.specs.declared.types.Partition.{Partition}
use Rattle.ldm_group.specs.Order.{id_of}
use Rattle.ldm_group.specs.Partitions.{meets}
use Rattle.ldm_places.specs.Layouts.{Layout}
use Rattle.ldm_layout.specs.Volumes.{layout_of}
use Rattle.ldm_places.specs.declared.shape.LayoutFault.{LayoutFault}
use Rattle.ldm_places.specs.declared.shape.LayoutFault.TheVariants.{Short}

-- the least id at which a rule is broken: the records rise by kind and id, and each rule is about records of one kind
abbrev pub first_broken : (Record → Bool) → List Record → Option ℕ
first_broken broken records = option_map id_of (find broken records)

-- ---- the group record

abbrev pub group_id : Record → Option ℕ
group_id (kinds.Group g) = Some g.head.id
group_id _ = None

-- 0 where there is no group record, the second where there are more than one
abbrev pub group_fault : List ℕ → Option ℕ
group_fault [] = Some 0
group_fault (only ∷ []) = None
group_fault (first ∷ (second ∷ rest)) = Some second

-- ---- what two records have

abbrev pub has_twin_guid : (ℕ → ℕ) → Record → Bool
has_twin_guid count (kinds.Disk d) = nat_le 2 (count d.guid)
has_twin_guid count _ = false

abbrev pub has_namesake : (List ℕ → ℕ) → Record → Bool
has_namesake count (kinds.Volume v) = nat_le 2 (count v.head.name)
has_namesake count _ = false

-- ---- what isn't there

abbrev pub lacks_volume : (ℕ → ℕ) → Record → Bool
lacks_volume count (kinds.Component c) = count c.parent == 0
lacks_volume count _ = false

abbrev pub lacks_component : (ℕ → ℕ) → Record → Bool
lacks_component count (kinds.Partition p) = count p.parent == 0
lacks_component count _ = false

abbrev pub lacks_disk : (ℕ → ℕ) → Record → Bool
lacks_disk count (kinds.Partition p) = count p.disk == 0
lacks_disk count _ = false

-- ---- the children numbers

abbrev pub miscounts_components : (ℕ → ℕ) → Record → Bool
miscounts_components count (kinds.Volume v) = not (v.children == count v.head.id)
miscounts_components count _ = false

abbrev pub miscounts_partitions : (ℕ → ℕ) → Record → Bool
miscounts_partitions count (kinds.Component c) = not (c.children == count c.head.id)
miscounts_partitions count _ = false

-- ---- sizes

-- volumes stand before partitions
abbrev pub has_no_sectors : Record → Bool
has_no_sectors (kinds.Volume v) = v.size == 0
has_no_sectors (kinds.Partition p) = p.size == 0
has_no_sectors _ = false

-- where the disk of an id has so many sectors of data
abbrev pub passes_end : (ℕ → ℕ) → Record → Bool
passes_end sectors (kinds.Partition p) = nat_lt (sectors p.disk) (p.start + p.size)
passes_end sectors _ = false

-- ---- partitions that meet

abbrev pub is_other_meeting : Partition → Record → Bool
is_other_meeting p (kinds.Partition q) = not (q.head.id == p.head.id) && meets p q
is_other_meeting p _ = false

abbrev pub meets_another : List Record → Record → Bool
meets_another records (kinds.Partition p) = list_any (is_other_meeting p) records
meets_another records _ = false

-- ---- layouts

-- the volume is larger than what its partitions hold
abbrev pub is_short_fault : LayoutFault → Bool
is_short_fault Short = true
is_short_fault _ = false

-- a layout with a fault that passes a test
abbrev pub fails : (LayoutFault → Bool) → Result Layout LayoutFault → Bool
fails test (Ok l) = false
fails test (Err f) = test f

-- a volume with another fault,
abbrev pub has_layout_fault : List Record → Record → Bool
has_layout_fault records (kinds.Volume v) = fails (λ f. not (is_short_fault f)) (layout_of records v)
has_layout_fault records _ = false

-- or with this one
abbrev pub passes_layout : List Record → Record → Bool
passes_layout records (kinds.Volume v) = fails is_short_fault (layout_of records v)
passes_layout records _ = false
