-- The places of a sound group: no two sectors have one.
use Rattle.std.specs.Prelude.{◌≡◌, ◌≢◌, ℕ, ◌+◌, ◌-◌, ◌*◌, ◌/◌, ◌%◌, ◌^◌, ◌<◌, ◌≤◌, ◌↔◌, List, All, Contains, IsSomeAnd, Ok}
use Rattle.ldm_records.specs.declared.types.Record.{Record}
use Rattle.ldm_records.specs.declared.types.Record.TheVariants as kinds
use Rattle.ldm_records.specs.declared.types.Volume.{Volume}
use Rattle.ldm_records.specs.declared.types.Component.{Component}
use Rattle.ldm_records.specs.declared.types.Partition.{Partition}
use Rattle.ldm_group.specs.Order.{Rising}
use Rattle.ldm_label.specs.declared.Label.{Label}
use Rattle.ldm_places.specs.Layouts.{Layout, copies_of}
use Rattle.ldm_group.specs.Partitions.{EndsInRange}
use Rattle.ldm_layout.specs.Volumes.{layout_of, volume_place, parity_of}
use Rattle.ldm_places.specs.declared.shape.Place.{Place}
use Rattle.ldm_places.specs.declared.shape.Shape.TheVariants.{Raid5}
use Rattle.ldm_rules.specs.Table.{IsSound}

-- a volume of the group has this layout
pub record HasLayout (records : List Record) (v : Volume) (l : Layout) : Type 0 where
  pub there : Contains records (kinds.Volume v)
  pub layout : layout_of records v ≡ Ok l

-- each volume of the group has one
abbrev pub AllLaidOut : List Record → Type 0
AllLaidOut records = (v : Volume) → Contains records (kinds.Volume v) → (l : Layout) × HasLayout records v l

-- sector x of a volume, in the copy of this number
pub record IsSector (records : List Record) (v : Volume) (l : Layout) (x copy : ℕ) : Type 0 where
  pub volume : HasLayout records v l
  pub within : x < v.size
  pub copied : copy < copies_of l

-- sector x of a volume with parity
pub record IsRaid5Sector (records : List Record) (v : Volume) (l : Layout) (x : ℕ) : Type 0 where
  pub volume : HasLayout records v l
  pub raid5 : l.shape ≡ Raid5
  pub within : x < v.size

-- the place lies in a partition of one of the volume's components
pub record LiesInOwn (records : List Record) (v : Volume) (place : Place) : Type 0 where
  pub component : Component
  pub partition : Partition
  pub component_there : Contains records (kinds.Component component)
  pub component_of : component.parent ≡ v.head.id
  pub partition_there : Contains records (kinds.Partition partition)
  pub partition_of : partition.parent ≡ component.head.id
  pub disk : place.disk ≡ partition.disk
  pub start : partition.start ≤ place.sector
  pub end : place.sector < partition.start + partition.size

-- both sectors are in one row of chunks, and at one offset in their chunks
pub record IsSameRow (l : Layout) (x y : ℕ) : Type 0 where
  pub row : x / (l.chunk * (l.columns - 1)) ≡ y / (l.chunk * (l.columns - 1))
  pub offset : x % l.chunk ≡ y % l.chunk

pub record HasDisjointPlaces (records : List Record) : Type 0 where
  -- each volume has a layout
  pub laid_out : AllLaidOut records
  -- each sector has a place, which lies in its own volume
  pub inside : (v : Volume) (l : Layout) (x copy : ℕ) → IsSector records v l x copy → IsSomeAnd (volume_place records v x copy) (LiesInOwn records v)
  -- no other sector has that place
  pub apart : (v w : Volume) (l m : Layout) (x y c d : ℕ) → IsSector records v l x c → IsSector records w m y d
      → volume_place records v x c ≡ volume_place records w y d → (v ≡ w) × (x ≡ y) × (c ≡ d)
  -- the parity of each RAID-5 sector has a place, which lies in its own volume
  pub parity_inside : (v : Volume) (l : Layout) (x : ℕ) → IsRaid5Sector records v l x → IsSomeAnd (parity_of records v x) (LiesInOwn records v)
  -- no sector has the place of a parity
  pub beside : (v w : Volume) (l m : Layout) (x y d : ℕ) → IsRaid5Sector records v l x → IsSector records w m y d → parity_of records v x ≢ volume_place records w y d
  -- two sectors have one place of parity where they are of one volume and in one row, and only there
  pub shared : (v w : Volume) (l m : Layout) (x y : ℕ) → IsRaid5Sector records v l x → IsRaid5Sector records w m y
      → (parity_of records v x ≡ parity_of records w y) ↔ ((v ≡ w) × IsSameRow l x y)

-- a sound group has disjoint places
abbrev pub SoundIsDisjoint : Type 0
SoundIsDisjoint = (records : List Record) (labels : List Label) → Rising records → IsSound records labels → HasDisjointPlaces records

-- the partitions of a sound group end within the numbers of the format, where the labels' sizes are such numbers
abbrev pub SoundEndsInRange : Type 0
SoundEndsInRange = (records : List Record) (labels : List Label) → All (λ l. l.data_size < 2 ^ 64) labels → IsSound records labels → All EndsInRange records
