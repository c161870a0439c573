-- The text of the volumes of a group: each with its components, and each of these with its partitions.
use Rattle.std.specs.Prelude.{ℕ, ◌==◌, List, [], ◌++◌, flat_map, codes, decimal, Option, Some, None, if◌then◌else◌}
use Rattle.ldm_bytes.specs.Guid.{own_guid}
use Rattle.ldm_records.specs.declared.pieces.Head.{Head}
use Rattle.ldm_records.specs.declared.pieces.Striping.{Striping}
use Rattle.ldm_records.specs.declared.types.Record.{Record}
use Rattle.ldm_records.specs.declared.types.Record.TheVariants as kinds
use Rattle.ldm_records.specs.declared.types.Volume.{Volume}
use Rattle.ldm_records.specs.declared.types.Component.{Component}
use Rattle.ldm_records.specs.declared.types.Partition.{Partition}
use Rattle.ldm_layout.specs.Parts.{plexes_of}
use Rattle.ldm_layout.specs.Volumes.{shape_of}
use Rattle.ldm_places.specs.declared.shape.Shape.{Shape}
use Rattle.ldm_places.specs.declared.shape.Shape.TheVariants.{Span, Stripe, Mirror, Raid5}
use Rattle.ldm_words.specs.Names.{esc}
use Rattle.ldm_text.specs.Texts.{guid_of_volume}

-- a word, and then ID NAME
unfoldable pub text_of_head : List ℕ → Head → List ℕ
text_of_head word head = (word ++ decimal head.id) ++ (codes " " ++ esc head.name)

-- ---- partitions

-- disk DISKID start S size Z offset O
unfoldable pub text_of_extent : Partition → List ℕ
text_of_extent p =
    (codes " disk " ++ decimal p.disk) ++ (codes " start " ++ decimal p.start) ++ (codes " size " ++ decimal p.size) ++ (codes " offset " ++ decimal p.offset)

-- index I, where it is there
abbrev pub text_of_index : Option ℕ → List ℕ
text_of_index None = []
text_of_index (Some index) = codes " index " ++ decimal index

-- with four spaces before: partition ID NAME, where it lies, and its index
unfoldable pub text_of_partition : Partition → List ℕ
text_of_partition p = text_of_head (codes "    partition ") p.head ++ text_of_extent p ++ text_of_index p.index ++ codes "\n"

-- the line of a partition of the component
abbrev pub partition_at : ℕ → Record → List ℕ
partition_at component (kinds.Partition p) = if p.parent == component then text_of_partition p else []
partition_at component _ = []

-- the lines of the partitions of a component, in rising id
abbrev pub text_of_partitions : List Record → ℕ → List ℕ
text_of_partitions records component = flat_map (partition_at component) records

-- ---- components

-- CHUNK COLUMNS, which a component of a stripe or of RAID-5 says
abbrev pub text_of_striping : Option Striping → List ℕ
text_of_striping None = []
text_of_striping (Some striping) = (codes " " ++ decimal striping.chunk) ++ (codes " " ++ decimal striping.columns)

-- stripe CHUNK COLUMNS, raid CHUNK COLUMNS, or basic
unfoldable pub text_of_layout : ℕ → Option Striping → List ℕ
text_of_layout layout striping =
    if layout == 1 then codes " stripe" ++ text_of_striping striping else if layout == 3 then codes " raid" ++ text_of_striping striping else codes " basic"

-- with two spaces before: component ID NAME and its layout; and then the lines of its partitions
unfoldable pub text_of_component : Component → List ℕ → List ℕ
text_of_component c partitions = text_of_head (codes "  component ") c.head ++ text_of_layout c.layout c.striping ++ codes "\n" ++ partitions

-- the text of a component of the volume, where `partitions` tells the lines of the partitions of each component
abbrev pub component_at : (ℕ → List ℕ) → ℕ → Record → List ℕ
component_at partitions volume (kinds.Component c) = if c.parent == volume then text_of_component c (partitions c.head.id) else []
component_at partitions volume _ = []

-- the texts of the components of a volume, in rising id
abbrev pub text_of_components : (ℕ → List ℕ) → List Record → ℕ → List ℕ
text_of_components partitions records volume = flat_map (component_at partitions volume) records

-- ---- volumes

abbrev pub text_of_shape : Shape → List ℕ
text_of_shape Span = codes "span"
text_of_shape Stripe = codes "stripe"
text_of_shape Mirror = codes "mirror"
text_of_shape Raid5 = codes "raid5"

-- SHAPE SIZE GUID
unfoldable pub text_of_form : Volume → Shape → List ℕ
text_of_form v shape = (codes " " ++ text_of_shape shape) ++ (codes " " ++ decimal v.size) ++ (codes " " ++ own_guid (guid_of_volume v))

-- volume ID NAME SHAPE SIZE GUID, and then the texts of its components. Nothing where they make no shape: a group that is
-- found has no such volume.
unfoldable pub text_of_volume : Volume → List ℕ → Option Shape → List ℕ
text_of_volume v components None = []
text_of_volume v components (Some shape) = text_of_head (codes "volume ") v.head ++ text_of_form v shape ++ codes "\n" ++ components

-- the text of a volume, where `shapes` tells the shape of each volume and `components` the texts of its components
abbrev pub volume_at : (ℕ → Option Shape) → (ℕ → List ℕ) → Record → List ℕ
volume_at shapes components (kinds.Volume v) = text_of_volume v (components v.head.id) (shapes v.head.id)
volume_at shapes components _ = []

abbrev pub text_of_volumes : (ℕ → Option Shape) → (ℕ → List ℕ) → List Record → List ℕ
text_of_volumes shapes components records = flat_map (volume_at shapes components) records

-- the texts of all volumes, in rising id
unfoldable pub text_of_all_volumes : List Record → List ℕ
text_of_all_volumes records =
    text_of_volumes (λ volume. shape_of (plexes_of volume records)) (text_of_components (text_of_partitions records) records) records
