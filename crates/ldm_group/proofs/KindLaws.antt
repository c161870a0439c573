-- What passes a test on records is of its kind.
use Rattle.std.proofs.Common.{◌≡◌, ◌==◌, ◌||◌, ℕ, List, refl, Bool, true, false}
use Rattle.std.proofs.lemmas.Bool.{eqb-true}
use Rattle.ldm_records.specs.declared.types.Record.{Record}
use Rattle.ldm_records.specs.declared.types.Record.TheVariants as kinds
use Rattle.ldm_records.specs.declared.types.Volume.{Volume}
use Rattle.ldm_records.specs.declared.types.Component.{Component}
use Rattle.ldm_records.specs.declared.types.Partition.{Partition}
use Rattle.ldm_group.specs.Looks.{is_at, is_volume_named, is_child}

pub at_volume : (id : ℕ) (r : Record) → is_at 3 id r ≡ true → (v : Volume) × (r ≡ kinds.Volume v) × (v.head.id ≡ id)
at_volume id (kinds.Volume v) h = (v, refl, eqb-true v.head.id id h)
at_volume id (kinds.Group g) h = absurd cc
at_volume id (kinds.Disk g) h = absurd cc
at_volume id (kinds.Component g) h = absurd cc
at_volume id (kinds.Partition g) h = absurd cc

pub at_component : (id : ℕ) (r : Record) → is_at 4 id r ≡ true → (c : Component) × (r ≡ kinds.Component c) × (c.head.id ≡ id)
at_component id (kinds.Component c) h = (c, refl, eqb-true c.head.id id h)
at_component id (kinds.Group g) h = absurd cc
at_component id (kinds.Disk g) h = absurd cc
at_component id (kinds.Volume g) h = absurd cc
at_component id (kinds.Partition g) h = absurd cc

pub child_component : (q : ℕ) (r : Record) → is_child 3 q r ≡ true → (c : Component) × (r ≡ kinds.Component c) × (c.parent ≡ q)
child_component q (kinds.Component c) h = (c, refl, eqb-true c.parent q h)
child_component q (kinds.Group g) h = absurd cc
child_component q (kinds.Disk g) h = absurd cc
child_component q (kinds.Volume g) h = absurd cc
child_component q (kinds.Partition g) h = absurd cc

or_no : (b : Bool) → (b || false) ≡ true → b ≡ true
or_no true h = refl
or_no false h = h

pub child_partition : (q : ℕ) (r : Record) → is_child 4 q r ≡ true → (p : Partition) × (r ≡ kinds.Partition p) × (p.parent ≡ q)
child_partition q (kinds.Partition p) h = (p, refl, eqb-true p.parent q (or_no (p.parent == q) h))
child_partition q (kinds.Group g) h = absurd cc
child_partition q (kinds.Disk g) h = absurd cc
child_partition q (kinds.Volume g) h = absurd cc
child_partition q (kinds.Component g) h = absurd cc

pub named_volume : (name : List ℕ) (r : Record) → is_volume_named name r ≡ true → (v : Volume) × (r ≡ kinds.Volume v)
named_volume name (kinds.Volume v) h = (v, refl)
named_volume name (kinds.Group g) h = absurd cc
named_volume name (kinds.Disk g) h = absurd cc
named_volume name (kinds.Component g) h = absurd cc
named_volume name (kinds.Partition g) h = absurd cc
