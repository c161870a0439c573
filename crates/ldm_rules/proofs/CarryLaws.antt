-- What makes the next group sound: a change that carries the rules over, or records that are all
-- new.
use Rattle.std.proofs.Common.{◌≡◌, ◌⊎◌, inl, inr, ℕ, ◌≤◌, ◌==◌, not, List, get_or, refl, sym, ap, subst, ◌∙◌, arith, true, false, None, Ok, Contains, count_by, zero, suc, ◌+◌, ◌<◌, Bool, cond, [], ◌∷◌, length, slice_get, Some, find, position}
use Rattle.std.proofs.lemmas.Grind.{common_steps}
use Rattle.std.specs.Prelude.{filter, is_none, map, nat_le, nat_lt, sum_by}
use Rattle.std.proofs.lemmas.Bool.{not-false, eqb-true, eq-eqb, cases_lt, false≢true, eqb-false}
use Rattle.ldm_records.specs.declared.types.Record.{Record}
use Rattle.ldm_records.specs.declared.types.Record.TheVariants as kinds
use Rattle.ldm_records.specs.declared.types.GroupRec.{GroupRec}
use Rattle.ldm_records.specs.declared.types.Disk.{Disk}
use Rattle.ldm_records.specs.declared.types.Volume.{Volume}
use Rattle.ldm_records.specs.declared.types.Component.{Component}
use Rattle.ldm_records.specs.declared.types.Partition.{Partition}
use Rattle.ldm_group.specs.Order.{Rising, kind_of, id_of}
use Rattle.ldm_group.specs.Looks.{is_at, is_child, is_volume_named, children_of, is_disk_with, disk_in, disk_with}
use Rattle.ldm_group.proofs.KinLaws.{filter_count, kin_same, counted_there, there_counted}
use Rattle.ldm_group.proofs.KindLaws.{at_volume, at_component, child_component, child_partition}
use Rattle.ldm_label.specs.declared.Label.{Label}
use Rattle.ldm_places.specs.Layouts.{Layout}
use Rattle.ldm_layout.specs.Parts.{plexes_of, extents_of, by_offset, tile_key}
use Rattle.ldm_layout.specs.Volumes.{layout_of}
use Rattle.ldm_layout.specs.declared.parts.Plex.{Plex}
use Rattle.ldm_layout.proofs.VolumeLaws.{same_layout, plexes_are, rising_sum, few_by, many_extents, IsExtentOf, extents_are}
use Rattle.ldm_rules.specs.Ends.{data_size}
use Rattle.ldm_rules.specs.Rules.{first_broken, has_namesake, lacks_volume, lacks_component, lacks_disk, miscounts_components, miscounts_partitions, has_no_sectors, is_short_fault, passes_end, has_layout_fault, passes_layout, group_id, group_fault, has_twin_guid, meets_another}
use Rattle.ldm_rules.proofs.GroupLaws.{not_broken, SameHeads, none_by, laid_none, ends_kept, group_kept, guids_kept, NoneMeet, meet_none}
use Rattle.ldm_rules.proofs.SoundLaws.{EachRule, each_laid, sound_from}
use Rattle.std.specs.List.{filter_map, position_or_len}
use Rattle.std.specs.Option.{option_map}
use Rattle.std.proofs.lemmas.Bool.Decides.{nat_tests}
use Rattle.std.proofs.lemmas.List.{length-map, get_or-map}
use Rattle.std.proofs.lemmas.List.Sums.{sum_by-cons, fails_before_first, position_or_len_is, length-filter}
use Rattle.std.proofs.lemmas.Option.{get_or_from_slice_get}
use Rattle.ldm_group.proofs.Rise.{tested, two_places}
use Rattle.ldm_rules.specs.Facts.{AreApart, stranger}
use Rattle.ldm_rules.specs.New.{IsNewOn}
use Rattle.ldm_rules.specs.Present.{is_absent}
use Rattle.ldm_label.specs.Present.{image_with, has_guid}
use Rattle.ldm_rules.specs.Table.{IsSound}
use Rattle.ldm_places.specs.declared.extent.Extent.{Extent}

-- ---- A change carries the rules of a group over: a record of the next group that was there has the same kin as before, and one that is
-- new keeps the rules itself.

-- ---- what one record keeps

-- a volume, a component or a disk of this id is there
abbrev pub HasVolume : List Record → ℕ → Type 0
HasVolume records id = (v : Volume) × Contains records (kinds.Volume v) × (v.head.id ≡ id)

abbrev pub HasComponent : List Record → ℕ → Type 0
HasComponent records id = (c : Component) × Contains records (kinds.Component c) × (c.head.id ≡ id)

abbrev pub HasDisk : List Record → ℕ → Type 0
HasDisk records id = (d : Disk) × Contains records (kinds.Disk d) × (d.head.id ≡ id)

-- a volume counts its components, has sectors, and has a layout
pub record KeepsVolume (records : List Record) (v : Volume) : Type 0 where
  pub counted : v.children ≡ children_of 3 v.head.id records
  pub some : (v.size == 0) ≡ false
  pub layout : (l : Layout) × (layout_of records v ≡ Ok l)

-- a component is of a volume that is there, and counts its partitions
pub record KeepsComponent (records : List Record) (c : Component) : Type 0 where
  pub parent : HasVolume records c.parent
  pub counted : c.children ≡ children_of 4 c.head.id records

-- a partition is of a component that is there, on a disk that is there, and has sectors
pub record KeepsPartition (records : List Record) (p : Partition) : Type 0 where
  pub parent : HasComponent records p.parent
  pub disk : HasDisk records p.disk
  pub some : (p.size == 0) ≡ false

abbrev pub KeepsRules : List Record → Record → Type 0
KeepsRules records (kinds.Volume v) = KeepsVolume records v
KeepsRules records (kinds.Component c) = KeepsComponent records c
KeepsRules records (kinds.Partition p) = KeepsPartition records p
KeepsRules records _ = ⊥

-- ---- what was there

-- both groups have the same components of the volume of this id,
pub record SameComponents (old next : List Record) (id : ℕ) : Type 0 where
  pub stay : (c : Component) → c.parent ≡ id → Contains old (kinds.Component c) → Contains next (kinds.Component c)
  pub back : (c : Component) → c.parent ≡ id → Contains next (kinds.Component c) → Contains old (kinds.Component c)

-- or the same partitions of the component of this id
pub record SamePartitions (old next : List Record) (id : ℕ) : Type 0 where
  pub stay : (p : Partition) → p.parent ≡ id → Contains old (kinds.Partition p) → Contains next (kinds.Partition p)
  pub back : (p : Partition) → p.parent ≡ id → Contains next (kinds.Partition p) → Contains old (kinds.Partition p)

-- a volume has the same components, and they the same partitions
pub record HasSameParts (old next : List Record) (v : Volume) : Type 0 where
  pub components : SameComponents old next v.head.id
  pub partitions : (c : Component) → Contains old (kinds.Component c) → c.parent ≡ v.head.id → SamePartitions old next c.head.id

-- a component is still of a volume that is there, and has the same partitions
pub record HasSameComponent (old next : List Record) (c : Component) : Type 0 where
  pub parent : HasVolume old c.parent → HasVolume next c.parent
  pub partitions : SamePartitions old next c.head.id

-- its kin, by its kind: a partition is still of a component that is there
abbrev pub HasSameKin : List Record → List Record → Record → Type 0
HasSameKin old next (kinds.Volume v) = HasSameParts old next v
HasSameKin old next (kinds.Component c) = HasSameComponent old next c
HasSameKin old next (kinds.Partition p) = HasComponent old p.parent → HasComponent next p.parent
HasSameKin old next _ = Unit {0}

-- each record of the next group was there with the same kin, or keeps the rules; the group and disk records stay
pub record Carries (old next : List Record) : Type 0 where
  pub up : Rising old
  pub vp : Rising next
  pub groups : (g : GroupRec) → Contains old (kinds.Group g) → Contains next (kinds.Group g)
  pub disks : (d : Disk) → Contains old (kinds.Disk d) → Contains next (kinds.Disk d)
  pub each : (r : Record) → Contains next r → (Contains old r × HasSameKin old next r) ⊎ KeepsRules next r

-- ---- what rules say of one record

pub at_disk : (id : ℕ) (r : Record) → is_at 2 id r ≡ true
    → (d : Disk) × (r ≡ kinds.Disk d) × (d.head.id ≡ id)
at_disk id (kinds.Disk d) h = (d, refl, eqb-true d.head.id id h)
at_disk id r h = absurd cc

-- what is counted is there
pub disk_there : (records : List Record) (r : Record) (id : ℕ) → (count_by (is_at 2 id) records == 0) ≡ false → HasDisk records id
disk_there records r id some =
    let found = counted_there (is_at 2 id) records r some in
    let disk = at_disk id found.0 found.2 in
    (disk.0, subst (λ (x : Record). Contains records x) disk.1 found.1, disk.2)

module _ (records : List Record) (labels : List Label) (each : EachRule records labels) where
  pub volume_kept : (v : Volume) → Contains records (kinds.Volume v) → KeepsVolume records v
  volume_kept v at = record {
    counted = eqb-true _ _ (not-false _ (not_broken (miscounts_components (λ id. children_of 3 id records)) records (kinds.Volume v) each.component_counts at));
    some = not_broken has_no_sectors records (kinds.Volume v) each.sizes at;
    layout = (let laid = each_laid records labels v each at in (laid.0, laid.1.layout));
  }

  pub component_kept : (c : Component) → Contains records (kinds.Component c) → KeepsComponent records c
  component_kept c at =
      let found = counted_there (is_at 3 c.parent) records (kinds.Component c) (not_broken (lacks_volume (λ id. count_by (is_at 3 id) records)) records (kinds.Component c) each.volumes at) in
      let volume = at_volume c.parent found.0 found.2 in
      record {
        parent = (volume.0, subst (λ (r : Record). Contains records r) volume.1 found.1, volume.2);
        counted = eqb-true _ _ (not-false _ (not_broken (miscounts_partitions (λ id. children_of 4 id records)) records (kinds.Component c) each.partition_counts at));
      }

  pub partition_kept : (p : Partition) → Contains records (kinds.Partition p) → KeepsPartition records p
  partition_kept p at =
      let found = counted_there (is_at 4 p.parent) records (kinds.Partition p) (not_broken (lacks_component (λ id. count_by (is_at 4 id) records)) records (kinds.Partition p) each.components at) in
      let component = at_component p.parent found.0 found.2 in
      record {
        parent = (component.0, subst (λ (r : Record). Contains records r) component.1 found.1, component.2);
        disk = disk_there records (kinds.Partition p) p.disk (not_broken (lacks_disk (λ id. count_by (is_at 2 id) records)) records (kinds.Partition p) each.disks at);
        some = not_broken has_no_sectors records (kinds.Partition p) each.sizes at;
      }

-- ---- the same kin, as lists

module _ (old next : List Record) (up : Rising old) (vp : Rising next) where
  components_listed : (id : ℕ) → SameComponents old next id → filter (is_child 3 id) old ≡ filter (is_child 3 id) next
  components_listed id same = kin_same (is_child 3 id) old next up vp
      (λ r h at. (let c = child_component id r h in subst (λ (x : Record). Contains next x) (sym c.1) (same.stay c.0 c.2 (subst (λ (x : Record). Contains old x) c.1 at))))
      (λ r h at. (let c = child_component id r h in subst (λ (x : Record). Contains old x) (sym c.1) (same.back c.0 c.2 (subst (λ (x : Record). Contains next x) c.1 at))))

  partitions_listed : (id : ℕ) → SamePartitions old next id → filter (is_child 4 id) old ≡ filter (is_child 4 id) next
  partitions_listed id same = kin_same (is_child 4 id) old next up vp
      (λ r h at. (let p = child_partition id r h in subst (λ (x : Record). Contains next x) (sym p.1) (same.stay p.0 p.2 (subst (λ (x : Record). Contains old x) p.1 at))))
      (λ r h at. (let p = child_partition id r h in subst (λ (x : Record). Contains old x) (sym p.1) (same.back p.0 p.2 (subst (λ (x : Record). Contains next x) p.1 at))))

  -- a volume with the same parts has the same layout
  layout_same : (v : Volume) → HasSameParts old next v → layout_of old v ≡ layout_of next v
  layout_same v same = same_layout old next v (components_listed v.head.id same.components) (λ k d lt.
      let at = plexes_are old v.head.id k d lt in
      partitions_listed (get_or (plexes_of v.head.id old) k d).id
      (subst (λ (id : ℕ). SamePartitions old next id) (ap (λ (p : Plex). p.id) at.is) (same.partitions at.component at.there at.parent)))

-- ---- the law

module _ {old next : List Record} (carries : Carries old next) where
  pub heads : SameHeads old next
  heads = record { up = carries.up; vp = carries.vp; there = there; back = λ r low at. back r low (carries.each r at) }
    where
      there : (r : Record) → kind_of r ≤ 2 → Contains old r → Contains next r
      there (kinds.Group g) low at = carries.groups g at
      there (kinds.Disk d) low at = carries.disks d at
      there r low at = absurd (omega arith)

      back : (r : Record) → kind_of r ≤ 2 → (Contains old r × HasSameKin old next r) ⊎ KeepsRules next r → Contains old r
      back r low (inl was) = was.0
      back (kinds.Group g) low (inr new) = absurd new
      back (kinds.Disk d) low (inr new) = absurd new
      back r low (inr new) = absurd (omega arith)

  module _ (labels : List Label) (each : EachRule old labels) where
    volume_next : (v : Volume) → Contains next (kinds.Volume v) → KeepsVolume next v
    volume_next v there = elim (carries.each (kinds.Volume v) there) [
      | inr new ↦ new
      | inl was ↦ (let kept = volume_kept old labels each v was.0 in record {
        counted = kept.counted ∙ filter_count (is_child 3 v.head.id) old next (components_listed old next carries.up carries.vp v.head.id was.1.components);
        some = kept.some;
        layout = (kept.layout.0, sym (layout_same old next carries.up carries.vp v was.1) ∙ kept.layout.1);
      })
    ]

    component_next : (c : Component) → Contains next (kinds.Component c) → KeepsComponent next c
    component_next c there = elim (carries.each (kinds.Component c) there) [
      | inr new ↦ new
      | inl was ↦ (let kept = component_kept old labels each c was.0 in record {
        parent = was.1.parent kept.parent;
        counted = kept.counted ∙ filter_count (is_child 4 c.head.id) old next (partitions_listed old next carries.up carries.vp c.head.id was.1.partitions);
      })
    ]

    partition_next : (p : Partition) → Contains next (kinds.Partition p) → KeepsPartition next p
    partition_next p there = elim (carries.each (kinds.Partition p) there) [
      | inr new ↦ new
      | inl was ↦ (let kept = partition_kept old labels each p was.0 in record {
        parent = was.1 kept.parent;
        disk = (kept.disk.0, carries.disks kept.disk.0 kept.disk.1, kept.disk.2);
        some = kept.some;
      })
    ]

    volume_there : (c : Component) → Contains next (kinds.Component c) → (count_by (is_at 3 c.parent) next == 0) ≡ false
    volume_there c there =
        let parent = (component_next c there).parent in
        there_counted (is_at 3 c.parent) next (kinds.Volume parent.0) parent.1 (eq-eqb parent.0.head.id c.parent parent.2)

    component_there : (p : Partition) → Contains next (kinds.Partition p) → (count_by (is_at 4 p.parent) next == 0) ≡ false
    component_there p there =
        let parent = (partition_next p there).parent in
        there_counted (is_at 4 p.parent) next (kinds.Component parent.0) parent.1 (eq-eqb parent.0.head.id p.parent parent.2)

    disk_counted : (p : Partition) → Contains next (kinds.Partition p) → (count_by (is_at 2 p.disk) next == 0) ≡ false
    disk_counted p there =
        let disk = (partition_next p there).disk in
        there_counted (is_at 2 p.disk) next (kinds.Disk disk.0) disk.1 (eq-eqb disk.0.head.id p.disk disk.2)

    -- names, ends and meetings are told by what the change makes
    pub carried : first_broken (has_namesake (λ name. count_by (is_volume_named name) next)) next ≡ None
        → first_broken (passes_end (data_size labels old)) next ≡ None → NoneMeet next → EachRule next labels
    carried names ends apart = record {
      one_group = group_kept old next heads each.one_group;
      guids = guids_kept old next heads each.guids;
      names = names;
      volumes = none_by _ next (λ g. refl) (λ d. refl) (λ v at. refl) volume_there (λ p at. refl);
      components = none_by _ next (λ g. refl) (λ d. refl) (λ v at. refl) (λ c at. refl) component_there;
      disks = none_by _ next (λ g. refl) (λ d. refl) (λ v at. refl) (λ c at. refl) disk_counted;
      component_counts = none_by _ next (λ g. refl) (λ d. refl) (λ v at. ap not (eq-eqb v.children _ (volume_next v at).counted)) (λ c at. refl) (λ p at. refl);
      partition_counts = none_by _ next (λ g. refl) (λ d. refl) (λ v at. refl) (λ c at. ap not (eq-eqb c.children _ (component_next c at).counted)) (λ p at. refl);
      sizes = none_by has_no_sectors next (λ g. refl) (λ d. refl) (λ v at. (volume_next v at).some) (λ c at. refl) (λ p at. (partition_next p at).some);
      ends = ends_kept old next heads labels ends;
      meetings = meet_none next apart;
      layouts = laid_none next (λ f. not (is_short_fault f)) (λ v at. (volume_next v at).layout) (has_layout_fault next) (λ g. refl) (λ d. refl) (λ c. refl) (λ p. refl) (λ v. refl);
      capacities = laid_none next is_short_fault (λ v at. (volume_next v at).layout) (passes_layout next) (λ g. refl) (λ d. refl) (λ c. refl) (λ p. refl) (λ v. refl);
    }

-- ---- A new group keeps the rules, and has neither a strange image nor an absent disk.

-- ---- the first of the records that passes a test

-- none, where no disk passes it
find_disks : (t : Record → Bool) (disks : List Disk) → ((k : ℕ) (e : Disk) → k < length disks → t (kinds.Disk (get_or disks k e)) ≡ false) → find t (map kinds.Disk disks) ≡ None
find_disks t [] fails = refl
find_disks t (d ∷ disks) fails = rw (fails 0 d (omega arith)) (find_disks t disks (λ k e lt. fails (suc k) e (omega arith)))

find_heads : (t : Record → Bool) (group : GroupRec) (disks : List Disk) → t (kinds.Group group) ≡ false
    → ((k : ℕ) (e : Disk) → k < length disks → t (kinds.Disk (get_or disks k e)) ≡ false) → find t (kinds.Group group ∷ map kinds.Disk disks) ≡ None
find_heads t group disks first fails = rw first (find_disks t disks fails)

-- a rule on volumes, components and partitions
other_rule : (t : Record → Bool) (group : GroupRec) (disks : List Disk) → t (kinds.Group group) ≡ false → ((d : Disk) → t (kinds.Disk d) ≡ false)
    → first_broken t (kinds.Group group ∷ map kinds.Disk disks) ≡ None
other_rule t group disks first fails = ap (option_map id_of) (find_heads t group disks first (λ k e lt. fails (get_or disks k e)))

-- ---- the group record

no_group : (disks : List Disk) → filter_map group_id (map kinds.Disk disks) ≡ []
no_group [] = refl
no_group (d ∷ disks) = no_group disks

-- ---- GUIDs

count_guids : (guid : ℕ) (disks : List Disk) → count_by (is_disk_with guid) (map kinds.Disk disks) ≡ count_by (λ g. g == guid) (map (λ d. d.guid) disks)
count_guids guid disks = grind (arith, common_steps, sum_by-cons)

-- the label of a GUID in the list of all
label_of_guid : (labels : List Label) (k g : ℕ) → k < length (map (λ l. l.disk_guid) labels) → get_or (map (λ l. l.disk_guid) labels) k 0 ≡ g
    → (l : Label) × (slice_get labels k ≡ Some l) × (l.disk_guid ≡ g)
label_of_guid [] k g lt is = absurd (omega arith)
label_of_guid (l ∷ labels) zero g lt is = (l, refl, is)
label_of_guid (l ∷ labels) (suc k) g lt is = label_of_guid labels k g (omega arith) is

few_guids : (labels : List Label) (guid : ℕ) → AreApart labels → nat_le 2 (count_by (λ g. g == guid) (map (λ l. l.disk_guid) labels)) ≡ false
few_guids labels guid apart =
    let guids = map (λ l. l.disk_guid) labels in
    elim (tested (nat_le 2 (count_by (λ g. g == guid) guids))) [
      | inr few ↦ few
      | inl many ↦ (let two = two_places (λ g. g == guid) guids 0 (grind arith) in
          let first = label_of_guid labels two.0 guid (let a = two.2 in let b = two.3 in omega arith) (eqb-true _ _ two.4) in
          let second = label_of_guid labels two.1 guid two.3 (eqb-true _ _ two.5) in
          let same : first.0.disk_guid ≡ second.0.disk_guid = cc (first.2, second.2) in
          absurd (apart two.0 two.1 (record { order = two.2; first = first.0; first_is = first.1; second = second.0; second_is = second.1; same = same })))
    ]

-- ---- the rules

pub new_sound : (records : List Record) (labels : List Label) → IsNewOn records labels → AreApart labels → IsSound records labels
new_sound records labels new apart =
    subst (λ (l : List Record). IsSound l labels) (sym new.records_are) (sound_from all labels (record {
      one_group = ap (λ (ids : List ℕ). group_fault (new.group.head.id ∷ ids)) (no_group new.disks);
      guids = ap (option_map id_of) (find_heads (has_twin_guid (λ guid. count_by (is_disk_with guid) all)) new.group new.disks refl (λ k e lt. few (get_or new.disks k e).guid));
      names = other_rule (has_namesake (λ name. count_by (is_volume_named name) all)) new.group new.disks refl (λ d. refl);
      volumes = other_rule (lacks_volume (λ id. count_by (is_at 3 id) all)) new.group new.disks refl (λ d. refl);
      components = other_rule (lacks_component (λ id. count_by (is_at 4 id) all)) new.group new.disks refl (λ d. refl);
      disks = other_rule (lacks_disk (λ id. count_by (is_at 2 id) all)) new.group new.disks refl (λ d. refl);
      component_counts = other_rule (miscounts_components (λ id. children_of 3 id all)) new.group new.disks refl (λ d. refl);
      partition_counts = other_rule (miscounts_partitions (λ id. children_of 4 id all)) new.group new.disks refl (λ d. refl);
      sizes = other_rule has_no_sectors new.group new.disks refl (λ d. refl);
      ends = other_rule (passes_end (data_size labels all)) new.group new.disks refl (λ d. refl);
      meetings = other_rule (meets_another all) new.group new.disks refl (λ d. refl);
      layouts = other_rule (has_layout_fault all) new.group new.disks refl (λ d. refl);
      capacities = other_rule (passes_layout all) new.group new.disks refl (λ d. refl);
    }))
  where
    all : List Record
    all = kinds.Group new.group ∷ map kinds.Disk new.disks

    few : (guid : ℕ) → nat_le 2 (count_by (is_disk_with guid) all) ≡ false
    few guid =
        ap (λ (n : ℕ). nat_le 2 n)
        (sum_by-cons (λ r. cond (is_disk_with guid r) 1 0) (kinds.Group new.group) (map kinds.Disk new.disks)
        ∙ ap (λ (n : ℕ). 0 + n) (count_guids guid new.disks ∙ ap (λ (l : List ℕ). count_by (λ g. g == guid) l) new.guids_are)
        ∙ omega arith)
        ∙ few_guids labels guid apart

-- ---- strange images, and absent disks

has_disk : (disks : List Disk) (k g : ℕ) → k < length (map (λ d. d.guid) disks) → get_or (map (λ d. d.guid) disks) k 0 ≡ g → is_none (disk_in (find (is_disk_with g) (map kinds.Disk disks))) ≡ false
has_disk [] k g lt is = absurd (omega arith)
has_disk (d ∷ disks) zero g lt is = let same : (d.guid == g) ≡ true = eq-eqb _ _ is in rw same refl
has_disk (d ∷ disks) (suc k) g lt is =
    elim (d.guid == g) as (λ b. is_none (disk_in (cond b (Some (kinds.Disk d)) (find (is_disk_with g) (map kinds.Disk disks)))) ≡ false)
    [ true ↦ refl | false ↦ has_disk disks k g (omega arith) is ]

-- none passes, where each fails
pub no_position : {X : Type 0} (t : X → Bool) (xs : List X) → ((k : ℕ) (d : X) → k < length xs → t (get_or xs k d) ≡ false) → position t xs ≡ None
no_position t [] fails = refl
no_position {X} t (x ∷ xs) fails =
    let all : List X = x ∷ xs in
    let at : position_or_len t all ≡ length all = position_or_len_is t all (length all) x (omega arith) (λ k lt. fails k x lt) (λ lt. absurd (omega arith)) in
    let none : nat_lt (position_or_len t all) (length all) ≡ false = grind (arith, nat_tests) in
    ap (λ (b : Bool). cond b (Some (position_or_len t all)) None) none

-- the first is there, where one passes
some_position : {X : Type 0} (t : X → Bool) (xs : List X) (k : ℕ) (d : X) → k < length xs → t (get_or xs k d) ≡ true → is_none (position t xs) ≡ false
some_position t xs k d lt holds = grind (arith, cases_lt, nat_tests, false≢true, fails_before_first)

pub new_own : (records : List Record) (labels : List Label) → IsNewOn records labels → stranger records labels ≡ None
new_own records labels new =
    let all : List Record = kinds.Group new.group ∷ map kinds.Disk new.disks in
    let guids = new.guids_are in
    let many : length (map (λ (d : Disk). d.guid) new.disks) ≡ length labels = ap length guids ∙ length-map labels (λ (l : Label). l.disk_guid) in
    let there : (k : ℕ) (d : Label) → k < length labels → is_none (disk_with (get_or labels k d).disk_guid all) ≡ false =
    λ k d lt. has_disk new.disks k (get_or labels k d).disk_guid (omega arith)
    (ap (λ (l : List ℕ). get_or l k 0) guids ∙ get_or-map (λ (l : Label). l.disk_guid) labels k d 0 lt) in
    subst (λ (l : List Record). stranger l labels ≡ None) (sym new.records_are) (no_position (λ (l : Label). is_none (disk_with l.disk_guid all)) labels there)

pub none_absent : (records : List Record) (labels : List Label) → IsNewOn records labels → find (is_absent labels) records ≡ None
none_absent records labels new =
    let guids = new.guids_are in
    let many : length new.disks ≡ length labels = sym (length-map new.disks (λ (d : Disk). d.guid)) ∙ ap length guids ∙ length-map labels (λ (l : Label). l.disk_guid) in
    let there : (k : ℕ) (e : Disk) → k < length new.disks → is_none (image_with (get_or new.disks k e).guid labels) ≡ false =
    λ k e lt.
    let at = label_of_guid labels k (get_or new.disks k e).guid (omega (arith, length-map labels (λ (l : Label). l.disk_guid)))
    (ap (λ (l : List ℕ). get_or l k 0) (sym guids) ∙ get_or-map (λ (d : Disk). d.guid) new.disks k e 0 lt) in
    some_position (has_guid (get_or new.disks k e).guid) labels k at.0 (omega arith)
    (ap (has_guid (get_or new.disks k e).guid) (get_or_from_slice_get labels k at.0 at.0 at.1) ∙ eq-eqb _ _ at.2) in
    subst (λ (l : List Record). find (is_absent labels) l ≡ None) (sym new.records_are) (find_heads (is_absent labels) new.group new.disks refl there)

-- ---- what the partitions of a component hold

-- the partitions of a component are at most the sectors that they hold
pub few_children : (old : List Record) (labels : List Label) (c : Component) → EachRule old labels → Contains old (kinds.Component c)
    → c.children ≤ sum_by (λ (e : Extent). e.size) (by_offset (extents_of c.head.id old))
few_children old labels c each at =
    let counted = (component_kept old labels each c at).counted in
    let many : length (extents_of c.head.id old) ≡ children_of 4 c.head.id old = sym (many_extents c.head.id old) ∙ length-filter (is_child 4 c.head.id) old in
    let few = few_by (λ (e : Extent). e.size) (extents_of c.head.id old) (λ k d lt. some (get_or (extents_of c.head.id old) k d) (extents_are old c.head.id k d lt)) in
    let sum = rising_sum tile_key (extents_of c.head.id old) in
    omega arith
  where
    some : (e : Extent) → IsExtentOf old c.head.id e → 1 ≤ e.size
    some e is =
        let none = eqb-false is.partition.size 0 (partition_kept old labels each is.partition is.there).some in
        let same : is.partition.size ≡ e.size = ap (λ (x : Extent). x.size) is.is in
        omega arith
