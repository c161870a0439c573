-- What a sound group has: each rule is kept, its volumes have layouts, no two sectors have one place, and its partitions end in range.
use Rattle.std.proofs.Common.{◌≡◌, ℕ, ◌<◌, ◌≤◌, not, Bool, false, List, [], ◌∷◌, length, get_or, refl, ap, sym, subst, ◌∙◌, arith, Option, Some, None, Result, Contains, ◌+◌, ◌-◌, ◌*◌, ◌/◌, Ok, ◌^◌, Err, OnOk, IfOk, IfSome}
use Rattle.std.proofs.lemmas.Grind.{common_steps}
use Rattle.std.specs.List.{All, filter_map}
use Rattle.std.specs.Option.{option_map, option_and_then, IsSomeAnd}
use Rattle.std.specs.Result.{result_ok}
use Rattle.std.proofs.lemmas.Bool.{and_parts, eqb-true, not-false, not_from_false}
use Rattle.std.proofs.lemmas.List.{length-map, get_or-map}
use Rattle.std.proofs.lemmas.Option.{slice_get-get_or}
use Rattle.ldm_records.specs.declared.types.Record.{Record}
use Rattle.ldm_records.specs.declared.types.Record.TheVariants as kinds
use Rattle.ldm_records.specs.declared.types.Volume.{Volume}
use Rattle.ldm_places.proofs.SpotLaws.{none, HasNone, PlexFacts, plex_facts, has_none, IsInside, plex_spot_inside, parity_inside, plex_spot_apart, parity_beside, parity_spot_shared, parity_spot_same, some_same}
use Rattle.ldm_layout.proofs.VolumeLaws.{IsLaidOut, laid_out_volume, laid_all, IsExtentOf, extents_are, plexes_are, one_plex, plex_once, one_volume}
use Rattle.ldm_places.specs.Layouts.{Layout, is_tiled, plex_spot, parity_at, spot_in, parity_spot_in, place_in, parity_in, place_at, copies_by, copies_of, parity_spot}
use Rattle.ldm_layout.specs.Parts.{plexes_of, extents_of, extent_of}
use Rattle.ldm_layout.specs.Volumes.{shape_of, laid_out, volume_place, parity_of, layout_of, volume_with}
use Rattle.ldm_places.specs.declared.extent.Extent.{Extent}
use Rattle.ldm_layout.specs.declared.parts.Plex.{Plex}
use Rattle.ldm_places.specs.declared.shape.LayoutFault.{LayoutFault}
use Rattle.ldm_places.specs.declared.shape.Shape.{Shape}
use Rattle.ldm_places.specs.declared.shape.Shape.TheVariants.{Raid5}
use Rattle.ldm_rules.specs.Disjoint.{HasLayout, IsSector, IsRaid5Sector, LiesInOwn, IsSameRow, AllLaidOut, HasDisjointPlaces}
use Rattle.ldm_records.specs.declared.types.Partition.{Partition}
use Rattle.ldm_group.specs.Order.{Rising}
use Rattle.ldm_places.specs.declared.shape.Place.{Place}
use Rattle.ldm_rules.proofs.GroupLaws.{one_spot, all_end, data_low, not_broken}
use Rattle.ldm_rules.specs.Rules.{first_broken, meets_another, group_id, group_fault, has_twin_guid, has_namesake, lacks_volume, lacks_component, lacks_disk, miscounts_components, miscounts_partitions, fails, is_short_fault, has_no_sectors, passes_end, has_layout_fault, passes_layout}
use Rattle.std.specs.Prelude.{count_by}
use Rattle.ldm_bytes.specs.Tables.{first_of}
use Rattle.ldm_group.specs.Looks.{is_at, is_disk_with, is_volume_named, children_of}
use Rattle.ldm_label.specs.declared.Label.{Label}
use Rattle.ldm_group.specs.Partitions.{EndsInRange}
use Rattle.ldm_rules.specs.Ends.{data_size}
use Rattle.ldm_rules.specs.Table.{broken_at, first_broken_rule, name_rules, tree_rules, sector_rules, ChecksAs, IsSound}
use Rattle.ldm_rules.specs.declared.fault.RuleError.{RuleError}
use Rattle.ldm_rules.specs.declared.fault.RuleError.TheVariants.{Fault, NoMemory}
use Rattle.ldm_layout.specs.Answers.{PlansAs}
use Rattle.ldm_places.specs.declared.shape.LayoutError.{LayoutError}
use Rattle.ldm_places.specs.declared.shape.LayoutError.TheVariants as layout_errors
use Rattle.std.proofs.lemmas.List.Sums.{AllPass-from_list_all}

-- ---- What the spots of a volume's sectors stand on: a component of the volume, and a partition of it.

abbrev pub no_plex : Plex
no_plex = record { volume = 0; id = 0; layout = 0; striping = None }

-- the component of a copy, and its partitions in their order
abbrev pub plex_at : List Record → Volume → ℕ → Plex
plex_at records v copy = get_or (plexes_of v.head.id records) copy no_plex

abbrev pub parts_at : Layout → ℕ → List Extent
parts_at l copy = get_or l.plexes copy []

-- what is known of a copy
pub record IsCopy (records : List Record) (v : Volume) (l : Layout) (copy : ℕ) : Type 0 where
  pub listed : copy < length l.plexes
  pub copied : copy < length (plexes_of v.head.id records)
  pub facts : PlexFacts l (parts_at l copy)
  pub own : All (IsExtentOf records (plex_at records v copy).id) (parts_at l copy)
  pub size : l.size ≡ v.size

some_plex : (ps : List Plex) (s : Shape) → shape_of ps ≡ Some s → 1 ≤ length ps
some_plex ps s h = grind (arith, common_steps)

copies_low : (s : Shape) (n : ℕ) → 1 ≤ n → copies_by s n ≤ n
copies_low s n h = grind (arith, common_steps)

pub copy_facts : (records : List Record) (v : Volume) (l : Layout) (copy : ℕ) → HasLayout records v l → copy < copies_of l → IsCopy records v l copy
copy_facts records v l copy has h =
    let laid : IsLaidOut records v l = laid_out_volume records v l has.layout in
    let plexes : List Plex = plexes_of v.head.id records in
    let many : length l.plexes ≡ length (plexes_of v.head.id records) =
    ap (λ (xs : List (List Extent)). length xs) laid.parts.plexes ∙ length-map (plexes_of v.head.id records) (λ (p : Plex). laid_out l.shape (extents_of p.id records)) in
    let some : 1 ≤ length (plexes_of v.head.id records) = some_plex (plexes_of v.head.id records) l.shape laid.parts.shape in
    let low : copies_of l ≤ length l.plexes = copies_low l.shape (length l.plexes) (omega arith) in
    let listed : copy < length l.plexes = omega arith in
    let copied : copy < length (plexes_of v.head.id records) = omega arith in
    let parts : parts_at l copy ≡ laid_out l.shape (extents_of (plex_at records v copy).id records) =
    ap (λ (xs : List (List Extent)). get_or xs copy []) laid.parts.plexes
    ∙ get_or-map (λ (p : Plex). laid_out l.shape (extents_of p.id records)) (plexes_of v.head.id records) copy no_plex [] copied in
    record {
      listed = listed;
      copied = copied;
      facts = plex_facts l copy [] laid.sound listed;
      own = subst (λ (es : List Extent). All (IsExtentOf records (plex_at records v copy).id) es) (sym parts) (laid_all (IsExtentOf records (plex_at records v copy).id) l.shape (extents_of (plex_at records v copy).id records) (extents_are records (plex_at records v copy).id));
      size = laid.size;
    }

pub raid5_copy : (records : List Record) (v : Volume) (l : Layout) (x : ℕ) → IsRaid5Sector records v l x → IsCopy records v l 0
raid5_copy records v l x s =
    copy_facts records v l 0 s.volume
    (subst (λ (t : Shape). 0 < copies_by t (length l.plexes)) (sym s.raid5) (omega arith))

-- ---- spots

-- a spot in a partition of a copy of the volume
pub record IsSpotOf (records : List Record) (v : Volume) (copy : ℕ) (spot : Option (Extent × ℕ)) : Type 0 where
  pub there : Contains records (kinds.Volume v)
  pub copied : copy < length (plexes_of v.head.id records)
  pub inside : IsInside (IsExtentOf records (plex_at records v copy).id) spot

pub spot_is : (l : Layout) (x copy : ℕ) → copy < length l.plexes → spot_in l x copy ≡ plex_spot l.shape l.chunk (parts_at l copy) x
spot_is l x copy h = ap (λ (o : Option (List Extent)). option_and_then (λ es. plex_spot l.shape l.chunk es x) o) (slice_get-get_or l.plexes copy [] h)

pub parity_spot_is : (l : Layout) (x : ℕ) → 0 < length l.plexes → parity_spot_in l x ≡ parity_at l.shape l.chunk (parts_at l 0) x
parity_spot_is l x h = ap (λ (o : Option (List Extent)). option_and_then (λ es. parity_at l.shape l.chunk es x) o) (slice_get-get_or l.plexes 0 [] h)

pub sector_spot : (records : List Record) (v : Volume) (l : Layout) (x copy : ℕ) → IsSector records v l x copy → IsSpotOf records v copy (spot_in l x copy)
sector_spot records v l x copy s =
    let here = copy_facts records v l copy s.volume s.copied in
    let within : x < l.size = (let lt : x < v.size = s.within in let size : l.size ≡ v.size = here.size in omega arith) in
    record {
      there = s.volume.there;
      copied = here.copied;
      inside = subst (λ (o : Option (Extent × ℕ)). IsInside (IsExtentOf records (plex_at records v copy).id) o) (sym (spot_is l x copy here.listed))
          (plex_spot_inside (IsExtentOf records (plex_at records v copy).id) l (parts_at l copy) x none here.facts here.own within);
    }

pub parity_spot_of : (records : List Record) (v : Volume) (l : Layout) (x : ℕ) → IsRaid5Sector records v l x → IsSpotOf records v 0 (parity_spot_in l x)
parity_spot_of records v l x s =
    let here = raid5_copy records v l x s in
    let within : x < l.size = (let lt : x < v.size = s.within in let size : l.size ≡ v.size = here.size in omega arith) in
    record {
      there = s.volume.there;
      copied = here.copied;
      inside = subst (λ (o : Option (Extent × ℕ)). IsInside (IsExtentOf records (plex_at records v 0).id) o) (sym (parity_spot_is l x here.listed))
          (parity_inside (IsExtentOf records (plex_at records v 0).id) l (parts_at l 0) x none s.raid5 here.facts here.own within);
    }

-- ---- places

pub place_is : (records : List Record) (v : Volume) (l : Layout) (x copy : ℕ) → HasLayout records v l → volume_place records v x copy ≡ place_in l x copy
place_is records v l x copy has = ap (λ (r : Result Layout LayoutFault). option_and_then (λ (m : Layout). place_in m x copy) (result_ok r)) has.layout

pub parity_is : (records : List Record) (v : Volume) (l : Layout) (x : ℕ) → HasLayout records v l → parity_of records v x ≡ parity_in l x
parity_is records v l x has = ap (λ (r : Result Layout LayoutFault). option_and_then (λ (m : Layout). parity_in m x) (result_ok r)) has.layout

-- a spot of the volume is a place in its own partitions
pub spot_in_own : (records : List Record) (v : Volume) (copy : ℕ) (spot : Option (Extent × ℕ)) → IsSpotOf records v copy spot → IsSomeAnd (option_map place_at spot) (LiesInOwn records v)
spot_in_own records v copy spot s =
    let own = plexes_are records v.head.id copy no_plex s.copied in
    let e : Extent = s.inside.part in
    let o : ℕ = s.inside.offset in
    let part : IsExtentOf records (plex_at records v copy).id s.inside.part = s.inside.has in
    let start : part.partition.start ≡ s.inside.part.start = ap (λ (f : Extent). f.start) part.is in
    let size : part.partition.size ≡ s.inside.part.size = ap (λ (f : Extent). f.size) part.is in
    let within : s.inside.offset < s.inside.part.size = s.inside.within in
    let lies : LiesInOwn records v (place_at (s.inside.part, s.inside.offset)) = record {
      component = own.component;
      partition = part.partition;
      component_there = own.there;
      component_of = own.parent;
      partition_there = part.there;
      partition_of = part.parent ∙ ap (λ (p : Plex). p.id) (sym own.is);
      disk = ap (λ (f : Extent). f.disk) (sym part.is);
      start = omega arith;
      end = omega arith;
    } in
    subst (λ (z : Option (Extent × ℕ)). IsSomeAnd (option_map place_at z) (LiesInOwn records v)) (sym s.inside.is) lies

-- ---- columns

-- the columns that the component says are as many as its partitions
pub columns_are : (l : Layout) → l.shape ≡ Raid5 → HasNone l → 0 < length l.plexes → l.columns ≡ length (parts_at l 0)
columns_are l raid5 has h = grind (arith, not-false, not_from_false, AllPass-from_list_all, eqb-true, and_parts)

-- ---- In a sound group no two sectors have one place.

ok_same : {a b : Layout} {r : Result Layout LayoutFault} → r ≡ Ok a → r ≡ Ok b → a ≡ b
ok_same h e = cc

-- two spots at one place are of one copy of one volume, and one spot
pub one_place : (records : List Record) (v w : Volume) (c d : ℕ) (s t : Option (Extent × ℕ)) → Rising records → first_broken (meets_another records) records ≡ None
    → IsSpotOf records v c s → IsSpotOf records w d t → option_map place_at s ≡ option_map place_at t → (v ≡ w) × (c ≡ d) × (s ≡ t)
one_place records v w c d s t up apart at_v at_w e =
    let a = at_v.inside in
    let b = at_w.inside in
    let p : Partition = a.has.partition in
    let q : Partition = b.has.partition in
    let place : place_at (a.part, a.offset) ≡ place_at (b.part, b.offset) =
    some_same (sym (ap (λ (z : Option (Extent × ℕ)). option_map place_at z) a.is) ∙ (e ∙ ap (λ (z : Option (Extent × ℕ)). option_map place_at z) b.is)) in
    let disk : p.disk ≡ q.disk = ap (λ (f : Extent). f.disk) a.has.is ∙ (ap (λ (z : Place). z.disk) place ∙ ap (λ (f : Extent). f.disk) (sym b.has.is)) in
    let sector : a.part.start + a.offset ≡ b.part.start + b.offset = ap (λ (z : Place). z.sector) place in
    let start_p : p.start ≡ a.part.start = ap (λ (f : Extent). f.start) a.has.is in
    let start_q : q.start ≡ b.part.start = ap (λ (f : Extent). f.start) b.has.is in
    let size_p : p.size ≡ a.part.size = ap (λ (f : Extent). f.size) a.has.is in
    let size_q : q.size ≡ b.part.size = ap (λ (f : Extent). f.size) b.has.is in
    let low_p : a.offset < p.size = omega (arith, size_p, a.within) in
    let low_q : b.offset < q.size = omega (arith, size_q, b.within) in
    let sectors : p.start + a.offset ≡ q.start + b.offset = omega (arith, sector, start_p, start_q) in
    let one : (p ≡ q) × (a.offset ≡ b.offset) = one_spot records p q a.offset b.offset up apart a.has.there b.has.there low_p low_q disk sectors in
    let parts : a.part ≡ b.part = sym a.has.is ∙ (ap (λ (z : Partition). extent_of z) one.0 ∙ b.has.is) in
    let one_a : Extent × ℕ = (a.part, a.offset) in
    let one_b : Extent × ℕ = (b.part, b.offset) in
    let pairs : one_a ≡ one_b = λ i. (parts i, one.1 i) in
    let ids : (plex_at records v c).id ≡ (plex_at records w d).id = sym a.has.parent ∙ (ap (λ (z : Partition). z.parent) one.0 ∙ b.has.parent) in
    let plexes : (plex_at records v c ≡ plex_at records w d) × (v.head.id ≡ w.head.id) = one_plex records v.head.id w.head.id (plex_at records v c) (plex_at records w d) up
    (plexes_are records v.head.id c no_plex at_v.copied) (plexes_are records w.head.id d no_plex at_w.copied) ids in
    let volumes : v ≡ w = one_volume records v w up at_v.there at_w.there plexes.1 in
    let copied : d < length (plexes_of v.head.id records) = subst (λ (u : Volume). d < length (plexes_of u.head.id records)) (sym volumes) at_w.copied in
    let there : plex_at records v d ≡ plex_at records v c = ap (λ (u : Volume). plex_at records u d) volumes ∙ sym plexes.0 in (
      volumes,
      plex_once records v.head.id c d (plex_at records v c) up (slice_get-get_or (plexes_of v.head.id records) c no_plex at_v.copied)
          (slice_get-get_or (plexes_of v.head.id records) d no_plex copied ∙ ap (λ (z : Plex). Some z) there),
      a.is ∙ (ap (λ (z : Extent × ℕ). Some z) pairs ∙ sym b.is),
    )

-- one volume has one layout
one_layout : (records : List Record) (v w : Volume) (l m : Layout) → HasLayout records v l → HasLayout records w m → v ≡ w → m ≡ l
one_layout records v w l m at_v at_w same = ok_same (ap (λ (u : Volume). layout_of records u) same ∙ at_w.layout) at_v.layout

pub places_apart : (records : List Record) (v w : Volume) (l m : Layout) (x y c d : ℕ) → Rising records → first_broken (meets_another records) records ≡ None
    → IsSector records v l x c → IsSector records w m y d → volume_place records v x c ≡ volume_place records w y d → (v ≡ w) × (x ≡ y) × (c ≡ d)
places_apart records v w l m x y c d up apart at_x at_y e =
    let spot_x = sector_spot records v l x c at_x in
    let spot_y = sector_spot records w m y d at_y in
    let one = one_place records v w c d (spot_in l x c) (spot_in m y d) up apart spot_x spot_y
    (sym (place_is records v l x c at_x.volume) ∙ (e ∙ place_is records w m y d at_y.volume)) in
    let layouts : m ≡ l = one_layout records v w l m at_x.volume at_y.volume one.0 in
    let here = copy_facts records v l c at_x.volume at_x.copied in
    let moved : spot_in l y c ≡ spot_in m y d = ap (λ (k : Layout). spot_in k y c) (sym layouts) ∙ ap (λ (k : ℕ). spot_in m y k) one.1 in
    let first : plex_spot l.shape l.chunk (parts_at l c) x ≡ Some (spot_x.inside.part, spot_x.inside.offset) = sym (spot_is l x c here.listed) ∙ spot_x.inside.is in
    let second : plex_spot l.shape l.chunk (parts_at l c) y ≡ Some (spot_x.inside.part, spot_x.inside.offset) =
    sym (spot_is l y c here.listed) ∙ (moved ∙ (sym one.2 ∙ spot_x.inside.is)) in
    (one.0, plex_spot_apart l (parts_at l c) x y spot_x.inside.part spot_x.inside.offset here.facts first second, one.1)

pub places_beside : (records : List Record) (v w : Volume) (l m : Layout) (x y d : ℕ) → Rising records → first_broken (meets_another records) records ≡ None
    → IsRaid5Sector records v l x → IsSector records w m y d → parity_of records v x ≡ volume_place records w y d → ⊥
places_beside records v w l m x y d up apart at_x at_y e =
    let spot_x = parity_spot_of records v l x at_x in
    let spot_y = sector_spot records w m y d at_y in
    let one = one_place records v w 0 d (parity_spot_in l x) (spot_in m y d) up apart spot_x spot_y
    (sym (parity_is records v l x at_x.volume) ∙ (e ∙ place_is records w m y d at_y.volume)) in
    let layouts : m ≡ l = one_layout records v w l m at_x.volume at_y.volume one.0 in
    let here = raid5_copy records v l x at_x in
    let moved : spot_in l y 0 ≡ spot_in m y d = ap (λ (k : Layout). spot_in k y 0) (sym layouts) ∙ ap (λ (k : ℕ). spot_in m y k) one.1 in
    let parity : parity_at l.shape l.chunk (parts_at l 0) x ≡ Some (spot_x.inside.part, spot_x.inside.offset) = sym (parity_spot_is l x here.listed) ∙ spot_x.inside.is in
    let sector : plex_spot l.shape l.chunk (parts_at l 0) y ≡ Some (spot_x.inside.part, spot_x.inside.offset) =
    sym (spot_is l y 0 here.listed) ∙ (moved ∙ (sym one.2 ∙ spot_x.inside.is)) in
    parity_beside l (parts_at l 0) y x spot_x.inside.part spot_x.inside.offset here.facts sector parity

-- ---- parity

-- the parity of a sector, by the columns of its volume
parity_by : (records : List Record) (v : Volume) (l : Layout) (x y : ℕ) → IsRaid5Sector records v l x → parity_spot_in l y ≡ parity_spot (parts_at l 0) l.chunk y
parity_by records v l x y s = grind (arith, common_steps, parity_spot_is, raid5_copy)

columns_of : (records : List Record) (v : Volume) (l : Layout) (x : ℕ) → IsRaid5Sector records v l x → l.columns ≡ length (parts_at l 0)
columns_of records v l x s = columns_are l s.raid5 (has_none l (laid_out_volume records v l s.volume.layout).sound) (raid5_copy records v l x s).listed

pub parities_shared : (records : List Record) (v w : Volume) (l m : Layout) (x y : ℕ) → Rising records → first_broken (meets_another records) records ≡ None
    → IsRaid5Sector records v l x → IsRaid5Sector records w m y → parity_of records v x ≡ parity_of records w y → (v ≡ w) × IsSameRow l x y
parities_shared records v w l m x y up apart at_x at_y e =
    let spot_x = parity_spot_of records v l x at_x in
    let spot_y = parity_spot_of records w m y at_y in
    let one = one_place records v w 0 0 (parity_spot_in l x) (parity_spot_in m y) up apart spot_x spot_y
    (sym (parity_is records v l x at_x.volume) ∙ (e ∙ parity_is records w m y at_y.volume)) in
    let layouts : m ≡ l = one_layout records v w l m at_x.volume at_y.volume one.0 in
    let here = raid5_copy records v l x at_x in
    let untiled : is_tiled l.shape ≡ false = ap is_tiled at_x.raid5 in
    let first : parity_spot (parts_at l 0) l.chunk x ≡ Some (spot_x.inside.part, spot_x.inside.offset) = sym (parity_by records v l x x at_x) ∙ spot_x.inside.is in
    let second : parity_spot (parts_at l 0) l.chunk y ≡ Some (spot_x.inside.part, spot_x.inside.offset) =
    sym (parity_by records v l x y at_x) ∙ (ap (λ (k : Layout). parity_spot_in k y) (sym layouts) ∙ (sym one.2 ∙ spot_x.inside.is)) in
    let rows = parity_spot_shared (parts_at l 0) l.chunk x y spot_x.inside.part spot_x.inside.offset (here.facts.chunked untiled) (here.facts.rises untiled) first second in
    let columns : l.columns ≡ length (parts_at l 0) = columns_of records v l x at_x in (
      one.0,
      record {
        row = subst (λ (k : ℕ). x / (l.chunk * (k - 1)) ≡ y / (l.chunk * (k - 1))) (sym columns) rows.0;
        offset = rows.1;
      },
    )

pub rows_share : (records : List Record) (v w : Volume) (l m : Layout) (x y : ℕ) → IsRaid5Sector records v l x → IsRaid5Sector records w m y
    → v ≡ w → IsSameRow l x y → parity_of records v x ≡ parity_of records w y
rows_share records v w l m x y at_x at_y same row =
    let here = raid5_copy records v l x at_x in
    let untiled : is_tiled l.shape ≡ false = ap is_tiled at_x.raid5 in
    let columns : l.columns ≡ length (parts_at l 0) = columns_of records v l x at_x in
    let rows = subst (λ (k : ℕ). x / (l.chunk * (k - 1)) ≡ y / (l.chunk * (k - 1))) columns row.row in
    let spots : parity_spot_in l x ≡ parity_spot_in l y = parity_by records v l x x at_x
    ∙ (parity_spot_same (parts_at l 0) l.chunk x y (here.facts.chunked untiled) rows row.offset ∙ sym (parity_by records v l x y at_x)) in
    parity_is records v l x at_x.volume
    ∙ (ap (λ (z : Option (Extent × ℕ)). option_map place_at z) spots
    ∙ (sym (parity_is records v l y at_x.volume) ∙ ap (λ (u : Volume). parity_of records u y) same))

-- ---- inside

pub place_inside : (records : List Record) (v : Volume) (l : Layout) (x copy : ℕ) → IsSector records v l x copy → IsSomeAnd (volume_place records v x copy) (LiesInOwn records v)
place_inside records v l x copy s = subst (λ (z : Option Place). IsSomeAnd z (LiesInOwn records v)) (sym (place_is records v l x copy s.volume))
    (spot_in_own records v copy (spot_in l x copy) (sector_spot records v l x copy s))

pub parity_place_inside : (records : List Record) (v : Volume) (l : Layout) (x : ℕ) → IsRaid5Sector records v l x → IsSomeAnd (parity_of records v x) (LiesInOwn records v)
parity_place_inside records v l x s = subst (λ (z : Option Place). IsSomeAnd z (LiesInOwn records v)) (sym (parity_is records v l x s.volume))
    (spot_in_own records v 0 (parity_spot_in l x) (parity_spot_of records v l x s))

-- ---- What a sound group has: no rule is broken, so its volumes have layouts, no two sectors have one place, and its partitions
-- end within the numbers of the format.

-- ---- the rules, each for itself

pub record EachRule (records : List Record) (labels : List Label) : Type 0 where
  pub one_group : group_fault (filter_map group_id records) ≡ None
  pub guids : first_broken (has_twin_guid (λ guid. count_by (is_disk_with guid) records)) records ≡ None
  pub names : first_broken (has_namesake (λ name. count_by (is_volume_named name) records)) records ≡ None
  pub volumes : first_broken (lacks_volume (λ id. count_by (is_at 3 id) records)) records ≡ None
  pub components : first_broken (lacks_component (λ id. count_by (is_at 4 id) records)) records ≡ None
  pub disks : first_broken (lacks_disk (λ id. count_by (is_at 2 id) records)) records ≡ None
  pub component_counts : first_broken (miscounts_components (λ id. children_of 3 id records)) records ≡ None
  pub partition_counts : first_broken (miscounts_partitions (λ id. children_of 4 id records)) records ≡ None
  pub sizes : first_broken has_no_sectors records ≡ None
  pub ends : first_broken (passes_end (data_size labels records)) records ≡ None
  pub meetings : first_broken (meets_another records) records ≡ None
  pub layouts : first_broken (has_layout_fault records) records ≡ None
  pub capacities : first_broken (passes_layout records) records ≡ None

abbrev table : Option ℕ → Option ℕ → Option ℕ → Option ℕ → Option ℕ → Option ℕ → Option ℕ → Option ℕ → Option ℕ → Option ℕ → Option ℕ → Option ℕ → Option ℕ → List (Option (ℕ × ℕ))
table a b c d e f g h i j k l m = broken_at 1 a ∷ (broken_at 2 b ∷ (broken_at 3 c ∷ (broken_at 4 d ∷ (broken_at 5 e ∷ (broken_at 6 f ∷ (broken_at 7 g ∷ (broken_at 8 h ∷ (broken_at 9 i ∷ (broken_at 10 j ∷ (broken_at 11 k ∷ (broken_at 12 l ∷ (broken_at 13 m ∷ []))))))))))))

all_none : (a b c d e f g h i j k l m : Option ℕ) → a ≡ None → b ≡ None → c ≡ None → d ≡ None → e ≡ None → f ≡ None → g ≡ None → h ≡ None → i ≡ None → j ≡ None → k ≡ None → l ≡ None → m ≡ None
    → first_of (table a b c d e f g h i j k l m) ≡ None
all_none a b c d e f g h i j k l m A B C D E F G H I J K L M = rw (A, B, C, D, E, F, G, H, I, J, K, L, M)

-- no rule is broken where each is kept
pub sound_from : (records : List Record) (labels : List Label) → EachRule records labels → IsSound records labels
unfolding first_broken_rule name_rules tree_rules sector_rules
sound_from records labels each = grind (arith, all_none)

next_none : (rule : ℕ) (o : Option ℕ) (rest : List (Option (ℕ × ℕ))) → first_of (broken_at rule o ∷ rest) ≡ None → (o ≡ None) × (first_of rest ≡ None)
next_none rule o rest h = grind (arith, common_steps)

-- each rule is kept where none is broken
pub sound_parts : (records : List Record) (labels : List Label) → IsSound records labels → EachRule records labels
unfolding first_broken_rule name_rules tree_rules sector_rules
sound_parts records labels sound =
    let a = next_none 1 _ _ sound in
    let b = next_none 2 _ _ a.1 in
    let c = next_none 3 _ _ b.1 in
    let d = next_none 4 _ _ c.1 in
    let e = next_none 5 _ _ d.1 in
    let f = next_none 6 _ _ e.1 in
    let g = next_none 7 _ _ f.1 in
    let h = next_none 8 _ _ g.1 in
    let i = next_none 9 _ _ h.1 in
    let j = next_none 10 _ _ i.1 in
    let k = next_none 11 _ _ j.1 in
    let l = next_none 12 _ _ k.1 in
    let m = next_none 13 _ _ l.1 in
    record {
      one_group = a.0;
      guids = b.0;
      names = c.0;
      volumes = d.0;
      components = e.0;
      disks = f.0;
      component_counts = g.0;
      partition_counts = h.0;
      sizes = i.0;
      ends = j.0;
      meetings = k.0;
      layouts = l.0;
      capacities = m.0;
    }

-- ---- layouts

one_of_two : (a : Bool) → not a ≡ false → a ≡ false → ⊥
one_of_two a h e = grind (arith, common_steps)

has_layout : (records : List Record) (v : Volume) (r : Result Layout LayoutFault) → layout_of records v ≡ r → fails (λ f. not (is_short_fault f)) r ≡ false → fails is_short_fault r ≡ false
    → (l : Layout) × (layout_of records v ≡ Ok l)
has_layout records v r is a b = grind (arith, common_steps, one_of_two)

pub each_laid : (records : List Record) (labels : List Label) (v : Volume) → EachRule records labels → Contains records (kinds.Volume v) → (l : Layout) × HasLayout records v l
each_laid records labels v each there =
    let found = has_layout records v (layout_of records v) refl
    (not_broken (has_layout_fault records) records (kinds.Volume v) each.layouts there)
    (not_broken (passes_layout records) records (kinds.Volume v) each.capacities there) in
    (found.0, record { there = there; layout = found.1 })

pub layout_there : (records : List Record) (labels : List Label) (v : Volume) → IsSound records labels → Contains records (kinds.Volume v) → (l : Layout) × HasLayout records v l
layout_there records labels v sound there = each_laid records labels v (sound_parts records labels sound) there

-- a check that finds nothing tells it
pub checked_layouts : (records : List Record) (labels : List Label) (r : Result (Unit {0}) RuleError) → ChecksAs r (first_broken_rule records labels) → OnOk r (AllLaidOut records)
checked_layouts records labels (Ok _) sound = λ v there. layout_there records labels v sound there
checked_layouts records labels (Err (Fault f)) fault = tt
checked_layouts records labels (Err NoMemory) fault = tt

pub disjoint : (records : List Record) (labels : List Label) → Rising records → IsSound records labels → HasDisjointPlaces records
disjoint records labels up sound =
    let meets : first_broken (meets_another records) records ≡ None = (sound_parts records labels sound).meetings in
    record {
      laid_out = λ v there. layout_there records labels v sound there;
      inside = λ v l x copy s. place_inside records v l x copy s;
      apart = λ v w l m x y c d s t e. places_apart records v w l m x y c d up meets s t e;
      parity_inside = λ v l x s. parity_place_inside records v l x s;
      beside = λ v w l m x y d s t e. places_beside records v w l m x y d up meets s t e;
      shared = λ v w l m x y s t. (
        λ e. parities_shared records v w l m x y up meets s t e,
        λ both. rows_share records v w l m x y s t both.0 both.1,
      );
    }

-- ---- ends

pub ends_in_range : (records : List Record) (labels : List Label) → All (λ l. l.data_size < 2 ^ 64) labels → IsSound records labels → All EndsInRange records
ends_in_range records labels low sound = all_end (data_size labels records) records (data_low labels records low) (sound_parts records labels sound).ends

-- ---- The plan of a volume of a sound group.

-- what is answered of the volume with its id is answered of the volume
pub of_volume : (P : Volume → Type 0) (records : List Record) (v : Volume) → volume_with v.head.id records ≡ Some v → IfSome (volume_with v.head.id records) P → P v
of_volume P records v again answers = subst (λ (o : Option Volume). IfSome o P) again answers

pub planned : (records : List Record) (v : Volume) (result : Result Layout LayoutError) (plan : Layout) → PlansAs result (layout_of records v) → result ≡ Ok plan → layout_of records v ≡ Ok plan
planned records v result plan plans is = subst (λ (r : Result Layout LayoutError). PlansAs r (layout_of records v)) is plans

-- where all volumes have layouts, no plan is a fault
pub no_fault : (records : List Record) (v : Volume) (result : Result Layout LayoutError) (error : LayoutError) (fault : LayoutFault) → AllLaidOut records → Contains records (kinds.Volume v)
    → PlansAs result (layout_of records v) → result ≡ Err error
    → error ≡ layout_errors.Fault fault → ⊥
no_fault records v result error fault laid_out there plans is fault_is =
    let faulty : layout_of records v ≡ Err fault = subst (λ (r : Result Layout LayoutError). PlansAs r (layout_of records v)) (is ∙ ap (λ (e : LayoutError). Err e) fault_is) plans in
    let good = laid_out v there in
    let bad : Err fault ≡ Ok good.0 = sym faulty ∙ good.1.layout in
    absurd cc

pub planned_size : (records : List Record) (v : Volume) (result : Result Layout LayoutError) (plan : Layout) → volume_with v.head.id records ≡ Some v
    → IfOk result (λ l. IfSome (volume_with v.head.id records) (λ w. l.size ≡ w.size)) → result ≡ Ok plan → plan.size ≡ v.size
planned_size records v result plan again sizes is = grind (arith, of_volume)
