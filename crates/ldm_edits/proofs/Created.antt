-- A new volume whose records have ids one after the other: the order and rules of the next group.
use Rattle.std.proofs.Common.{◌≡◌, ◌≢◌, ◌∙◌, inl, inr, ap, sym, refl, ℕ, suc, ◌+◌, ◌*◌, ◌≤◌, ◌<◌, ◌^◌, ◌==◌, [], ◌∷◌, ◌++◌, length, map, arith, Some, None, List, Option, Bool, false, Ok, filter, eq-eqb, ne_eqb, length-append, append-nil}
use Rattle.ldm_edits.proofs.Common.{Volume, Component, Partition, Record, Rising, id_of, in_order, is_child, is_volume_named, max_id, Label, Extent, Layout, extent_of, extents_of, plex_of, plexes_of, layout_of, data_size, Taken, taken_of, taken_in, AreDisjoint, AllEndWithin, there}
use Rattle.std.specs.List.{All, cons_option, Contains}
use Rattle.std.proofs.lemmas.List.{length-map, map-append}
use Rattle.std.proofs.lemmas.List.Elements.{All-contains, All-tail}
use Rattle.std.proofs.lemmas.List.Sums.{length-filter}
use Rattle.ldm_records.specs.declared.pieces.Striping.{Striping}
use Rattle.ldm_records.specs.declared.types.Record.TheVariants as kinds
use Rattle.ldm_made.specs.Made.{IsStriping, new_component, new_volume}
use Rattle.ldm_made.proofs.MadeLaws.{makes_partition, makes_volume, MakesComponent, makes_component}
use Rattle.ldm_group.proofs.InOrder.{member_next, stays_next, made_next, max_above}
use Rattle.ldm_group.proofs.KinLaws.{kin_are}
use Rattle.ldm_layout.specs.Volumes.{is_basic}
use Rattle.ldm_layout.proofs.VolumeLaws.{extents_by}
use Rattle.ldm_rules.proofs.CarryLaws.{KeepsVolume, Carries, component_kept, partition_kept}
use Rattle.ldm_rules.proofs.GroupLaws.{names_next}
use Rattle.ldm_rules.proofs.SoundLaws.{EachRule}
use Rattle.ldm_made.specs.Volumes.{mirror_parts, mirror_made}
use Rattle.ldm_edits.proofs.AskedLaws.{AllSized, IsTaken}
use Rattle.ldm_edits.proofs.Layouts.{IsCopy, mirror_layout, AreExtentsOf, tiles_of, parts_taken, AreNumbers, IsNumbered, MakesParts, one_more, no_parts, parts_own}
use Rattle.ldm_group.proofs.AddedLaws.{IdsFollow, follow_above, of_partition, follow_join, added_rises}
use Rattle.ldm_group.proofs.ListLaws.{map_there, each_more, flat_there, moved, behind}
use Rattle.ldm_rules.proofs.RemadeLaws.{records_of, Share, parts_of, IsOther, IsRemade, read_plexes, read_extents, volume_keeps, remade_carries, block, blocks, blocks_rise, block_rises, listed, lists}
use Rattle.ldm_edits.proofs.Shares.{remade_each}

-- ---- the records of a new volume

-- a new component of a volume, and its partitions
pub record IsNewShare (volume : ℕ) (s : Share) : Type 0 where
  pub same : s.c ≡ s.d
  pub parent : s.c.parent ≡ volume
  pub children : s.d.children ≡ length s.parts
  pub own : (p : Partition) → Contains s.parts p → p.parent ≡ s.c.head.id

-- components of a volume whose partitions take these sectors, with ids from this on
pub record AreBlocks (volume id : ℕ) (ss : List Share) (taken : List Taken) : Type 0 where
  pub follow : IdsFollow id (blocks ss)
  pub each : (s : Share) → Contains ss s → IsNewShare volume s
  pub taken_are : map taken_of (parts_of ss) ≡ taken
  pub many : length (blocks ss) ≡ length ss + length taken

-- a new volume of this name with its components. Where a layout reads just these it has no fault
pub record MakesNew (id : ℕ) (name : List ℕ) (made : List Record) (taken : List Taken) : Type 0 where
  pub volume : Volume
  pub ss : List Share
  pub first : volume.head.id ≡ id
  pub named : volume.head.name ≡ name
  pub count : volume.children ≡ length ss
  pub some : (volume.size == 0) ≡ false
  pub made_are : made ≡ kinds.Volume volume ∷ blocks ss
  pub few : id + length made ≤ 2 ^ 64
  pub are : AreBlocks id (id + 1) ss taken
  pub laid : (next : List Record) → plexes_of volume.head.id next ≡ map (λ (s : Share). plex_of s.d) ss
      → ((s : Share) → Contains ss s → extents_of s.d.head.id next ≡ map extent_of s.parts) → (l : Layout) × (layout_of next volume ≡ Ok l)

-- ---- the next group

pub created_rises : (old made : List Record) {name : List ℕ} {ts : List Taken} → Rising old → MakesNew (max_id old + 1) name made ts → Rising (in_order (old ++ made))
created_rises old made up new = added_rises old made (max_id old + 1) up
    (rw new.made_are (new.first, new.are.follow)) (omega arith) new.few

module _ {old made : List Record} {labels : List Label} {name : List ℕ} {ts : List Taken}
    (up : Rising old) (each : EachRule old labels) (new : MakesNew (max_id old + 1) name made ts)
    (on : All (IsTaken old) ts) where
  abbrev next : List Record
  next = in_order (old ++ made)

  -- nobody has the new id, or names it
  others : (r : Record) → Contains old r → IsOther (max_id old + 1) r
  others (kinds.Volume x) at =
      ne_eqb x.head.id (max_id old + 1) (λ e. omega (arith, max_above old (kinds.Volume x) at))
  others (kinds.Component x) at =
      let v = (component_kept old labels each x at).parent in
      ne_eqb x.parent (max_id old + 1) (λ e. omega (arith, max_above old (kinds.Volume v.0) v.1))
  others _ at = tt

  above : (s : Share) → Contains new.ss s → (r : Record) → Contains (block s) r
      → max_id old < id_of r
  above s at r in' = omega (
    arith,
    follow_above (max_id old + 1 + 1) (blocks new.ss) r new.are.follow
        (flat_there block new.ss s r at in'),
  )

  c_above : (s : Share) → Contains new.ss s → max_id old < s.c.head.id
  c_above s at =
      let same = ap (λ (c : Component). c.head.id) (new.are.each s at).same in
      omega (arith, above s at (kinds.Component s.d) (0, omega arith, refl))

  none_before : (s : Share) → Contains new.ss s → filter (is_child 4 s.c.head.id) old ≡ []
  none_before s at = kin_are (is_child 4 s.c.head.id) old [] up
      (λ i j d lt within. absurd (omega arith)) (λ r h. absurd (let lt = h.1 in omega arith))
      (of_partition s.c.head.id (λ (y : Record). Contains old y → Contains [] y) (λ p parent there. absurd (
      let c = (partition_kept old labels each p there).parent in
      omega (arith, max_above old (kinds.Component c.0) c.1, c_above s at))))

  takes : (s : Share) (p : Partition) → Contains new.ss s → Contains s.parts p → IsTaken old (taken_of p)
  takes s p at in' = All-contains (IsTaken old) ts (taken_of p) on (moved new.are.taken_are _
      (map_there taken_of _ p (flat_there (λ (t : Share). t.parts) new.ss s p at in')))

  remade : IsRemade old next (max_id old + 1) new.volume new.ss
  remade = record {
    up = up;
    vp = created_rises old made up new;
    back = λ r at. elim (member_next old made r at) [
      | inl was ↦ inl (was, others r was)
      | inr m ↦ inr (listed new.volume new.ss r (moved new.made_are r m))
    ];
    there = λ r at other. stays_next old made r at;
    made = λ r m. made_next old made r (moved (sym new.made_are) r (lists new.volume new.ss r m));
    id = new.first;
    each = λ s at. (let is = new.are.each s at in record {
      parent = is.parent;
      same_plex = ap plex_of (sym is.same);
      each = λ p in'. record {
        above = above s at (kinds.Partition p)
            (behind (kinds.Component s.d) (records_of s.parts) (kinds.Partition p)
            (map_there kinds.Partition s.parts p in'));
        parent = is.own p in';
        disk = (takes s p at in').disk;
        some = (takes s p at in').some;
      };
      rise = block_rises (max_id old + 1 + 1) new.ss new.are.follow s at;
      counted = omega (
        arith,
        length-filter (is_child 4 s.c.head.id) old,
        ap (λ (l : List Record). length l) (none_before s at),
      );
    });
    rise = blocks_rise (max_id old + 1 + 1) new.ss new.are.follow;
    own = λ x there parent. absurd (let other = others (kinds.Component x) there in
        let own = eq-eqb x.parent (max_id old + 1) parent in cc);
    apart = λ x there other s at. ne_eqb x.head.id s.c.head.id
        (λ e. omega (arith, max_above old (kinds.Component x) there, c_above s at));
  }

  keeps : KeepsVolume next new.volume
  keeps = volume_keeps remade new.count new.some (new.laid next (read_plexes remade) (λ s at.
      rw (← (new.are.each s at).same, read_extents remade s at, extents_by s.c.head.id old, none_before s at)))

  pub created_carries : Carries old next
  created_carries = remade_carries remade keeps

  -- the new volume has a name that no old one has
  pub created_each : ((r : Record) → Contains old r → is_volume_named name r ≡ false)
      → AreDisjoint (taken_in old) ts → AllEndWithin (data_size labels old) ts → EachRule next labels
  created_each free apart within =
      remade_each remade keeps labels each (rw new.are.taken_are within) (rw new.are.taken_are apart)
      (names_next old next (Some new.volume.head) remade.vp (record {
        from = λ v at. elim (remade.back (kinds.Volume v) at) [ inl was ↦ inl (v, was.0, refl) | inr m ↦ inr (ap (λ (x : Volume). Some x.head) (sym m)) ];
        free = λ head is w at. (let same : head ≡ new.volume.head = cc in rw (same, new.named) (free (kinds.Volume w) at));
      }) each.names)

-- ---- what is made

no_blocks : (volume id : ℕ) → AreBlocks volume id [] []
no_blocks volume id = record { follow = tt; each = λ s at. absurd (let lt = at.1 in omega arith); taken_are = refl; many = refl }

-- one component more in front, with its partitions
module _ {volume id layout first : ℕ} {striping : Option Striping} {made : List (Option Record)} {es : List Extent}
    {ts : List Taken} (c : MakesComponent id volume layout (length ts) striping) (p : MakesParts first made es)
    (are : AreExtentsOf id es ts) where
  abbrev share : Share
  share = record { c = c.component; d = c.component; parts = p.parts }

  one_block : {after : ℕ} {more : List Taken} {ss : List Share} → first ≡ id + 1 → after ≡ first + length ts
      → AreBlocks volume after ss more → AreBlocks volume id (share ∷ ss) (ts ++ more)
  one_block {after} {more} {ss} first_is after_is rest =
      let takes = parts_taken id es ts p.parts are p.extents_are in
      let long = sym (length-map p.parts taken_of) ∙ ap (λ (l : List Taken). length l) takes in
      let many = length-map p.parts kinds.Partition in
      record {
        follow = (
          c.id_is,
          follow_join (id + 1) after (records_of p.parts) (blocks ss) (omega arith) (rw first_is at p.ids) rest.follow,
        );
        each = each_more (IsNewShare volume) share ss (record {
          same = refl;
          parent = c.parent_is;
          children = c.children_is ∙ sym long;
          own = λ q at. parts_own id es ts p.parts are p.extents_are q at ∙ sym c.id_is;
        }) rest.each;
        taken_are = map-append taken_of p.parts (parts_of ss) ∙ (λ i. takes i ++ rest.taken_are i);
        many = omega (arith, length-append (records_of p.parts) (blocks ss), length-append ts more);
      }

-- a new component, as a layout reads it
plex_is : {id parent layout children : ℕ} {striping : Option Striping} (made : MakesComponent id parent layout children striping)
    → plex_of made.component ≡ record { volume = parent; id = id; layout = layout; striping = striping }
plex_is made = λ i. record { volume = made.parent_is i; id = made.id_is i; layout = made.layout_is i; striping = made.striping_is i }

-- a volume of one component
pub single_new : (id : ℕ) (name : List ℕ) (guid : ℕ) (raid : Bool) (size layout : ℕ) (striping : Option Striping) (parts : List (Option Record)) (es : List Extent) (ts : List Taken)
    → id + 2 + length ts ≤ 2 ^ 64 → length name ≤ 255 → size < 2 ^ 64 → size ≢ 0 → IsStriping striping → MakesParts (id + 2) parts es → AreExtentsOf (id + 1) es ts
    → ((next : List Record) (v : Volume) → v.size ≡ size → plexes_of v.head.id next ≡ record { volume = v.head.id; id = id + 1; layout = layout; striping = striping } ∷ [] → extents_of (id + 1) next ≡ es
    → (l : Layout) × (layout_of next v ≡ Ok l))
    → MakesNew id name (there (new_volume id name guid raid 1 size ∷ (new_component (id + 1) id layout (length ts) striping ∷ parts))) ts
single_new id name guid raid size layout striping parts es ts few short low some fits has extents lay =
    let mv = makes_volume id name guid raid 1 size (omega arith) short (omega arith) low in
    let mc = makes_component (id + 1) id layout (length ts) striping (omega arith) (omega arith) (omega arith) fits in
    let s : Share = share mc has extents in
    let are : AreBlocks id (id + 1) (s ∷ []) (ts ++ []) =
    one_block mc has extents (omega arith) refl (no_blocks id (id + 2 + length ts)) in
    let made_are = (λ i. cons_option (mv.made i) (cons_option (mc.made i) (has.made_are i)))
    ∙ ap (λ (l : List Record). kinds.Volume mv.volume ∷ kinds.Component mc.component ∷ l)
    (sym (append-nil (records_of has.parts))) in
    record {
      volume = mv.volume;
      ss = s ∷ [];
      first = mv.id_is;
      named = mv.name_is;
      count = mv.children_is;
      some = ne_eqb mv.volume.size 0 (λ e. some (sym mv.size_is ∙ e));
      made_are = made_are;
      few = omega (arith, ap (λ (l : List Record). length l) made_are, length-append ts []);
      are = rw append-nil at are;
      laid = λ next plexes read. lay next mv.volume mv.size_is (rw (plexes, plex_is mc, mv.id_is))
          (rw (← mc.id_is) (read s (0, omega arith, refl) ∙ has.extents_are));
    }

-- the components of a mirror, each followed by its partition
record MakesCopies (volume id len : ℕ) (ts : List Taken) : Type 0 where
  pub ss : List Share
  pub made_are : there (mirror_parts id volume ts) ≡ blocks ss
  pub are : AreBlocks volume id ss ts
  pub each : (s : Share) → Contains ss s → IsCopy len s
  pub many : length ss ≡ length ts

makes_copies : (volume id len : ℕ) (ts : List Taken) → volume < 2 ^ 64 → id + 2 * length ts ≤ 2 ^ 64
    → AreNumbers ts → AllSized len ts → MakesCopies volume id len ts
makes_copies volume id len [] low few fits same =
    let none = no_blocks volume id in
    record { ss = []; made_are = refl; many = refl; are = none; each = λ s at. absurd (let lt = at.1 in omega arith) }
makes_copies volume id len (t ∷ ts) low few fits same =
    let here = fits 0 t (omega arith) in
    let c = makes_component id volume 2 1 None (omega arith) low (omega arith) tt in
    let one = makes_partition (id + 1) t.start 0 t.size id t.disk None (omega arith) here.1 (omega arith) here.0 (omega arith) in
    let p = one_more one (no_parts _) in
    let rest = makes_copies volume (id + 2) len ts low (omega arith) (All-tail IsNumbered t ts fits)
    (All-tail (λ (u : Taken). u.size ≡ len) t ts same) in
    record {
      ss = share c p (tiles_of id 0 (t ∷ [])) ∷ rest.ss;
      made_are = λ i. cons_option (c.made i) (cons_option (one.made i) (rest.made_are i));
      are = one_block c p (tiles_of id 0 (t ∷ [])) refl (omega arith) rest.are;
      each = each_more (IsCopy len) (share c p (tiles_of id 0 (t ∷ []))) rest.ss (record {
        basic = ap is_basic (plex_is c);
        sorted = refl;
        tiled = rw one.offset_is;
        holds = omega (arith, one.size_is, same 0 t (omega arith));
      }) rest.each;
      many = ap suc rest.many;
    }

pub mirror_new : (id : ℕ) (name : List ℕ) (guid len : ℕ) (ts : List Taken) → id + 1 + 2 * length ts ≤ 2 ^ 64 → length name ≤ 255
    → 2 ≤ length ts → AllSized len ts → len < 2 ^ 64 → len ≢ 0 → AreNumbers ts → MakesNew id name (mirror_made id name guid len ts) ts
mirror_new id name guid len ts few short enough same low some numbers =
    let mv = makes_volume id name guid false (length ts) len (omega arith) short (omega arith) low in
    let has = makes_copies id (id + 1) len ts (omega arith) (omega arith) numbers same in
    let made_are : mirror_made id name guid len ts ≡ kinds.Volume mv.volume ∷ blocks has.ss = λ i. cons_option (mv.made i) (has.made_are i) in
    record {
      volume = mv.volume;
      ss = has.ss;
      first = mv.id_is;
      named = mv.name_is;
      count = mv.children_is ∙ sym has.many;
      some = ne_eqb mv.volume.size 0 (λ e. some (sym mv.size_is ∙ e));
      made_are = made_are;
      few = omega (arith, ap (λ (l : List Record). length l) made_are, has);
      are = has.are;
      laid = λ next plexes read. mirror_layout next mv.volume len has.ss plexes read has.each (omega arith) mv.size_is;
    }
