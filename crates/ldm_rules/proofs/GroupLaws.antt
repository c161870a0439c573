-- What rules that aren't broken say of the records, and what keeps them.
use Rattle.std.proofs.Common.{◌≡◌, ℕ, ◌+◌, ◌*◌, ◌^◌, max, min, ◌<◌, ◌==◌, not, inl, inr, Bool, true, false, List, get_or, refl, ap, sym, ◌∙◌, arith, Option, Some, None, find, ◌⊎◌, ◌≤◌, subst, Ok, count_by, bytes_eq, ◌&&◌, cond, [], ◌∷◌}
use Rattle.std.proofs.lemmas.Grind.{common_steps}
use Rattle.std.specs.Option.{option_map, option_and_then}
use Rattle.std.specs.List.{list_any, filter_map, Contains, All}
use Rattle.std.proofs.lemmas.Bool.{and_from, lt-ltb, eq-eqb, eqb-true, and_cases, and_left, and_right, not-false, false_from_ne_true, false≢true, ltb-false}
use Rattle.std.proofs.lemmas.List.Folds.{list_any_at, list_any_none}
use Rattle.std.proofs.lemmas.List.Elements.{Contains-get_or, All-tail}
use Rattle.ldm_records.specs.declared.types.Record.{Record}
use Rattle.ldm_records.specs.declared.types.Record.TheVariants as kinds
use Rattle.ldm_records.specs.declared.types.Partition.{Partition}
use Rattle.ldm_group.specs.Order.{Rising, place_of, id_of, kind_of}
use Rattle.ldm_group.proofs.Rise.{tested}
use Rattle.ldm_group.proofs.LookLaws.{none_found, find_none, one_record}
use Rattle.ldm_rules.specs.Rules.{is_other_meeting, meets_another, first_broken, group_id, group_fault, has_twin_guid, has_namesake, passes_end, fails}
use Rattle.std.specs.Prelude.{is_some, nat_le}
use Rattle.std.proofs.lemmas.Slice.Eq.{bytes_eq-Decides}
use Rattle.ldm_records.specs.declared.types.Volume.{Volume}
use Rattle.ldm_records.specs.declared.types.Component.{Component}
use Rattle.ldm_records.specs.declared.types.Disk.{Disk}
use Rattle.ldm_records.specs.declared.types.GroupRec.{GroupRec}
use Rattle.ldm_records.specs.declared.pieces.Head.{Head}
use Rattle.ldm_group.specs.Looks.{is_at, is_disk_with, is_volume_named, disk_in, HasSameDisks, by_id}
use Rattle.ldm_group.proofs.KinLaws.{kin_same, kin_count, kin_found, kin_named, once_from, once_at}
use Rattle.ldm_group.proofs.KindLaws.{named_volume}
use Rattle.ldm_label.specs.declared.Label.{Label}
use Rattle.ldm_places.specs.Layouts.{Layout}
use Rattle.ldm_layout.specs.Volumes.{layout_of}
use Rattle.ldm_places.specs.declared.shape.LayoutFault.{LayoutFault}
use Rattle.ldm_rules.specs.Ends.{data_size}
use Rattle.ldm_label.specs.Present.{sectors_by, label_with}
use Rattle.ldm_group.specs.Partitions.{meets, EndsInRange}

-- ---- In a group that rises, whose partitions don't meet, one sector of a disk is of one partition.

same_partition : {p q : Partition} → kinds.Partition p ≡ kinds.Partition q → p ≡ q
same_partition h = cc

pub map_none : {A B : Type 0} (f : A → B) (o : Option A) → option_map f o ≡ None → o ≡ None
map_none f o h = grind (arith, common_steps)

-- a rule that isn't broken holds of each record
pub not_broken : (broken : Record → Bool) (records : List Record) (r : Record) → first_broken broken records ≡ None → Contains records r → broken r ≡ false
not_broken broken records r sound at = grind (arith, none_found, map_none)

-- a rule that holds of each record isn't broken
pub none_broken : (broken : Record → Bool) (records : List Record) → ((r : Record) → Contains records r → broken r ≡ false) → first_broken broken records ≡ None
none_broken broken records keeps = ap (option_map id_of) (find_none broken records (λ k d lt. keeps (get_or records k d) (Contains-get_or records k d lt)))

pub one_spot : (records : List Record) (p q : Partition) (o r : ℕ) → Rising records → first_broken (meets_another records) records ≡ None → Contains records (kinds.Partition p) → Contains records (kinds.Partition q)
    → o < p.size → r < q.size → p.disk ≡ q.disk → p.start + o ≡ q.start + r → (p ≡ q) × (o ≡ r)
unfolding place_of
one_spot records p q o r up apart at_p at_q hp hq disk e =
    let pass : meets_another records (kinds.Partition p) ≡ false = not_broken (meets_another records) records (kinds.Partition p) apart at_p in
    elim (tested (q.head.id == p.head.id)) [
      | inl same ↦ (let ids : q.head.id ≡ p.head.id = eqb-true q.head.id p.head.id same in
          let places : place_of (kinds.Partition p) ≡ place_of (kinds.Partition q) = ap (λ n. 5 * 2 ^ 64 + n) (sym ids) in
          let one : p ≡ q = same_partition (one_record records (kinds.Partition p) (kinds.Partition q) up at_p at_q places) in
          let start : p.start ≡ q.start = ap (λ (x : Partition). x.start) one in
          (one, omega (arith, e, start)))
      | inr other ↦ (let lt : max p.start q.start < min (p.start + p.size) (q.start + q.size) = omega arith in
          let meet : is_other_meeting p (kinds.Partition q) ≡ true = and_from _ _ (ap not other) (and_from _ _ (eq-eqb p.disk q.disk disk) (lt-ltb _ _ lt)) in
          let some : list_any (is_other_meeting p) records ≡ true = list_any_at (is_other_meeting p) records at_q.0 (kinds.Partition q) at_q.1 (ap (is_other_meeting p) at_q.2 ∙ meet) in
          absurd cc)
    ]

-- ---- Which rules the group and disk records keep alone, and which a test on each other record does.

-- a test that no volume, component or partition passes
pub low : (t : Record → Bool) → ((v : Volume) → t (kinds.Volume v) ≡ false) → ((c : Component) → t (kinds.Component c) ≡ false) → ((p : Partition) → t (kinds.Partition p) ≡ false)
    → (r : Record) → t r ≡ true → kind_of r ≤ 2
low t v c p (kinds.Group g) h = omega arith
low t v c p (kinds.Disk d) h = omega arith
low t v c p (kinds.Volume x) h = absurd (cc (v x))
low t v c p (kinds.Component x) h = absurd (cc (c x))
low t v c p (kinds.Partition x) h = absurd (cc (p x))

-- a rule on volumes, components and partitions that each keeps isn't broken
pub none_by : (t : Record → Bool) (records : List Record) → ((g : GroupRec) → t (kinds.Group g) ≡ false) → ((d : Disk) → t (kinds.Disk d) ≡ false)
    → ((v : Volume) → Contains records (kinds.Volume v) → t (kinds.Volume v) ≡ false) → ((c : Component) → Contains records (kinds.Component c) → t (kinds.Component c) ≡ false)
    → ((p : Partition) → Contains records (kinds.Partition p) → t (kinds.Partition p) ≡ false) → first_broken t records ≡ None
none_by t records g d v c p = none_broken t records at
  where
    at : (r : Record) → Contains records r → t r ≡ false
    at (kinds.Group x) there = g x
    at (kinds.Disk x) there = d x
    at (kinds.Volume x) there = v x there
    at (kinds.Component x) there = c x there
    at (kinds.Partition x) there = p x there

-- the rules on layouts, where each volume has one
pub laid_none : (records : List Record) (test : LayoutFault → Bool) → ((v : Volume) → Contains records (kinds.Volume v) → (l : Layout) × (layout_of records v ≡ Ok l))
    → (t : Record → Bool) → ((g : GroupRec) → t (kinds.Group g) ≡ false) → ((d : Disk) → t (kinds.Disk d) ≡ false) → ((c : Component) → t (kinds.Component c) ≡ false) → ((p : Partition) → t (kinds.Partition p) ≡ false)
    → ((v : Volume) → t (kinds.Volume v) ≡ fails test (layout_of records v)) → first_broken t records ≡ None
laid_none records test laid t g d c p is = none_by t records g d (λ v there. is v ∙ ap (fails test) (laid v there).1) (λ x there. c x) (λ x there. p x)

-- ---- the same group and disk records

pub record SameHeads (old next : List Record) : Type 0 where
  pub up : Rising old
  pub vp : Rising next
  pub there : (r : Record) → kind_of r ≤ 2 → Contains old r → Contains next r
  pub back : (r : Record) → kind_of r ≤ 2 → Contains next r → Contains old r

-- lists with the same group and disk records have the same disks
pub same_disks : (old next : List Record) → SameHeads old next → HasSameDisks old next
same_disks old next heads = kin_same (λ r. kind_of r == 2) old next heads.up heads.vp (λ r is. heads.there r (of_two r is)) (λ r is. heads.back r (of_two r is))
  where
    of_two : (r : Record) → (kind_of r == 2) ≡ true → kind_of r ≤ 2
    of_two r is = let e : kind_of r ≡ 2 = eqb-true (kind_of r) 2 is in omega arith

module _ (old next : List Record) (heads : SameHeads old next) where
  pub head_found : (t : Record → Bool) → ((r : Record) → t r ≡ true → kind_of r ≤ 2) → find t old ≡ find t next
  head_found t is = kin_found old next heads.up heads.vp t (λ r h. heads.there r (is r h)) (λ r h. heads.back r (is r h))

  pub head_count : (t : Record → Bool) → ((r : Record) → t r ≡ true → kind_of r ≤ 2) → count_by t old ≡ count_by t next
  head_count t is = kin_count old next heads.up heads.vp t (λ r h. heads.there r (is r h)) (λ r h. heads.back r (is r h))

  pub data_same : (labels : List Label) (disk : ℕ) → data_size labels old disk ≡ data_size labels next disk
  data_same labels disk = ap (λ (o : Option Record). sectors_by (option_and_then (λ d. label_with d.guid labels) (disk_in o))) (head_found (is_at 2 disk) (low (is_at 2 disk) (λ v. refl) (λ c. refl) (λ p. refl)))

  pub ends_kept : (labels : List Label) → first_broken (passes_end (data_size labels old)) next ≡ None → first_broken (passes_end (data_size labels next)) next ≡ None
  ends_kept labels h = subst (λ (sectors : ℕ → ℕ). first_broken (passes_end sectors) next ≡ None) (λ i disk. data_same labels disk i) h

  pub group_kept : group_fault (filter_map group_id old) ≡ None → group_fault (filter_map group_id next) ≡ None
  group_kept h =
      let is : (r : Record) → is_some (group_id r) ≡ true → kind_of r ≤ 2 = low (λ r. is_some (group_id r)) (λ v. refl) (λ c. refl) (λ p. refl) in
      ap group_fault (sym (kin_named group_id old next heads.up heads.vp (λ r e. heads.there r (is r e)) (λ r e. heads.back r (is r e)))) ∙ h

  pub guids_kept : first_broken (has_twin_guid (λ guid. count_by (is_disk_with guid) old)) old ≡ None → first_broken (has_twin_guid (λ guid. count_by (is_disk_with guid) next)) next ≡ None
  guids_kept h =
      let counts : (guid : ℕ) → count_by (is_disk_with guid) old ≡ count_by (is_disk_with guid) next = λ guid. head_count (is_disk_with guid) (low (is_disk_with guid) (λ v. refl) (λ c. refl) (λ p. refl)) in
      let t : Record → Bool = has_twin_guid (λ guid. count_by (is_disk_with guid) old) in
      let same : first_broken t next ≡ None = ap (λ (o : Option Record). option_map id_of o) (sym (head_found t (low t (λ v. refl) (λ c. refl) (λ p. refl)))) ∙ h in
      subst (λ (count : ℕ → ℕ). first_broken (has_twin_guid count) next ≡ None) (λ i guid. counts guid i) same

-- ---- names

-- each volume has the id and name of one that was there, or those that are new, whose name no other had
pub record AreNamed (old next : List Record) (new : Option Head) : Type 0 where
  pub from : (v : Volume) → Contains next (kinds.Volume v) → ((w : Volume) × Contains old (kinds.Volume w) × (w.head ≡ v.head)) ⊎ (new ≡ Some v.head)
  pub free : (head : Head) → new ≡ Some head → (w : Volume) → Contains old (kinds.Volume w) → bytes_eq w.head.name head.name ≡ false

same_bytes : (a b : List ℕ) → bytes_eq a b ≡ true → a ≡ b
same_bytes a b h = (bytes_eq-Decides a b).0 h

bytes_same : (a b : List ℕ) → a ≡ b → bytes_eq a b ≡ true
bytes_same a b h = (bytes_eq-Decides a b).1 h

pub names_next : (old next : List Record) (new : Option Head) → Rising next → AreNamed old next new
    → first_broken (has_namesake (λ name. count_by (is_volume_named name) old)) old ≡ None → first_broken (has_namesake (λ name. count_by (is_volume_named name) next)) next ≡ None
unfolding place_of
names_next old next new vp are h = none_by (has_namesake (λ name. count_by (is_volume_named name) next)) next (λ g. refl) (λ d. refl) at (λ c there. refl) (λ p there. refl)
  where
    From : Volume → Type 0
    From v = ((w : Volume) × Contains old (kinds.Volume w) × (w.head ≡ v.head)) ⊎ (new ≡ Some v.head)

    placed : (v w : Volume) → v.head ≡ w.head → place_of (kinds.Volume v) ≡ place_of (kinds.Volume w)
    placed v w e = ap (λ (x : Head). 3 * 2 ^ 64 + x.id) e

    -- an old name isn't the new one
    apart : (v w x : Volume) → Contains old (kinds.Volume w) → w.head ≡ v.head → new ≡ Some x.head → v.head.name ≡ x.head.name → ⊥
    apart v w x there head is same =
        let fails = are.free x.head is w there in
        let holds = bytes_same w.head.name x.head.name (ap (λ (k : Head). k.name) head ∙ same) in
        absurd cc

    -- two of one name stand at one place
    one : (v w : Volume) → From v → From w → v.head.name ≡ w.head.name → place_of (kinds.Volume v) ≡ place_of (kinds.Volume w)
    one v w (inl a) (inl b) same =
        let name : b.0.head.name ≡ a.0.head.name = ap (λ (k : Head). k.name) b.2 ∙ sym same ∙ ap (λ (k : Head). k.name) (sym a.2) in
        let few = not_broken (has_namesake (λ name. count_by (is_volume_named name) old)) old (kinds.Volume a.0) h a.1 in
        placed v a.0 (sym a.2)
        ∙ once_at (is_volume_named a.0.head.name) old (kinds.Volume a.0) (kinds.Volume b.0) few a.1 b.1 (bytes_same a.0.head.name a.0.head.name refl) (bytes_same b.0.head.name a.0.head.name name)
        ∙ placed b.0 w b.2
    one v w (inl a) (inr b) same = absurd (apart v a.0 w a.1 a.2 b same)
    one v w (inr a) (inl b) same = absurd (apart w b.0 v b.1 b.2 a (sym same))
    one v w (inr a) (inr b) same = placed v w (let both : Some v.head ≡ Some w.head = sym a ∙ b in cc)

    at : (v : Volume) → Contains next (kinds.Volume v) → nat_le 2 (count_by (is_volume_named v.head.name) next) ≡ false
    at v there = once_from (is_volume_named v.head.name) next (kinds.Volume v) vp (λ r s at_r at_s holds_r holds_s.
        let a = named_volume v.head.name r holds_r in
        let b = named_volume v.head.name s holds_s in
        let name_a = same_bytes a.0.head.name v.head.name (ap (is_volume_named v.head.name) (sym a.1) ∙ holds_r) in
        let name_b = same_bytes b.0.head.name v.head.name (ap (is_volume_named v.head.name) (sym b.1) ∙ holds_s) in
        ap place_of a.1
        ∙ one a.0 b.0 (are.from a.0 (subst (λ (x : Record). Contains next x) a.1 at_r)) (are.from b.0 (subst (λ (x : Record). Contains next x) b.1 at_s)) (name_a ∙ sym name_b)
        ∙ sym (ap place_of b.1))

-- where none is new
pub names_kept : (old next : List Record) → Rising next → ((v : Volume) → Contains next (kinds.Volume v) → (w : Volume) × Contains old (kinds.Volume w) × (w.head ≡ v.head))
    → first_broken (has_namesake (λ name. count_by (is_volume_named name) old)) old ≡ None → first_broken (has_namesake (λ name. count_by (is_volume_named name) next)) next ≡ None
names_kept old next vp back h = names_next old next None vp (record { from = λ v there. inl (back v there); free = λ head e w at. absurd cc }) h

-- ---- Partitions of which no two meet, two by two.

-- two partitions of one id, or without a sector in common
abbrev pub NoneMeet : List Record → Type 0
NoneMeet records = (p q : Partition) → Contains records (kinds.Partition p) → Contains records (kinds.Partition q) → (q.head.id ≡ p.head.id) ⊎ (meets p q ≡ false)

pub none_meet : (records : List Record) → first_broken (meets_another records) records ≡ None → NoneMeet records
none_meet records sound p q at_p at_q =
    let pass : list_any (is_other_meeting p) records ≡ false = not_broken (meets_another records) records (kinds.Partition p) sound at_p in
    let one : (not (q.head.id == p.head.id) && meets p q) ≡ false = false_from_ne_true _
    (λ met. false≢true (sym pass ∙ list_any_at (is_other_meeting p) records at_q.0 (kinds.Partition q) at_q.1 (ap (is_other_meeting p) at_q.2 ∙ met))) in
    elim (and_cases (not (q.head.id == p.head.id)) (meets p q) one) [
      | inl same ↦ inl (eqb-true q.head.id p.head.id (not-false (q.head.id == p.head.id) same))
      | inr apart ↦ inr apart
    ]

pub meet_none : (records : List Record) → NoneMeet records → first_broken (meets_another records) records ≡ None
meet_none records apart = none_by (meets_another records) records (λ g. refl) (λ d. refl) (λ v there. refl) (λ c there. refl) one
  where
    other : (p : Partition) → Contains records (kinds.Partition p) → (r : Record) → Contains records r → is_other_meeting p r ≡ false
    other p at (kinds.Partition q) there = elim (apart p q at there) [
      | inl same ↦ and_left (not (q.head.id == p.head.id)) (meets p q) (ap not (eq-eqb q.head.id p.head.id same))
      | inr none ↦ and_right (not (q.head.id == p.head.id)) (meets p q) none
    ]
    other p at r there = refl

    one : (p : Partition) → Contains records (kinds.Partition p) → meets_another records (kinds.Partition p) ≡ false
    one p at = list_any_none (is_other_meeting p) records (λ k d lt. other p at (get_or records k d) (Contains-get_or records k d lt))

-- ---- Where no partition passes the end of its disk, and each disk's end is a number of the format, so is each partition's.

record_ends : (sectors : ℕ → ℕ) (r : Record) → ((disk : ℕ) → sectors disk < 2 ^ 64) → passes_end sectors r ≡ false → EndsInRange r
record_ends sectors (kinds.Partition p) low h =
    let most : sectors p.disk < 2 ^ 64 = low p.disk in
    let ends : p.start + p.size ≤ sectors p.disk = ltb-false (sectors p.disk) (p.start + p.size) h in
    omega (arith, most, ends)
record_ends sectors r low h = tt

pub all_end : (sectors : ℕ → ℕ) (records : List Record) → ((disk : ℕ) → sectors disk < 2 ^ 64) → first_broken (passes_end sectors) records ≡ None → All EndsInRange records
all_end sectors records low sound k d h =
    record_ends sectors (get_or records k d) low (not_broken (passes_end sectors) records (get_or records k d) sound (Contains-get_or records k d h))

-- the ends that labels say
label_low : (guid : ℕ) (labels : List Label) → All (λ l. l.data_size < 2 ^ 64) labels → sectors_by (label_with guid labels) < 2 ^ 64
label_low guid [] low = omega arith
label_low guid (l ∷ ls) low = elim (l.disk_guid == guid) as (λ b. sectors_by (cond b (Some l) (label_with guid ls)) < 2 ^ 64) [
  | true ↦ low 0 l (omega arith)
  | false ↦ label_low guid ls (All-tail (λ (k : Label). k.data_size < 2 ^ 64) l ls low)
]

disk_low : (labels : List Label) (disk : Option Disk) → All (λ l. l.data_size < 2 ^ 64) labels → sectors_by (option_and_then (λ (d : Disk). label_with d.guid labels) disk) < 2 ^ 64
disk_low labels disk low = grind (arith, common_steps, label_low)

pub data_low : (labels : List Label) (records : List Record) → All (λ l. l.data_size < 2 ^ 64) labels → (disk : ℕ) → data_size labels records disk < 2 ^ 64
data_low labels records low disk = disk_low labels (disk_in (by_id 2 disk records)) low
