-- Records that are added to a group: their ids and their order, the greatest id, and names that are found or not.
use Rattle.std.proofs.Common.{◌≡◌, ℕ, ◌<◌, ◌||◌, [], ◌∷◌, sym, ap, subst, arith, Bool, true, false, suc, ◌+◌, ◌≤◌, List, length, map, zero, ◌*◌, ◌^◌, get_or, ◌-◌, ◌≢◌, ◌∙◌, ◌++◌, ◌==◌, refl, cond, max, fold, Some, find, append_assoc, Option, None}
use Rattle.std.proofs.lemmas.Bool.{eq-eqb}
use Rattle.ldm_records.specs.declared.types.Record.{Record}
use Rattle.ldm_records.specs.declared.types.Record.TheVariants as kinds
use Rattle.ldm_records.specs.declared.types.Component.{Component}
use Rattle.ldm_records.specs.declared.types.Partition.{Partition}
use Rattle.ldm_group.specs.Order.{Rising, place_of, id_of, kind_of, in_order, count_at}
use Rattle.ldm_group.specs.Looks.{is_child, max_id, is_volume_named, volume_in, volume_named, disk_named, is_disk_named, disk_in}
use Rattle.ldm_group.proofs.KindLaws.{child_component, child_partition, named_volume}
use Rattle.std.specs.List.{Contains, AllPairs, All, list_any}
use Rattle.std.proofs.lemmas.List.{length-map}
use Rattle.ldm_group.proofs.InOrder.{in_order_rises, pairs_append, max_above, in_order_same, one_next, one_place}
use Rattle.std.specs.Prelude.{is_some}
use Rattle.std.specs.List.Sorted.{IsPermutation}
use Rattle.std.proofs.lemmas.List.Elements.{All-head, All-tail, Contains-get_or}
use Rattle.std.proofs.lemmas.List.Sorted.{All-permutation, IsPermutation-append_left, IsPermutation-sym, IsPermutation-trans, sum_by-IsPermutation}
use Rattle.ldm_group.proofs.OrderLaws.{count_kept}
use Rattle.ldm_group.proofs.Rise.{counted_two}
use Rattle.ldm_records.specs.declared.types.Volume.{Volume}
use Rattle.ldm_group.proofs.LookLaws.{none_found}
use Rattle.ldm_bytes.proofs.FindLaws.{find_there}
use Rattle.ldm_records.specs.declared.types.Disk.{Disk}
use Rattle.ldm_vmdb.specs.Parts.{parts_of}
use Rattle.ldm_group.specs.Database.{Database, IsDatabaseOf}
use Rattle.ldm_group.specs.Room.{own_len, need_of}
use Rattle.ldm_vmdb.specs.declared.header.Header.{Header}

-- ---- records in their order, and who is of whom

pub alone_rises : (r : Record) → Rising (r ∷ [])
alone_rises r i j d lt within = absurd (omega arith)

abbrev pub Below : Record → Record → Type 0
Below a b = place_of a < place_of b

pub of_component : (q : ℕ) (P : Record → Type 0)
    → ((c : Component) → c.parent ≡ q → P (kinds.Component c)) → (r : Record)
    → is_child 3 q r ≡ true → P r
of_component q P each r h = let c = child_component q r h in subst P (sym c.1) (each c.0 c.2)

pub of_partition : (q : ℕ) (P : Record → Type 0)
    → ((p : Partition) → p.parent ≡ q → P (kinds.Partition p)) → (r : Record)
    → is_child 4 q r ≡ true → P r
of_partition q P each r h = let p = child_partition q r h in subst P (sym p.1) (each p.0 p.2)

pub part_of : (q : ℕ) (p : Partition) → p.parent ≡ q → is_child 4 q (kinds.Partition p) ≡ true
part_of q p parent = ap (λ (b : Bool). b || false) (eq-eqb p.parent q parent)

-- ---- ids that follow one another

-- the ids of the records follow one another from this one on
abbrev pub IdsFollow : ℕ → List Record → Type 0
IdsFollow id [] = Unit {0}
IdsFollow id (r ∷ rs) = (id_of r ≡ id) × IdsFollow (id + 1) rs

abbrev pub IdsFrom : ℕ → List Partition → Type 0
IdsFrom id parts = IdsFollow id (map (λ p. kinds.Partition p) parts)

-- what is known of ids that follow one another
pub follow_at : (id : ℕ) (rs : List Record) (k : ℕ) (d : Record) → IdsFollow id rs → k < length rs → id_of (get_or rs k d) ≡ id + k
follow_at id [] k d h lt = absurd (omega arith)
follow_at id (r ∷ rs) zero d h lt = let here = h.0 in omega arith
follow_at id (r ∷ rs) (suc k) d h lt = let rest = follow_at (id + 1) rs k d h.1 (omega arith) in omega arith

pub follow_above : (id : ℕ) (rs : List Record) (r : Record) → IdsFollow id rs → Contains rs r
    → id ≤ id_of r
follow_above id rs r h (k, lt, is) = let at = follow_at id rs k r h lt in let same = ap id_of is in
    omega arith

pub place_at : (id : ℕ) (ps : List Partition) (k : ℕ) (r : Record) → IdsFrom id ps → k < length ps → place_of (get_or (map (λ p. kinds.Partition p) ps) k r) ≡ 5 * 2 ^ 64 + (id + k)
unfolding place_of
place_at id [] k r ids lt = absurd (omega arith)
place_at id (p ∷ ps) zero r ids lt = let here = ids.0 in omega arith
place_at id (p ∷ ps) (suc k) r ids lt = let rest = place_at (id + 1) ps k r ids.1 (omega arith) in omega arith

pub parts_rise : (id : ℕ) (ps : List Partition) → IdsFrom id ps → Rising (map (λ p. kinds.Partition p) ps)
parts_rise id ps ids i j d low within =
    let long = length-map ps (λ (p : Partition). kinds.Partition p) in
    let a = place_at id ps i d ids (omega arith) in
    let b = place_at id ps j d ids (omega arith) in
    omega arith

pub follow_join : (id n : ℕ) (xs ys : List Record) → n ≡ id + length xs → IdsFollow id xs
    → IdsFollow n ys → IdsFollow id (xs ++ ys)
follow_join id n [] ys is h rest = subst (λ (m : ℕ). IdsFollow m ys)
    (let e : n ≡ id = omega arith in e) rest
follow_join id n (x ∷ xs) ys is h rest = (h.0, follow_join (id + 1) n xs ys (omega arith) h.1 rest)

pub follow_split : (id : ℕ) (xs ys : List Record) → IdsFollow id (xs ++ ys) → IdsFollow id xs
    × ((n : ℕ) × (id ≤ n) × IdsFollow n ys)
follow_split id [] ys h = (tt, (id, omega arith, h))
follow_split id (x ∷ xs) ys h = let rest = follow_split (id + 1) xs ys h.1 in
    ((h.0, rest.0), (rest.1.0, (let low = rest.1.1 in omega arith), rest.1.2))

-- two ids of the format give two places
pub place_apart : (r s : Record) → id_of r < 2 ^ 64 → id_of s < 2 ^ 64 → id_of r ≢ id_of s → place_of r ≢ place_of s
unfolding place_of
place_apart r s low_r low_s off e = (let places : kind_of r * 2 ^ 64 + id_of r ≡ kind_of
    s * 2 ^ 64 + id_of s = e in omega arith)

-- those that are made differ in their places, and from all that was there
pub added_rises : (old made : List Record) (id : ℕ) → Rising old → IdsFollow id made → max_id old < id → id + length made ≤ 2 ^ 64 → Rising (in_order (old ++ made))
added_rises old made id up h new few = in_order_rises (old ++ made)
    (pairs_append (λ (a b : Record). place_of a ≢ place_of b) old made old_apart made_apart cross)
  where
    old_apart : AllPairs (λ a b. place_of a ≢ place_of b) old
    old_apart i j d low within = λ e. (let below : place_of (get_or old i d) < place_of (get_or old j d) = up i j d low within in omega arith)

    made_apart : AllPairs (λ a b. place_of a ≢ place_of b) made
    made_apart i j d low within =
        let a = follow_at id made i d h (omega arith) in
        let b = follow_at id made j d h within in
        place_apart (get_or made i d) (get_or made j d) (omega arith) (omega arith) (λ e. omega arith)

    cross : (r s : Record) → Contains old r → Contains made s → place_of r ≢ place_of s
    cross r s at_r (k, lt, is) =
        let a : id_of r ≤ max_id old = max_above old r at_r in
        let b : id_of s ≡ id + k = sym (ap id_of is) ∙ follow_at id made k s h lt in
        place_apart r s (omega arith) (omega arith) (λ e. omega arith)

-- ---- the greatest id, names and one order

-- it is the same in any order
pub max_low : (bound : ℕ) (xs : List Record) (top : ℕ) → top ≤ bound → All (λ r. id_of r ≤ bound) xs → fold (λ m r. max m (id_of r)) top xs ≤ bound
max_low bound [] top le all = le
max_low bound (r ∷ rs) top le all =
    let low = All-head (λ s. id_of s ≤ bound) r rs all in
    max_low bound rs (max top (id_of r)) (omega arith) (All-tail (λ s. id_of s ≤ bound) r rs all)

pub max_within : (xs ys : List Record) → IsPermutation xs ys → max_id ys ≤ max_id xs
max_within xs ys same = max_low (max_id xs) ys 0 (omega arith)
    (All-permutation (λ r. id_of r ≤ max_id xs) xs ys same (λ k d lt. max_above xs (get_or xs k d) (Contains-get_or xs k d lt)))

pub max_same : (xs ys : List Record) → IsPermutation xs ys → max_id xs ≡ max_id ys
max_same xs ys same = (let one = max_within xs ys same in let other = max_within ys xs (IsPermutation-sym xs ys same) in omega arith)

pub named_any : (name : List ℕ) (records : List Record) → is_some (volume_named name records) ≡ list_any (is_volume_named name) records
named_any name [] = refl
named_any name (r ∷ records) = go (is_volume_named name r) refl (named_any name records)
  where
    go : (b : Bool) → is_volume_named name r ≡ b → is_some (volume_named name records) ≡ list_any (is_volume_named name) records
        → is_some (volume_in (cond b (Some r) (find (is_volume_named name) records))) ≡ (b || list_any (is_volume_named name) records)
    go true here rest = ap (λ (s : Record). is_some (volume_in (Some s))) (named_volume name r here).1
    go false here rest = rest

-- no two have one place where they rise in another order
pub rises_again : (xs ys : List Record) → IsPermutation xs ys → Rising ys → Rising (in_order xs)
rises_again xs ys same up = in_order_rises xs (λ i j d lt within e.
    let n : ℕ = place_of (get_or xs i d) in
    let two : 2 ≤ count_at n xs = counted_two (λ (r : Record). place_of r == n) xs d i j lt within (eq-eqb n n refl) (eq-eqb (place_of (get_or xs j d)) n (sym e)) in
    one_place n ys up (subst (λ (k : ℕ). 2 ≤ k) (sym (count_kept n xs ys same)) two))

-- what is added to both is added to what was added
pub both_same : (records added made : List Record) → IsPermutation (records ++ (added ++ made)) (in_order (in_order (records ++ added) ++ made))
both_same records added made =
    subst (λ (l : List Record). IsPermutation l (in_order (in_order (records ++ added) ++ made))) (append_assoc records added made)
    (IsPermutation-trans ((records ++ added) ++ made) (in_order (records ++ added) ++ made) _
    (IsPermutation-append_left made (records ++ added) (in_order (records ++ added)) (in_order_same (records ++ added)))
    (in_order_same (in_order (records ++ added) ++ made)))

pub both_rise : (records added made : List Record) → Rising (in_order (in_order (records ++ added) ++ made)) → Rising (in_order (records ++ (added ++ made)))
both_rise records added made up = rises_again _ _ (both_same records added made) up

pub both_joined : (records added made : List Record) → Rising (in_order (in_order (records ++ added) ++ made)) → in_order (in_order (records ++ added) ++ made) ≡ in_order (records ++ (added ++ made))
both_joined records added made up = one_next _ _ (both_same records added made) up (both_rise records added made up)

pub kind_most : (r : Record) → kind_of r ≤ 5
kind_most (kinds.Group x) = omega arith
kind_most (kinds.Disk x) = omega arith
kind_most (kinds.Volume x) = omega arith
kind_most (kinds.Component x) = omega arith
kind_most (kinds.Partition x) = omega arith

-- ids are at most this, and new ids above them
pub place_below : (r : Record) (p : Partition) (top : ℕ) → id_of r ≤ top → top < 2 ^ 64 → top < p.head.id
    → place_of r ≢ place_of (kinds.Partition p)
unfolding place_of
place_below r p top low most above e = (let kind = kind_most r in let places : kind_of r * 2 ^ 64 + id_of r ≡ 5 * 2 ^ 64 + p.head.id = e in omega arith)

-- ---- names that are not found, and that are

-- no volume has a name that isn't found
pub unnamed : (name : List ℕ) (records : List Record) → volume_named name records ≡ None → (r : Record) → Contains records r → is_volume_named name r ≡ false
unnamed name records h r at = ap (is_volume_named name) (sym at.2) ∙ none_found (is_volume_named name) records at.0 r (none (find (is_volume_named name) records) refl h) at.1
  where
    none : (o : Option Record) → find (is_volume_named name) records ≡ o → volume_in o ≡ None → find (is_volume_named name) records ≡ None
    none None e h = e
    none (Some s) e h =
        let is = named_volume name s (find_there (is_volume_named name) records s e).1 in
        absurd (let some : volume_in (Some (kinds.Volume is.0)) ≡ None = ap (λ (x : Record). volume_in (Some x)) (sym is.1) ∙ h in cc)

-- a disk that is found is there
pub disk_there : (name : List ℕ) (records : List Record) (d : Disk) → disk_named name records ≡ Some d → Contains records (kinds.Disk d)
disk_there name records d h = go (find (is_disk_named name) records) refl h
  where
    is_disk : (r : Record) → disk_in (Some r) ≡ Some d → r ≡ kinds.Disk d
    is_disk (kinds.Disk e) h = cc
    is_disk (kinds.Group g) h = absurd cc
    is_disk (kinds.Volume g) h = absurd cc
    is_disk (kinds.Component g) h = absurd cc
    is_disk (kinds.Partition g) h = absurd cc

    go : (o : Option Record) → find (is_disk_named name) records ≡ o → disk_in o ≡ Some d → Contains records (kinds.Disk d)
    go None e h = absurd cc
    go (Some r) e h = subst (λ (x : Record). Contains records x) (is_disk r h) (find_there (is_disk_named name) records r e).0

-- ---- the database that is made of records

-- records take as many blocks in order as they stand
pub next_room : (xs : List Record) (room : ℕ) → need_of xs ≤ room → need_of (in_order xs) ≤ room
next_room xs room fits = subst (λ (n : ℕ). n ≤ room) (sym (sum_by-IsPermutation (λ r. parts_of (own_len r)) xs (in_order xs) (in_order_same xs))) fits

-- what is made of records in any order
pub next_is : (next : Database) (items all : List Record) (header wanted : Header) → Rising (in_order all) → items ≡ all
    → header ≡ wanted → IsDatabaseOf next header items
    → next ≡ record { header = wanted; records = in_order all }
next_is next items all header wanted up same head is =
    let records : next.records ≡ in_order all = one_next items next.records is.same is.rising
    (subst (λ (l : List Record). Rising (in_order l)) (sym same) up) ∙ ap in_order same in
    let headers : next.header ≡ wanted = is.header_is ∙ head in
    λ i. record { header = headers i; records = records i }
