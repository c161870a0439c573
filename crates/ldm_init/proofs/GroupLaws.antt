-- The records and the labels of a new group.
use Rattle.std.proofs.Common.{[], ◌≡◌, inl, ℕ, zero, suc, ◌+◌, ◌*◌, ◌^◌, ◌<◌, ◌≤◌, List, ◌∷◌, ◌++◌, length, slice_index, Contains, Option, Some, None, refl, sym, ap, subst, ◌∙◌, arith, decimal, map, slice_get, All}
use Rattle.std.specs.Prelude.{codes, IsPermutation}
use Rattle.std.specs.List.{filter_map, range_with_len}
use Rattle.std.proofs.lemmas.Fmt.{length-decimal-le}
use Rattle.std.proofs.lemmas.List.{length-append, map-append, same_lists, get_or_default, length-map, get_or-map}
use Rattle.std.proofs.lemmas.List.Elements.{All-append, All-from_recursion}
use Rattle.std.proofs.lemmas.List.FromFn.{get_or-map-range_with_len, length-map-range_with_len, map-range_with_len_more}
use Rattle.std.proofs.lemmas.List.Sorted.{IsPermutation-refl}
use Rattle.std.proofs.lemmas.List.Sums.{sum_by-cons}
use Rattle.ldm_records.specs.declared.types.Record.{Record}
use Rattle.ldm_records.specs.declared.types.Record.TheVariants as kinds
use Rattle.ldm_records.specs.declared.types.Disk.{Disk}
use Rattle.ldm_records.specs.declared.types.GroupRec.{GroupRec}
use Rattle.ldm_made.specs.Made.{new_group}
use Rattle.ldm_made.proofs.MadeLaws.{number_len, makes_disk, makes_group}
use Rattle.ldm_vmdb.specs.declared.header.Header.{Header}
use Rattle.ldm_written.specs.Made.{IsNewHeader}
use Rattle.ldm_vmdb.specs.Parts.{parts_of}
use Rattle.ldm_label.specs.declared.Label.{Label}
use Rattle.ldm_group.specs.Order.{place_of, Rising}
use Rattle.ldm_group.specs.Database.{Database, IsDatabaseOf}
use Rattle.ldm_group.specs.Room.{own_len, need_of, room_of, FitsHeader}
use Rattle.ldm_group.proofs.InOrder.{pairs_append}
use Rattle.ldm_group.proofs.OneOrder.{one_rising}
use Rattle.ldm_rules.specs.New.{IsNewOn}
use Rattle.ldm_init.specs.NewGroup.{new_disk_at, first_records, IsNewGroup, new_label, new_labels}
use Rattle.std.proofs.lemmas.Bool.Decides.{nat_tests}
use Rattle.std.proofs.lemmas.Option.{slice_get_within, slice_get-get_or, get_or_from_slice_get}
use Rattle.ldm_label.specs.Written.{IsWritable}
use Rattle.ldm_init.specs.New.{HasOwnArea}
use Rattle.ldm_init.specs.Moments.{CanTake}
use Rattle.ldm_group.proofs.AddedLaws.{alone_rises}
use Rattle.ldm_group.proofs.ListLaws.{only_one}

-- ---- The records of a new group: they rise, each takes one block, and there is one for each disk.

there_more : (xs : List (Option Record)) (r : Record) → filter_map (λ r. r) (xs ++ Some r ∷ []) ≡ filter_map (λ r. r) xs ++ r ∷ []
there_more [] r = refl
there_more (None ∷ xs) r = there_more xs r
there_more (Some x ∷ xs) r = ap (λ (l : List Record). x ∷ l) (there_more xs r)

only : (P : Record → Type 0) (r : Record) → P r → All P (r ∷ [])
only P r holds = All-from_recursion P (r ∷ []) (holds, tt)

-- a record of at most 112 bytes takes one block
few_blocks : (records : List Record) → All (λ r. own_len r ≤ 112) records → need_of records ≤ length records
few_blocks [] small = omega arith
few_blocks (r ∷ records) small =
    let here : own_len r ≤ 112 = small 0 r (omega arith) in
    let rest = few_blocks records (λ k d lt. small (suc k) d (omega arith)) in
    omega (arith, here, rest, sum_by-cons (λ (x : Record). parts_of (own_len x)) r records)

module _ (name : List ℕ) (guid : ℕ) (guids : List ℕ) where
  abbrev pub records : ℕ → List Record
  records = first_records name guid guids

  pub records_more : (disks : ℕ) (r : Record) → new_disk_at disks (slice_index guids disks) ≡ Some r → records (disks + 1) ≡ records disks ++ r ∷ []
  records_more disks r is =
      let group = new_group 1 name guid in
      let at : ℕ → Option Record = λ place. new_disk_at place (slice_index guids place) in
      let before = map at (range_with_len 0 disks) in
      ap (λ (l : List (Option Record)). filter_map (λ r. r) (group ∷ l)) (map-range_with_len_more at 0 disks disks (omega arith))
      ∙ ap (λ (o : Option Record). filter_map (λ r. r) (group ∷ (before ++ o ∷ []))) is
      ∙ there_more (group ∷ before) r

  -- what is known of so many
  record Known (disks : ℕ) : Type 0 where
    pub group : GroupRec
    pub made : List Disk
    pub records_are : records disks ≡ kinds.Group group ∷ map kinds.Disk made
    pub guids_are : map (λ d. d.guid) made ≡ map (slice_index guids) (range_with_len 0 disks)
    pub rising : Rising (records disks)
    pub low : All (λ r. place_of r < 2 * 2 ^ 64 + (disks + 2)) (records disks)
    pub small : All (λ r. own_len r ≤ 112) (records disks)
    pub count : length (records disks) ≡ disks + 1

  module _ (short : length name ≤ 30) where
    none_yet : Known 0
    unfolding place_of own_len
    none_yet =
        let m = makes_group 1 name guid (omega arith) (omega arith) in
        let r : Record = kinds.Group m.group in
        let is : records 0 ≡ r ∷ [] = ap (λ (o : Option Record). filter_map (λ r. r) (o ∷ [])) m.made in
        let place : place_of r < 2 * 2 ^ 64 + (0 + 2) = omega (arith, m.id_is) in
        let len : own_len r ≤ 112 = omega (arith, m.len_is, number_len 1 (omega arith)) in
        record {
          group = m.group;
          made = [];
          records_are = is;
          guids_are = refl;
          rising = subst Rising (sym is) (alone_rises r);
          low = subst (All (λ r. place_of r < 2 * 2 ^ 64 + (0 + 2))) (sym is) (only (λ r. place_of r < 2 * 2 ^ 64 + (0 + 2)) r place);
          small = subst (All (λ r. own_len r ≤ 112)) (sym is) (only (λ r. own_len r ≤ 112) r len);
          count = ap length is;
        }

    one_more : (disks : ℕ) → disks < 64 → Known disks → Known (disks + 1)
    unfolding place_of own_len
    one_more disks lt before =
        let digits = length-decimal-le 2 (disks + 1) (omega arith) (omega (arith, lt)) (omega (arith, lt)) in
        let named : List ℕ = codes "Disk" ++ decimal (disks + 1) in
        let long : length named ≤ 6 = omega (arith, digits, length-append (codes "Disk") (decimal (disks + 1))) in
        let m = makes_disk (disks + 2) named (slice_index guids disks) (omega arith) (omega (arith, long)) in
        let r : Record = kinds.Disk m.disk in
        let is : records (disks + 1) ≡ records disks ++ r ∷ [] = records_more disks r m.made in
        let place : place_of r ≡ 2 * 2 ^ 64 + (disks + 2) = omega (arith, m.id_is) in
        let len : own_len r ≤ 112 = omega (arith, m.len_is, long, number_len (disks + 2) (omega arith)) in
        let behind : (x y : Record) → Contains (records disks) x → Contains (r ∷ []) y → place_of x < place_of y =
        λ x y at_x at_y. omega (arith, place, before.low at_x.0 x at_x.1, ap place_of at_x.2, ap place_of (only_one r y at_y)) in
        record {
          group = before.group;
          made = before.made ++ m.disk ∷ [];
          records_are = is ∙ ap (λ (l : List Record). l ++ r ∷ []) before.records_are ∙ ap (λ (l : List Record). kinds.Group before.group ∷ l) (sym (map-append kinds.Disk before.made (m.disk ∷ [])));
          guids_are =
              map-append (λ (d : Disk). d.guid) before.made (m.disk ∷ [])
              ∙ ap (λ (l : List ℕ). l ++ m.disk.guid ∷ []) before.guids_are
              ∙ ap (λ (g : ℕ). map (slice_index guids) (range_with_len 0 disks) ++ g ∷ []) m.guid_is
              ∙ sym (map-range_with_len_more (slice_index guids) 0 disks disks (omega arith));
          rising = subst Rising (sym is) (pairs_append (λ a b. place_of a < place_of b) (records disks) (r ∷ []) before.rising (alone_rises r) behind);
          low =
              subst (All (λ r. place_of r < 2 * 2 ^ 64 + (disks + 1 + 2))) (sym is)
              (All-append (λ r. place_of r < 2 * 2 ^ 64 + (disks + 1 + 2)) (records disks) (r ∷ []) (λ k d le. omega (arith, before.low k d le)) (only (λ r. place_of r < 2 * 2 ^ 64 + (disks + 1 + 2)) r (omega (arith, place))));
          small = subst (All (λ r. own_len r ≤ 112)) (sym is) (All-append (λ r. own_len r ≤ 112) (records disks) (r ∷ []) before.small (only (λ r. own_len r ≤ 112) r len));
          count = ap length is ∙ length-append (records disks) (r ∷ []) ∙ omega (arith, before.count);
        }

    known : (disks : ℕ) → disks ≤ 64 → Known disks
    known zero le = none_yet
    known (suc disks) le = let next : disks + 1 ≡ suc disks = omega arith in subst Known next (one_more disks (omega arith) (known disks (omega arith)))

    -- ---- the database

    module _ (few : length guids ≤ 64) where
      all : Known (length guids)
      all = known (length guids) few

      -- the GUIDs one after another are all of them
      each_guid : map (slice_index guids) (range_with_len 0 (length guids)) ≡ guids
      each_guid =
          same_lists (map (slice_index guids) (range_with_len 0 (length guids))) guids (length-map-range_with_len (slice_index guids) 0 (length guids))
          (λ k d low. let lt : k < length guids = omega (arith, low, length-map-range_with_len (slice_index guids) 0 (length guids)) in get_or-map-range_with_len (slice_index guids) 0 (length guids) k k d lt (omega arith) ∙ get_or_default guids k 0 d lt)

      pub made_is : (last seq : ℕ) (db : Database) (header : Header) (items : List Record) → IsNewHeader header name guid last seq
          → items ≡ records (length guids) → IsDatabaseOf db header items → IsNewGroup name guid guids last seq db
      made_is last seq db header items new are is = record {
        header_is = subst (λ (h : Header). IsNewHeader h name guid last seq) (sym is.header_is) new;
        records_are =
            one_rising items db.records (records (length guids)) is.same (subst (λ (l : List Record). IsPermutation items l) are (IsPermutation-refl items))
            is.rising all.rising;
      }

      pub is_new : (last seq : ℕ) (db : Database) → IsNewGroup name guid guids last seq db → (labels : List Label) → map (λ label. label.disk_guid) labels ≡ guids → IsNewOn db.records labels
      is_new last seq db is labels same = record {
        group = all.group;
        disks = all.made;
        records_are = is.records_are ∙ all.records_are;
        guids_are = all.guids_are ∙ each_guid ∙ sym same;
      }

      pub fits_room : (last seq : ℕ) (db : Database) → IsNewGroup name guid guids last seq db → length guids + 1 ≤ room_of last → FitsHeader db
      fits_room last seq db is room =
          let small : All (λ r. own_len r ≤ 112) db.records = subst (All (λ r. own_len r ≤ 112)) (sym is.records_are) all.small in
          let need = few_blocks db.records small in
          let count : length db.records ≡ length guids + 1 = ap length is.records_are ∙ all.count in
          let enough : length guids + 1 ≤ room_of db.header.last = subst (λ (n : ℕ). length guids + 1 ≤ room_of n) (sym is.header_is.last_is) room in
          record { need = omega (arith, need, count, enough); each = λ k d lt. omega (arith, small k d lt) }

-- ---- The labels of a new group: each fits its disk, and has room for the body.

module _ (sizes guids : List ℕ) where
  pub labels_more : (disk : ℕ) (before : List Label) (label : Label) (after : List Label) → after ≡ before ++ label ∷ []
      → before ≡ map (λ disk. new_label (slice_index sizes disk) (slice_index guids disk)) (range_with_len 0 disk) → label ≡ new_label (slice_index sizes disk) (slice_index guids disk)
      → after ≡ map (λ disk. new_label (slice_index sizes disk) (slice_index guids disk)) (range_with_len 0 (disk + 1))
  labels_more disk before label after is were one =
      is ∙ ap (λ (l : List Label). l ++ label ∷ []) were
      ∙ ap (λ (l : Label). map (λ disk. new_label (slice_index sizes disk) (slice_index guids disk)) (range_with_len 0 disk) ++ l ∷ []) one
      ∙ sym (map-range_with_len_more (λ disk. new_label (slice_index sizes disk) (slice_index guids disk)) 0 disk disk (omega arith))

  pub labels_count : length (new_labels sizes guids) ≡ length guids
  labels_count = length-map-range_with_len (λ disk. new_label (slice_index sizes disk) (slice_index guids disk)) 0 (length guids)

  pub label_at : (k : ℕ) (label : Label) → slice_get (new_labels sizes guids) k ≡ Some label → (k < length guids) × (new_label (slice_index sizes k) (slice_index guids k) ≡ label)
  label_at k label is =
      let lt : k < length guids = omega (arith, slice_get_within (new_labels sizes guids) k label is, labels_count) in (
        lt,
        sym (get_or-map-range_with_len (λ disk. new_label (slice_index sizes disk) (slice_index guids disk)) 0 (length guids) k k label lt (omega arith)) ∙ get_or_from_slice_get (new_labels sizes guids) k label label is,
      )

  pub label_there : (k : ℕ) → k < length guids → slice_get (new_labels sizes guids) k ≡ Some (new_label (slice_index sizes k) (slice_index guids k))
  label_there k lt =
      let none = new_label 0 0 in
      slice_get-get_or (new_labels sizes guids) k none (omega (arith, lt, labels_count))
      ∙ ap Some (get_or-map-range_with_len (λ disk. new_label (slice_index sizes disk) (slice_index guids disk)) 0 (length guids) k k none lt (omega arith))

  -- the GUIDs of the new labels are those of the disks
  pub labels_guids : map (λ label. label.disk_guid) (new_labels sizes guids) ≡ guids
  labels_guids =
      let guid : Label → ℕ = λ label. label.disk_guid in
      let count : length (map guid (new_labels sizes guids)) ≡ length guids = length-map (new_labels sizes guids) guid ∙ labels_count in
      same_lists (map guid (new_labels sizes guids)) guids count
      (λ k d lt.
      let within : k < length (new_labels sizes guids) = omega (arith, lt, length-map (new_labels sizes guids) guid) in
      let near : k < length guids = omega (arith, lt, count) in
      get_or-map guid (new_labels sizes guids) k (new_label 0 0) d within
      ∙ ap guid (get_or-map-range_with_len (λ disk. new_label (slice_index sizes disk) (slice_index guids disk)) 0 (length guids) k k (new_label 0 0) near (omega arith))
      ∙ get_or_default guids k 0 d near)

  pub own_areas : All (HasOwnArea 5924) (new_labels sizes guids)
  own_areas k d lt =
      let near : k < length guids = omega (arith, lt, labels_count) in
      subst (HasOwnArea 5924) (sym (get_or-map-range_with_len (λ disk. new_label (slice_index sizes disk) (slice_index guids disk)) 0 (length guids) k k d near (omega arith))) (grind (arith, nat_tests), refl)

pub all_more : (before : List Label) (label : Label) (after : List Label) → after ≡ before ++ label ∷ [] → All (λ l. IsWritable l) before → IsWritable label → All (λ l. IsWritable l) after
all_more before label after is all one =
    subst (All (λ l. IsWritable l)) (sym is) (All-append (λ l. IsWritable l) before (label ∷ []) all (All-from_recursion (λ l. IsWritable l) (label ∷ []) (one, tt)))

pub new_takes : (sectors guid : ℕ) (body : List ℕ) → 2112 ≤ sectors → IsWritable (new_label sectors guid) → length body ≡ 512 * 1481 → CanTake (new_label sectors guid) body sectors
new_takes sectors guid body large writable size = record {
  fits = record {
    some_data = λ none. absurd (omega (arith, large, none));
    before = λ is. omega (arith, large);
    apart = inl (omega (arith, large));
    within = omega (arith, large);
    room = omega (arith, large);
    inside = omega (arith, large);
    some_area = λ none. absurd cc;
    area = omega arith;
    log = omega arith;
  };
  at_end = omega (arith, large);
  clear = record { behind = omega arith; before = omega arith };
  writable = writable;
  room = omega (arith, size);
}
