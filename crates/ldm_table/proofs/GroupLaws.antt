-- What volume after volume adds to the devices of a group, and that each finds those that its lines name among the devices of all.
use Rattle.std.proofs.Common.{◌≡◌, ℕ, zero, suc, ◌+◌, ◌<◌, ◌++◌, Bool, true, false, not, List, [], ◌∷◌, length, get_or, drop, map, flat_map, codes, Option, Some, None, is_none, unwrap_or, Result, Ok, refl, inl, inr, sym, ap, subst, ◌∙◌, arith, append_assoc, add_assoc, zero-add, length-append}
use Rattle.std.specs.Prelude.{◌||◌, ◌⊎◌, cond, filter}
use Rattle.std.specs.List.{filter_map, cons_option, join_by, Contains}
use Rattle.std.specs.Option.{option_map, option_or}
use Rattle.std.proofs.lemmas.List.{append-nil, get_or-append-add}
use Rattle.std.proofs.Math.ListN.{get_or-append}
use Rattle.std.proofs.Math.Seq.{drop-cons}
use Rattle.ldm_group.specs.Looks.{by_id}
use Rattle.ldm_group.specs.Order.{Rising, kind_of, id_of}
use Rattle.ldm_group.proofs.LookLaws.{found_again}
use Rattle.ldm_group.proofs.KinLaws.{filter_has, filter_keeps}
use Rattle.std.proofs.lemmas.List.Concat.{flat_map-cons}
use Rattle.ldm_bytes.specs.Tables.{first_of, unless}
use Rattle.ldm_records.specs.declared.types.Record.{Record}
use Rattle.ldm_records.specs.declared.types.Record.TheVariants as kinds
use Rattle.ldm_records.specs.declared.types.Volume.{Volume}
use Rattle.ldm_places.specs.Layouts.{Layout}
use Rattle.ldm_places.specs.declared.shape.LayoutFault.{LayoutFault}
use Rattle.ldm_layout.specs.Volumes.{layout_of}
use Rattle.ldm_copy.specs.declared.found.Found.{Found}
use Rattle.ldm_table.specs.declared.parts.Member.{Member}
use Rattle.ldm_table.specs.declared.faults.TableFault.{TableFault}
use Rattle.ldm_table.specs.declared.groups.Devices.{Devices}
use Rattle.ldm_table.specs.declared.groups.TablesFault.{TablesFault}
use Rattle.ldm_table.specs.declared.groups.TablesFault.TheVariants.{NoTable, NoVolume, OneName}
use Rattle.ldm_table.specs.Tables.{array_of}
use Rattle.ldm_table.specs.Faults.{fault_if, has_namesakes, table_fault}
use Rattle.ldm_table.specs.Groups.{laid_by, laid_in, laid_volumes, has_table, tabled_volumes, volume_devices, text_of_tables, all_members, named_fault, first_without, are_none, fault_of_none, tables_text, separator, AddsDevices, AddsUnless, AddsTable, AddsRecord, HoldsDevices}
use Rattle.ldm_table.specs.Targets.{by_name}
use Rattle.ldm_table.specs.Laws.{GroupTablesAreVolumes, EachIsTabledOrFaulty}
use Rattle.ldm_table.proofs.VolumeLaws.{named_each, found_by_name, device_of, first_none, unless_fault, volume_sound}

module _ (words : List (List ℕ)) (found : Found) where
  -- the text of the volumes that are to come
  abbrev pub rest_text : Bool → List (Volume × Layout) → List ℕ
  rest_text false volumes = join_by (volume_devices words found) (codes ";") volumes
  rest_text true volumes = flat_map (λ volume. codes ";" ++ volume_devices words found volume) volumes

  -- these are the devices of all volumes but those that are to come
  pub record AreSoFar (all rest : List (Volume × Layout)) (devices : Devices) : Type 0 where
    pub text : devices.text ++ rest_text devices.some rest ≡ join_by (volume_devices words found) (codes ";") all
    pub members : devices.members.items ++ all_members found rest ≡ all_members found all
    pub some : not (are_none all) ≡ (devices.some || not (are_none rest))

  abbrev tabled : List (Volume × Layout) → List (Volume × Layout)
  tabled volumes = filter (has_table words found) volumes

  -- these are those of the volumes with a table, and this is the first fault
  pub record IsSoFar (all rest : List (Volume × Layout)) (devices : Devices) (first : Option TablesFault) : Type 0 where
    pub held : AreSoFar (tabled all) (tabled rest) devices
    pub first_is : first_without words found all ≡ option_or first (first_without words found rest)

  pub none_yet : (all : List (Volume × Layout)) (devices : Devices) → devices.text ≡ [] → devices.members.items ≡ [] → devices.some ≡ false → IsSoFar all all devices None
  none_yet all devices text members some = record {
    held = record {
      text = rw (text, some) refl;
      members = rw members refl;
      some = rw some refl;
    };
    first_is = refl;
  }

  rest_none : (some : Bool) → rest_text some [] ≡ []
  rest_none false = refl
  rest_none true = refl

  rest_next : (some : Bool) (volume : Volume × Layout) (rest : List (Volume × Layout)) → rest_text some (volume ∷ rest) ≡ separator some ++ (volume_devices words found volume ++ rest_text true rest)
  rest_next false volume rest = refl
  rest_next true volume rest =
      flat_map-cons (λ other. codes ";" ++ volume_devices words found other) volume rest
      ∙ append_assoc (codes ";") (volume_devices words found volume) (rest_text true rest)

  -- a volume with a table
  devices_more : (all rest : List (Volume × Layout)) (volume : Volume × Layout) (old new : Devices) → AddsDevices words found volume old new
      → AreSoFar all (volume ∷ rest) old → AreSoFar all rest new
  devices_more all rest volume old new adds so = record {
    text =
        let t = volume_devices words found volume in
        let last = rest_text true rest in
        ap (λ (s : Bool). new.text ++ rest_text s rest) adds.some
        ∙ (ap (λ (s : List ℕ). s ++ last) adds.text
        ∙ (append_assoc old.text (separator old.some ++ t) last
        ∙ (ap (λ (s : List ℕ). old.text ++ s) (append_assoc (separator old.some) t last ∙ sym (rest_next old.some volume rest))
        ∙ so.text)));
    members =
        ap (λ (m : List (Option Member)). m ++ all_members found rest) adds.members
        ∙ (append_assoc old.members.items (array_of found volume.1) (all_members found rest)
        ∙ (ap (λ (m : List (Option Member)). old.members.items ++ m) (sym (flat_map-cons (λ (other : Volume × Layout). array_of found other.1) volume rest))
        ∙ so.members));
    some = so.some ∙ (either old.some ∙ sym (ap (λ (b : Bool). b || not (are_none rest)) adds.some));
  }
    where
      either : (b : Bool) → (b || true) ≡ true
      either true = refl
      either false = refl

  tabled_by : (volume : Volume × Layout) (rest : List (Volume × Layout)) (fault : Option TableFault) → fault ≡ table_fault words found volume.0 volume.1
      → tabled (volume ∷ rest) ≡ cond (is_none fault) (volume ∷ tabled rest) (tabled rest)
  tabled_by volume rest fault is = ap (λ (o : Option TableFault). cond (is_none o) (volume ∷ tabled rest) (tabled rest)) (sym is)

  or_next : (a b : Option TablesFault) (rest : List (Option TablesFault)) → option_or a (first_of (b ∷ rest)) ≡ option_or (option_or a b) (first_of rest)
  or_next None None rest = refl
  or_next None (Some fault) rest = refl
  or_next (Some fault) b rest = refl

  or_none : (o : Option TablesFault) → option_or o None ≡ o
  or_none None = refl
  or_none (Some fault) = refl

  -- a volume more
  held_more : (all rest : List (Volume × Layout)) (volume : Volume × Layout) (old new : Devices) (fault : Option TableFault) → fault ≡ table_fault words found volume.0 volume.1
      → AddsUnless words found volume old new fault → AreSoFar all (tabled (volume ∷ rest)) old → AreSoFar all (tabled rest) new
  held_more all rest volume old new None is adds so =
      devices_more all (tabled rest) volume old new adds (subst (λ (volumes : List (Volume × Layout)). AreSoFar all volumes old) (tabled_by volume rest None is) so)
  held_more all rest volume old new (Some fault) is adds so =
      subst (λ (d : Devices). AreSoFar all (tabled rest) d) (sym adds)
      (subst (λ (volumes : List (Volume × Layout)). AreSoFar all volumes old) (tabled_by volume rest (Some fault) is) so)

  volume_more : (all rest : List (Volume × Layout)) (v : Volume) (old new : Devices) (first : Option TablesFault) (own : Option TableFault) (adds : AddsTable words found v old new own)
      → IsSoFar all ((v, adds.layout) ∷ rest) old first → IsSoFar all rest new (option_or first (option_map (NoTable v.head.name) own))
  volume_more all rest v old new first own adds so = record {
    held = held_more (tabled all) rest (v, adds.layout) old new own adds.fault_is adds.adds so.held;
    first_is =
        so.first_is
        ∙ (or_next first (named_fault words found (v, adds.layout)) (map (named_fault words found) rest)
        ∙ ap (λ (o : Option TableFault). option_or (option_or first (option_map (NoTable v.head.name) o)) (first_without words found rest)) (sym adds.fault_is));
  }

  -- a volume of the group is laid out
  laid_is : (v : Volume) (l : Layout) → layout_of found.db.records v ≡ Ok l → laid_in found.db.records (kinds.Volume v) ≡ Some (v, l)
  laid_is v l is = ap (λ (r : Result Layout LayoutFault). laid_by v r) is

  rest_is : (v : Volume) (l : Layout) (rest : List Record) → layout_of found.db.records v ≡ Ok l
      → filter_map (laid_in found.db.records) (kinds.Volume v ∷ rest) ≡ (v, l) ∷ filter_map (laid_in found.db.records) rest
  rest_is v l rest is = ap (λ (o : Option (Volume × Layout)). cons_option o (filter_map (laid_in found.db.records) rest)) (laid_is v l is)

  -- a record that is no volume
  same_more : (all rest : List (Volume × Layout)) (old new : Devices) (first fault : Option TablesFault) → (new ≡ old) × (fault ≡ None) → IsSoFar all rest old first → IsSoFar all rest new (option_or first fault)
  same_more all rest old new first fault same so =
      subst (λ (d : Devices). IsSoFar all rest d (option_or first fault)) (sym same.0)
      (subst (λ (o : Option TablesFault). IsSoFar all rest old o) (sym (ap (option_or first) same.1 ∙ or_none first)) so)

  record_more : (all : List (Volume × Layout)) (rest : List Record) (r : Record) (old new : Devices) (first fault : Option TablesFault) → AddsRecord words found r old new fault
      → IsSoFar all (filter_map (laid_in found.db.records) (r ∷ rest)) old first → IsSoFar all (filter_map (laid_in found.db.records) rest) new (option_or first fault)
  record_more all rest (kinds.Volume v) old new first fault adds so =
      subst (λ (o : Option TablesFault). IsSoFar all (filter_map (laid_in found.db.records) rest) new (option_or first o)) (sym adds.2)
      (volume_more all (filter_map (laid_in found.db.records) rest) v old new first adds.0 one
      (subst (λ (volumes : List (Volume × Layout)). IsSoFar all volumes old first) (rest_is v one.layout rest one.laid) so))
    where
      one : AddsTable words found v old new adds.0
      one = adds.1
  record_more all rest (kinds.Group x) old new first fault adds so = same_more all (filter_map (laid_in found.db.records) rest) old new first fault adds so
  record_more all rest (kinds.Disk x) old new first fault adds so = same_more all (filter_map (laid_in found.db.records) rest) old new first fault adds so
  record_more all rest (kinds.Component x) old new first fault adds so = same_more all (filter_map (laid_in found.db.records) rest) old new first fault adds so
  record_more all rest (kinds.Partition x) old new first fault adds so = same_more all (filter_map (laid_in found.db.records) rest) old new first fault adds so

  -- the records from a place on are that there and those behind it
  next_is : (i : ℕ) (r : Record) → i < length found.db.records → r ≡ get_or found.db.records i r → drop i found.db.records ≡ r ∷ drop (i + 1) found.db.records
  next_is i r lt is =
      let e : suc i ≡ i + 1 = omega arith in
      drop-cons found.db.records i r lt ∙ (ap (λ (x : Record). x ∷ drop (suc i) found.db.records) (sym is) ∙ ap (λ (n : ℕ). r ∷ drop n found.db.records) e)

  pub place_more : (all : List (Volume × Layout)) (xs : List Record) (i : ℕ) (r : Record) (old new : Devices) (first fault : Option TablesFault) → xs ≡ found.db.records → i < length xs → r ≡ get_or xs i r
      → AddsRecord words found r old new fault → IsSoFar all (filter_map (laid_in found.db.records) (drop i found.db.records)) old first
      → IsSoFar all (filter_map (laid_in found.db.records) (drop (i + 1) found.db.records)) new (option_or first fault)
  place_more all xs i r old new first fault same lt is adds so =
      record_more all (drop (i + 1) found.db.records) r old new first fault adds
      (subst (λ (rs : List Record). IsSoFar all (filter_map (laid_in found.db.records) rs) old first)
      (next_is i r (subst (λ (l : List Record). i < length l) same lt) (subst (λ (l : List Record). r ≡ get_or l i r) same is)) so)

  or_false : (b : Bool) → (b || false) ≡ b
  or_false true = refl
  or_false false = refl

  not_not : (b d : Bool) → not b ≡ d → b ≡ not d
  not_not true d is = ap not is
  not_not false d is = ap not is

  -- at the end there is a volume with a table
  pub all_held : (all : List (Volume × Layout)) (devices : Devices) (first : Option TablesFault) → IsSoFar all [] devices first → devices.some ≡ true → HoldsDevices words found (tabled all) devices
  all_held all devices first so some = record {
    some = not_not (are_none (tabled all)) true (so.held.some ∙ (or_false devices.some ∙ some));
    text = sym (append-nil devices.text) ∙ (ap (λ (t : List ℕ). devices.text ++ t) (sym (rest_none devices.some)) ∙ so.held.text);
    members = sym (append-nil devices.members.items) ∙ so.held.members;
  }

  -- or none
  pub none_held : (all : List (Volume × Layout)) (devices : Devices) (first : Option TablesFault) → IsSoFar all [] devices first → devices.some ≡ false
      → (are_none (tabled all) ≡ true) × (unwrap_or first NoVolume ≡ fault_of_none words found all)
  none_held all devices first so none = (
    not_not (are_none (tabled all)) false (so.held.some ∙ (or_false devices.some ∙ none)),
    ap (λ (o : Option TablesFault). unwrap_or o NoVolume) (sym (so.first_is ∙ or_none first)),
  )

-- a record at a place of the list is found again
pub again_at : (records xs : List Record) (i : ℕ) (r : Record) → xs ≡ records → Rising records → i < length xs → r ≡ get_or xs i r → by_id (kind_of r) (id_of r) records ≡ Some r
again_at records xs i r same up lt is = found_again records r up (subst (λ (l : List Record). Contains l r) same (i, lt, sym is))

-- ---- the first fault of all

pub tables_by : (words : List (List ℕ)) (found : Found) (none alike : Bool) → are_none (tabled_volumes words found) ≡ none → has_namesakes (all_members found (tabled_volumes words found)) ≡ alike
    → tables_text words found
    ≡ unless (first_of (fault_if none (fault_of_none words found (laid_volumes found.db.records)) ∷ fault_if alike OneName ∷ [])) (text_of_tables words found (tabled_volumes words found))
tables_by words found none alike a b = rw (a, b) refl

-- ---- devices that lines name are found among those of all volumes

-- the devices of a volume stand among those of all, from some place on
record IsSegment (all own : List (Option Member)) : Type 0 where
  pub place : ℕ
  pub within : (k : ℕ) → k < length own → place + k < length all
  pub same : (k : ℕ) → k < length own → get_or all (place + k) None ≡ get_or own k None

segment_first : (own rest : List (Option Member)) → IsSegment (own ++ rest) own
segment_first own rest = record {
  place = 0;
  within = λ k lt. omega (arith, lt, length-append own rest);
  same = λ k lt. ap (λ (n : ℕ). get_or (own ++ rest) n None) (zero-add k) ∙ get_or-append own rest None k lt;
}

segment_later : (front all own : List (Option Member)) → IsSegment all own → IsSegment (front ++ all) own
segment_later front all own is = record {
  place = length front + is.place;
  within = λ k lt. (let less = is.within k lt in omega (arith, less, length-append front all));
  same = λ k lt. ap (λ (n : ℕ). get_or (front ++ all) n None) (add_assoc (length front) is.place k) ∙ (get_or-append-add front all (is.place + k) None ∙ is.same k lt);
}

segment_at : (found : Found) (volumes : List (Volume × Layout)) (k : ℕ) (d : Volume × Layout) → k < length volumes → IsSegment (all_members found volumes) (array_of found (get_or volumes k d).1)
segment_at found [] k d lt = absurd (omega (arith, lt))
segment_at found (volume ∷ volumes) zero d lt =
    subst (λ (all : List (Option Member)). IsSegment all (array_of found volume.1)) (sym (flat_map-cons (λ (x : Volume × Layout). array_of found x.1) volume volumes)) (segment_first (array_of found volume.1) (all_members found volumes))
segment_at found (volume ∷ volumes) (suc k) d lt =
    subst (λ (all : List (Option Member)). IsSegment all (array_of found (get_or volumes k d).1)) (sym (flat_map-cons (λ (x : Volume × Layout). array_of found x.1) volume volumes))
    (segment_later (array_of found volume.1) (all_members found volumes) (array_of found (get_or volumes k d).1) (segment_at found volumes k d (omega (arith, lt))))

named_in : (all own : List (Option Member)) → IsSegment all own → has_namesakes all ≡ false → map (by_name all) own ≡ own
named_in all own is apart =
    named_each all own (λ k lt. subst (λ (m : Option Member). by_name all m ≡ m) (is.same k lt) (found_by_name all apart (is.place + k) (is.within k lt)))

-- ---- each volume of the group is in the text, or has no table

none_is : (o : Option TableFault) → is_none o ≡ true → o ≡ None
none_is None is = refl
none_is (Some fault) is = absurd cc

pub each_is_tabled_or_faulty : EachIsTabledOrFaulty
each_is_tabled_or_faulty words found v l there = by (table_fault words found v l) refl
  where
    by : (fault : Option TableFault) → table_fault words found v l ≡ fault → Contains (tabled_volumes words found) (v, l) ⊎ ((fault : TableFault) × (table_fault words found v l ≡ Some fault))
    by None is = inl (filter_keeps (has_table words found) (laid_volumes found.db.records) (v, l) there (ap (λ (o : Option TableFault). is_none o) is))
    by (Some fault) is = inr (fault, is)

pub group_tables_are_volumes : GroupTablesAreVolumes
group_tables_are_volumes words found v l there columned none =
    let volumes = tabled_volumes words found in
    let alike = fault_if (has_namesakes (all_members found volumes)) OneName in
    let some = first_none (fault_if (are_none volumes) (fault_of_none words found (laid_volumes found.db.records))) (alike ∷ []) none in
    let apart = unless_fault (has_namesakes (all_members found volumes)) OneName (first_none alike [] some.1).0 in
    let sound : table_fault words found v l ≡ None = none_is (table_fault words found v l) (filter_has (has_table words found) (laid_volumes found.db.records) (v, l) there).1 in
    let segment : IsSegment (all_members found volumes) (array_of found l) = subst (λ (x : Volume × Layout). IsSegment (all_members found volumes) (array_of found x.1)) there.2 (segment_at found volumes there.0 (v, l) there.1) in
    device_of found l (volume_sound words found v l sound) (all_members found volumes) (named_in (all_members found volumes) (array_of found l) segment apart) columned
