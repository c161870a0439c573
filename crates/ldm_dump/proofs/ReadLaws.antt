-- What is read of the sources of a sector: it lies on the images, and reads the same without one of
-- them.
use Rattle.std.proofs.Common.{◌≡◌, ℕ, ◌+◌, ◌-◌, ◌*◌, ◌<◌, ◌≤◌, ◌==◌, if◌then◌else◌, Bool, true, false, List, [], ◌∷◌, ◌++◌, map, fold, bit_xor, slice_index, refl, ap, sym, subst, ◌∙◌, arith, add-one, Option, Some, None, is_some, is_none, Result, Ok, Err, OnOk, filter_map, inl, inr, length, get_or, slice_get, option_and_then, unwrap_or, zero, suc, cond, ltb}
use Rattle.std.specs.List.{range_with_len, position_or_len, cons_option}
use Rattle.std.specs.Option.{option_map, option_to_list}
use Rattle.ldm_places.specs.Layouts.{Layout, copies_of, place_in, is_tiled, fewest, plex_capacity, place_at, copies_by, plex_spot, place_at as place_sector}
use Rattle.std.proofs.lemmas.Bool.{eqb-true, not-false, cases_lt, ltb-false, lt-ltb, cond-true, eq-eqb, false_from_ne_true, false≢true}
use Rattle.ldm_places.specs.Columns.{own_column, column_in, columns_of, column_spot, IsColumned}
use Rattle.ldm_places.specs.declared.shape.Place.{Place}
use Rattle.ldm_places.specs.declared.shape.Shape.TheVariants.{Raid5}
use Rattle.ldm_copy.specs.declared.found.Found.{Found}
use Rattle.ldm_found.specs.Labels.{IsLabelOf}
use Rattle.ldm_copy.specs.Images.{image_of}
use Rattle.ldm_dump.specs.Sources.{is_here, data_start, spot_of, spot_at, first_copy, copy_spot, other_spot, other_spots, can_rebuild, sources_by, sources_of, is_lost}
use Rattle.ldm_dump.specs.Bytes.{byte_at, joined_byte, joined_sector, sector_of}
use Rattle.ldm_dump.specs.Runs.{behind, IsOn, HasBytes, LiesOn, RowsLieOn}
use Rattle.ldm_dump.specs.declared.spots.Spot.{Spot}
use Rattle.ldm_dump.proofs.RangeLaws.{range_more, made_more, found_in, find_first, map_same_in}
use Rattle.ldm_dump.proofs.RunLaws.{none_lost, rebuilds_raid5, others_here}
use Rattle.ldm_dump.proofs.ByteLaws.{joined_more}
use Rattle.std.proofs.lemmas.List.Quantifiers.{position-Some}
use Rattle.std.proofs.lemmas.Option.{slice_get-get_or, slice_get_past}
use Rattle.ldm_records.specs.declared.types.Record.TheVariants as kinds
use Rattle.ldm_records.specs.declared.types.Volume.{Volume}
use Rattle.ldm_records.specs.declared.types.Disk.{Disk}
use Rattle.ldm_group.specs.Looks.{by_id, disk_in}
use Rattle.ldm_label.specs.declared.Style.{Style}
use Rattle.ldm_label.specs.declared.Label.{Label}
use Rattle.ldm_label.specs.LabelOf.{Fits}
use Rattle.ldm_places.proofs.SpotLaws.{none, sizes, least_at, place_by, some_same}
use Rattle.ldm_places.proofs.PlaceLaws.{raid5_inside}
use Rattle.ldm_layout.proofs.VolumeLaws.{IsExtentOf}
use Rattle.ldm_places.specs.Extents.{least}
use Rattle.ldm_places.specs.Places.{raid5_capacity, raid5_offset}
use Rattle.ldm_places.specs.declared.extent.Extent.{Extent}
use Rattle.ldm_places.specs.declared.shape.Shape.{Shape}
use Rattle.ldm_rules.proofs.GroupLaws.{not_broken}
use Rattle.ldm_label.proofs.PresentLaws.{label_at_image}
use Rattle.ldm_rules.proofs.SoundLaws.{copy_facts, sector_spot, plex_at, parts_at, sound_parts}
use Rattle.ldm_rules.specs.Disjoint.{HasLayout}
use Rattle.ldm_rules.specs.Ends.{data_size}
use Rattle.ldm_label.specs.Present.{sectors_by, has_guid, image_with, label_with}
use Rattle.ldm_rules.specs.Rules.{passes_end}
use Rattle.ldm_found.specs.Facts.{IsSoundGroup, LieOn}
use Rattle.std.proofs.lemmas.List.Sums.{position_or_len_is}
use Rattle.ldm_records.specs.declared.types.Record.{Record}
use Rattle.ldm_group.specs.Database.{IsSameCore}
use Rattle.ldm_host.specs.Seen.{image}
use Rattle.ldm_label.specs.declared.LabelFault.{LabelFault}
use Rattle.ldm_rules.specs.Facts.{AreApart}
use Rattle.ldm_found.specs.Opening.{IsGroupIn}
use Rattle.ldm_found.proofs.FoundLaws.{holds_group}
use Rattle.ldm_found.proofs.CopyLaws.{gather_at, gather_length}
use Rattle.ldm_dump.specs.Redundant.{without_place, IsComplete, IsRedundant}
use Rattle.std.specs.Int.Bits.{xor_assoc, xor_self, xor_zero_r}
use Rattle.std.proofs.lemmas.Nat.{xor_comm, mod_below}

-- ---- What is read of a run.

pub on_ok : {T E : Type 0} (r : Result T E) (P Q : Type 0) → OnOk r P → (P → Q) → OnOk r Q
on_ok (Ok x) P Q p f = f p
on_ok (Err e) P Q p f = tt

-- a copy that is read is there
pub copy_there : (found : Found) (l : Layout) (x c : ℕ) → Some c ≡ first_copy found l x → (c < copies_of l) × (is_here found (place_in l x c) ≡ true)
unfolding first_copy
copy_there found l x c is = (let all = found_in (λ copy. is_here found (place_in l x copy)) 0 (copies_of l) c (sym is) in (omega (arith, all.1), all.2))

-- a place is here exactly where it is a sector of an image
pub here_is : (found : Found) (p : Option Place) → is_here found p ≡ is_some (spot_at found p)
here_is found None = refl
here_is found (Some place) = elim (image_of place.disk found.db.records found.labels) as
    (λ o. is_some o ≡ is_some
    (option_map {U = Spot}
    (λ image. record { image = image; sector = data_start found.labels image + place.sector }) o))
    [ None ↦ refl | Some image ↦ refl ]

some_there : {A : Type 0} (o : Option A) → is_some o ≡ true → (x : A) × (o ≡ Some x)
some_there None h = absurd cc
some_there (Some x) h = (x, refl)

pub there_is : (found : Found) (p : Option Place) → is_here found p ≡ true → (s : Spot) × (spot_at found p ≡ Some s)
there_is found p here = some_there (spot_at found p) (sym (here_is found p) ∙ here)

pub here_spot : (found : Found) (place : Place) → is_here found (Some place) ≡ true → spot_of found place ≡ None → ⊥
here_spot found place here none =
    false≢true (ap is_some (sym none) ∙ sym (here_is found (Some place)) ∙ here)

-- ---- sources

pub kept_sources : (found : Found) (l : Layout) (x : ℕ) → is_lost found l x ≡ false → (spots : List Spot) × (sources_of found l x ≡ Some spots)
kept_sources found l x kept = go (sources_of found l x) refl kept
  where
    go : (o : Option (List Spot)) → sources_of found l x ≡ o → is_none o ≡ false → (spots : List Spot) × (sources_of found l x ≡ Some spots)
    go None is h = absurd cc
    go (Some spots) is h = (spots, is)

pub copy_sources : (found : Found) (l : Layout) (x c : ℕ) (s : Spot) → Some c ≡ first_copy found l x → copy_spot found l x c ≡ Some s → sources_of found l x ≡ Some (s ∷ [])
unfolding sources_of
copy_sources found l x c s is spot =
    let make : Option Spot → Option (List Spot) = λ o. Some (option_to_list o) in
    sym (ap (λ (o : Option ℕ). sources_by found l x o (can_rebuild found l x)) is) ∙ ap make spot

pub made_here : (found : Found) (l : Layout) (x : ℕ) → None ≡ first_copy found l x → is_lost found l x ≡ false → can_rebuild found l x ≡ true
made_here found l x is kept = not-false (can_rebuild found l x) (sym (none_lost found l x is) ∙ kept)

pub made_raid5 : (found : Found) (l : Layout) (x : ℕ) → None ≡ first_copy found l x → is_lost found l x ≡ false → l.shape ≡ Raid5
made_raid5 found l x is kept = rebuilds_raid5 found l x (made_here found l x is kept)

pub made_sources : (found : Found) (l : Layout) (x : ℕ) → None ≡ first_copy found l x → is_lost found l x ≡ false → sources_of found l x ≡ Some (other_spots found l x)
unfolding sources_of
made_sources found l x is kept =
    sym (ap (λ (o : Option ℕ). sources_by found l x o (can_rebuild found l x)) is)
    ∙ ap (λ (b : Bool). sources_by found l x None b) (made_here found l x is kept)

-- the bytes of these sources are those of the sources that there are
pub bytes_as : (images : List (List ℕ)) (found : Found) (l : Layout) (x : ℕ) (are spots : List Spot) (out : List ℕ) (n : ℕ) → sources_of found l x ≡ Some are → sources_of found l x ≡ Some spots
    → ((j : ℕ) → j < n → slice_index out j ≡ joined_byte images are j) → (j : ℕ) → j < n → slice_index out j ≡ joined_byte images spots j
bytes_as images found l x are spots out n is one bytes j lt = bytes j lt ∙ ap (λ (s : List Spot). joined_byte images s j) (some_same (sym is ∙ one))

pub spot_by : (found : Found) (place : Place) (image : ℕ) → image_of place.disk found.db.records found.labels ≡ Some image → spot_of found place ≡ Some (record { image = image; sector = data_start found.labels image + place.sector })
spot_by found place image is = ap (λ (o : Option ℕ). option_map {U = Spot} (λ image. record { image = image; sector = data_start found.labels image + place.sector }) o) is

pub other_is : (found : Found) (l : Layout) (x column : ℕ) → (column ≡ own_column l x → ⊥) → spot_at found (column_in l x column) ≡ other_spot found l x column
other_is found l x column apart = go (column == own_column l x) refl
  where
    go : (b : Bool) → (column == own_column l x) ≡ b → spot_at found (column_in l x column) ≡ (if b then None else spot_at found (column_in l x column))
    go true is = absurd (apart (eqb-true column (own_column l x) is))
    go false is = refl

-- ---- room

pub same_bytes : (sizes all : List ℕ) (s : Spot) (n m : ℕ) → all ≡ sizes → m ≡ n → HasBytes sizes s n → HasBytes all s m
same_bytes sizes all s n m same is has = subst (λ (l : List ℕ). HasBytes l s m) (sym same) (subst (λ (k : ℕ). HasBytes sizes s k) (sym is) has)

-- the bytes of a run of sectors from one on, each of which is on an image
pub run_bytes : (sizes : List ℕ) (f : ℕ → Option Spot) (x n size bytes : ℕ) (s : Spot) → ((y : ℕ) (t : Spot) → y < size → f y ≡ Some t → IsOn sizes t)
    → ((i : ℕ) → i < n → f (x + i) ≡ option_map (behind i) (f x)) → f x ≡ Some s → 0 < n → x + n ≤ size → bytes ≤ 512 * n → HasBytes sizes s bytes
run_bytes sizes f x n size bytes s on moves is some within few =
    let i = n - 1 in
    let last : f (x + i) ≡ Some (behind i s) = moves i (omega (arith, some)) ∙ ap (λ (o : Option Spot). option_map (behind i) o) is in
    let there = on (x + i) (behind i s) (omega (arith, some, within)) last in
    let low : s.sector + i < slice_index sizes s.image = there.sector in
    record { image = there.image; inside = omega (arith, low, few, some) }

-- ---- column by column

pub join_step : (images : List (List ℕ)) (f : ℕ → Option Spot) (column j old : ℕ) → old ≡ joined_byte images (filter_map f (range_with_len 0 column)) j
    → fold bit_xor old (map (byte_at images j) (option_to_list (f column))) ≡ joined_byte images (filter_map f (range_with_len 0 (column + 1))) j
join_step images f column j old is =
    let next : range_with_len 0 (column + 1) ≡ range_with_len 0 column ++ column ∷ [] = ap (λ (k : ℕ). range_with_len 0 k) (add-one column) ∙ range_more 0 column ∙ ap (λ (k : ℕ). range_with_len 0 column ++ k ∷ []) (let z : 0 + column ≡ column = omega arith in z) in
    ap (λ (b : ℕ). fold bit_xor b (map (byte_at images j) (option_to_list (f column)))) is
    ∙ (sym (joined_more images (filter_map f (range_with_len 0 column)) (option_to_list (f column)) j)
    ∙ sym (ap (λ (spots : List Spot). joined_byte images spots j) (ap (λ (r : List ℕ). filter_map f r) next ∙ made_more f (range_with_len 0 column) column)))

-- what is read of a spot, or nothing
pub list_of : (found : Found) (p : Option Place) (q : Place) (o : Option Spot) → p ≡ Some q → spot_of found q ≡ o → spot_at found p ≡ o
list_of found p q o is at = ap (λ (r : Option Place). spot_at found r) is ∙ at

-- ---- The sectors of a volume of a sound group lie on the images.

-- the label of the first image of a disk
pub record HasImage (found : Found) (disk image : ℕ) : Type 0 where
  pub label : Label
  pub there : slice_get found.labels image ≡ Some label
  pub within : image < length found.labels
  pub ends : data_size found.labels found.db.records disk ≡ label.data_size

pub has_image : (found : Found) (disk image : ℕ) → image_of disk found.db.records found.labels ≡ Some image → HasImage found disk image
has_image found disk image is = go (disk_in (by_id 2 disk found.db.records)) refl is
  where
    go : (o : Option Disk) → disk_in (by_id 2 disk found.db.records) ≡ o → option_and_then (λ (d : Disk). image_with d.guid found.labels) o ≡ Some image → HasImage found disk image
    go None e h = absurd cc
    go (Some d) e h =
        let some : Label = record { style = Style.Mbr; disk_guid = 0; minor = 0; data_start = 0; data_size = 0; config_start = 0; area_start = 0; area_sectors = 0; log_start = 0; log_sectors = 0 } in
        let lt = (position-Some (has_guid d.guid) found.labels image some h).0 in
        let label : Label = get_or found.labels image some in
        let at : slice_get found.labels image ≡ Some label = slice_get-get_or found.labels image some lt in
        record {
          label = label;
          there = at;
          within = lt;
          ends = ap (λ (o : Option Disk). sectors_by (option_and_then (λ (d : Disk). label_with d.guid found.labels) o)) e
              ∙ (ap sectors_by (label_at_image d.guid found.labels ∙ ap (λ (i : Option ℕ). option_and_then (λ (i : ℕ). slice_get found.labels i) i) h)
              ∙ ap sectors_by at);
        }

-- a sector within a partition of the group is on the image of its disk
pub spot_on : (found : Found) (on : List ℕ) (component : ℕ) (e : Extent) (o : ℕ) (s : Spot) → IsSoundGroup found → LieOn found.labels on → IsExtentOf found.db.records component e → o < e.size
    → spot_of found (place_at (e, o)) ≡ Some s → IsOn on s
spot_on found on component e o s sound lies part within is = go (image_of e.disk found.db.records found.labels) refl is
  where
    go : (i : Option ℕ) → image_of e.disk found.db.records found.labels ≡ i
        → option_map {U = Spot} (λ image. record { image = image; sector = data_start found.labels image + (e.start + o) }) i ≡ Some s → IsOn on s
    go None at h = absurd cc
    go (Some image) at h =
        let has = has_image found e.disk image at in
        let same : record { image = image; sector = data_start found.labels image + (e.start + o) } ≡ s = some_same h in
        let start : data_start found.labels image ≡ has.label.data_start = ap (λ (l : Option Label). unwrap_or (option_map (λ (l : Label). l.data_start) l) 0) has.there in
        let fits : Fits has.label (slice_index on image) = lies.fits image has.label has.there in
        let one : length found.labels ≡ length on = lies.one_label in
        let p = part.partition in
        let kept : passes_end (data_size found.labels found.db.records) (kinds.Partition p) ≡ false =
        not_broken (passes_end (data_size found.labels found.db.records)) found.db.records (kinds.Partition p) (sound_parts found.db.records found.labels sound.group.sound).ends part.there in
        let low : p.start + p.size ≤ data_size found.labels found.db.records p.disk = ltb-false (data_size found.labels found.db.records p.disk) (p.start + p.size) kept in
        let disk : data_size found.labels found.db.records p.disk ≡ has.label.data_size =
        ap (λ (f : Extent). data_size found.labels found.db.records f.disk) part.is ∙ has.ends in
        let begin : p.start ≡ e.start = ap (λ (f : Extent). f.start) part.is in
        let long : p.size ≡ e.size = ap (λ (f : Extent). f.size) part.is in
        let ends = fits.within in
        let there = has.within in
        let at_image : IsOn on (record { image = image; sector = data_start found.labels image + (e.start + o) }) = record {
          image = omega (arith, there, one);
          sector = omega (arith, start, low, disk, begin, long, ends, within);
        } in
        subst (λ (t : Spot). IsOn on t) same at_image

-- ---- a volume

module _ (found : Found) (on : List ℕ) (v : Volume) (l : Layout) (sound : IsSoundGroup found) (lies : LieOn found.labels on) (has : HasLayout found.db.records v l) where
  copies_on : (x copy : ℕ) (s : Spot) → x < l.size → copy < copies_of l → copy_spot found l x copy ≡ Some s → IsOn on s
  copies_on x copy s lt copied is =
      let facts = copy_facts found.db.records v l copy has copied in
      let size : l.size ≡ v.size = facts.size in
      let spot = (sector_spot found.db.records v l x copy (record { volume = has; within = omega (arith, lt, size); copied = copied })).inside in
      spot_on found on (plex_at found.db.records v copy).id spot.part spot.offset s sound lies spot.has spot.within
      (sym (ap (λ (p : Option (Extent × ℕ)). spot_at found (option_map place_at p)) spot.is) ∙ is)

  pub rows_lie_on : RowsLieOn found l on
  rows_lie_on x column s lt raid5 other =
      let copied : 0 < copies_of l = subst (λ (t : Shape). 0 < copies_by t (length l.plexes)) (sym raid5) (omega arith) in
      let facts = copy_facts found.db.records v l 0 has copied in
      let es = parts_at l 0 in
      let untiled : is_tiled l.shape ≡ false = ap is_tiled raid5 in
      let are : columns_of l ≡ es = ap (λ (b : Bool). if b then [] else get_or l.plexes 0 []) untiled in
      let many : 3 ≤ length es = subst (λ (t : Shape). fewest t ≤ length es) raid5 (facts.facts.columned untiled) in
      let room : l.size ≤ raid5_capacity (length es) l.chunk (least (sizes es)) = subst (λ (t : Shape). l.size ≤ plex_capacity t l.chunk es) raid5 facts.facts.holds in
      let inside = raid5_inside (length es) l.chunk (least (sizes es)) x (facts.facts.chunked untiled) (omega (arith, many)) (omega (arith, lt, room)) in
      let off = raid5_offset (length es) l.chunk x in
      let by : spot_at found (option_map place_at (column_spot es l.chunk x column)) ≡ Some s =
      sym (ap (λ (fs : List Extent). spot_at found (option_map place_at (column_spot fs l.chunk x column))) are) ∙ other in
      elim (cases_lt column (length es)) [
        | inl within ↦ (
            let e = get_or es column none in
            let least_low : least (sizes es) ≤ e.size = least_at (λ (f : Extent). f.size) es column none within in
            spot_on found on (plex_at found.db.records v 0).id e off s sound lies (facts.own column none within) (omega (arith, inside.2, least_low))
            (sym (ap (λ (g : Option Extent). spot_at found (option_map place_at (option_map {U = Extent × ℕ} (λ f. (f, off)) g))) (slice_get-get_or es column none within)) ∙ by))
        | inr past ↦ absurd (
            let nothing : slice_get es column ≡ None = slice_get_past es column past in
            let no : spot_at found None ≡ Some s = sym (ap (λ (g : Option Extent). spot_at found (option_map place_at (option_map {U = Extent × ℕ} (λ f. (f, off)) g))) nothing) ∙ by in
            cc)
      ]

  columns_on : (x column : ℕ) (s : Spot) → x < l.size → l.shape ≡ Raid5 → other_spot found l x column ≡ Some s → IsOn on s
  columns_on x column s lt raid5 is = rows_lie_on x column s lt raid5 (unless (column == own_column l x) (spot_at found (column_in l x column)) is)
    where
      unless : (b : Bool) (o : Option Spot) → (if b then None else o) ≡ Some s → o ≡ Some s
      unless true o h = absurd cc
      unless false o h = h

  pub volumes_lie_on : LiesOn found l on
  volumes_lie_on = record { copies = copies_on; columns = columns_on }

-- ---- A group on fewer images: each image that is left is that of the same disk.

-- where the element at a place stood before one was taken out
up : ℕ → ℕ → ℕ
up zero j = suc j
up (suc i) zero = zero
up (suc i) (suc j) = suc (up i j)

get_without : {A : Type 0} (i j : ℕ) (xs : List A) (d : A) → get_or (without_place i xs) j d ≡ get_or xs (up i j) d
unfolding up
get_without i j [] d = refl
get_without zero j (x ∷ xs) d = refl
get_without (suc i) zero (x ∷ xs) d = refl
get_without (suc i) (suc j) (x ∷ xs) d = get_without i j xs d

up_within : {A : Type 0} (i j : ℕ) (xs : List A) → j < length (without_place i xs) → up i j < length xs
unfolding up
up_within i j [] lt = absurd (omega arith)
up_within zero j (x ∷ xs) lt = omega arith
up_within (suc i) zero (x ∷ xs) lt = omega arith
up_within (suc i) (suc j) (x ∷ xs) lt = (let rest = up_within i j xs (omega arith) in omega arith)

some_label : Label
some_label = record { style = Style.Mbr; disk_guid = 0; minor = 0; data_start = 0; data_size = 0; config_start = 0; area_start = 0; area_sectors = 0; log_start = 0; log_sectors = 0 }

-- the image of a disk is the one that has its label
image_at : (labels : List Label) (k guid : ℕ) (label : Label) → slice_get labels k ≡ Some label → k < length labels → label.disk_guid ≡ guid → AreApart labels → image_with guid labels ≡ Some k
image_at labels k guid label is lt same apart =
    ap (λ (n : ℕ). cond (ltb n (length labels)) (Some n) None) at ∙ cond-true (ltb k (length labels)) (Some k) None (lt-ltb k (length labels) lt)
  where
    here : get_or labels k some_label ≡ label
    here = (let e : slice_get labels k ≡ Some (get_or labels k some_label) = slice_get-get_or labels k some_label lt in let both : Some (get_or labels k some_label) ≡ Some label = sym e ∙ is in cc)

    passes : has_guid guid (get_or labels k some_label) ≡ true
    passes = eq-eqb (get_or labels k some_label).disk_guid guid (ap (λ (l : Label). l.disk_guid) here ∙ same)

    fails : (j : ℕ) → j < k → has_guid guid (get_or labels j some_label) ≡ false
    fails j less = false_from_ne_true (has_guid guid (get_or labels j some_label)) (λ e. apart j k (record {
      order = less;
      first = get_or labels j some_label;
      first_is = slice_get-get_or labels j some_label (omega (arith, less, lt));
      second = label;
      second_is = is;
      same = eqb-true (get_or labels j some_label).disk_guid guid e ∙ sym same;
    }))

    at : position_or_len (has_guid guid) labels ≡ k
    at = position_or_len_is (has_guid guid) labels k some_label (omega (arith, lt)) fails (λ _. passes)

-- the image of a disk that is left, and the one that it was
pub record IsLeft (found fewer : Found) (images : List (List ℕ)) (i disk j : ℕ) : Type 0 where
  pub place : ℕ
  pub there : image_of disk found.db.records found.labels ≡ Some place
  pub same : image (without_place i images) j ≡ image images place
  pub start : data_start fewer.labels j ≡ data_start found.labels place

ok_same : {a b : Label} {r : Result Label LabelFault} → r ≡ Ok a → r ≡ Ok b → a ≡ b
ok_same h e = cc

pub left_image : (images : List (List ℕ)) (i : ℕ) (found fewer : Found) (disk j : ℕ) → IsGroupIn images (Ok found) → IsGroupIn (without_place i images) (Ok fewer) → IsSameCore found.db fewer.db
    → image_of disk fewer.db.records fewer.labels ≡ Some j → IsLeft found fewer images i disk j
left_image images i found fewer disk j is less core at = go (disk_in (by_id 2 disk fewer.db.records)) refl at
  where
    records : fewer.db.records ≡ found.db.records
    records = sym (ap (λ c. c.records) core)

    go : (o : Option Disk) → disk_in (by_id 2 disk fewer.db.records) ≡ o → option_and_then (λ (d : Disk). image_with d.guid fewer.labels) o ≡ Some j → IsLeft found fewer images i disk j
    go None e h = absurd cc
    go (Some d) e h =
        let all = holds_group images found is in
        let some = holds_group (without_place i images) fewer less in
        let first = position-Some (has_guid d.guid) fewer.labels j some_label h in
        let label = get_or fewer.labels j some_label in
        let guid : label.disk_guid ≡ d.guid = eqb-true label.disk_guid d.guid first.1 in
        let read = gather_at IsLabelOf (without_place i images) fewer.labels j [] label some.labels_are (slice_get-get_or fewer.labels j some_label first.0) in
        let count : length fewer.labels ≡ length (without_place i images) = gather_length IsLabelOf (without_place i images) fewer.labels some.labels_are in
        let many : length found.labels ≡ length images = gather_length IsLabelOf images found.labels all.labels_are in
        let k = up i j in
        let within : k < length images = up_within i j images (subst (λ (n : ℕ). j < n) count first.0) in
        let lt : k < length found.labels = subst (λ (n : ℕ). k < n) (sym many) within in
        let was = get_or found.labels k some_label in
        let there : slice_get found.labels k ≡ Some was = slice_get-get_or found.labels k some_label lt in
        let read_was = gather_at IsLabelOf images found.labels k [] was all.labels_are there in
        let image_same : get_or (without_place i images) j [] ≡ get_or images k [] = get_without i j images [] in
        let one : was ≡ label = ok_same read_was (subst (λ (c : List ℕ). IsLabelOf c (Ok label)) image_same read) in
        let found_at : image_with d.guid found.labels ≡ Some k = image_at found.labels k d.guid was there lt (ap (λ (l : Label). l.disk_guid) one ∙ guid) all.apart in
        record {
          place = k;
          there = ap (λ (rs : List Record). option_and_then (λ (d : Disk). image_with d.guid found.labels) (disk_in (by_id 2 disk rs))) (sym records)
              ∙ (ap (λ (o : Option Disk). option_and_then (λ (d : Disk). image_with d.guid found.labels) o) e ∙ found_at);
          same = image_same;
          start = ap (λ (o : Option Label). unwrap_or (option_map (λ (l : Label). l.data_start) o) 0) (slice_get-get_or fewer.labels j some_label first.0)
              ∙ (ap (λ (l : Label). l.data_start) (sym one)
              ∙ sym (ap (λ (o : Option Label). unwrap_or (option_map (λ (l : Label). l.data_start) o) 0) there));
        }

-- ---- A redundant volume reads the same without an image.

-- ---- exclusive-or

-- what is joined first may be joined last
pull : (acc b : ℕ) (xs : List ℕ) → fold bit_xor (bit_xor acc b) xs ≡ bit_xor (fold bit_xor acc xs) b
pull acc b [] = refl
pull acc b (x ∷ xs) =
    ap (λ (n : ℕ). fold bit_xor n xs) (xor_assoc acc b x ∙ (ap (λ (n : ℕ). bit_xor acc n) (xor_comm b x) ∙ sym (xor_assoc acc x b)))
    ∙ pull (bit_xor acc x) b xs

same_from : (a b : ℕ) → bit_xor a b ≡ 0 → a ≡ b
same_from a b is = sym (xor_zero_r a) ∙ (ap (λ (n : ℕ). bit_xor a n) (sym (xor_self b)) ∙ (sym (xor_assoc a b b) ∙ ap (λ (n : ℕ). bit_xor n b) is))

-- all numbers of a range, and all but one
split : (v w : ℕ → ℕ) (own a n acc : ℕ) → a ≤ own → own < a + n → w own ≡ 0 → ((c : ℕ) → (c ≡ own → ⊥) → v c ≡ w c)
    → fold bit_xor acc (map v (range_with_len a n)) ≡ bit_xor (fold bit_xor acc (map w (range_with_len a n))) (v own)
split v w own a zero acc low lt none same = absurd (omega arith)
split v w own a (suc n) acc low lt none same = elim (cases_lt a own) [
  | inl less ↦ (
      let here : v a ≡ w a = same a (λ e. omega (arith, e, less)) in
      ap (λ (b : ℕ). fold bit_xor (bit_xor acc b) (map v (range_with_len (a + 1) n))) here
      ∙ split v w own (a + 1) n (bit_xor acc (w a)) (omega arith) (omega arith) none same)
  | inr ge ↦ (
      let e : a ≡ own = omega arith in
      let rest : map v (range_with_len (a + 1) n) ≡ map w (range_with_len (a + 1) n) = map_same_in v w (a + 1) n (λ c more _. same c (λ is. omega (arith, is, more, e))) in
      let zero_there : w a ≡ 0 = ap w e ∙ none in
      ap (λ (b : ℕ). fold bit_xor (bit_xor acc b) (map v (range_with_len (a + 1) n))) (ap v e)
      ∙ (ap (λ (l : List ℕ). fold bit_xor (bit_xor acc (v own)) l) rest
      ∙ (pull acc (v own) (map w (range_with_len (a + 1) n))
      ∙ ap (λ (b : ℕ). bit_xor (fold bit_xor b (map w (range_with_len (a + 1) n))) (v own)) (sym (xor_zero_r acc) ∙ ap (λ (b : ℕ). bit_xor acc b) (sym zero_there)))))
]

-- ---- the bytes of some sectors, number by number

abbrev byte_of : List (List ℕ) → ℕ → Option Spot → ℕ
byte_of images j None = 0
byte_of images j (Some s) = byte_at images j s

one_byte : (images : List (List ℕ)) (j : ℕ) (o : Option Spot) → joined_byte images (option_to_list o) j ≡ byte_of images j o
one_byte images j None = refl
one_byte images j (Some s) = refl

bytes_by : (images : List (List ℕ)) (j : ℕ) (f : ℕ → Option Spot) (acc : ℕ) (xs : List ℕ)
    → fold bit_xor acc (map (byte_at images j) (filter_map f xs)) ≡ fold bit_xor acc (map (λ c. byte_of images j (f c)) xs)
bytes_by images j f acc [] = refl
bytes_by images j f acc (x ∷ xs) = go (f x) (λ n. bytes_by images j f n xs)
  where
    go : (o : Option Spot) → ((n : ℕ) → fold bit_xor n (map (byte_at images j) (filter_map f xs)) ≡ fold bit_xor n (map (λ c. byte_of images j (f c)) xs))
        → fold bit_xor acc (map (byte_at images j) (cons_option o (filter_map f xs))) ≡ fold bit_xor (bit_xor acc (byte_of images j o)) (map (λ c. byte_of images j (f c)) xs)
    go None rest = ap (λ (n : ℕ). fold bit_xor n (map (byte_at images j) (filter_map f xs))) (sym (xor_zero_r acc)) ∙ rest (bit_xor acc 0)
    go (Some s) rest = rest (bit_xor acc (byte_at images j s))

-- ---- a group on fewer images

module _ (images : List (List ℕ)) (i : ℕ) (found fewer : Found) (is : IsGroupIn images (Ok found)) (less : IsGroupIn (without_place i images) (Ok fewer)) (core : IsSameCore found.db fewer.db) where
  abbrev some : List (List ℕ)
  some = without_place i images

  -- a place that is there without the image reads the same
  place_same : (p : Option Place) (j : ℕ) → is_here fewer p ≡ true → byte_of some j (spot_at fewer p) ≡ byte_of images j (spot_at found p)
  place_same None j here = absurd cc
  place_same (Some place) j here = go (image_of place.disk fewer.db.records fewer.labels) refl here
    where
      go : (o : Option ℕ) → image_of place.disk fewer.db.records fewer.labels ≡ o → is_some o ≡ true
          → byte_of some j (option_map {U = Spot} (λ image. record { image = image; sector = data_start fewer.labels image + place.sector }) o) ≡ byte_of images j (spot_of found place)
      go None e h = absurd cc
      go (Some k) e h =
          let left = left_image images i found fewer place.disk k is less core e in
          ap (λ (c : List ℕ). slice_index c (512 * (data_start fewer.labels k + place.sector) + j)) left.same
          ∙ (ap (λ (n : ℕ). slice_index (image images left.place) (512 * (n + place.sector) + j)) left.start
          ∙ sym (ap (λ (o : Option ℕ). byte_of images j (option_map {U = Spot} (λ image. record { image = image; sector = data_start found.labels image + place.sector }) o)) left.there))

  module _ (l : Layout) (columned : l.shape ≡ Raid5 → IsColumned l) (whole : IsComplete found l) (redundant : IsRedundant images found l) (x : ℕ) (within : x < l.size) (kept : is_lost fewer l x ≡ false) where
    -- on all images a sector is read from its first copy
    first_found : 0 < copies_of l → Some 0 ≡ first_copy found l x
    unfolding first_copy
    first_found lt = sym (find_first (λ copy. is_here found (place_in l x copy)) 0 (copies_of l) 0 (omega arith) (omega (arith, lt)) (λ d _ low. absurd (omega (arith, low))) (whole.copies x 0 within lt))

    -- two lists of sectors with the same bytes make the same sector
    sectors_same : (a b : List Spot) → sources_of fewer l x ≡ Some a → sources_of found l x ≡ Some b → ((j : ℕ) → j < 512 → joined_byte some a j ≡ joined_byte images b j)
        → sector_of some fewer l x ≡ sector_of images found l x
    unfolding sector_of
    sectors_same a b at_a at_b same =
        ap (λ (o : Option (List Spot)). option_map (joined_sector some) o) at_a
        ∙ (ap (λ (s : List ℕ). Some s) (map_same_in (joined_byte some a) (joined_byte images b) 0 512 (λ c _ lt. same c (omega (arith, lt))))
        ∙ sym (ap (λ (o : Option (List Spot)). option_map (joined_sector images) o) at_b))

    by_copy : (c : ℕ) → Some c ≡ first_copy fewer l x → sector_of some fewer l x ≡ sector_of images found l x
    by_copy c first =
        let there = copy_there fewer l x c first in
        let lt : 0 < copies_of l = omega (arith, there.0) in
        let a = there_is fewer (place_in l x c) there.1 in
        let b = there_is found (place_in l x 0) (whole.copies x 0 within lt) in
        sectors_same (a.0 ∷ []) (b.0 ∷ []) (copy_sources fewer l x c a.0 first a.1) (copy_sources found l x 0 b.0 (first_found lt) b.1)
        (λ j low.
        sym (ap (λ (o : Option Spot). byte_of some j o) a.1)
        ∙ (place_same (place_in l x c) j there.1
        ∙ (sym (one_byte images j (copy_spot found l x c))
        ∙ (redundant.copies x c 0 j within there.0 lt low
        ∙ (one_byte images j (copy_spot found l x 0) ∙ ap (λ (o : Option Spot). byte_of images j o) b.1)))))

    by_row : None ≡ first_copy fewer l x → sector_of some fewer l x ≡ sector_of images found l x
    by_row first =
        let raid5 = made_raid5 fewer l x first kept in
        let has = columned raid5 in
        let k = length (columns_of l) in
        let own = own_column l x in
        let lt : 0 < copies_of l = subst (λ (s : Shape). 0 < copies_by s (length l.plexes)) (sym raid5) (omega arith) in
        let own_there : own < k = mod_below _ k (omega (arith, has.many)) in
        let b = there_is found (place_in l x 0) (whole.copies x 0 within lt) in
        let own_place : place_in l x 0 ≡ column_in l x own =
        place_by l 0 x (columns_of l) has.first ∙ ap (λ (s : Shape). option_map place_sector (plex_spot s l.chunk (columns_of l) x)) raid5 in
        sectors_same (other_spots fewer l x) (b.0 ∷ []) (made_sources fewer l x first kept) (copy_sources found l x 0 b.0 (first_found lt) b.1)
        (λ j low.
        let v : ℕ → ℕ = λ c. byte_of images j (spot_at found (column_in l x c)) in
        let w : ℕ → ℕ = λ c. byte_of images j (other_spot found l x c) in
        let all : fold bit_xor 0 (map v (range_with_len 0 k)) ≡ 0 = sym (bytes_by images j (λ c. spot_at found (column_in l x c)) 0 (range_with_len 0 k)) ∙ redundant.rows x j within raid5 low in
        let parts = split v w own 0 k 0 (omega arith) (omega (arith, own_there)) (own_none j) (λ c apart. other_same c j apart) in
        let joined : fold bit_xor 0 (map w (range_with_len 0 k)) ≡ v own = same_from (fold bit_xor 0 (map w (range_with_len 0 k))) (v own) (sym parts ∙ all) in
        bytes_by some j (other_spot fewer l x) 0 (range_with_len 0 k)
        ∙ (ap (λ (xs : List ℕ). fold bit_xor 0 xs) (map_same_in (λ c. byte_of some j (other_spot fewer l x c)) w 0 k (λ c _ there. column_same c j (omega (arith, there))))
        ∙ (joined ∙ (ap (λ (p : Option Place). byte_of images j (spot_at found p)) (sym own_place) ∙ ap (λ (o : Option Spot). byte_of images j o) b.1))))
      where
        own_none : (j : ℕ) → byte_of images j (other_spot found l x (own_column l x)) ≡ 0
        own_none j = ap (λ (t : Bool). byte_of images j (if t then None else spot_at found (column_in l x (own_column l x)))) (eq-eqb (own_column l x) (own_column l x) refl)

        other_same : (c j : ℕ) → (c ≡ own_column l x → ⊥) → byte_of images j (spot_at found (column_in l x c)) ≡ byte_of images j (other_spot found l x c)
        other_same c j apart = ap (λ (o : Option Spot). byte_of images j o) (other_is found l x c apart)

        column_same : (c j : ℕ) → c < length (columns_of l) → byte_of some j (other_spot fewer l x c) ≡ byte_of images j (other_spot found l x c)
        column_same c j there = go (c == own_column l x) refl
          where
            go : (t : Bool) → (c == own_column l x) ≡ t → byte_of some j (if t then None else spot_at fewer (column_in l x c)) ≡ byte_of images j (if t then None else spot_at found (column_in l x c))
            go true e = refl
            go false e = place_same (column_in l x c) j (others_here fewer l x c (made_here fewer l x first kept) there (λ same. (let t : (c == own_column l x) ≡ true = eq-eqb c (own_column l x) same in absurd cc)))

    pub reads_same : sector_of some fewer l x ≡ sector_of images found l x
    reads_same = go (first_copy fewer l x) refl
      where
        go : (o : Option ℕ) → first_copy fewer l x ≡ o → sector_of some fewer l x ≡ sector_of images found l x
        go None e = by_row (sym e)
        go (Some c) e = by_copy c (sym e)
