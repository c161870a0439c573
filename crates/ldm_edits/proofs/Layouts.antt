-- New partitions as a layout reads them, and the layouts of spans, stripes, mirrors and RAID-5.
use Rattle.std.proofs.Common.{◌≡◌, ℕ, ◌+◌, ◌≤◌, ◌==◌, List, [], ◌∷◌, length, map, refl, sym, ap, ◌∙◌, arith, true, leb, ◌*◌, ◌<◌, ◌^◌, Some, None, Option, sum, Ok, ◌≢◌, ◌-◌, ◌%◌, ◌/◌, false, get_or, sum_by, unwrap_or, eq-eqb, le-leb}
use Rattle.ldm_edits.proofs.Common.{Partition, Extent, extent_of, by_offset, plexes_of, extents_of, plex_of, held_in, least, Taken, taken_of, Record, new_partition, span_parts, there, Volume, Plex, Span, Stripe, Mirror, Raid5, Layout, Shape, layout_of, shape_of}
use Rattle.std.specs.List.{All, cons_option, Contains, list_all}
use Rattle.std.proofs.lemmas.List.Sums.{sum-map}
use Rattle.std.proofs.lemmas.List.Elements.{All-cons, All-nil, All-tail, All-contains, All-map, Contains-get_or}
use Rattle.std.proofs.lemmas.Bool.{and_from}
use Rattle.std.proofs.lemmas.Grind.{common_steps}
use Rattle.ldm_places.specs.Extents.{tiles, tiles_from, rises_from}
use Rattle.std.proofs.lemmas.List.{length-map}
use Rattle.ldm_records.specs.declared.types.Record.TheVariants as kinds
use Rattle.ldm_made.proofs.MadeLaws.{MakesPartition, makes_partition}
use Rattle.ldm_made.specs.Volumes.{column_parts}
use Rattle.ldm_edits.proofs.AskedLaws.{IsTaken, AllSized}
use Rattle.ldm_group.proofs.ListLaws.{map_there, map_map, moved, map_same, all_pass}
use Rattle.ldm_rules.proofs.RemadeLaws.{Share}
use Rattle.ldm_places.specs.Layouts.{is_tiled, fewest, plex_capacity}
use Rattle.ldm_layout.specs.Volumes.{is_basic}
use Rattle.ldm_layout.proofs.VolumeLaws.{by_offset_more}
use Rattle.ldm_layout.proofs.SortLaws.{AtLeast, Climbs}
use Rattle.ldm_group.proofs.AddedLaws.{IdsFrom}
use Rattle.ldm_layout.proofs.HeldLaws.{copies_in, tiled_laid, least_one, whole_chunks, columned_laid}

-- ---- The partitions that take given sectors, as a layout reads them: tiles one after the other, or columns side by side.

-- at an offset, with an index
abbrev pub extent_at : (component offset index : ℕ) → Taken → Extent
extent_at component offset index t =
    record { component = component; disk = t.disk; start = t.start; size = t.size; offset = offset; index = index }

-- one after the other, from an offset on
abbrev pub tile_extents : ℕ → ℕ → List Taken → List Extent
tile_extents component at [] = []
tile_extents component at (t ∷ more) = extent_at component at 0 t ∷ tile_extents component (at + t.size) more

-- side by side, from an index on
abbrev pub column_extents : ℕ → ℕ → List Taken → List Extent
column_extents component index [] = []
column_extents component index (t ∷ more) = extent_at component 0 index t ∷ column_extents component (index + 1) more

-- ---- tiles

pub tiles_on : (c at : ℕ) (ts : List Taken) → tiles_from at (tile_extents c at ts) ≡ true
tiles_on c at [] = refl
tiles_on c at (t ∷ ts) = and_from (at == at) _ (eq-eqb at at refl) (tiles_on c (at + t.size) ts)

pub tiles_whole : (c : ℕ) (ts : List Taken) → 1 ≤ length ts → tiles (tile_extents c 0 ts) ≡ true
tiles_whole c [] some = absurd (omega arith)
tiles_whole c (t ∷ ts) some = tiles_on c 0 (t ∷ ts)

-- ---- columns

pub columns_rise : (c i : ℕ) (ts : List Taken) → rises_from i (column_extents c i ts) ≡ true
columns_rise c i [] = refl
columns_rise c i (t ∷ ts) = and_from (leb i i) _ (le-leb i i (omega arith)) (columns_rise c (i + 1) ts)

-- ---- what they take

-- the sectors of a partition, as a layout reads it
abbrev pub sectors_of : Extent → Taken
sectors_of e = record { disk = e.disk; start = e.start; size = e.size }

-- these are partitions of the component that take these sectors
pub record AreExtentsOf (component : ℕ) (extents : List Extent) (taken : List Taken) : Type 0 where
  pub own : All (λ e. e.component ≡ component) extents
  pub taken_are : map sectors_of extents ≡ taken

one_extent : (c : ℕ) (e : Extent) (es : List Extent) (ts : List Taken) → e.component ≡ c → AreExtentsOf c es ts → AreExtentsOf c (e ∷ es) (sectors_of e ∷ ts)
one_extent c e es ts own rest = record { own = All-cons (λ (x : Extent). x.component ≡ c) e es own rest.own; taken_are = ap (λ (l : List Taken). sectors_of e ∷ l) rest.taken_are }

pub tiles_of : (c at : ℕ) (ts : List Taken) → AreExtentsOf c (tile_extents c at ts) ts
tiles_of c at [] = record { own = All-nil (λ (e : Extent). e.component ≡ c); taken_are = refl }
tiles_of c at (t ∷ ts) = one_extent c (extent_at c at 0 t) _ ts refl (tiles_of c (at + t.size) ts)

pub columns_of : (c i : ℕ) (ts : List Taken) → AreExtentsOf c (column_extents c i ts) ts
columns_of c i [] = record { own = All-nil (λ (e : Extent). e.component ≡ c); taken_are = refl }
columns_of c i (t ∷ ts) = one_extent c (extent_at c 0 i t) _ ts refl (columns_of c (i + 1) ts)

-- they are as many, of the same sizes
module _ {c : ℕ} {extents : List Extent} {taken : List Taken} (are : AreExtentsOf c extents taken) where
  pub extents_count : length extents ≡ length taken
  extents_count = sym (length-map extents sectors_of) ∙ ap (λ (l : List Taken). length l) are.taken_are

  pub extent_sizes : map (λ (e : Extent). e.size) extents ≡ map (λ (t : Taken). t.size) taken
  extent_sizes = sym (map_map (λ (t : Taken). t.size) sectors_of extents) ∙ ap (map (λ (t : Taken). t.size)) are.taken_are

pub tiles_sum : (c at : ℕ) (ts : List Taken)
    → sum_by (λ (e : Extent). e.size) (tile_extents c at ts) ≡ sum_by (λ (t : Taken). t.size) ts
tiles_sum c at ts = sym (sum-map (λ (e : Extent). e.size) (tile_extents c at ts))
    ∙ ap sum (extent_sizes (tiles_of c at ts)) ∙ sum-map (λ (t : Taken). t.size) ts

-- partitions that a layout reads as these extents take what these do
pub parts_taken : (c : ℕ) (extents : List Extent) (ts : List Taken) (parts : List Partition) → AreExtentsOf c extents ts → map extent_of parts ≡ extents → map taken_of parts ≡ ts
parts_taken c extents ts parts are read = sym (map_map sectors_of extent_of parts) ∙ ap (map sectors_of) read ∙ are.taken_are

-- partitions that a layout reads as these extents are the component's
pub parts_own : (c : ℕ) (extents : List Extent) (ts : List Taken) (parts : List Partition) → AreExtentsOf c extents ts → map extent_of parts ≡ extents → (p : Partition) → Contains parts p → p.parent ≡ c
parts_own c extents ts parts are read p at =
    All-contains (λ (e : Extent). e.component ≡ c) extents (extent_of p) are.own
    (moved read (extent_of p) (map_there extent_of parts p at))

-- ---- The partitions that are made: records with ids one after the other, which a layout reads as they are placed.

-- what is taken says numbers of the format
abbrev pub IsNumbered : Taken → Type 0
IsNumbered t = (t.disk < 2 ^ 64) × (t.size < 2 ^ 64)

abbrev pub AreNumbers : List Taken → Type 0
AreNumbers taken = All IsNumbered taken

pub are_numbers : (records : List Record) (ts : List Taken) → All (IsTaken records) ts
    → AreNumbers ts
are_numbers records ts each k d lt = ((each k d lt).low, (each k d lt).small)

-- partitions are made that are these extents
pub record MakesParts (id : ℕ) (made : List (Option Record)) (extents : List Extent) : Type 0 where
  pub parts : List Partition
  pub made_are : there made ≡ map (λ p. kinds.Partition p) parts
  pub extents_are : map extent_of parts ≡ extents
  pub ids : IdsFrom id parts

abbrev pub no_parts : (id : ℕ) → MakesParts id [] []
no_parts id = record { parts = []; made_are = refl; extents_are = refl; ids = tt }

-- one partition more
abbrev pub one_more : {id start offset size component disk : ℕ} {index : Option ℕ} {made : List (Option Record)}
    {extents : List Extent} → MakesPartition id start offset size component disk index → MakesParts (id + 1) made extents
    → MakesParts id (new_partition id start offset size component disk index ∷ made)
    (extent_at component offset (unwrap_or index 0) (record { disk = disk; start = start; size = size }) ∷ extents)
one_more one rest = record {
  parts = one.partition ∷ rest.parts;
  made_are = λ i. cons_option (one.made i) (rest.made_are i);
  extents_are = λ i. extent_at (one.parent_is i) (one.offset_is i) (unwrap_or (one.index_is i) 0)
      (record { disk = one.disk_is i; start = one.start_is i; size = one.size_is i }) ∷ rest.extents_are i;
  ids = (one.id_is, rest.ids);
}

pub makes_span_parts : (id component at : ℕ) (ts : List Taken) → id + length ts ≤ 2 ^ 64 → component < 2 ^ 64 → AreNumbers ts → MakesParts id (span_parts id component at ts) (tile_extents component at ts)
makes_span_parts id component at [] few c fits = no_parts id
makes_span_parts id component at (t ∷ ts) few c fits =
    let here = fits 0 t (omega arith) in
    one_more (makes_partition id t.start at t.size component t.disk None (omega arith) here.1 c here.0 (omega arith))
    (makes_span_parts (id + 1) component (at + t.size) ts (omega arith) c (All-tail IsNumbered t ts fits))

pub makes_column_parts : (id component index : ℕ) (ts : List Taken) → id + length ts ≤ 2 ^ 64 → index ≤ id → component < 2 ^ 64 → AreNumbers ts
    → MakesParts id (column_parts id component index ts) (column_extents component index ts)
makes_column_parts id component index [] few low c fits = no_parts id
makes_column_parts id component index (t ∷ ts) few low c fits =
    let here = fits 0 t (omega arith) in
    one_more (makes_partition id t.start 0 t.size component t.disk (Some index) (omega arith) here.1 c here.0 (omega arith))
    (makes_column_parts (id + 1) component (index + 1) ts (omega arith) (omega arith) c (All-tail IsNumbered t ts fits))

-- ---- New volumes are laid out as they are made.

columns_low : (c i k : ℕ) (ts : List Taken) → k ≤ i → AtLeast (λ e. e.index) k (column_extents c i ts)
columns_low c i k [] low = tt
columns_low c i k (t ∷ ts) low = (low, columns_low c (i + 1) k ts (omega arith))

columns_climb : (c i : ℕ) (ts : List Taken) → Climbs (λ e. e.index) (column_extents c i ts)
columns_climb c i [] = tt
columns_climb c i (t ∷ ts) = (columns_low c (i + 1) i ts (omega arith), columns_climb c (i + 1) ts)

-- ---- layouts without a fault

-- a span of pieces one after the other
pub span_layout : (records : List Record) (v : Volume) (c : ℕ) (ts : List Taken)
    → plexes_of v.head.id records ≡ record { volume = v.head.id; id = c; layout = 2; striping = None } ∷ [] → extents_of c records ≡ tile_extents c 0 ts
    → 1 ≤ length ts → v.size ≡ sum_by (λ t. t.size) ts → (l : Layout) × (layout_of records v ≡ Ok l)
span_layout records v c ts plexes extents some size =
    let sorted = ap by_offset extents ∙ by_offset_more [] (tile_extents c 0 ts) (tiles_on c 0 ts) in
    tiled_laid records v (record { volume = v.head.id; id = c; layout = 2; striping = None } ∷ []) Span plexes refl refl
    (rw (sorted, tiles_whole c ts some)) (rw sorted (omega (arith, tiles_sum c 0 ts)))

-- a component of columns
abbrev column_plex : (volume id layout chunk columns : ℕ) → Plex
column_plex volume id layout chunk columns =
    record { volume = volume; id = id; layout = layout; striping = Some (record { chunk = chunk; columns = columns }) }

-- columns of one size that chunks fill, of which so many hold the volume
columns_laid : (records : List Record) (v : Volume) (c u len : ℕ) (ts : List Taken) (s : Shape) (layout : ℕ) (many : ℕ → ℕ)
    → is_tiled s ≡ false → 1 ≤ fewest s
    → ((es : List Extent) → plex_capacity s u es ≡ many (length es) * u * (least (map (λ e. e.size) es) / u))
    → shape_of (column_plex v.head.id c layout u (length ts) ∷ []) ≡ Some s
    → plexes_of v.head.id records ≡ column_plex v.head.id c layout u (length ts) ∷ []
    → extents_of c records ≡ column_extents c 0 ts → fewest s ≤ length ts → AllSized len ts → u ≢ 0 → len % u ≡ 0
    → v.size ≡ many (length ts) * len → (l : Layout) × (layout_of records v ≡ Ok l)
columns_laid records v c u len ts s layout many untiled some capacity shape plexes extents enough same chunked whole size =
    let are = columns_of c 0 ts in
    let sizes = All-map (λ n. n ≡ len) (λ (t : Taken). t.size) ts same in
    let least_is : least (map (λ (e : Extent). e.size) (column_extents c 0 ts)) ≡ len =
    rw (extent_sizes are) (least_one _ len (omega (arith, length-map ts (λ (t : Taken). t.size))) sizes) in
    columned_laid records v s c u layout (length ts) (column_extents c 0 ts) untiled plexes shape extents (extents_count are)
    (columns_rise c 0 ts) (columns_climb c 0 ts) enough chunked
    (rw (capacity (column_extents c 0 ts), extents_count are, least_is)
    (omega (arith, whole_chunks (many (length ts)) u len chunked whole)))

-- a stripe of equal columns
pub stripe_layout : (records : List Record) (v : Volume) (c u len : ℕ) (ts : List Taken)
    → plexes_of v.head.id records ≡ column_plex v.head.id c 1 u (length ts) ∷ [] → extents_of c records ≡ column_extents c 0 ts
    → 2 ≤ length ts → AllSized len ts → u ≢ 0 → len % u ≡ 0 → v.size ≡ length ts * len → (l : Layout) × (layout_of records v ≡ Ok l)
stripe_layout records v c u len ts = columns_laid records v c u len ts Stripe 1 (λ n. n) refl (omega arith) (λ es. refl) refl

-- RAID-5 of equal columns
pub raid5_layout : (records : List Record) (v : Volume) (c u len : ℕ) (ts : List Taken)
    → plexes_of v.head.id records ≡ column_plex v.head.id c 3 u (length ts) ∷ [] → extents_of c records ≡ column_extents c 0 ts
    → 3 ≤ length ts → AllSized len ts → u ≢ 0 → len % u ≡ 0 → v.size ≡ (length ts - 1) * len → (l : Layout) × (layout_of records v ≡ Ok l)
raid5_layout records v c u len ts = columns_laid records v c u len ts Raid5 3 (λ n. n - 1) refl (omega arith) (λ es. refl) refl

-- ---- mirrors

-- a component of a mirror, whose partitions hold so many sectors, from the first on
pub record IsCopy (len : ℕ) (s : Share) : Type 0 where
  pub basic : is_basic (plex_of s.d) ≡ true
  pub sorted : by_offset (map extent_of s.parts) ≡ map extent_of s.parts
  pub tiled : tiles (map extent_of s.parts) ≡ true
  pub holds : held_in (map extent_of s.parts) ≡ len

mirror_shape : (ss : List Share) → 2 ≤ length ss → list_all is_basic (map (λ (s : Share). plex_of s.d) ss) ≡ true → shape_of (map (λ (s : Share). plex_of s.d) ss) ≡ Some Mirror
mirror_shape ss many basic = grind (arith, common_steps)

-- a mirror of equal copies
pub mirror_layout : (records : List Record) (v : Volume) (len : ℕ) (ss : List Share) → plexes_of v.head.id records ≡ map (λ (s : Share). plex_of s.d) ss
    → ((s : Share) → Contains ss s → extents_of s.d.head.id records ≡ map extent_of s.parts) → ((s : Share) → Contains ss s → IsCopy len s) → 2 ≤ length ss → v.size ≡ len → (l : Layout) × (layout_of records v ≡ Ok l)
mirror_layout records v len ss plexes read each many size =
    let ps : List Plex = map (λ (s : Share). plex_of s.d) ss in
    let parts : Share → List Extent = λ s. map extent_of s.parts in
    let copies : copies_in records ps ≡ map parts ss = map_map (λ (p : Plex). by_offset (extents_of p.id records)) _ ss
    ∙ map_same _ parts ss (λ s at. ap by_offset (read s at) ∙ (each s at).sorted) in
    let sizes = All-map (λ n. n ≡ len) held_in (map parts ss) (All-map (λ es. held_in es ≡ len) parts ss (λ k d lt.
    (each (get_or ss k d) (Contains-get_or ss k d lt)).holds)) in
    let holds = least_one _ len (omega (arith, length-map (map parts ss) held_in, length-map ss parts)) sizes in
    let shape = mirror_shape ss many (all_pass is_basic (λ (s : Share). plex_of s.d) ss (λ s at. (each s at).basic)) in
    tiled_laid records v ps Mirror plexes shape refl
    (rw copies (all_pass tiles parts ss (λ s at. (each s at).tiled))) (rw (copies, holds) (omega arith))
