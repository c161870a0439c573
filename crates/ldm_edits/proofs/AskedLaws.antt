-- What a command asks of the disks that its words name, and where it is placed.
use Rattle.std.proofs.Common.{◌≡◌, ℕ, ◌+◌, ◌<◌, ◌==◌, false, List, length, get_or, drop, ap, ◌∙◌, arith, zero-add, ◌^◌, ◌≤◌, [], ◌∷◌, ◌++◌, map, refl, sym, Option, Some, None, Result, Ok, Err, sum, ◌-◌, Bor, append-nil, sum_by, is_some, option_copied, ltb-false}
use Rattle.ldm_edits.proofs.Common.{Wanted, Record, max_id, Taken, AllEndWithin, AreDisjoint, Piece, NewLayout, Label, Database, data_size, taken_in}
use Rattle.std.specs.List.{list_any, All, Contains}
use Rattle.std.proofs.lemmas.Grind.{common_steps}
use Rattle.ldm_edits.specs.Asked.{has_twins, ask, asked_for, is_much, words_by}
use Rattle.std.specs.Option.{option_map}
use Rattle.std.proofs.Math.ListN.{get_or-map}
use Rattle.std.proofs.lemmas.List.{drop_all, drop_more, length-map}
use Rattle.std.proofs.lemmas.List.Elements.{All-cons, All-nil, All-map}
use Rattle.ldm_records.specs.declared.types.Disk.{Disk}
use Rattle.ldm_group.specs.Looks.{disk_named}
use Rattle.ldm_space.proofs.FreeLaws.{ahead, ahead_front, placed_fit, as_many, fits_apart, fits_within, fits_sizes, taken_all}
use Rattle.ldm_edits.specs.declared.reply.Refusal.TheVariants as refusals
use Rattle.ldm_edits.specs.Spots.{by_place, refused_or, and_then, wanted_by, open_wanted, spots_for, ArePlaced}
use Rattle.ldm_records.specs.declared.types.Record.TheVariants as kinds
use Rattle.std.proofs.lemmas.Bool.{or_parts, eqb-false}
use Rattle.std.proofs.lemmas.List.Sums.{sum-map}
use Rattle.ldm_space.specs.Placed.{AreFirstFits}
use Rattle.ldm_words.specs.declared.command.NewLayout.TheVariants as layouts
use Rattle.ldm_words.specs.Limits.{IsNewLayout}
use Rattle.ldm_edits.specs.Creating.{words_of, is_bad_size, is_same_disk, against_layout}
use Rattle.ldm_edits.specs.Extending.{is_bad_length}
use Rattle.ldm_edits.specs.declared.reply.Refusal.{Refusal}
use Rattle.ldm_group.proofs.InOrder.{max_above}
use Rattle.ldm_group.proofs.ListLaws.{all_from_map, map_map, none_any, any_empty}
use Rattle.ldm_rules.proofs.CarryLaws.{HasDisk}
use Rattle.ldm_edits.proofs.LimitLaws.{two_open}
use Rattle.ldm_group.proofs.AddedLaws.{disk_there}

-- ---- A walk that looks for two that are asked of one disk.

-- where none of the rest is asked of this disk, two are asked of one where two of the rest are
pub no_twin : (wanted : List Wanted) (at : ℕ) (d : Wanted) → at < length wanted
    → list_any (λ w. w.disk == (get_or wanted at d).disk) (drop (at + 1) wanted) ≡ false
    → has_twins wanted ≡ has_twins (drop at wanted) → has_twins wanted ≡ has_twins (drop (at + 1) wanted)
no_twin wanted at d lt none so_far = rw none at (so_far ∙ ap has_twins (drop_more wanted at d lt))

-- ---- A walk over the words of a command, one disk after the other.

abbrev pub asked_of : (ℕ → ℕ) → ℕ → Option Disk → Option Wanted
asked_of sectors size disk = option_map (λ d. record { disk = d.head.id; limit = sectors d.head.id; size = size }) disk

-- the words in front of a place are asked for, of disks whose sizes are numbers of the format
pub record AreAsked (sectors : ℕ → ℕ) (records : List Record) (words : List (List ℕ × ℕ)) (at : ℕ)
    (done : List Wanted) : Type 0 where
  pub asked : asked_for sectors records 0 words ≡ ahead done (asked_for sectors records at (drop at words))
  pub low : All (λ w. w.limit < 2 ^ 64) done

pub asks_first : (sectors : ℕ → ℕ) (records : List Record) (words : List (List ℕ × ℕ)) (done : List Wanted)
    → done ≡ [] → AreAsked sectors records words 0 done
asks_first sectors records words done none = grind (arith, common_steps)

-- words that are made of other values
module _ {X : Type 0} (f : X → List ℕ × ℕ) (xs : List X) (sectors : ℕ → ℕ) (records : List Record) (at : ℕ)
    (done : List Wanted) where
  next_word : (x : X) {name : List ℕ} → at < length xs → x ≡ get_or xs at x → name ≡ (f x).0
      → asked_for sectors records at (drop at (map f xs)) ≡ ask sectors at (f x).1 (disk_named name records)
      (asked_for sectors records (at + 1) (drop (at + 1) (map f xs)))
  next_word x {name} lt is named =
      let next = drop_more (map f xs) at (f x) (omega (arith, length-map xs f)) in
      rw (next, get_or-map f xs at x, ← is, named)

  pub asks_more : (items : List Wanted) (x : X) (w : Wanted) {name : List ℕ} → at < length xs
      → x ≡ get_or xs at x
      → name ≡ (f x).0 → Some w ≡ asked_of sectors (f x).1 (disk_named name records)
      → w.limit < 2 ^ 64
      → items ≡ done ++ w ∷ [] → AreAsked sectors records (map f xs) at done
      → AreAsked sectors records (map f xs) (at + 1) items
  asks_more items x w {name} lt is named found low pushed so_far =
      let next = next_word x lt is named in
      grind (arith, common_steps, ahead_front)

  pub asks_none : (x : X) {name : List ℕ} → at < length xs → x ≡ get_or xs at x → name ≡ (f x).0
      → None ≡ asked_of sectors (f x).1 (disk_named name records)
      → AreAsked sectors records (map f xs) at done
      → by_place refusals.NoDisk (asked_for sectors records 0 (map f xs)) ≡ Err (refusals.NoDisk at)
  asks_none x {name} lt is named missing so_far = (let next = next_word x lt is named in grind (arith, common_steps))

  pub asks_all : length xs ≤ at → AreAsked sectors records (map f xs) at done
      → by_place refusals.NoDisk (asked_for sectors records 0 (map f xs)) ≡ Ok done
  asks_all past so_far = grind (arith, common_steps, drop_all, append-nil, length-map)

-- ---- What the disks that a command names are: each is a disk of the group, and is asked for what its word says.

-- what is asked of a disk of the group
pub record IsFound (sectors : ℕ → ℕ) (records : List Record) (w : Wanted) : Type 0 where
  pub disk : Disk
  pub there : Contains records (kinds.Disk disk)
  pub disk_is : w.disk ≡ disk.head.id
  pub limit_is : w.limit ≡ sectors w.disk

abbrev pub word_size : List ℕ × ℕ → ℕ
word_size word = word.1

-- what is asked for is as long as the words say
pub record AreFound (sectors : ℕ → ℕ) (records : List Record) (words : List (List ℕ × ℕ)) (wanted : List Wanted)
    : Type 0 where
  pub each : All (IsFound sectors records) wanted
  pub sizes : map (λ w. w.size) wanted ≡ map word_size words

are_found : (sectors : ℕ → ℕ) (records : List Record) (at : ℕ) (words : List (List ℕ × ℕ)) (wanted : List Wanted)
    → asked_for sectors records at words ≡ Ok wanted → AreFound sectors records words wanted
are_found sectors records at [] wanted h =
    rw (let same : wanted ≡ [] = cc in same) (record { each = All-nil (IsFound sectors records); sizes = refl })
are_found sectors records at (word ∷ words) wanted h =
    go (disk_named word.0 records) refl (asked_for sectors records (at + 1) words) h (are_found sectors records (at + 1) words)
  where
    go : (o : Option Disk) → disk_named word.0 records ≡ o → (rest : Result (List Wanted) ℕ)
        → ask sectors at word.1 o rest ≡ Ok wanted → ((more : List Wanted) → rest ≡ Ok more → AreFound sectors records words more)
        → AreFound sectors records (word ∷ words) wanted
    go (Some d) e (Ok more) h later =
        let w : Wanted = record { disk = d.head.id; limit = sectors d.head.id; size = word.1 } in
        let there = disk_there word.0 records d e in
        let rest = later more refl in
        rw (let same : wanted ≡ w ∷ more = cc in same) (record {
          each = All-cons (IsFound sectors records) w more
              (record { disk = d; there = there; disk_is = refl; limit_is = refl }) rest.each;
          sizes = ap (λ (sizes : List ℕ). word.1 ∷ sizes) rest.sizes;
        })
    go _ e _ h later = absurd cc

-- ---- The sizes of what is asked for or taken, as the words say them.

-- as many as the words are made of, where their sizes are those that the words say
pub sizes_many : {X Y : Type 0} (f : X → ℕ) (xs : List X) (g : Y → List ℕ × ℕ) (ys : List Y)
    → map f xs ≡ map word_size (map g ys) → length xs ≡ length ys
sizes_many f xs g ys same =
    cc (length-map xs f, length-map (map g ys) word_size, length-map ys g, ap (λ (l : List ℕ). length l) same)

-- as long as the pieces say
pieces_sized : {X : Type 0} (f : X → ℕ) (xs : List X) (pieces : List Piece) → map f xs ≡ map word_size (words_by pieces)
    → map f xs ≡ map (λ p. p.len) pieces
pieces_sized f xs pieces same = same ∙ map_map word_size (λ (p : Piece). (p.disk, p.len)) pieces

-- together as much as the pieces say
pub sizes_sum : {X : Type 0} (f : X → ℕ) (xs : List X) (pieces : List Piece) → map f xs ≡ map word_size (words_by pieces) → sum_by f xs ≡ sum_by (λ p. p.len) pieces
sizes_sum f xs pieces same = sym (sum-map f xs) ∙ ap sum (pieces_sized f xs pieces same) ∙ sum-map (λ (p : Piece). p.len) pieces

-- the lengths of what is asked for by pieces are bad where those of the pieces are
pub bad_pieces : (pieces : List Piece) (wanted : List Wanted) → map (λ w. w.size) wanted ≡ map word_size (words_by pieces) → is_bad_length 0 wanted ≡ is_bad_size (layouts.Span pieces)
bad_pieces pieces wanted same =
    rw (
      any_empty (λ (w : Wanted). w.size) wanted,
      any_empty (λ (p : Piece). p.len) pieces,
      ← sum-map (λ (w : Wanted). w.size) wanted,
      ← sum-map (λ (p : Piece). p.len) pieces,
      pieces_sized (λ (w : Wanted). w.size) wanted pieces same,
      zero-add,
    )

-- ---- as many partitions as words

abbrev pub AreFor : NewLayout → List Taken → Type 0
AreFor layout spots = map (λ t. t.size) spots ≡ map word_size (words_of layout)

pub disks_many : (spots : List Taken) (len : ℕ) (disks : List (List ℕ)) → map (λ t. t.size) spots ≡ map word_size (map (λ name. (name, len)) disks) → length spots ≡ length disks
disks_many spots len disks same = sizes_many (λ (t : Taken). t.size) spots (λ name. (name, len)) disks same

pub pieces_many : (spots : List Taken) (pieces : List Piece) → AreFor (layouts.Span pieces) spots → length spots ≡ length pieces
pieces_many spots pieces same = sizes_many (λ (t : Taken). t.size) spots (λ p. (p.disk, p.len)) pieces same

-- ---- what is placed

-- numbers of the format that say some sectors
abbrev pub IsSize : ℕ → Type 0
IsSize n = ((n == 0) ≡ false) × (n < 2 ^ 64)

-- some sectors of a disk of the group
pub record IsTaken (records : List Record) (t : Taken) : Type 0 where
  pub low : t.disk < 2 ^ 64
  pub small : t.size < 2 ^ 64
  pub some : (t.size == 0) ≡ false
  pub disk : HasDisk records t.disk

module _ {db : Database} {labels : List Label} {words : List (List ℕ × ℕ)} {against : List Wanted
    → Option Refusal} {wanted : List Wanted} {spots : List Taken}
    (are : ArePlaced db labels words against wanted spots) where
  pub first_fits : AreFirstFits (taken_in db.records) wanted spots
  first_fits = placed_fit wanted (taken_in db.records) 0 spots are.places

  pub as_asked : length spots ≡ length wanted
  as_asked = as_many wanted (taken_in db.records) spots first_fits

  pub asked_found : AreFound (data_size labels db.records) db.records words wanted
  asked_found = are_found (data_size labels db.records) db.records 0 words wanted are.asked

  -- what is taken ends within its disk, and lies apart from all that was,
  pub ends_within : AllEndWithin (data_size labels db.records) spots
  ends_within = fits_within (data_size labels db.records) wanted (taken_in db.records) spots
      (λ k d lt. (asked_found.each k d lt).limit_is) first_fits

  pub lie_apart : AreDisjoint (taken_in db.records) spots
  lie_apart = fits_apart wanted (taken_in db.records) spots first_fits

  -- where good sizes are asked for, what is taken is some sectors of a disk of the group
  pub are_taken : max_id db.records < 2 ^ 64 → All (λ w. IsSize w.size) wanted
      → All (IsTaken db.records) spots
  are_taken ids sizes = taken_all (IsTaken db.records) wanted (taken_in db.records) spots first_fits
      (λ k d lt start.
      let on = asked_found.each k d lt in
      let low = max_above db.records (kinds.Disk on.disk) on.there in
      record {
        low = omega arith;
        small = (sizes k d lt).1;
        some = (sizes k d lt).0;
        disk = (on.disk, on.there, sym on.disk_is);
      })

-- ---- What the stages of create and extend had, where they make a group.

-- a list that no place refuses
pub place_ok : {T : Type 0} (refusal : ℕ → Refusal) (o : Result (List T) ℕ) (list : List T) → by_place refusal o ≡ Ok list → o ≡ Ok list
place_ok refusal o list h = grind (arith, common_steps)

-- what isn't refused is made,
pub not_refused : {T : Type 0} (o : Option Refusal) (made : Result T Refusal) (next : T) → refused_or o made ≡ Ok next → (o ≡ None) × (made ≡ Ok next)
not_refused o made next h = grind (arith, common_steps)

-- a step that follows another makes something only where the first makes what it takes
pub then_ok : {X Y : Type 0} (r : Result X Refusal) (next : X → Result Y Refusal) (made : Y) → and_then r next ≡ Ok made → (x : X) × (r ≡ Ok x) × (next x ≡ Ok made)
then_ok r next made h = grind (arith, common_steps)

-- what is asked of the disks, where nothing stands against it
pub asked_open : (db : Database) (labels : List Label) (words : List (List ℕ × ℕ)) (against : List Wanted → Option Refusal) (wanted : List Wanted) → open_wanted db labels words against ≡ Ok wanted
    → (asked_for (data_size labels db.records) db.records 0 words ≡ Ok wanted) × (against wanted ≡ None)
asked_open db labels words against wanted h = grind (arith, common_steps)

-- what is asked of the disks and placed, and the group that is made of it
pub record IsSpotted (db : Database) (labels : List Label) (words : List (List ℕ × ℕ)) (against : List Wanted → Option Refusal) (next : List Wanted → List Taken → Result Database Refusal) (made : Database) : Type 0 where
  pub wanted : List Wanted
  pub spots : List Taken
  pub are : ArePlaced db labels words against wanted spots
  pub rest : next wanted spots ≡ Ok made

pub spotted : (db : Database) (labels : List Label) (words : List (List ℕ × ℕ)) (against : List Wanted → Option Refusal) (next : List Wanted → List Taken → Result Database Refusal) (made : Database)
    → and_then (open_wanted db labels words against) (λ wanted. and_then (spots_for db wanted) (next wanted)) ≡ Ok made → IsSpotted db labels words against next made
spotted db labels words against next made h = grind (arith, common_steps)

-- ---- What the partitions of a new volume take is what its words ask for, in numbers of the format.

-- what the words of a layout ask for
sized : {X : Type 0} (P : ℕ → Type 0) (f : X → List ℕ × ℕ) (xs : List X) → All (λ x. P (f x).1) xs
    → All P (map word_size (map f xs))
sized P f xs each = All-map P word_size (map f xs) (All-map (λ (word : List ℕ × ℕ). P word.1) f xs each)

pub low_size : (n : ℕ) → is_much n ≡ false → n < 2 ^ 64
low_size n h = let le : n ≤ 2 ^ 64 - 1 = ltb-false _ _ h in omega arith

word_sizes : (layout : NewLayout) → IsNewLayout layout → is_bad_size layout ≡ false → All IsSize (map word_size (words_of layout))
word_sizes (layouts.Span pieces) grammar good =
    let none = none_any (λ (p : Piece). p.len == 0) pieces (or_parts (list_any (λ p. p.len == 0) pieces) _ good).0 in
    sized IsSize (λ (p : Piece). (p.disk, p.len)) pieces (λ k d lt. (none k d lt, grammar.numbers k d lt))
word_sizes (layouts.Stripe chunk len disks) grammar good =
    sized IsSize (λ name. (name, len)) disks (λ k d lt. ((or_parts (len == 0) _ good).0, grammar.len_is))
word_sizes (layouts.Mirror len disks) grammar good = sized IsSize (λ name. (name, len)) disks (λ k d lt. (good, grammar.len_is))
word_sizes (layouts.Raid5 chunk len disks) grammar good =
    sized IsSize (λ name. (name, len)) disks (λ k d lt. ((or_parts (len == 0) _ good).0, grammar.len_is))

-- the partitions of a span have no more sectors together than a number of the format says
pub span_low : (pieces : List Piece) (spots : List Taken) → AreFor (layouts.Span pieces) spots
    → is_bad_size (layouts.Span pieces) ≡ false → sum_by (λ t. t.size) spots < 2 ^ 64
span_low pieces spots same good =
    let sum = sizes_sum (λ (t : Taken). t.size) spots pieces same in
    grind (arith, low_size, or_parts)

-- ---- what is taken

-- what is asked for by the words
sizes_asked : (layout : NewLayout) {sectors : ℕ → ℕ} {records : List Record} {wanted : List Wanted} → IsNewLayout layout
    → is_bad_size layout ≡ false → AreFound sectors records (words_of layout) wanted → All (λ w. IsSize w.size) wanted
sizes_asked layout {sectors} {records} {wanted} grammar good found =
    all_from_map (λ (w : Wanted). w.size) IsSize wanted (rw found.sizes (word_sizes layout grammar good))

-- a layout that nothing stands against has a good size, and where it is placed these are the sectors that its partitions take
pub record IsTakenFor (records : List Record) (layout : NewLayout) (taken : List Taken) : Type 0
  where
    pub good : is_bad_size layout ≡ false
    pub sizes : AreFor layout taken
    pub each : All (IsTaken records) taken

pub placed_taken : (layout : NewLayout) {db : Database} {labels : List Label} {wanted : List Wanted} {ts : List Taken} → IsNewLayout layout
    → ArePlaced db labels (words_of layout) (against_layout layout) wanted ts → max_id db.records < 2 ^ 64 → IsTakenFor db.records layout ts
placed_taken layout {db} {labels} {wanted} {ts} grammar are low =
    let found = asked_found are in
    let good = (two_open (is_same_disk layout wanted) (is_bad_size layout) refusals.SameDisk refusals.BadSize are.free).1 in
    record {
      good = good;
      sizes = fits_sizes wanted (taken_in db.records) ts (first_fits are) ∙ found.sizes;
      each = are_taken are low (sizes_asked layout grammar good found);
    }

-- each takes this number of sectors
abbrev pub AllSized : ℕ → List Taken → Type 0
AllSized size taken = All (λ t. t.size ≡ size) taken

-- each of one size, where the words ask for one
pub taken_equal : (len : ℕ) (disks : List (List ℕ)) (taken : List Taken) → map (λ (t : Taken). t.size) taken ≡ map word_size (map (λ name. (name, len)) disks) → AllSized len taken
taken_equal len disks taken sizes = all_from_map (λ (t : Taken). t.size) (λ n. n ≡ len) taken
    (rw sizes (sized (λ n. n ≡ len) (λ name. (name, len)) disks (λ k d lt. refl)))

-- ---- What the calls say that ask for sectors.

pub copied_some : {X : Type 0} (o : Option (Bor X)) → is_some o ≡ is_some (option_copied o)
copied_some o = grind (arith, common_steps)

-- what the words ask for, where each disk is there
pub wanted_found : (db : Database) (labels : List Label) (words : List (List ℕ × ℕ)) (wanted : List Wanted)
    → wanted_by db labels words ≡ Ok wanted → AreFound (data_size labels db.records) db.records words wanted
wanted_found db labels words wanted asked = are_found _ db.records 0 words wanted (place_ok refusals.NoDisk _ wanted asked)

-- one for each piece
pub piece_each : (db : Database) (labels : List Label) (pieces : List Piece) (wanted : List Wanted) → wanted_by db labels (words_by pieces) ≡ Ok wanted → length wanted ≡ length pieces
piece_each db labels pieces wanted asked =
    sizes_many (λ (w : Wanted). w.size) wanted (λ p. (p.disk, p.len)) pieces (wanted_found db labels _ wanted asked).sizes

-- a layout of a good size asks for some sectors of each disk
pub layout_some : (db : Database) (labels : List Label) (layout : NewLayout) (wanted : List Wanted) → IsNewLayout layout → is_bad_size layout ≡ false → wanted_by db labels (words_of layout) ≡ Ok wanted → All (λ w. 0 < w.size) wanted
layout_some db labels layout wanted grammar good asked =
    let sizes = sizes_asked layout grammar good (wanted_found db labels (words_of layout) wanted asked) in
    λ k d lt. (let some = eqb-false (get_or wanted k d).size 0 (sizes k d lt).0 in omega arith)
