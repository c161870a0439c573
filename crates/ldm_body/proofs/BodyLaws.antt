-- Bodies: made of a database, read, and as copies.
use Rattle.std.proofs.Common.{◌≡◌, ℕ, zero, suc, ◌<◌, List, [], ◌∷◌, ◌++◌, length, get_or, map, refl, sym, ap, arith, ◌+◌, ◌*◌, ◌≤◌, drop, slice_index, None, subst, ◌∙◌, length-append, ◌/◌, slice_range, Bool, true, false, eqb, inl, inr, Ok, ⊎_elim, ◌-◌, take}
use Rattle.std.proofs.lemmas.List.Elements.{All-head, All-tail, All-weaker}
use Rattle.ldm_records.specs.declared.types.Record.{Record}
use Rattle.ldm_body.specs.Body.{Stored, stored_at, placed_of, Store, IsBodyOf, IsMadeOf, counts_of, spellings, IsBody, IsBodyOn, HasBody}
use Rattle.ldm_copy.specs.Copy.{IsWritten, header_sector, blocks_in_use, IsCopyOf, config_area, gate_at}
use Rattle.std.specs.List.{All}
use Rattle.std.specs.List.Sorted.{IsPermutation}
use Rattle.std.proofs.lemmas.List.{take-append-le, drop-append-le, take_all, drop_all, map-append, length-drop, take-take, drop-take, get_or-take, length-take}
use Rattle.std.proofs.lemmas.List.Sorted.{IsPermutation-refl, IsPermutation-sym, IsPermutation-trans, IsPermutation-cons, IsPermutation-middle, IsPermutation-append_left, IsPermutation-map, All-permutation}
use Rattle.ldm_records.specs.Plain.{own_spelling, IsRecord}
use Rattle.ldm_records.specs.Views.{plain_of}
use Rattle.ldm_frags.specs.Blocks.{numbers_from, count}
use Rattle.ldm_written.specs.Written.{Placed, Holds, laid_in_order, IsPlaced, IsInUse, slot, joined_of, joined_below}
use Rattle.ldm_vmdb.specs.Parts.{parts_of}
use Rattle.ldm_vmdb.specs.Headers.{vmdb_fault, IsHeaderOf}
use Rattle.ldm_written.specs.Headers.{written, ReadsBack}
use Rattle.ldm_vmdb.specs.declared.header.Header.{Header}
use Rattle.ldm_group.specs.Order.{Rising}
use Rattle.ldm_group.specs.Database.{Database, IsSameCore, IsSameHeader}
use Rattle.ldm_group.specs.Room.{room_of}
use Rattle.ldm_copy.proofs.AreaLaws.{gate_there, area_byte, area_length, gate_of}
use Rattle.ldm_copy.proofs.RoomLaws.{magic_of}
use Rattle.ldm_vmdb.proofs.HeaderLaws.{no_fault_is_vmdb, vmdb_without_fault}
use Rattle.ldm_body.specs.Table.{IsTabled}
use Rattle.ldm_body.specs.Finding.{HoldsTable}
use Rattle.std.specs.Prelude.{filter, ◌==◌, if◌then◌else◌}
use Rattle.ldm_frags.specs.declared.faults.Joined.{Joined}
use Rattle.ldm_frags.specs.Joins.{Joins}
use Rattle.ldm_frags.proofs.Below.{flat_map_below}
use Rattle.ldm_written.proofs.HoldLaws.{few_slots, holds_joins}
use Rattle.ldm_written.proofs.SpellLaws.{own_spells}
use Rattle.ldm_vmdb.specs.Sectors.{last_of}
use Rattle.ldm_copy.specs.declared.answer.CopyState.TheVariants.{Valid}
use Rattle.ldm_copy.specs.Records.{SpellRecords, HoldRecords}
use Rattle.std.proofs.lemmas.Bool.{cases_eq, eq-eqb, ne_eqb}
use Rattle.std.proofs.lemmas.Grind.{same_number_lists}
use Rattle.ldm_label.specs.declared.Label.{Label}
use Rattle.ldm_group.proofs.ListLaws.{all_from_map}

-- ---- Records with the numbers of their blocks.

pub stored_length : (rs : List Record) (ss : List (List ℕ)) → length ss ≡ length rs → length (stored_at rs ss) ≡ length rs
stored_length [] ss e = refl
stored_length (r ∷ rs) [] e = absurd (omega (arith, e))
stored_length (r ∷ rs) (s ∷ ss) e = let rest : length (stored_at rs ss) ≡ length rs = stored_length rs ss (omega (arith, e)) in omega (arith, rest)

pub stored_get : (rs : List Record) (ss : List (List ℕ)) (i : ℕ) (r : Record) (s : List ℕ) (d : Stored) → i < length rs → length ss ≡ length rs
    → r ≡ get_or rs i r → s ≡ get_or ss i s → get_or (stored_at rs ss) i d ≡ record { record_is = r; slots = s }
stored_get [] ss i r s d lt e at_r at_s = absurd (omega (arith, lt))
stored_get (q ∷ rs) [] i r s d lt e at_r at_s = absurd (omega (arith, e))
stored_get (q ∷ rs) (t ∷ ss) zero r s d lt e at_r at_s = λ i. record { record_is = sym at_r i; slots = sym at_s i }
stored_get (q ∷ rs) (t ∷ ss) (suc i) r s d lt e at_r at_s = stored_get rs ss i r s d (omega (arith, lt)) (omega (arith, e)) at_r at_s

pub stored_records : (rs : List Record) (ss : List (List ℕ)) → length ss ≡ length rs → map (λ (s : Stored). s.record_is) (stored_at rs ss) ≡ rs
stored_records [] ss e = refl
stored_records (r ∷ rs) [] e = absurd (omega (arith, e))
stored_records (r ∷ rs) (s ∷ ss) e = ap (λ (l : List Record). r ∷ l) (stored_records rs ss (omega (arith, e)))

pub stored_push : (rs : List Record) (ss : List (List ℕ)) (r : Record) (s : List ℕ) → length ss ≡ length rs
    → stored_at (rs ++ r ∷ []) (ss ++ s ∷ []) ≡ stored_at rs ss ++ record { record_is = r; slots = s } ∷ []
stored_push [] [] r s e = refl
stored_push [] (t ∷ ss) r s e = absurd (omega (arith, e))
stored_push (q ∷ rs) [] r s e = absurd (omega (arith, e))
stored_push (q ∷ rs) (t ∷ ss) r s e = ap (λ (l : List Stored). record { record_is = q; slots = t } ∷ l) (stored_push rs ss r s (omega (arith, e)))

abbrev pub record_of : Stored → Record
record_of s = s.record_is

-- what is stored, from its records and its slots
pub stored_again : (K : List Stored) → stored_at (map record_of K) (map (λ (s : Stored). s.slots) K) ≡ K
stored_again [] = refl
stored_again (s ∷ K) = ap (λ (l : List Stored). s ∷ l) (stored_again K)

-- ---- The body that is made of a database is a body of it.

-- records at the slots of a table are stored
pub table_store : (blocks : List ℕ) (records : List Record) (table : List (List ℕ)) → HoldsTable blocks records table → Store blocks records
table_store blocks records table held =
    let all : map record_of (stored_at records table) ≡ records = stored_records records table held.one_each in
    record {
      stored = stored_at records table;
      once = subst (λ (l : List Record). IsPermutation l records) (sym all) (IsPermutation-refl records);
      sound = all_from_map record_of (λ r. IsRecord (plain_of r)) (stored_at records table) (subst (λ (l : List Record). All (λ r. IsRecord (plain_of r)) l) (sym all) held.sound);
      holds = held.holds;
    }

-- the records one after the other, from a block on
abbrev laid_slots : ℕ → List Record → List (List ℕ)
laid_slots number records = map (λ (p : Placed). p.slots) (laid_in_order number (spellings records))

laid_length : (number : ℕ) (records : List Record) → length (laid_slots number records)
    ≡ length records
laid_length number [] = refl
laid_length number (r ∷ records) = omega
    (arith, laid_length (number + parts_of (length (own_spelling (plain_of r)))) records)

laid_placed : (number : ℕ) (records : List Record)
    → map placed_of (stored_at records (laid_slots number records)) ≡ laid_in_order number
    (spellings records)
laid_placed number [] = refl
laid_placed number (r ∷ records) =
    let n = parts_of (length (own_spelling (plain_of r))) in
    ap (λ (l : List Placed). record {
      payload = own_spelling (plain_of r);
      slots = numbers_from number n;
    } ∷ l) (laid_placed (number + n) records)

pub store_of : (blocks : List ℕ) (records : List Record) → All (λ r. IsRecord (plain_of r)) records
    → Holds blocks (laid_in_order 4 (spellings records)) → Store blocks records
store_of blocks records sound holds =
    table_store blocks records (laid_slots 4 records)
    (record {
      one_each = laid_length 4 records;
      sound = sound;
      holds = subst (Holds blocks)
          (sym (laid_placed 4 records)) holds;
    })

-- bytes that begin with a header without a fault, behind which the records are stored
body_by : (db : Database) (bytes : List ℕ) → length bytes ≡ 512 * (db.header.last / 4)
    → ((sectors : ℕ) → db.header.last ≤ 4 * sectors → vmdb_fault (header_sector bytes) sectors
    ≡ None)
    → IsHeaderOf db.header (header_sector bytes) → Store (drop 512 bytes) db.records
    → Rising db.records → 4 ≤ db.header.last → IsBodyOf db bytes
body_by db bytes size faultless header store rising low = record {
  is = record {
    size = size;
    gate = sym (gate_there bytes) ∙ magic_of (header_sector bytes) db.header.last
        (faultless db.header.last (omega arith));
    faultless = faultless;
    header_is = header;
    blocks = store;
  };
  rising = rising;
  low = low;
}

module _ (sector blocks : List ℕ) (whole : length sector ≡ 512) where
  pub head_of : header_sector (sector ++ blocks) ≡ sector
  head_of =
      let full : 512 ≤ length sector = omega arith in
      take-append-le 512 sector blocks full ∙ take_all 512 sector (omega arith)

  pub rest_of : drop 512 (sector ++ blocks) ≡ blocks
  rest_of = drop-append-le 512 sector blocks (omega arith) ∙ ap (λ (l : List ℕ). l ++ blocks) (drop_all 512 sector (omega arith))

  -- a header sector that reads back, and blocks that store the records
  pub body_with : (db : Database) → ReadsBack db.header db.header.seq sector
      → ((sectors : ℕ) → db.header.last ≤ 4 * sectors → vmdb_fault sector sectors ≡ None)
      → Store blocks db.records → length blocks ≡ 128 * room_of db.header.last → 4 ≤ db.header.last
      → Rising db.records → IsBodyOf db (sector ++ blocks)
  body_with db reads faultless store size low rising =
      body_by db (sector ++ blocks) (omega (arith, length-append sector blocks, whole, size, low))
      (λ sectors fits. ap (λ (l : List ℕ). vmdb_fault l sectors) head_of ∙ faultless sectors fits)
      (subst (IsHeaderOf db.header) (sym head_of) (record {
        last_is = sym reads.last_is;
        seq_is = sym reads.seq_is;
        name_is = sym reads.name_is;
        guid_is = reads.guid_is;
        raw_is = sym reads.raw_is;
      }))
      (subst (λ (l : List ℕ). Store l db.records) (sym rest_of) store) rising low

-- what the parts of the code make
pub made_of : (db : Database) (sector blocks : List ℕ) → length sector ≡ 512
    → sector ≡ written db.header db.header.seq (counts_of db.records)
    → Holds blocks (laid_in_order 4 (spellings db.records)) → IsMadeOf db (sector ++ blocks)
made_of db sector blocks whole wrote holds = record {
  header_is = head_of sector blocks whole ∙ wrote;
  blocks_are = subst (λ (l : List ℕ). Holds l (laid_in_order 4 (spellings db.records)))
      (sym (rest_of sector blocks whole)) holds;
}

-- ---- A body that was read.

-- the database of the header that was read
abbrev read_as : Header → Database → Database
read_as h db = record { header = h; records = db.records }

same_core_as : (h : Header) (db : Database) → IsSameHeader h db.header
    → IsSameCore (read_as h db) db
same_core_as h db same = λ i. record { last = same.last i; seq = same.seq i; name = same.name i; guid = same.guid i; records = db.records }

-- what was read is the body of that one, with its table
pub read_tabled : (db : Database) (h : Header) (bytes : List ℕ) (area : ℕ) (table : List (List ℕ))
    → length bytes ≡ 512 * (db.header.last / 4) → 4 ≤ db.header.last → db.header.last ≤ 8192
    → Rising db.records → (vmdb_fault (header_sector bytes) area ≡ None)
    × IsHeaderOf h (header_sector bytes) × IsSameHeader h db.header
    → HoldsTable (drop 512 bytes) db.records table
    → (tabled : IsTabled bytes table) × IsSameCore tabled.db db
read_tabled db h bytes area table size low high rising (none, header, same) held = (
  record {
    db = read_as h db;
    body = body_by (read_as h db) bytes (size ∙ ap (λ (n : ℕ). 512 * (n / 4)) (sym same.last))
        (λ sectors fits. vmdb_without_fault (header_sector bytes) sectors h.guid
        (no_fault_is_vmdb (header_sector bytes) area none) (omega (arith, header.last_is, fits))
        header.guid_is)
        header (table_store (drop 512 bytes) db.records table held) rising
        (omega (arith, same.last, low));
    small = omega (arith, same.last, high);
    one_each = held.one_each;
    sound = held.sound;
    holds = held.holds;
  },
  same_core_as h db same,
)

-- ---- An area that begins with a body is a valid copy.

-- the number of the first block of a record
abbrev pub key : Stored → ℕ
key s = slot (placed_of s) 0

abbrev joined : Stored → Joined
joined s = joined_of (placed_of s)

-- each payload spells its record
spell_stored : (xs : List Stored) → ((k : ℕ) (d : Stored) → k < length xs → IsRecord (plain_of (get_or xs k d).record_is)) → SpellRecords (map joined xs) (map (λ s. s.record_is) xs)
spell_stored [] sound = tt
spell_stored (s ∷ xs) sound = (own_spells (plain_of s.record_is) _ (sound 0 s (omega arith)), spell_stored xs (λ k d lt. sound (suc k) d (omega arith)))

-- those whose first block stands below number n + 4, in rising number
abbrev pub below : List Stored → ℕ → List Stored
below xs zero = []
below xs (suc n) = below xs n ++ filter (λ s. key s == n + 4) xs

-- a record is in its place among those
below_none : (n : ℕ) → below [] n ≡ []
below_none zero = refl
below_none (suc n) = ap (λ (l : List Stored). l ++ []) (below_none n)

below_skip : (x : Stored) (xs : List Stored) (n : ℕ) → n + 4 ≤ key x → below (x ∷ xs) n ≡ below xs n
below_skip x xs zero le = refl
below_skip x xs (suc n) le =
    let other : eqb (key x) (n + 4) ≡ false = ne_eqb (key x) (n + 4) (λ e. omega arith) in
    rw (below_skip x xs n (omega arith), other) refl

below_cons : (x : Stored) (xs : List Stored) (n : ℕ) → (4 ≤ key x) × (key x < n + 4)
    → IsPermutation (below (x ∷ xs) n) (x ∷ below xs n)
below_cons x xs zero (low, high) = absurd (omega arith)
below_cons x xs (suc n) (low, high) = elim (cases_eq (key x) (n + 4)) [
  | inl is ↦ (let here : eqb (key x) (n + 4) ≡ true = eq-eqb (key x) (n + 4) is in
      rw (below_skip x xs n (omega arith), here)
      (IsPermutation-middle (below xs n) x (filter (λ s. key s == n + 4) xs)))
  | inr ne ↦ (let other : eqb (key x) (n + 4) ≡ false = ne_eqb (key x) (n + 4) ne in
      rw other (IsPermutation-append_left (filter (λ s. key s == n + 4) xs) (below (x ∷ xs) n)
      (x ∷ below xs n) (below_cons x xs n (low, omega (arith, ne)))))
]

pub all_below : (n : ℕ) (xs : List Stored) → All (λ s. (4 ≤ key s) × (key s < n + 4)) xs
    → IsPermutation xs (below xs n)
all_below n [] all = subst (IsPermutation []) (sym (below_none n)) (IsPermutation-refl [])
all_below n (x ∷ xs) all =
    IsPermutation-trans (x ∷ xs) (x ∷ below xs n) (below (x ∷ xs) n)
    (IsPermutation-cons x xs (below xs n)
    (all_below n xs (All-tail (λ s. (4 ≤ key s) × (key s < n + 4)) x xs all)))
    (IsPermutation-sym (below (x ∷ xs) n) (x ∷ below xs n)
    (below_cons x xs n (All-head (λ s. (4 ≤ key s) × (key s < n + 4)) x xs all)))

-- the first block of a record is in use
pub first_used : (blocks : List ℕ) (r : Placed) → IsPlaced blocks r → IsInUse blocks (slot r 0)
first_used blocks r is = is.within 0 (few_slots blocks r is).0

pub all_used : (blocks : List ℕ) (xs : List Stored) → All (IsPlaced blocks) (map placed_of xs)
    → All (λ s. IsInUse blocks (key s)) xs
all_used blocks xs placed = All-weaker (λ s. IsPlaced blocks (placed_of s))
    (λ s. IsInUse blocks (key s)) (λ s is. first_used blocks (placed_of s) is) xs
    (all_from_map placed_of (IsPlaced blocks) xs placed)

filter_placed : (b : ℕ) (xs : List Stored) → filter (λ r. slot r 0 == b) (map placed_of xs) ≡ map placed_of (filter (λ s. key s == b) xs)
filter_placed b [] = refl
filter_placed b (s ∷ xs) =
    let rest = filter_placed b xs in
    elim (key s == b) as (λ (t : Bool). (if t then placed_of s ∷ filter (λ r. slot r 0 == b) (map placed_of xs) else filter (λ r. slot r 0 == b) (map placed_of xs)) ≡ map placed_of (if t then s ∷ filter (λ s. key s == b) xs else filter (λ s. key s == b) xs))
    [ true ↦ ap (λ (l : List Placed). placed_of s ∷ l) rest | false ↦ rest ]

map_twice : (xs : List Stored) → map joined_of (map placed_of xs) ≡ map joined xs
map_twice [] = refl
map_twice (s ∷ xs) = ap (λ (l : List Joined). joined s ∷ l) (map_twice xs)

joined_stored : (xs : List Stored) (n : ℕ) → joined_below (map placed_of xs) n ≡ map joined (below xs n)
unfolding joined_below
joined_stored xs zero = refl
joined_stored xs (suc n) =
    let one : n + 1 ≡ suc n = omega arith in
    ap (λ (m : ℕ). joined_below (map placed_of xs) m) (sym one)
    ∙ flat_map_below (λ k. map joined_of (filter (λ r. slot r 0 == k + 4) (map placed_of xs))) n
    ∙ ap (λ (l : List Joined). l ++ map joined_of (filter (λ r. slot r 0 == n + 4) (map placed_of xs))) (joined_stored xs n)
    ∙ ap (λ (l : List Joined). map joined (below xs n) ++ l) (ap (map joined_of) (filter_placed (n + 4) xs) ∙ map_twice (filter (λ s. key s == n + 4) xs))
    ∙ sym (map-append joined (below xs n) (filter (λ s. key s == n + 4) xs))

-- blocks that store records hold them, in some order
pub store_holds : (blocks : List ℕ) (records : List Record) → length blocks ≤ 1048576 → Store blocks records → (rs : List Record) × HoldRecords blocks rs × IsPermutation rs records
store_holds blocks records small store =
    let xs = store.stored in
    let n = count blocks in
    let order : IsPermutation xs (below xs n) = all_below n xs
    (all_used blocks xs store.holds.placed) in
    let sound : All (λ (s : Stored). IsRecord (plain_of s.record_is)) (below xs n) = All-permutation (λ (s : Stored). IsRecord (plain_of s.record_is)) xs (below xs n) order store.sound in
    let names : Stored → Record = λ s. s.record_is in (
      map names (below xs n),
      record { list = map joined (below xs n); joined = subst (λ (l : List Joined). Joins blocks l) (joined_stored xs n) (holds_joins blocks (map placed_of xs) small store.holds); spelled = spell_stored (below xs n) sound },
      IsPermutation-trans _ _ _ (IsPermutation-map names (below xs n) xs (IsPermutation-sym xs (below xs n) order)) store.once,
    )

-- the law: an area that begins with a body is a valid copy
pub body_copy : (db : Database) (body area : List ℕ) (sectors : ℕ) → Rising db.records → IsBody db body → 4 ≤ db.header.last → db.header.last ≤ 8192 → db.header.last ≤ 4 * sectors
    → slice_range area 0 (512 * (db.header.last / 4)) ≡ body → header_sector area ≡ header_sector body → slice_index area 0 ≡ slice_index body 0
    → slice_range area 512 (512 * (db.header.last / 4)) ≡ drop 512 body → IsCopyOf area sectors (Ok (Valid db))
body_copy db body area sectors rising is some small fits whole head gate rest =
    let last : last_of (header_sector area) ≡ db.header.last = ap last_of head ∙ sym is.header_is.last_is in
    let blocks : blocks_in_use area ≡ drop 512 body = ap (λ (n : ℕ). slice_range area 512 (512 * (n / 4))) last ∙ rest in
    let short : length (drop 512 body) ≤ 1048576 = omega (arith, length-drop 512 body, is.size) in
    let held = store_holds (drop 512 body) db.records short is.blocks in (
      record { open_is = gate ∙ is.gate; faultless = ap (λ (s : List ℕ). vmdb_fault s sectors) head ∙ is.faultless sectors fits },
      subst (λ (s : List ℕ). IsHeaderOf db.header s) (sym head) is.header_is,
      (held.0, subst (λ (b : List ℕ). HoldRecords b held.0) (sym blocks) held.1, record { header_is = refl; same = held.2; rising = rising }),
    )

-- ---- What was written as a body is read as its database.

drop_of : (l : List ℕ) (m : ℕ) → 512 ≤ m → drop 512 (take m l) ≡ take (m - 512) (drop 512 l)
drop_of l m le = ap (λ (j : ℕ). drop 512 (take j l)) (let e : m ≡ 512 + (m - 512) = omega (arith, le) in e) ∙ drop-take 512 (m - 512) l

-- an area that begins with a body is a valid copy
pub begun_is : (db : Database) (body area : List ℕ) (sectors : ℕ) → IsBodyOf db body → db.header.last ≤ 8192 → db.header.last ≤ 4 * sectors
    → take (length body) area ≡ body → IsCopyOf area sectors (Ok (Valid db))
begun_is db body area sectors on high fits begins =
    let n : ℕ = 512 * (db.header.last / 4) in
    let whole : take n area ≡ body = ap (λ (m : ℕ). take m area) (sym on.is.size) ∙ begins in
    let many : 512 ≤ n = omega (arith, on.low) in
    body_copy db body area sectors on.rising on.is on.low high fits
    (ap (λ (m : ℕ). take m area) (let e : n - 0 ≡ n = omega arith in e) ∙ whole)
    (sym (take-take 512 n area many) ∙ ap (λ (l : List ℕ). take 512 l) whole)
    (sym (get_or-take n area 0 0 (omega (arith, many))) ∙ ap (λ (l : List ℕ). slice_index l 0) whole)
    (sym (drop_of area n many) ∙ ap (λ (l : List ℕ). drop 512 l) whole)

-- a body behind an open gate is a valid copy
pub written_is : (db : Database) (label : Label) (body image : List ℕ) → IsBodyOn db label body → gate_at label + 512 * label.area_sectors ≤ length image
    → slice_index image (gate_at label) ≡ 0x56 → HasBody label body image → IsWritten label db image
written_is db label body image on room is has =
    let area : List ℕ = config_area label image in
    let n : ℕ = 512 * (db.header.last / 4) in
    let size : length body ≡ n = on.is.size in
    let full : length area ≡ 512 * label.area_sectors = area_length label image room in
    let few : n ≤ 512 * label.area_sectors = omega (arith, on.fits) in
    let many : 512 ≤ n = omega (arith, on.low) in
    let gate : slice_index area 0 ≡ slice_index body 0 = gate_of label image (omega (arith, few, many)) ∙ is ∙ sym on.is.gate in
    let whole : take n area ≡ body = same_number_lists (take n area) body (omega (arith, length-take n area, size, full, few)) (λ k lt.
    let near : k < n = omega (arith, lt, length-take n area) in
    get_or-take n area k 0 near ∙ ⊎_elim
    (λ first. ap (λ (j : ℕ). slice_index area j) first ∙ gate ∙ ap (λ (j : ℕ). slice_index body j) (sym first))
    (λ ne. area_byte label image k (omega (arith, near, few)) ∙ has k (omega (arith, ne)) (omega (arith, near, size)))
    (cases_eq k 0)) in
    begun_is db body area label.area_sectors (record { is = on.is; rising = on.rising; low = on.low }) on.high on.fits (ap (λ (m : ℕ). take m area) size ∙ whole)
