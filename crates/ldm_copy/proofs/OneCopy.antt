-- An area is one copy at most.
use Rattle.std.proofs.Common.{◌≡◌, ℕ, suc, ◌+◌, ◌<◌, List, [], ◌∷◌, ◌++◌, length, get_or, take, drop, Ok, inl, inr, refl, sym, ap, subst, ◌∙◌, ◌^◌, ◌≤◌, ◌==◌, Some, Result, Err, arith}
use Rattle.std.proofs.Math.Seq.{drop-cons}
use Rattle.std.proofs.lemmas.List.{take_more, take-append-drop}
use Rattle.ldm_frags.specs.declared.faults.Joined.{Joined}
use Rattle.ldm_records.specs.declared.types.Record.{Record}
use Rattle.ldm_payloads.specs.declared.fault.RecordFault.{RecordFault}
use Rattle.ldm_payloads.specs.declared.fault.RecordFault.TheVariants.{UnknownType, Malformed}
use Rattle.ldm_records.specs.Plain.{Spells}
use Rattle.ldm_records.specs.Views.{plain_of}
use Rattle.ldm_payloads.proofs.PlainReads.{plain_again}
use Rattle.ldm_payloads.proofs.WholeLaws.{is_one, is_unknown}
use Rattle.ldm_copy.specs.Records.{SpellRecords, HasFault, IsFirstFault, HoldRecords, HoldBadRecord}
use Rattle.std.specs.List.Sorted.{IsPermutation}
use Rattle.ldm_bytes.proofs.NumberLaws.{some_is}
use Rattle.ldm_vmdb.specs.declared.header.Header.{Header}
use Rattle.ldm_vmdb.specs.Headers.{vmdb_fault, IsHeaderOf}
use Rattle.ldm_frags.specs.declared.faults.FragFault.{FragFault}
use Rattle.ldm_frags.specs.Faults.{first_block_fault}
use Rattle.ldm_frags.specs.Joins.{Joins}
use Rattle.ldm_frags.proofs.JoinLaws.{joins_clean, one_list}
use Rattle.ldm_vmdb.specs.declared.header.VmdbFault.{VmdbFault}
use Rattle.ldm_group.specs.Order.{place, place_of, Rising, count_at, IsLeastTwice}
use Rattle.ldm_group.proofs.Rise.{two_places, eqb-eq}
use Rattle.ldm_group.proofs.OrderLaws.{count_kept}
use Rattle.ldm_group.specs.Database.{Database, IsDatabaseOf}
use Rattle.ldm_copy.specs.declared.answer.CopyState.{CopyState}
use Rattle.ldm_copy.specs.declared.answer.CopyState.TheVariants.{Closed, Valid}
use Rattle.ldm_copy.specs.declared.answer.CopyFault.{CopyFault}
use Rattle.ldm_copy.specs.declared.answer.CopyFault.TheVariants.{Vmdb, Frag, BadRecord, SameId}
use Rattle.ldm_copy.specs.Copy.{header_sector, blocks_in_use, HasHeader, IsCopyOf}
use Rattle.ldm_group.proofs.OneOrder.{one_rising}
use Rattle.ldm_vmdb.proofs.HeaderLaws.{same_header}

-- ---- What payloads spell, and the first that spells no record.

-- one payload more, and the record that it spells
pub spell_more : (list : List Joined) (records : List Record) (joined : Joined) (r : Record) → SpellRecords list records → Spells (plain_of r) joined.payload
    → SpellRecords (list ++ joined ∷ []) (records ++ r ∷ [])
spell_more [] [] joined r before spells = (spells, tt)
spell_more [] (s ∷ records) joined r before spells = absurd before
spell_more (j ∷ list) [] joined r before spells = absurd before
spell_more (j ∷ list) (s ∷ records) joined r before spells = (before.0, spell_more list records joined r before.1 spells)

-- behind payloads that spell records, one that has a fault is the first
pub fault_first : (list : List Joined) (records : List Record) (joined : Joined) (more : List Joined) (block : ℕ) (fault : RecordFault)
    → SpellRecords list records → HasFault joined.payload fault → joined.block ≡ block → IsFirstFault (list ++ joined ∷ more) block fault
fault_first [] [] joined more block fault before has at = inl (has, at)
fault_first [] (s ∷ records) joined more block fault before has at = absurd before
fault_first (j ∷ list) [] joined more block fault before has at = absurd before
fault_first (j ∷ list) (s ∷ records) joined more block fault before has at = inr ((s, before.0), fault_first list records joined more block fault before.1 has at)

-- the first payloads of a list spell one record more where the next payload spells it
pub spell_next : (list : List Joined) (i : ℕ) (records : List Record) (joined : Joined) (r : Record) → i < length list → joined ≡ get_or list i joined
    → SpellRecords (take i list) records → Spells (plain_of r) joined.payload → SpellRecords (take (i + 1) list) (records ++ r ∷ [])
spell_next list i records joined r lt is before spells =
    let more : take (i + 1) list ≡ take i list ++ joined ∷ [] = take_more list i joined lt ∙ ap (λ (j : Joined). take i list ++ j ∷ []) (sym is) in
    subst (λ (l : List Joined). SpellRecords l (records ++ r ∷ [])) (sym more) (spell_more (take i list) records joined r before spells)

pub fault_at : (list : List Joined) (i : ℕ) (records : List Record) (joined : Joined) (block : ℕ) (fault : RecordFault) → i < length list → joined ≡ get_or list i joined
    → SpellRecords (take i list) records → HasFault joined.payload fault → joined.block ≡ block → IsFirstFault list block fault
fault_at list i records joined block fault lt is before has at =
    let whole : take i list ++ joined ∷ drop (suc i) list ≡ list =
    ap (λ (j : Joined). take i list ++ j ∷ drop (suc i) list) is ∙ sym (ap (λ (l : List Joined). take i list ++ l) (drop-cons list i joined lt)) ∙ take-append-drop i list in
    subst (λ (l : List Joined). IsFirstFault l block fault) whole (fault_first (take i list) records joined (drop (suc i) list) block fault before has at)

-- ---- one answer at most

pub one_records : (list : List Joined) (a b : List Record) → SpellRecords list a → SpellRecords list b → a ≡ b
one_records [] [] [] x y = refl
one_records [] [] (s ∷ b) x y = absurd y
one_records [] (r ∷ a) b x y = absurd x
one_records (j ∷ list) [] b x y = absurd x
one_records (j ∷ list) (r ∷ a) [] x y = absurd y
one_records (j ∷ list) (r ∷ a) (s ∷ b) x y =
    let one : r ≡ s = is_one j.payload r s x.0 y.0 in
    let rest : a ≡ b = one_records list a b x.1 y.1 in
    cc

-- what has a fault spells no record
unspelled : (payload : List ℕ) (fault : RecordFault) → HasFault payload fault → (r : Record) → Spells (plain_of r) payload → ⊥
unspelled payload (UnknownType type) has r spells = is_unknown payload (Ok r) (plain_again payload (plain_of r) spells) has.0
unspelled payload Malformed has r spells = has.1 r spells

one_fault : (payload : List ℕ) (f g : RecordFault) → HasFault payload f → HasFault payload g → f ≡ g
one_fault payload (UnknownType s) (UnknownType t) x y = ap UnknownType (x.1 ∙ sym y.1)
one_fault payload (UnknownType s) Malformed x y = absurd (y.0 x.0)
one_fault payload Malformed (UnknownType t) x y = absurd (x.0 y.0)
one_fault payload Malformed Malformed x y = refl

pub one_first : (list : List Joined) (b c : ℕ) (f g : RecordFault) → IsFirstFault list b f → IsFirstFault list c g → (b ≡ c) × (f ≡ g)
one_first [] b c f g x y = absurd x
one_first (j ∷ list) b c f g (inl x) (inl y) = (sym x.1 ∙ y.1, one_fault j.payload f g x.0 y.0)
one_first (j ∷ list) b c f g (inl x) (inr y) = absurd (unspelled j.payload f x.0 y.0.0 y.0.1)
one_first (j ∷ list) b c f g (inr x) (inl y) = absurd (unspelled j.payload g y.0 x.0.0 x.0.1)
one_first (j ∷ list) b c f g (inr x) (inr y) = one_first list b c f g x.1 y.1

-- a list whose payloads all spell records has no first fault
pub all_or_first : (list : List Joined) (records : List Record) (block : ℕ) (fault : RecordFault) → SpellRecords list records → IsFirstFault list block fault → ⊥
all_or_first [] records block fault x y = y
all_or_first (j ∷ list) [] block fault x y = x
all_or_first (j ∷ list) (r ∷ records) block fault x (inl y) = unspelled j.payload fault y.0 r x.0
all_or_first (j ∷ list) (r ∷ records) block fault x (inr y) = all_or_first list records block fault x.1 y.1

-- ---- headers and databases

pub one_header : (a b : Header) (sector : List ℕ) → IsHeaderOf a sector → IsHeaderOf b sector → a ≡ b
one_header a b sector x y =
    same_header a b (x.last_is ∙ sym y.last_is) (x.seq_is ∙ sym y.seq_is) (x.name_is ∙ sym y.name_is)
    (some_is a.guid b.guid (sym x.guid_is ∙ y.guid_is)) (x.raw_is ∙ sym y.raw_is)

same_database : (a b : Database) → a.header ≡ b.header → a.records ≡ b.records → a ≡ b
same_database a b header records = λ i. record { header = header i; records = records i }

-- ---- what blocks hold

frag_or_joins : (blocks : List ℕ) (list : List Joined) (fault : FragFault) → Joins blocks list → first_block_fault blocks ≡ Some fault → ⊥
frag_or_joins blocks list fault joins e = let clean = joins_clean blocks list joins in cc

one_held : (blocks : List ℕ) (a b : List Record) → HoldRecords blocks a → HoldRecords blocks b → a ≡ b
one_held blocks a b x y =
    let same : y.list ≡ x.list = one_list blocks y.list x.list y.joined x.joined in
    one_records x.list a b x.spelled (subst (λ (l : List Joined). SpellRecords l b) same y.spelled)

held_or_bad : (blocks : List ℕ) (records : List Record) (block : ℕ) (fault : RecordFault) → HoldRecords blocks records → HoldBadRecord blocks block fault → ⊥
held_or_bad blocks records block fault x y =
    let same : y.list ≡ x.list = one_list blocks y.list x.list y.joined x.joined in
    all_or_first x.list records block fault x.spelled (subst (λ (l : List Joined). IsFirstFault l block fault) same y.first)

one_bad : (blocks : List ℕ) (b c : ℕ) (f g : RecordFault) → HoldBadRecord blocks b f → HoldBadRecord blocks c g → (b ≡ c) × (f ≡ g)
one_bad blocks b c f g x y =
    let same : y.list ≡ x.list = one_list blocks y.list x.list y.joined x.joined in
    one_first x.list b c f g x.first (subst (λ (l : List Joined). IsFirstFault l c g) same y.first)

-- ---- records of one kind and id

-- ids are below 2 ^ 64, so the place tells the kind and the id
one_place : (k l i j : ℕ) → i < 2 ^ 64 → j < 2 ^ 64 → place k i ≡ place l j → (k ≡ l) × (i ≡ j)
one_place k l i j small_i small_j e = (omega arith, omega arith)

one_twice : (a b : List Record) (k l i j : ℕ) → a ≡ b → i < 2 ^ 64 → j < 2 ^ 64 → IsLeastTwice a k i → IsLeastTwice b l j → (k ≡ l) × (i ≡ j)
one_twice a b k l i j same small_i small_j x y =
    let y' = subst (λ (r : List Record). IsLeastTwice r l j) (sym same) y in
    let le : place k i ≤ place l j = x.least (place l j) y'.twice in
    let ge : place l j ≤ place k i = y'.least (place k i) x.twice in
    one_place k l i j small_i small_j (omega arith)

twice_rising : (records : List Record) (m : ℕ) → Rising records → 2 ≤ count_at m records → ⊥
twice_rising [] m up twice = omega arith
twice_rising (r ∷ records) m up twice =
    let two = two_places (λ s. place_of s == m) (r ∷ records) r twice in
    let one_at : place_of (get_or (r ∷ records) two.0 r) ≡ m = eqb-eq _ _ two.4 in
    let two_at : place_of (get_or (r ∷ records) two.1 r) ≡ m = eqb-eq _ _ two.5 in
    let less : place_of (get_or (r ∷ records) two.0 r) < place_of (get_or (r ∷ records) two.1 r) = up two.0 two.1 r two.2 two.3 in
    omega arith

twice_or_rising : (blocks : List ℕ) (a b : List Record) (kind id : ℕ) (db : Database) → HoldRecords blocks a → HoldRecords blocks b → IsLeastTwice a kind id → IsDatabaseOf db db.header b → ⊥
twice_or_rising blocks a b kind id db x y twice of_db =
    let same : a ≡ b = one_held blocks a b x y in
    let two : 2 ≤ count_at (place kind id) b = subst (λ (r : List Record). 2 ≤ count_at (place kind id) r) same twice.twice in
    twice_rising db.records (place kind id) of_db.rising (subst (λ (n : ℕ). 2 ≤ n) (sym (count_kept (place kind id) b db.records of_db.same)) two)

one_valid : (area : List ℕ) (a b : Database) → IsHeaderOf a.header (header_sector area) → IsHeaderOf b.header (header_sector area)
    → ((records : List Record) × HoldRecords (blocks_in_use area) records × IsDatabaseOf a a.header records)
    → ((records : List Record) × HoldRecords (blocks_in_use area) records × IsDatabaseOf b b.header records) → a ≡ b
one_valid area a b head_a head_b x y =
    let same : y.0 ≡ x.0 = one_held (blocks_in_use area) y.0 x.0 y.1 x.1 in
    let to_b = subst (λ (r : List Record). IsPermutation r b.records) same y.2.same in
    same_database a b (one_header a.header b.header (header_sector area) head_a head_b) (one_rising x.0 a.records b.records x.2.same to_b x.2.rising y.2.rising)

-- ---- the copy

vmdb_or_header : (area : List ℕ) (sectors : ℕ) (fault : VmdbFault) → vmdb_fault (header_sector area) sectors ≡ Some fault → HasHeader area sectors → ⊥
vmdb_or_header area sectors fault e header = let none = header.faultless in cc

pub one_copy : (area : List ℕ) (sectors : ℕ) (a b : Result CopyState CopyFault) → IsCopyOf area sectors a → IsCopyOf area sectors b → a ≡ b
one_copy area sectors (Ok Closed) (Ok Closed) x y = refl
one_copy area sectors (Ok Closed) (Err (Vmdb g)) x y = absurd (x y.0)
one_copy area sectors (Ok Closed) (Err (Frag g)) x y = absurd (x y.0.open_is)
one_copy area sectors (Ok Closed) (Err (BadRecord c g)) x y = absurd (x y.0.open_is)
one_copy area sectors (Ok Closed) (Err (SameId l j)) x y = absurd (x y.0.open_is)
one_copy area sectors (Ok Closed) (Ok (Valid other)) x y = absurd (x y.0.open_is)
one_copy area sectors (Err (Vmdb f)) (Ok Closed) x y = absurd (y x.0)
one_copy area sectors (Err (Vmdb f)) (Err (Vmdb g)) x y = let e = x.1 in let h = y.1 in cc
one_copy area sectors (Err (Vmdb f)) (Err (Frag g)) x y = absurd (vmdb_or_header area sectors f x.1 y.0)
one_copy area sectors (Err (Vmdb f)) (Err (BadRecord c g)) x y = absurd (vmdb_or_header area sectors f x.1 y.0)
one_copy area sectors (Err (Vmdb f)) (Err (SameId l j)) x y = absurd (vmdb_or_header area sectors f x.1 y.0)
one_copy area sectors (Err (Vmdb f)) (Ok (Valid other)) x y = absurd (vmdb_or_header area sectors f x.1 y.0)
one_copy area sectors (Err (Frag f)) (Ok Closed) x y = absurd (y x.0.open_is)
one_copy area sectors (Err (Frag f)) (Err (Vmdb g)) x y = absurd (vmdb_or_header area sectors g y.1 x.0)
one_copy area sectors (Err (Frag f)) (Err (Frag g)) x y = let e = x.1 in let h = y.1 in cc
one_copy area sectors (Err (Frag f)) (Err (BadRecord c g)) x y = absurd (frag_or_joins (blocks_in_use area) y.1.list f y.1.joined x.1)
one_copy area sectors (Err (Frag f)) (Err (SameId l j)) x y = absurd (frag_or_joins (blocks_in_use area) y.2.1.list f y.2.1.joined x.1)
one_copy area sectors (Err (Frag f)) (Ok (Valid other)) x y = absurd (frag_or_joins (blocks_in_use area) y.2.1.list f y.2.1.joined x.1)
one_copy area sectors (Err (BadRecord b f)) (Ok Closed) x y = absurd (y x.0.open_is)
one_copy area sectors (Err (BadRecord b f)) (Err (Vmdb g)) x y = absurd (vmdb_or_header area sectors g y.1 x.0)
one_copy area sectors (Err (BadRecord b f)) (Err (Frag g)) x y = absurd (frag_or_joins (blocks_in_use area) x.1.list g x.1.joined y.1)
one_copy area sectors (Err (BadRecord b f)) (Err (BadRecord c g)) x y = let same = one_bad (blocks_in_use area) b c f g x.1 y.1 in let at = same.0 in let is = same.1 in cc
one_copy area sectors (Err (BadRecord b f)) (Err (SameId l j)) x y = absurd (held_or_bad (blocks_in_use area) y.2.0 b f y.2.1 x.1)
one_copy area sectors (Err (BadRecord b f)) (Ok (Valid other)) x y = absurd (held_or_bad (blocks_in_use area) y.2.0 b f y.2.1 x.1)
one_copy area sectors (Err (SameId k i)) (Ok Closed) x y = absurd (y x.0.open_is)
one_copy area sectors (Err (SameId k i)) (Err (Vmdb g)) x y = absurd (vmdb_or_header area sectors g y.1 x.0)
one_copy area sectors (Err (SameId k i)) (Err (Frag g)) x y = absurd (frag_or_joins (blocks_in_use area) x.2.1.list g x.2.1.joined y.1)
one_copy area sectors (Err (SameId k i)) (Err (BadRecord c g)) x y = absurd (held_or_bad (blocks_in_use area) x.2.0 c g x.2.1 y.1)
one_copy area sectors (Err (SameId k i)) (Err (SameId l j)) x y = let same = one_twice x.2.0 y.2.0 k l i j (one_held (blocks_in_use area) x.2.0 y.2.0 x.2.1 y.2.1) x.1 y.1 x.2.2 y.2.2 in let kind = same.0 in let id = same.1 in cc
one_copy area sectors (Err (SameId k i)) (Ok (Valid other)) x y = absurd (twice_or_rising (blocks_in_use area) x.2.0 y.2.0 k i other x.2.1 y.2.1 x.2.2 y.2.2)
one_copy area sectors (Ok (Valid db)) (Ok Closed) x y = absurd (y x.0.open_is)
one_copy area sectors (Ok (Valid db)) (Err (Vmdb g)) x y = absurd (vmdb_or_header area sectors g y.1 x.0)
one_copy area sectors (Ok (Valid db)) (Err (Frag g)) x y = absurd (frag_or_joins (blocks_in_use area) x.2.1.list g x.2.1.joined y.1)
one_copy area sectors (Ok (Valid db)) (Err (BadRecord c g)) x y = absurd (held_or_bad (blocks_in_use area) x.2.0 c g x.2.1 y.1)
one_copy area sectors (Ok (Valid db)) (Err (SameId l j)) x y = absurd (twice_or_rising (blocks_in_use area) y.2.0 x.2.0 l j db y.2.1 x.2.1 y.2.2 x.2.2)
one_copy area sectors (Ok (Valid db)) (Ok (Valid other)) x y = ap (λ (d : Database). Ok (Valid d)) (one_valid area db other x.1 y.1 x.2 y.2)
