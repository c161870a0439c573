-- Walks along a list that end at the first fault, the first that has a property, and the copies on the images.
use Rattle.std.proofs.Common.{◌≡◌, ⊎_elim, ℕ, zero, suc, ◌<◌, Bool, true, false, cond, List, [], ◌∷◌, ◌++◌, length, get_or, Option, Some, None, refl, sym, ap, ◌∙◌, arith, ◌+◌, take, drop, Result, Ok, Err, subst, ◌≤◌}
use Rattle.std.specs.Prelude.{position, nat_lt, slice_get, is_some, if◌then◌else◌, map, zip, IfSome}
use Rattle.std.specs.List.{position_or_len}
use Rattle.std.proofs.lemmas.Bool.{cases_lt}
use Rattle.std.proofs.lemmas.Bool.Decides.{nat_tests}
use Rattle.std.proofs.lemmas.List.Sums.{fails_before_first}
use Rattle.std.proofs.lemmas.Option.{none-some}
use Rattle.ldm_found.specs.Gathers.{IsFirst, Gathers}
use Rattle.std.proofs.Math.Seq.{drop-cons}
use Rattle.std.proofs.lemmas.List.{take_more, take-append-drop, length-take-le, take_all, map_push, get_or-take}
use Rattle.std.specs.Option.{option_map}
use Rattle.ldm_group.specs.Database.{Database}
use Rattle.ldm_copy.specs.declared.answer.CopyState.{CopyState}
use Rattle.ldm_copy.specs.declared.answer.CopyState.TheVariants.{Closed, Valid}
use Rattle.ldm_found.specs.declared.copies.Newest.{Newest}
use Rattle.ldm_found.specs.Copies.{newer, newest, Disagrees, IsCopyIn, note_of}
use Rattle.ldm_found.specs.Steps.{IsNewestOf, Adds, ReadsCopy, ReadsNext, ReadsCopies, IsAmong}
use Rattle.std.proofs.lemmas.Slice.Zip.{length-zip, get_or-zip}
use Rattle.ldm_host.specs.Seen.{image}
use Rattle.ldm_label.specs.declared.Label.{Label}
use Rattle.ldm_copy.specs.Answers.{FitsHeader}
use Rattle.ldm_copy.specs.declared.fault.OpenFault.TheVariants as faults
use Rattle.ldm_found.specs.declared.fault.OpenError.{OpenError}
use Rattle.ldm_found.specs.declared.fault.OpenError.TheVariants.{Fault, Disk, NoMemory}
use Rattle.ldm_copy.specs.declared.notes.Note.{Note}
use Rattle.ldm_copy.specs.declared.notes.Note.TheVariants.{Sequence}

-- ---- The first of a list that has a property.

pub first_one : {A : Type 0} (Has : A → Type 0) (xs : List A) (a b : Option ℕ) → IsFirst Has xs a → IsFirst Has xs b → a ≡ b
first_one Has [] None None x y = refl
first_one Has [] None (Some q) x y = absurd y
first_one Has [] (Some p) b x y = absurd x
first_one Has (z ∷ zs) None None x y = refl
first_one Has (z ∷ zs) None (Some zero) x y = absurd (x.0 y)
first_one Has (z ∷ zs) None (Some (suc q)) x y = let rest = first_one Has zs None (Some q) x.1 y.1 in absurd (cc)
first_one Has (z ∷ zs) (Some zero) None x y = absurd (y.0 x)
first_one Has (z ∷ zs) (Some zero) (Some zero) x y = refl
first_one Has (z ∷ zs) (Some zero) (Some (suc q)) x y = absurd (y.0 x)
first_one Has (z ∷ zs) (Some (suc p)) None x y = let rest = first_one Has zs (Some p) None x.1 y.1 in absurd (cc)
first_one Has (z ∷ zs) (Some (suc p)) (Some zero) x y = absurd (x.0 y)
first_one Has (z ∷ zs) (Some (suc p)) (Some (suc q)) x y = let rest = first_one Has zs (Some p) (Some q) x.1 y.1 in cc

-- one more that hasn't the property
pub none_more : {A : Type 0} (Has : A → Type 0) (xs : List A) (a : A) → IsFirst Has xs None → (Has a → ⊥) → IsFirst Has (xs ++ a ∷ []) None
none_more Has [] a none not_it = (not_it, tt)
none_more Has (x ∷ xs) a none not_it = (none.0, none_more Has xs a none.1 not_it)

-- one more that is the first
pub first_here : {A : Type 0} (Has : A → Type 0) (xs : List A) (a : A) → IsFirst Has xs None → Has a → IsFirst Has (xs ++ a ∷ []) (Some (length xs))
first_here Has [] a none has = has
first_here Has (x ∷ xs) a none has = (none.0, first_here Has xs a none.1 has)

-- what comes later leaves the first
pub first_stays : {A : Type 0} (Has : A → Type 0) (xs more : List A) (place : ℕ) → IsFirst Has xs (Some place) → IsFirst Has (xs ++ more) (Some place)
first_stays Has [] more place first = absurd first
first_stays Has (x ∷ xs) more zero first = first
first_stays Has (x ∷ xs) more (suc place) first = (first.0, first_stays Has xs more place first.1)

-- ---- by a test

-- where no first one passes, none does
pub none_passes : {X : Type 0} (test : X → Bool) (xs : List X) → position test xs ≡ None → (k : ℕ) (d : X) → k < length xs → test (get_or xs k d) ≡ false
none_passes test xs none k d lt = ⊎_elim
    (λ less. let at : position_or_len test xs < length xs = less in
    let tested : nat_lt (position_or_len test xs) (length xs) ≡ true = grind (arith, nat_tests) in
    absurd (none-some (position_or_len test xs) (sym (sym (ap (λ (b : Bool). cond b (Some (position_or_len test xs)) None) tested) ∙ none))))
    (λ ge. fails_before_first test xs k d (omega (arith, ge, lt)))
    (cases_lt (position_or_len test xs) (length xs))

-- ---- Walks along a list that end at the first fault.

-- one more
gather_more : {A B F : Type 0} (Is : A → Result B F → Type 0) (xs : List A) (bs : List B) (a : A) (b : B)
    → Gathers Is xs (Ok bs) → Is a (Ok b) → Gathers Is (xs ++ a ∷ []) (Ok (bs ++ b ∷ []))
gather_more Is [] [] a b before here = (here, tt)
gather_more Is [] (c ∷ bs) a b before here = absurd before
gather_more Is (x ∷ xs) [] a b before here = absurd before
gather_more Is (x ∷ xs) (c ∷ bs) a b before here = (before.0, gather_more Is xs bs a b before.1 here)

-- a fault behind those that have none is the first
gather_fault : {A B F : Type 0} (Is : A → Result B F → Type 0) (xs : List A) (bs : List B) (a : A) (more : List A) (fault : F)
    → Gathers Is xs (Ok bs) → Is a (Err fault) → Gathers Is (xs ++ a ∷ more) (Err (length xs, fault))
gather_fault Is [] [] a more fault before here = here
gather_fault Is [] (c ∷ bs) a more fault before here = absurd before
gather_fault Is (x ∷ xs) [] a more fault before here = absurd before
gather_fault Is (x ∷ xs) (c ∷ bs) a more fault before here = ((c, before.0), gather_fault Is xs bs a more fault before.1 here)

pub gather_length : {A B F : Type 0} (Is : A → Result B F → Type 0) (xs : List A) (bs : List B) → Gathers Is xs (Ok bs) → length bs ≡ length xs
gather_length Is [] [] all = refl
gather_length Is [] (c ∷ bs) all = absurd all
gather_length Is (x ∷ xs) [] all = absurd all
gather_length Is (x ∷ xs) (c ∷ bs) all = ap suc (gather_length Is xs bs all.1)

-- what stands at a place
pub gather_at : {A B F : Type 0} (Is : A → Result B F → Type 0) (xs : List A) (bs : List B) (k : ℕ) (d : A) (b : B) → Gathers Is xs (Ok bs) → slice_get bs k ≡ Some b → Is (get_or xs k d) (Ok b)
gather_at Is [] [] k d b all at = absurd (cc)
gather_at Is [] (c ∷ bs) k d b all at = absurd all
gather_at Is (x ∷ xs) [] k d b all at = absurd all
gather_at {B = B} Is (x ∷ xs) (c ∷ bs) zero d b all at = let same : c ≡ b = cc in subst (λ (e : B). Is x (Ok e)) same all.0
gather_at Is (x ∷ xs) (c ∷ bs) (suc k) d b all at = gather_at Is xs bs k d b all.1 at

-- what is gathered of the front of a list goes on with what the next element is
pub gather_next : {A B F : Type 0} (Is : A → Result B F → Type 0) (xs : List A) (i : ℕ) (bs : List B) (d : A) (b : B) → i < length xs
    → Gathers Is (take i xs) (Ok bs) → Is (get_or xs i d) (Ok b) → Gathers Is (take (i + 1) xs) (Ok (bs ++ b ∷ []))
gather_next {A = A} {B = B} {F = F} Is xs i bs d b lt before here =
    subst (λ (l : List A). Gathers {F = F} Is l (Ok (bs ++ b ∷ []))) (sym (take_more xs i d lt)) (gather_more Is (take i xs) bs (get_or xs i d) b before here)

pub gather_ends : {A B F : Type 0} (Is : A → Result B F → Type 0) (xs : List A) (i : ℕ) (bs : List B) (d : A) (fault : F) → i < length xs
    → Gathers Is (take i xs) (Ok bs) → Is (get_or xs i d) (Err fault) → Gathers Is xs (Err (i, fault))
gather_ends {A = A} {B = B} {F = F} Is xs i bs d fault lt before here =
    let whole : take i xs ++ get_or xs i d ∷ drop (suc i) xs ≡ xs = sym (ap (λ (l : List A). take i xs ++ l) (drop-cons xs i d lt)) ∙ take-append-drop i xs in
    let at : length (take i xs) ≡ i = length-take-le i xs (omega arith) in
    subst (λ (l : List A). Gathers {B = B} Is l (Err (i, fault))) whole
    (subst (λ (n : ℕ). Gathers {B = B} Is (take i xs ++ get_or xs i d ∷ drop (suc i) xs) (Err (n, fault))) at
    (gather_fault Is (take i xs) bs (get_or xs i d) (drop (suc i) xs) fault before here))

-- a fault one place later
abbrev later : {B F : Type 0} → Result (List B) (ℕ × F) → Result (List B) (ℕ × F)
later (Ok bs) = Ok bs
later (Err at) = Err (suc at.0, at.1)

-- where each is one thing at most, so is the walk
pub gathers_one : {A B F : Type 0} (Is : A → Result B F → Type 0) (one : (x : A) (a b : Result B F) → Is x a → Is x b → a ≡ b) (xs : List A) (a b : Result (List B) (ℕ × F))
    → Gathers Is xs a → Gathers Is xs b → a ≡ b
gathers_one Is one [] (Ok []) (Ok []) x y = refl
gathers_one Is one [] (Ok []) (Ok (c ∷ cs)) x y = absurd y
gathers_one Is one [] (Ok []) (Err e) x y = absurd y
gathers_one Is one [] (Ok (b ∷ bs)) s x y = absurd x
gathers_one Is one [] (Err e) s x y = absurd x
gathers_one Is one (z ∷ zs) (Ok []) s x y = absurd x
gathers_one Is one (z ∷ zs) (Ok (b ∷ bs)) (Ok []) x y = absurd y
gathers_one Is one (z ∷ zs) (Ok (b ∷ bs)) (Ok (c ∷ cs)) x y =
    let here = one z (Ok b) (Ok c) x.0 y.0 in
    let rest = gathers_one Is one zs (Ok bs) (Ok cs) x.1 y.1 in
    cc
gathers_one Is one (z ∷ zs) (Ok (b ∷ bs)) (Err (zero, g)) x y = let here = one z (Ok b) (Err g) x.0 y in absurd (cc)
gathers_one Is one (z ∷ zs) (Ok (b ∷ bs)) (Err (suc q, g)) x y = let rest = gathers_one Is one zs (Ok bs) (Err (q, g)) x.1 y.1 in absurd (cc)
gathers_one Is one (z ∷ zs) (Err (zero, f)) (Ok []) x y = absurd y
gathers_one Is one (z ∷ zs) (Err (zero, f)) (Ok (c ∷ cs)) x y = let here = one z (Err f) (Ok c) x y.0 in absurd (cc)
gathers_one Is one (z ∷ zs) (Err (zero, f)) (Err (zero, g)) x y = let here = one z (Err f) (Err g) x y in cc
gathers_one Is one (z ∷ zs) (Err (zero, f)) (Err (suc q, g)) x y = let here = one z (Err f) (Ok y.0.0) x y.0.1 in absurd (cc)
gathers_one Is one (z ∷ zs) (Err (suc p, f)) (Ok []) x y = absurd y
gathers_one Is one (z ∷ zs) (Err (suc p, f)) (Ok (c ∷ cs)) x y = let rest = gathers_one Is one zs (Err (p, f)) (Ok cs) x.1 y.1 in absurd (cc)
gathers_one Is one (z ∷ zs) (Err (suc p, f)) (Err (zero, g)) x y = let here = one z (Ok x.0.0) (Err g) x.0.1 y in absurd (cc)
gathers_one Is one (z ∷ zs) (Err (suc p, f)) (Err (suc q, g)) x y = let rest = gathers_one Is one zs (Err (p, f)) (Err (q, g)) x.1 y.1 in ap later rest

-- ---- The newest of the copies so far, and one more copy.

-- of the copies behind the first
abbrev pub behind : Option (ℕ × Database) → Option (ℕ × Database)
behind later = option_map (λ (at : ℕ × Database). (suc at.0, at.1)) later

-- with a copy at this place behind them
abbrev joined : Option (ℕ × Database) → CopyState → ℕ → Option (ℕ × Database)
joined before Closed place = before
joined None (Valid db) place = Some (place, db)
joined (Some at) (Valid db) place = if nat_lt at.1.header.seq db.header.seq then Some (place, db) else Some at

-- which of three is the newest doesn't depend on which two are compared first
three : (e at db : Database) (i place : ℕ) (p q r : Bool) → nat_lt at.header.seq db.header.seq ≡ p → nat_lt e.header.seq at.header.seq ≡ q → nat_lt e.header.seq db.header.seq ≡ r
    → newer (Valid e) (behind (if p then Some (place, db) else Some (i, at))) ≡ joined (if q then Some (suc i, at) else Some (0, e)) (Valid db) (suc place)
three e at db i place true true true hp hq hr = simp (hp, hr)
three e at db i place true true false hp hq hr = absurd (grind (arith, nat_tests))
three e at db i place true false true hp hq hr = simp hr
three e at db i place true false false hp hq hr = simp hr
three e at db i place false true true hp hq hr = simp (hp, hq)
three e at db i place false true false hp hq hr = simp (hp, hq)
three e at db i place false false true hp hq hr = absurd (grind (arith, nat_tests))
three e at db i place false false false hp hq hr = simp (hq, hr)

newer_joined : (x : CopyState) (later : Option (ℕ × Database)) (c : CopyState) (place : ℕ) → newer x (behind (joined later c place)) ≡ joined (newer x (behind later)) c (suc place)
newer_joined x later Closed place = refl
newer_joined Closed None (Valid db) place = refl
newer_joined (Valid e) None (Valid db) place = refl
newer_joined Closed (Some at) (Valid db) place =
    elim (nat_lt at.1.header.seq db.header.seq) as (λ b. newer Closed (behind (if b then Some (place, db) else Some at)) ≡ (if b then Some (suc place, db) else Some (suc at.0, at.1)))
    [ true ↦ refl | false ↦ refl ]
newer_joined (Valid e) (Some at) (Valid db) place = three e at.1 db at.0 place _ _ _ refl refl refl

newest_more : (copies : List CopyState) (c : CopyState) → newest (copies ++ c ∷ []) ≡ joined (newest copies) c (length copies)
newest_more [] Closed = refl
newest_more [] (Valid db) = refl
newest_more (x ∷ copies) c = ap (λ (later : Option (ℕ × Database)). newer x (behind later)) (newest_more copies c) ∙ newer_joined x (newest copies) c (length copies)

-- ---- no copy has a greater sequence than the newest

abbrev IsBelow : Option (ℕ × Database) → ℕ → Type 0
IsBelow None seq = Unit {0}
IsBelow (Some at) seq = at.1.header.seq < seq

abbrev HasBelow : CopyState → ℕ → Type 0
HasBelow Closed seq = Unit {0}
HasBelow (Valid db) seq = db.header.seq < seq

below_behind : (later : Option (ℕ × Database)) (seq : ℕ) → IsBelow (behind later) seq → IsBelow later seq
below_behind None seq below = tt
below_behind (Some at) seq below = below

below_chosen : (e : Database) (at : ℕ × Database) (seq : ℕ) (b : Bool) → nat_lt e.header.seq at.1.header.seq ≡ b → IsBelow (if b then Some at else Some (0, e)) seq
    → (e.header.seq < seq) × (at.1.header.seq < seq)
below_chosen e at seq true is below = let first : e.header.seq < seq = grind (arith, nat_tests) in (first, below)
below_chosen e at seq false is below = let second : at.1.header.seq < seq = grind (arith, nat_tests) in (below, second)

below_both : (c : CopyState) (later : Option (ℕ × Database)) (seq : ℕ) → IsBelow (newer c later) seq → HasBelow c seq × IsBelow later seq
below_both Closed later seq below = (tt, below)
below_both (Valid e) None seq below = (below, tt)
below_both (Valid e) (Some at) seq below = below_chosen e at seq _ refl below

-- each open copy stands below what the newest stands below
each_below : (copies : List CopyState) (seq k : ℕ) (e : Database) → IsBelow (newest copies) seq
    → slice_get copies k ≡ Some (Valid e) → e.header.seq < seq
each_below [] seq k e below at = absurd cc
each_below (c ∷ copies) seq zero e below at =
    let same : c ≡ Valid e = cc in
    subst (λ (x : CopyState). HasBelow x seq) same
    (below_both c (behind (newest copies)) seq below).0
each_below (c ∷ copies) seq (suc k) e below at = each_below copies seq k e
    (below_behind (newest copies) seq (below_both c (behind (newest copies)) seq below).1) at

-- the newest stands there
newest_at : (copies : List CopyState) (at : ℕ × Database)
    → newest copies ≡ Some at → slice_get copies at.0 ≡ Some (Valid at.1)
newest_at [] at is = absurd cc
newest_at (x ∷ copies) at is = by x (newest copies) (λ b e. newest_at copies b e) is
  where
    here : (p : ℕ × Database) (x : CopyState) → p ≡ at → slice_get (x ∷ copies) p.0
        ≡ Some (Valid p.1) → slice_get (x ∷ copies) at.0 ≡ Some (Valid at.1)
    here p x same there = subst (λ (q : ℕ × Database). slice_get (x ∷ copies) q.0
        ≡ Some (Valid q.1)) same there

    chosen : (e : Database) (b : ℕ × Database) (t : Bool) → slice_get copies b.0 ≡ Some (Valid b.1)
        → (if t then Some (suc b.0, b.1) else Some (0, e)) ≡ Some at
        → slice_get (Valid e ∷ copies) at.0 ≡ Some (Valid at.1)
    chosen e b true there is = here (suc b.0, b.1) (Valid e) (cc) there
    chosen e b false there is = here (0, e) (Valid e) (cc) refl

    by : (x : CopyState) (later : Option (ℕ × Database))
        → ((b : ℕ × Database) → later ≡ Some b → slice_get copies b.0 ≡ Some (Valid b.1))
        → newer x (behind later) ≡ Some at
        → slice_get (x ∷ copies) at.0 ≡ Some (Valid at.1)
    by Closed None there is = absurd cc
    by Closed (Some b) there is = here (suc b.0, b.1) Closed (cc) (there b refl)
    by (Valid e) None there is = here (0, e) (Valid e) (cc) refl
    by (Valid e) (Some b) there is = chosen e b (nat_lt e.header.seq b.1.header.seq) (there b refl)
        is

-- the copy at this place is open, and no open copy has a greater sequence
pub record IsGreatest (copies : List CopyState) (at : ℕ × Database) : Type 0 where
  pub there : slice_get copies at.0 ≡ Some (Valid at.1)
  pub top : (k : ℕ) (e : Database) → slice_get copies k ≡ Some (Valid e) → e.header.seq ≤ at.1.header.seq

pub greatest : (copies : List CopyState) (at : ℕ × Database) → newest copies ≡ Some at → IsGreatest copies at
greatest copies at is = record {
  there = newest_at copies at is;
  top = λ k e there.
      let below : IsBelow (newest copies) (at.1.header.seq + 1) = subst
      (λ (o : Option (ℕ × Database)). IsBelow o (at.1.header.seq + 1)) (sym is) (omega arith) in
      omega (arith, each_below copies (at.1.header.seq + 1) k e below there);
}

other_seq : (db : Database) (c : CopyState) → HasBelow c db.header.seq → Disagrees db c → ⊥
other_seq db Closed below differs = differs
other_seq db (Valid e) below differs = let same = differs.0 in omega (arith, same, below)

-- no copy disagrees with a database of a greater sequence
none_disagrees : (copies : List CopyState) (db : Database) → IsBelow (newest copies) db.header.seq → IsFirst (Disagrees db) copies None
none_disagrees [] db below = tt
none_disagrees (c ∷ copies) db below =
    let both = below_both c (behind (newest copies)) db.header.seq below in
    (other_seq db c both.0, none_disagrees copies db (below_behind (newest copies) db.header.seq both.1))

same_itself : (db : Database) → Disagrees db (Valid db) → ⊥
same_itself db differs = differs.1 refl

-- ---- the steps

pub with_closed : (copies : List CopyState) (n : Option Newest) → IsNewestOf copies n → IsNewestOf (copies ++ Closed ∷ []) n
with_closed copies None is = newest_more copies Closed ∙ is
with_closed copies (Some n) is = (newest_more copies Closed ∙ is.0, by_other n.other is.1)
  where
    by_other : (o : Option ℕ) → IsFirst (Disagrees n.db) copies o → IsFirst (Disagrees n.db) (copies ++ Closed ∷ []) o
    by_other None first = none_more (Disagrees n.db) copies Closed first (λ differs. differs)
    by_other (Some other) first = first_stays (Disagrees n.db) copies (Closed ∷ []) other first

pub with_first : (copies : List CopyState) (db : Database) (image : ℕ) → length copies ≡ image → newest copies ≡ None
    → (newest (copies ++ Valid db ∷ []) ≡ Some (image, db)) × IsFirst (Disagrees db) (copies ++ Valid db ∷ []) None
with_first copies db image at none = (
  newest_more copies (Valid db) ∙ ap (λ (o : Option (ℕ × Database)). joined o (Valid db) (length copies)) none ∙ ap (λ (n : ℕ). Some (n, db)) at,
  none_more (Disagrees db) copies (Valid db) (none_disagrees copies db (subst (λ (o : Option (ℕ × Database)). IsBelow o db.header.seq) (sym none) tt)) (same_itself db),
)

pub with_newer : (copies : List CopyState) (n : Newest) (db : Database) (image : ℕ) → length copies ≡ image → IsNewestOf copies (Some n) → n.db.header.seq < db.header.seq
    → (newest (copies ++ Valid db ∷ []) ≡ Some (image, db)) × IsFirst (Disagrees db) (copies ++ Valid db ∷ []) None
with_newer copies n db image at is lt =
    let less : nat_lt n.db.header.seq db.header.seq ≡ true = grind (arith, nat_tests) in (
      newest_more copies (Valid db) ∙ ap (λ (o : Option (ℕ × Database)). joined o (Valid db) (length copies)) is.0
          ∙ ap (λ (b : Bool). if b then Some (length copies, db) else Some (n.image, n.db)) less ∙ ap (λ (n : ℕ). Some (n, db)) at,
      none_more (Disagrees db) copies (Valid db) (none_disagrees copies db (subst (λ (o : Option (ℕ × Database)). IsBelow o db.header.seq) (sym is.0) lt)) (same_itself db),
    )

newest_stays : (copies : List CopyState) (n : Newest) (db : Database) → newest copies ≡ Some (n.image, n.db) → db.header.seq ≤ n.db.header.seq
    → newest (copies ++ Valid db ∷ []) ≡ Some (n.image, n.db)
newest_stays copies n db is le =
    let less : nat_lt n.db.header.seq db.header.seq ≡ false = grind (arith, nat_tests) in
    newest_more copies (Valid db) ∙ ap (λ (o : Option (ℕ × Database)). joined o (Valid db) (length copies)) is
    ∙ ap (λ (b : Bool). if b then Some (length copies, db) else Some (n.image, n.db)) less

-- a database that agrees, or one behind another that doesn't
pub with_older : (copies : List CopyState) (n : Newest) (db : Database) → IsNewestOf copies (Some n) → db.header.seq ≤ n.db.header.seq
    → (n.other ≡ None → Disagrees n.db (Valid db) → ⊥) → IsNewestOf (copies ++ Valid db ∷ []) (Some n)
with_older copies n db is le agrees = (newest_stays copies n db is.0 le, by_other n.other is.1 agrees)
  where
    by_other : (o : Option ℕ) → IsFirst (Disagrees n.db) copies o → (o ≡ None → Disagrees n.db (Valid db) → ⊥) → IsFirst (Disagrees n.db) (copies ++ Valid db ∷ []) o
    by_other None first none = none_more (Disagrees n.db) copies (Valid db) first (none refl)
    by_other (Some other) first none = first_stays (Disagrees n.db) copies (Valid db ∷ []) other first

-- the first that disagrees
pub with_other : (copies : List CopyState) (n : Newest) (db : Database) (image : ℕ) → length copies ≡ image → IsNewestOf copies (Some n) → db.header.seq ≤ n.db.header.seq
    → n.other ≡ None → Disagrees n.db (Valid db) → IsNewestOf (copies ++ Valid db ∷ []) (Some (record n { other = Some image }))
with_other copies n db image at is le none differs =
    let none_yet = subst (λ (o : Option ℕ). IsFirst (Disagrees n.db) copies o) none is.1 in (
      newest_stays copies n db is.0 le,
      subst (λ (k : ℕ). IsFirst (Disagrees n.db) (copies ++ Valid db ∷ []) (Some k)) at (first_here (Disagrees n.db) copies (Valid db) none_yet differs),
    )

pub no_other : (o : Option ℕ) → is_some o ≡ false → o ≡ None
no_other None none = refl
no_other (Some at) none = absurd (cc)

pub has_other : (o : Option ℕ) → is_some o ≡ true → o ≡ None → ⊥
has_other None some none = absurd (cc)
has_other (Some at) some none = absurd (cc)

-- ---- The copies on the images so far.

-- of so many images, with the newest of their copies and their notes
abbrev pub HaveCopies : List Label → List (List ℕ) → ℕ → Option Newest → List Note → Type 0
HaveCopies labels images i newest notes =
    (copies : List CopyState) × Gathers IsCopyIn (take i (zip labels images)) (Ok copies) × IsNewestOf copies newest × (notes ≡ map note_of copies)

zip_long : (labels : List Label) (images : List (List ℕ)) → length images ≡ length labels → length (zip labels images) ≡ length labels
zip_long labels images one_each = length-zip labels images ∙ omega arith

-- there is a copy for each image so far
pub one_copy_each : (labels : List Label) (images : List (List ℕ)) (i : ℕ) (copies : List CopyState) → i ≤ length labels → length images ≡ length labels
    → Gathers IsCopyIn (take i (zip labels images)) (Ok copies) → length copies ≡ i
one_copy_each labels images i copies le one_each all =
    let long = zip_long labels images one_each in
    gather_length IsCopyIn (take i (zip labels images)) copies all ∙ length-take-le i (zip labels images) (omega arith)

-- the copy that is the newest stands on its image
pub newest_there : (labels : List Label) (images : List (List ℕ)) (i : ℕ) (copies : List CopyState) (n : Newest) (d : Label) → n.image < i → i ≤ length labels → length images ≡ length labels
    → Gathers IsCopyIn (take i (zip labels images)) (Ok copies) → IsNewestOf copies (Some n) → IsCopyIn (get_or labels n.image d, image images n.image) (Ok (Valid n.db))
newest_there labels images i copies n d lt le one_each all is =
    let there : slice_get copies n.image ≡ Some (Valid n.db) = (greatest copies (n.image, n.db) is.0).there in
    let here = gather_at IsCopyIn (take i (zip labels images)) copies n.image (d, []) (Valid n.db) all there in
    let same = get_or-take i (zip labels images) n.image (d, []) lt ∙ get_or-zip labels images n.image (d, []) (omega arith) (omega arith) in
    subst (λ (x : Label × List ℕ). IsCopyIn x (Ok (Valid n.db))) same here

-- one more image with the copy that is the newest
pub adds_again : (copies : List CopyState) (n : Newest) (here : Label × List ℕ) → IsNewestOf copies (Some n) → IsCopyIn here (Ok (Valid n.db))
    → Adds here copies (Some n) (Sequence n.db.header.seq)
adds_again copies n here is copy = (Valid n.db, copy, with_older copies n n.db is (omega arith) (λ none differs. differs.1 refl), refl)

-- the copy on the next image
pub copies_next : (labels : List Label) (images content : List (List ℕ)) (i : ℕ) (d : Label) (before after : Option Newest) (notes new : List Note) (note : Note)
    → content ≡ images → i < length labels → length images ≡ length labels
    → ((copies : List CopyState) → Gathers IsCopyIn (take i (zip labels content)) (Ok copies) → IsNewestOf copies before → Adds (get_or labels i d, image content i) copies after note)
    → new ≡ notes ++ note ∷ [] → HaveCopies labels images i before notes → HaveCopies labels images (i + 1) after new
copies_next labels images content i d before after notes new note kept lt one_each step pushed (copies, all, is, same) =
    let step_there = subst (λ (l : List (List ℕ)). (copies : List CopyState) → Gathers IsCopyIn (take i (zip labels l)) (Ok copies) → IsNewestOf copies before → Adds (get_or labels i d, image l i) copies after note) kept step in
    let long = zip_long labels images one_each in
    let there = get_or-zip labels images i (d, []) lt (omega arith) in
    let next = step_there copies all is in (
      copies ++ next.0 ∷ [],
      gather_next IsCopyIn (zip labels images) i copies (d, []) next.0 (omega arith) all (subst (λ (x : Label × List ℕ). IsCopyIn x (Ok next.0)) (sym there) next.1),
      next.2,
      pushed ∙ ap (λ (n : Note). notes ++ n ∷ []) next.3
          ∙ ap (λ (l : List Note). l ++ note_of next.0 ∷ []) same
          ∙ sym (map_push note_of copies next.0),
    )

-- of all images
pub copies_all : (labels : List Label) (images : List (List ℕ)) (i : ℕ) (newest : Option Newest) (notes new : List Note) → length labels ≤ i → length images ≡ length labels
    → new ≡ notes → HaveCopies labels images i newest notes
    → (copies : List CopyState) × Gathers IsCopyIn (zip labels images) (Ok copies) × IsNewestOf copies newest × (new ≡ map note_of copies)
copies_all labels images i newest notes new le one_each same (copies, all, is, noted) =
    let long = zip_long labels images one_each in
    (copies, subst (λ (l : List (Label × List ℕ)). Gathers IsCopyIn l (Ok copies)) (take_all i (zip labels images) (omega arith)) all, is, same ∙ noted)

-- ---- the answers

-- a fault behind copies that have none is the first of the group
pub copy_fault : (labels : List Label) (images content : List (List ℕ)) (i : ℕ) (d : Label) (newest : Option Newest) (notes : List Note) (error : OpenError)
    → content ≡ images → i < length labels → length images ≡ length labels → HaveCopies labels images i newest notes
    → ((copies : List CopyState) → Gathers IsCopyIn (take i (zip labels content)) (Ok copies) → IsNewestOf copies newest
    → ReadsNext i (get_or labels i d, image content i) copies (Err error)) → ReadsCopies labels images (Err error)
copy_fault labels images content i d newest notes error kept lt one_each (copies, all, is, noted) reads =
    fault_is error (subst (λ (l : List (List ℕ)). (copies : List CopyState) → Gathers IsCopyIn (take i (zip labels l)) (Ok copies) → IsNewestOf copies newest
    → ReadsCopy i (get_or labels i d, image l i) (Err error)) kept reads copies all is)
  where
    fault_is : (e : OpenError) → ReadsCopy i (get_or labels i d, image images i) (Err e) → ReadsCopies labels images (Err e)
    fault_is (Fault (faults.Copy at fault)) here =
        let long = zip_long labels images one_each in
        let there = get_or-zip labels images i (d, []) lt (omega arith) in (
          Err (i, fault),
          gather_ends IsCopyIn (zip labels images) i copies (d, []) fault (omega arith) all (subst (λ (x : Label × List ℕ). IsCopyIn x (Err fault)) (sym there) here.1),
          ap (λ (n : ℕ). Err (faults.Copy n fault)) here.0,
        )
    fault_is (Fault other) here = absurd here
    fault_is Disk here = tt
    fault_is NoMemory here = tt

-- ---- the newest of so many images

pub among_more : (o : Option Newest) (i : ℕ) → IfSome o (λ n. IsAmong i n) → IfSome o (λ n. IsAmong (i + 1) n)
among_more None i is = tt
among_more (Some n) i is = record { within = omega (arith, is.within); room = is.room }

pub among_roomy : (o : Option Newest) (i : ℕ) → IfSome o (λ n. IsAmong i n) → IfSome o (λ n. FitsHeader n.db)
among_roomy None i is = tt
among_roomy (Some n) i is = is.room
