-- What is found is a record of the group, which its kind and id find again.
use Rattle.std.proofs.Common.{◌≡◌, ℕ, zero, suc, ◌+◌, ◌*◌, ◌^◌, ◌<◌, ◌==◌, ◌&&◌, inl, inr, Bool, true, false, cond, List, [], ◌∷◌, length, get_or, refl, ap, sym, ◌∙◌, arith, Option, Some, None, find, Contains, Bor, IfSome, option_copied, slice_get}
use Rattle.std.proofs.lemmas.Bool.{and_parts, cases_lt, eqb-true, eq-eqb}
use Rattle.std.proofs.lemmas.Option.{slice_get_within, slice_get-get_or}
use Rattle.std.proofs.lemmas.List.{get_or_default}
use Rattle.ldm_bytes.proofs.FindLaws.{find_there}
use Rattle.ldm_records.specs.declared.types.Record.{Record}
use Rattle.ldm_group.specs.Order.{Rising, kind_of, id_of, place_of}
use Rattle.ldm_group.specs.Looks.{is_at, by_id}

-- where a search finds nothing, no element passes
pub none_found : {X : Type 0} (t : X → Bool) (xs : List X) (k : ℕ) (d : X) → find t xs ≡ None → k < length xs → t (get_or xs k d) ≡ false
none_found t [] k d e lt = absurd (omega (arith, lt))
none_found {X} t (x ∷ xs) k d e lt = go (t x) refl e k lt (λ j f l. none_found t xs j d f l)
  where
    go : (b : Bool) → t x ≡ b → cond b (Some x) (find t xs) ≡ None → (k : ℕ) → k < length (x ∷ xs) → ((j : ℕ) → find t xs ≡ None → j < length xs → t (get_or xs j d) ≡ false)
        → t (get_or (x ∷ xs) k d) ≡ false
    go true h f k l later = absurd cc
    go false h f zero l later = h
    go false h f (suc k) l later = later k f (omega (arith, l))

-- a test that holds of no element finds nothing
pub find_none : {X : Type 0} (p : X → Bool) (xs : List X) → ((k : ℕ) (d : X) → k < length xs → p (get_or xs k d) ≡ false) → find p xs ≡ None
find_none p [] none = refl
find_none p (x ∷ xs) none = rw (none 0 x (omega arith)) (find_none p xs (λ k d h. none (suc k) d (omega arith)))

-- two records of a group at one place of the order are one
pub one_record : (records : List Record) (r s : Record) → Rising records → Contains records r → Contains records s → place_of r ≡ place_of s → r ≡ s
one_record records r s up at_r at_s e =
    let here : get_or records at_r.0 r ≡ r = at_r.2 in
    let there : get_or records at_s.0 r ≡ s = get_or_default records at_s.0 r s at_s.1 ∙ at_s.2 in
    let same : place_of (get_or records at_r.0 r) ≡ place_of (get_or records at_s.0 r) = ap place_of here ∙ (e ∙ ap place_of (sym there)) in
    elim (cases_lt at_r.0 at_s.0) [
      | inl lt ↦ absurd (let below : place_of (get_or records at_r.0 r) < place_of (get_or records at_s.0 r) = up at_r.0 at_s.0 r lt at_s.1 in omega (arith, below, same))
      | inr ge ↦ elim (cases_lt at_s.0 at_r.0) [
        | inl lt ↦ absurd (let below : place_of (get_or records at_s.0 r) < place_of (get_or records at_r.0 r) = up at_s.0 at_r.0 r lt at_r.1 in omega (arith, below, same))
        | inr le ↦ (let index : at_r.0 ≡ at_s.0 = omega arith in sym here ∙ (ap (λ k. get_or records k r) index ∙ there))
      ]
    ]

at_own : (r : Record) → is_at (kind_of r) (id_of r) r ≡ true
at_own r = ap (λ b. b && (id_of r == id_of r)) (eq-eqb (kind_of r) (kind_of r) refl) ∙ eq-eqb (id_of r) (id_of r) refl

own_place : (r s : Record) → is_at (kind_of r) (id_of r) s ≡ true → place_of s ≡ place_of r
unfolding place_of
own_place r s e =
    let both = and_parts (kind_of s == kind_of r) (id_of s == id_of r) e in
    ap (λ (k : ℕ). k * 2 ^ 64 + id_of s) (eqb-true (kind_of s) (kind_of r) both.0) ∙ ap (λ (n : ℕ). kind_of r * 2 ^ 64 + n) (eqb-true (id_of s) (id_of r) both.1)

-- the kind and id of a record find it
pub found_again : (records : List Record) (r : Record) → Rising records → Contains records r → by_id (kind_of r) (id_of r) records ≡ Some r
found_again records r up there = go (by_id (kind_of r) (id_of r) records) refl
  where
    go : (o : Option Record) → by_id (kind_of r) (id_of r) records ≡ o → by_id (kind_of r) (id_of r) records ≡ Some r
    go None e =
        let fails : is_at (kind_of r) (id_of r) (get_or records there.0 r) ≡ false = none_found (is_at (kind_of r) (id_of r)) records there.0 r e there.1 in
        let bad : true ≡ false = sym (at_own r) ∙ ap (is_at (kind_of r) (id_of r)) (sym there.2) ∙ fails in
        absurd cc
    go (Some s) e =
        let found = find_there (is_at (kind_of r) (id_of r)) records s e in
        e ∙ ap (λ (x : Record). Some x) (one_record records s r up found.0 there (own_place r s found.1))

-- ---- what a call hands out

pub found_at : (kind id : ℕ) (records : List Record) (found : Option (Bor Record)) → option_copied found ≡ by_id kind id records → IfSome found (λ r. is_at kind id r.now ≡ true)
found_at kind id records None is = tt
found_at kind id records (Some r) is = (find_there (is_at kind id) records r.now (sym is)).1

pub there_at : (found : Option (Bor Record)) (records : List Record) (place : ℕ) → option_copied found ≡ slice_get records place → IfSome found (λ r. Contains records r.now)
there_at None records place is = tt
there_at (Some r) records place is =
    let within : place < length records = slice_get_within records place r.now (sym is) in
    let same : Some r.now ≡ Some (get_or records place r.now) = is ∙ slice_get-get_or records place r.now within in
    (place, within, cc)

pub again_at : (found : Option (Bor Record)) (records : List Record) (place : ℕ) → Rising records → option_copied found ≡ slice_get records place
    → IfSome found (λ r. by_id (kind_of r.now) (id_of r.now) records ≡ Some r.now)
again_at None records place up is = tt
again_at (Some r) records place up is = found_again records r.now up (there_at (Some r) records place is)
