-- Bytes that are put into a list at rising offsets, and what is read there.
use Rattle.std.proofs.Common.{◌≡◌, ◌⊎◌, inl, ℕ, zero, suc, ◌+◌, ◌-◌, ◌^◌, ◌<◌, ◌≤◌, List, [], ◌∷◌, length, take, drop, get_or, slice_range, refl, sym, ◌∙◌, ap, subst, arith}
use Rattle.std.proofs.lemmas.List.{append-nil, take_at}
use Rattle.byteorder.specs.Endian.{big_number, big_bytes}
use Rattle.byteorder.specs.Numbers.{big_from-take, big_number-reads_back, length-bytes_high_first}
use Rattle.ldm_bytes.specs.Places.{put, put_each}
use Rattle.ldm_bytes.proofs.PlaceLaws.{length-put, get_or-put_outside, drop-put, same_range}

-- The fields begin at that place or behind it, each behind the one before it, and end in a list of so many bytes.
abbrev pub InOrder : ℕ → ℕ → List (ℕ × List ℕ) → Type 0
InOrder from size [] = from ≤ size
InOrder from size (field ∷ fields) = (from ≤ field.0) × InOrder (field.0 + length field.1) size fields

-- none of them meets that place
abbrev pub AllMiss : ℕ → List (ℕ × List ℕ) → Type 0
AllMiss k [] = Unit {0}
AllMiss k (field ∷ fields) = ((k < field.0) ⊎ (field.0 + length field.1 ≤ k)) × AllMiss k fields

ends_inside : (from size : ℕ) (fields : List (ℕ × List ℕ)) → InOrder from size fields → from ≤ size
ends_inside from size [] order = order
ends_inside from size (field ∷ fields) order =
    let rest = ends_inside (field.0 + length field.1) size fields order.1 in
    let first = order.0 in
    omega arith

-- the fields behind the first are in order in the list in which the first was put
behind_first : (old : List ℕ) (from : ℕ) (field : ℕ × List ℕ) (fields : List (ℕ × List ℕ)) → InOrder from (length old) (field ∷ fields)
    → InOrder (field.0 + length field.1) (length (put old field.0 field.1)) fields
behind_first old from field fields order =
    subst (λ (n : ℕ). InOrder (field.0 + length field.1) n fields) (sym (length-put old field.0 field.1 (ends_inside (field.0 + length field.1) (length old) fields order.1))) order.1

pub length-put_each : (old : List ℕ) (from : ℕ) (fields : List (ℕ × List ℕ)) → InOrder from (length old) fields → length (put_each old fields) ≡ length old
unfolding put_each
length-put_each old from [] order = refl
length-put_each old from (field ∷ fields) order =
    length-put_each (put old field.0 field.1) (field.0 + length field.1) fields (behind_first old from field fields order)
    ∙ length-put old field.0 field.1 (ends_inside (field.0 + length field.1) (length old) fields order.1)

pub outside_each : (old : List ℕ) (from : ℕ) (fields : List (ℕ × List ℕ)) (k : ℕ) → InOrder from (length old) fields → AllMiss k fields
    → get_or (put_each old fields) k 0 ≡ get_or old k 0
unfolding put_each
outside_each old from [] k order miss = refl
outside_each old from (field ∷ fields) k order miss =
    outside_each (put old field.0 field.1) (field.0 + length field.1) fields k (behind_first old from field fields order) miss.1
    ∙ get_or-put_outside old field.0 field.1 k (ends_inside (field.0 + length field.1) (length old) fields order.1) miss.0

before_all : (k from size : ℕ) (fields : List (ℕ × List ℕ)) → InOrder from size fields → k < from → AllMiss k fields
before_all k from size [] order lt = tt
before_all k from size (field ∷ fields) order lt =
    let first = order.0 in
    (inl (omega arith), before_all k (field.0 + length field.1) size fields order.1 (omega arith))

first_there : (old : List ℕ) (from at : ℕ) (bytes : List ℕ) (rest : List (ℕ × List ℕ)) → InOrder from (length old) ((at, bytes) ∷ rest)
    → slice_range (put_each (put old at bytes) rest) at (at + length bytes) ≡ bytes
first_there old from at bytes rest order =
    let fits = ends_inside (at + length bytes) (length old) rest order.1 in
    let more = behind_first old from (at, bytes) rest order in
    let len : at + length bytes - at ≡ length bytes = omega arith in
    same_range (put_each (put old at bytes) rest) (put old at bytes) at (at + length bytes) (length-put_each (put old at bytes) (at + length bytes) rest more)
    (λ k low high. outside_each (put old at bytes) (at + length bytes) rest k more (before_all k (at + length bytes) (length (put old at bytes)) rest more high))
    ∙ ap (λ (n : ℕ). take n (drop at (put old at bytes))) len
    ∙ ap (λ (l : List ℕ). take (length bytes) l) (drop-put old at bytes fits)
    ∙ take_at bytes (drop (at + length bytes) old) (length bytes) refl

-- each of the fields is read
pub field_there : (old : List ℕ) (from : ℕ) (fields : List (ℕ × List ℕ)) (i : ℕ) (d : ℕ × List ℕ) → i < length fields → InOrder from (length old) fields
    → slice_range (put_each old fields) (get_or fields i d).0 ((get_or fields i d).0 + length (get_or fields i d).1) ≡ (get_or fields i d).1
unfolding put_each
field_there old from [] i d lt order = absurd (omega arith)
field_there old from (field ∷ fields) zero d lt order = first_there old from field.0 field.1 fields order
field_there old from (field ∷ fields) (suc i) d lt order =
    field_there (put old field.0 field.1) (field.0 + length field.1) fields i d (omega arith) (behind_first old from field fields order)

-- a number of n bytes, high byte first, is read back where its bytes stand
pub number_there : (list : List ℕ) (at n v : ℕ) → v < 256 ^ n → slice_range list at (at + length (big_bytes n v)) ≡ big_bytes n v → big_number n (drop at list) ≡ v
number_there list at n v small there =
    let len : at + length (big_bytes n v) - at ≡ n = omega (arith, length-bytes_high_first n v) in
    sym (big_from-take 0 n n (drop at list) (omega arith))
    ∙ ap (big_number n) (ap (λ (m : ℕ). take m (drop at list)) (sym len) ∙ there)
    ∙ ap (big_number n) (sym (append-nil (big_bytes n v)))
    ∙ big_number-reads_back n v [] small

-- a list in which the fields were put one after the other
pub put_then : (old next new : List ℕ) (field : ℕ × List ℕ) (rest : List (ℕ × List ℕ)) → next ≡ put old field.0 field.1 → new ≡ put_each next rest
    → new ≡ put_each old (field ∷ rest)
unfolding put_each
put_then old next new field rest one more = more ∙ ap (λ (l : List ℕ). put_each l rest) one

pub put_none : (old : List ℕ) → old ≡ put_each old []
unfolding put_each
put_none old = refl
