-- The own spelling of a record, by its fields; it spells the record.
use Rattle.std.proofs.Common.{◌≡◌, ℕ, ◌^◌, ◌<◌, ◌≤◌, true, List, [], ◌∷◌, length, refl, sym, ap, arith, ◌+◌, ◌++◌, zero, suc, ◌-◌, take, subst, ◌∙◌, get_or, append_assoc}
use Rattle.std.proofs.lemmas.List.{length-append, append-nil, map_more}
use Rattle.ldm_bytes.specs.Guid.{own_guid}
use Rattle.ldm_bytes.proofs.GuidLaws.{guid_again, own_guid-len}
use Rattle.ldm_bytes.proofs.NumberLaws.{own_number-is_number}
use Rattle.ldm_records.specs.Values.{Value, Fixed, Wide, GuidText, Number, Text, Absent, FieldKind, GuidKind, NumberKind, TextKind, When, HasKind, HasKinds, SpellsValue, SpellsValues, own_value, own_values, values_len}
use Rattle.ldm_written.specs.Spelled.{IsShort, AreShort}
use Rattle.ldm_records.specs.Plain.{Plain, own_spelling, own_body, body_len, IsRecord, Spells, head_bytes}
use Rattle.std.specs.Prelude.{replicate}
use Rattle.byteorder.specs.Endian.{big_bytes}
use Rattle.ldm_records.specs.Outlines.{filled_plain}
use Rattle.ldm_records.proofs.PlainLaws.{own_body_len}
use Rattle.ldm_records.specs.declared.field.Field.{Field}
use Rattle.ldm_records.specs.FieldViews.{value_of, values_of}
use Rattle.ldm_records.proofs.OutlineLaws.{listed_len}

number_kind : (k : FieldKind) (v : ℕ) → HasKind k (Number v) → v < 2 ^ 64
number_kind NumberKind v h = h
number_kind (When true k) v h = number_kind k v h
number_kind _ v h = absurd h

pub text_kind : (k : FieldKind) (t : List ℕ) → HasKind k (Text t) → length t ≤ 255
text_kind TextKind t h = h
text_kind (When true k) t h = text_kind k t h
text_kind _ t h = absurd h

guid_kind : (k : FieldKind) (v : ℕ) → HasKind k (GuidText v) → v < 2 ^ 128
guid_kind GuidKind v h = h
guid_kind (When true k) v h = guid_kind k v h
guid_kind _ v h = absurd h

own_value-spells : (k : FieldKind) (x : Value) → HasKind k x → SpellsValue x (own_value x)
own_value-spells k (Fixed bytes) h = refl
own_value-spells k (Wide n v) h = refl
own_value-spells k (Number v) h = own_number-is_number v (number_kind k v h)
own_value-spells k (Text t) h = (text_kind k t h, refl)
own_value-spells k (GuidText v) h =
    (own_guid v, (omega (arith, own_guid-len v), ap (λ (n : ℕ). n ∷ own_guid v) (sym (own_guid-len v))), guid_again v (guid_kind k v h))
own_value-spells k Absent h = refl

pub own_values-spell : (ks : List FieldKind) (xs : List Value) → HasKinds ks xs → SpellsValues xs (own_values xs)
own_values-spell [] [] h = refl
own_values-spell (k ∷ ks) (x ∷ xs) h = (own_value x, own_values xs, own_value-spells k x h.0, own_values-spell ks xs h.1, refl)
own_values-spell _ _ h = absurd h

-- the own spelling, with any filling, spells the record
pub own_spells : (p : Plain) (filling : List ℕ) → IsRecord p → Spells p (own_spelling p ++ filling)
own_spells p filling s = record {
  sound = s;
  text = own_values p.fields;
  filling = filling;
  spelled = own_values-spell s.kinds p.fields s.fields;
  whole = refl;
  short = s.short;
  room = omega (arith, length-append (own_spelling p) filling);
}

absent_own : (n : ℕ) → own_values (replicate n Absent) ≡ []
absent_own zero = refl
absent_own (suc n) = absent_own n

more_own : (xs : List Value) (n : ℕ) → own_values (xs ++ replicate n Absent) ≡ own_values xs
more_own [] n = absent_own n
more_own (x ∷ xs) n = rw (more_own xs n) refl

pub listed_fits : (p q : Plain) → q ≡ filled_plain p → IsRecord p → values_len q.fields + length q.tail < 2 ^ 32
listed_fits p q e s = omega (arith, listed_len p q e, own_body_len p, s.short)

filled_own : (p : Plain) → own_spelling (filled_plain p) ≡ own_spelling p
filled_own p =
    ap (λ (xs : List ℕ). (big_bytes 2 p.mark ++ p.flags ∷ p.type ∷ big_bytes 4 (length (xs ++ p.tail))) ++ (xs ++ p.tail)) (more_own p.fields (15 - length p.fields))

pub listed_own : (p q : Plain) → q ≡ filled_plain p → own_spelling q ≡ own_spelling p
listed_own p q e = ap own_spelling e ∙ filled_own p

short_kind : (k : FieldKind) (x : Value) → HasKind k x → IsShort x
short_kind k (Text t) h = text_kind k t h
short_kind k _ h = tt

absent_short : (n : ℕ) → AreShort (replicate n Absent)
absent_short zero = tt
absent_short (suc n) = (tt, absent_short n)

more_short : (ks : List FieldKind) (xs : List Value) (n : ℕ) → HasKinds ks xs → AreShort (xs ++ replicate n Absent)
more_short [] [] n h = absent_short n
more_short (k ∷ ks) (x ∷ xs) n h = (short_kind k x h.0, more_short ks xs n h.1)
more_short _ _ n h = absurd h

pub listed_short : (p q : Plain) → q ≡ filled_plain p → IsRecord p → AreShort q.fields
listed_short p q e s =
    subst (λ (x : Plain). AreShort x.fields) (sym e) (more_short s.kinds p.fields (15 - length p.fields) s.fields)

pub short_at : (fs : List Field) (i : ℕ) (d : Field) → AreShort (values_of fs) → i < length fs → IsShort (value_of (get_or fs i d))
short_at [] i d h lt = absurd (omega arith)
short_at (f ∷ fs) zero d h lt = h.0
short_at (f ∷ fs) (suc i) d h lt = short_at fs i d h.1 (omega arith)

pub record_written : (out a b c : List ℕ) (p : Plain) (len : ℕ) → len ≡ body_len p → a ≡ out ++ head_bytes p len → b ≡ a ++ own_values p.fields → c ≡ b ++ p.tail → c ≡ out ++ own_spelling p
record_written out a b c p len len-is e f g =
    let head : head_bytes p len ≡ head_bytes p (length (own_body p)) = ap (head_bytes p) (len-is ∙ sym (own_body_len p)) in
    let joined : c ≡ ((out ++ head_bytes p (length (own_body p))) ++ own_values p.fields) ++ p.tail =
    g ∙ ap (λ (x : List ℕ). x ++ p.tail) (f ∙ ap (λ (x : List ℕ). x ++ own_values p.fields) (e ∙ ap (λ (x : List ℕ). out ++ x) head)) in
    joined ∙ append_assoc (out ++ head_bytes p (length (own_body p))) (own_values p.fields) p.tail ∙ append_assoc out (head_bytes p (length (own_body p))) (own_body p)

own_values-push : (ps : List Value) (p : Value) → own_values (ps ++ p ∷ []) ≡ own_values ps ++ own_value p
own_values-push [] p = append-nil (own_value p)
own_values-push (q ∷ ps) p = ap (λ (r : List ℕ). own_value q ++ r) (own_values-push ps p) ∙ sym (append_assoc (own_value q) (own_values ps) (own_value p))

pub own_more : (fs : List Field) (i : ℕ) (d : Field) → i < length fs → own_values (values_of (take (i + 1) fs)) ≡ own_values (values_of (take i fs)) ++ own_value (value_of (get_or fs i d))
own_more fs i d lt = ap own_values (map_more value_of fs i d lt) ∙ own_values-push (values_of (take i fs)) (value_of (get_or fs i d))
